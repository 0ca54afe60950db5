-- Why the bytes that are kept of a line tell as much as the whole line: a line that does not fit is too long. Assumes nothing.
use Rattle.std.specs.Prelude.{ℕ, ◌≡◌, List, length, take}
use Rattle.std.proofs.Common.{sym, ap, ◌∙◌, arith, take_all, length-take-le}
use Rattle.std.proofs.Math.Decide.{dec_le}
use Rattle.line.specs.Lines.{line_of}
use Rattle.line.specs.Gathering.{kept, Holds}
use Rattle.line.proofs.Meanings.{line_long}

-- what is kept of a line means what the whole line does
pub kept_line : (s : List ℕ) → line_of (take kept s) ≡ line_of s
kept_line s =
    elim (dec_le (length s) kept) [
      | yes l ↦ rw (take_all kept s l)
      | no l ↦ sym (line_long (take kept s) (omega (arith, length-take-le kept s (omega arith)))) ∙ line_long s (omega arith)
    ]

pub holds_line : (buf : List ℕ) (count : ℕ) (s : List ℕ) → Holds kept buf count s → line_of (take count buf) ≡ line_of s
holds_line buf count s h = ap line_of h.held ∙ kept_line s
