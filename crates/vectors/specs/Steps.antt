-- Where the bytes of the cases lead, one line after the other. Assumes nothing.
use Rattle.std.specs.Prelude.{ℕ, ◌+◌, ◌<◌, ◌≤◌, ◌≡◌, refl, cond, List, eqb, length, get_or, drop}
use Rattle.std.proofs.Common.{arith, add-one, drop_of_length-le, drop-cons}
use Rattle.std.specs.List.{fold}
use Rattle.text.specs.Texts.{newline}
use Rattle.case.specs.Lines.{started, line_ended, line_taken, next_case}
use Rattle.case.specs.declared.line.Line.{Line}

-- any byte: a newline ends the line, and the next one begins
abbrev pub line_next : Line → ℕ → Line
line_next l b = cond (eqb b newline) (started (next_case l.case) (line_ended l).numbers.items) (line_taken l b)

-- bytes, one after the other
abbrev pub read_on : Line → List ℕ → Line
read_on l bs = fold line_next l bs

-- laws that no proof cites now; they stand as they were stated, of a line that holds its numbers. A loop: the bytes from i on are left
pub record ReadingOn (from : Line) (bs : List ℕ) (p : Line) (i : ℕ) : Type 0 where
  pub inside : i ≤ length bs
  pub same : read_on p (drop i bs) ≡ read_on from bs

pub reading_start : (from : Line) (bs : List ℕ) → ReadingOn from bs from 0
reading_start from bs = record { inside = omega arith; same = refl }

pub reading_next : (from : Line) (bs : List ℕ) (p : Line) (i : ℕ) → ReadingOn from bs p i → i < length bs → ReadingOn from bs (line_next p (get_or bs i 0)) (i + 1)
reading_next from bs p i h l = record { inside = omega arith; same = rw (add-one i) (rw (drop-cons bs i 0 l) at h.same) }

pub reading_end : (from : Line) (bs : List ℕ) (p : Line) (i : ℕ) → ReadingOn from bs p i → length bs ≤ i → p ≡ read_on from bs
reading_end from bs p i h l = rw (drop_of_length-le bs l) at h.same
