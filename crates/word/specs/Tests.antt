-- Two tests of numbers are equal where each holds if the other does. Assumes nothing.
use Rattle.std.specs.Prelude.{ℕ, ◌<◌, ◌≤◌, ◌≡◌, ltb, leb}
use Rattle.std.proofs.Common.{sym, ◌∙◌, arith, lt-ltb, le-ltb, le-leb}
use Rattle.std.proofs.Math.Decide.{dec_lt, dec_le}
use Rattle.std.proofs.lemmas.Bool.{lt-leb}

pub ltb_same : (a b c d : ℕ) → (a < b → c < d) → (c < d → a < b) → ltb a b ≡ ltb c d
ltb_same a b c d f g =
    elim (dec_lt a b) [
      | yes h ↦ lt-ltb a b h ∙ sym (lt-ltb c d (f h))
      | no h ↦ le-ltb a b (omega arith) ∙ sym (le-ltb c d (elim (dec_lt c d) [ yes k ↦ absurd (h (g k)) | no k ↦ omega arith ]))
    ]

pub leb_same : (a b c d : ℕ) → (a ≤ b → c ≤ d) → (c ≤ d → a ≤ b) → leb a b ≡ leb c d
leb_same a b c d f g =
    elim (dec_le a b) [
      | yes h ↦ le-leb a b h ∙ sym (le-leb c d (f h))
      | no h ↦ lt-leb a b (omega arith) ∙ sym (lt-leb c d (elim (dec_le c d) [ yes k ↦ absurd (h (g k)) | no k ↦ omega arith ]))
    ]
