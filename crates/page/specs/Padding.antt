-- Whether words up to an end are 0, a law for each thing that can happen at one of them: each goes by one step of `all_zero`, since one word
-- less is left behind it. Assumes nothing.
use Rattle.std.specs.Prelude.{ℕ, suc, ◌+◌, ◌-◌, ◌/◌, ◌≤◌, ◌≡◌, Bool, true, false}
use Rattle.std.proofs.Common.{arith}
use borrow.Author.Tests.{eq-eqb, ne_eqb}
use Rattle.rules.specs.Words.{Mem, word_bytes, all_zero}

-- the words from i up to e are 0
abbrev pub zero_up_to : Mem → ℕ → ℕ → Bool
zero_up_to m i e = all_zero m i ((e - i) / word_bytes)

-- at the end none is left
pub zero_end : (m : Mem) (i e : ℕ) → e ≤ i → zero_up_to m i e ≡ true
unfolding all_zero
zero_end m i e l =
    let none : (e - i) / word_bytes ≡ 0 = omega arith in
    rw none

module _ (m : Mem) (i e : ℕ) (l : i + word_bytes ≤ e) (w : ℕ) (r : w ≡ m i) where
  one_more : (e - i) / word_bytes ≡ suc ((e - (i + word_bytes)) / word_bytes)
  one_more = omega arith

  -- a word that is not 0 settles it
  pub zero_hit : (w ≡ 0 → ⊥) → zero_up_to m i e ≡ false
  unfolding all_zero
  zero_hit h = rw (one_more, ← r, ne_eqb w 0 h)

  -- one that is 0 leaves it to the next, at j
  pub zero_next : w ≡ 0 → (j : ℕ) → j ≡ i + word_bytes → zero_up_to m i e ≡ zero_up_to m j e
  unfolding all_zero
  zero_next h j n = rw (n, one_more, ← r, eq-eqb w 0 h)
