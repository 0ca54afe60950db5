-- What the page test goes by: the signature's words as numbers, the tests with these, and what a length that is right lets be read.
-- Assumes nothing.
use Rattle.std.specs.Prelude.{ℕ, ◌≤◌, ◌≡◌, refl, Bool, true, false, not, ◌&&◌, eqb}
use Rattle.std.proofs.Common.{sym, ◌∙◌}
use borrow.Author.Tests.{eq-eqb, ne_eqb, not-true, not-false}
use Rattle.rules.specs.Words.{Mem, all_zero}
use Rattle.rules.specs.Pages.{least_length, header_at, signature_low, signature_high, signature_high_at, total_at, padding_at, padding_words, right_length, is_pool}
use Rattle.laws.specs.Pools.{right_length_lem}

-- the code's constants are the signature's words
pub low_is : signature_low ≡ 5497841045243514922
unfolding signature_low
low_is = refl

pub high_is : signature_high ≡ 21479300299440975
unfolding signature_high
high_is = refl

-- the tests one after the other, each as the code makes it
pub pool_tests :
    (n : ℕ) (m : Mem)
    → is_pool n m
    ≡ (right_length n
    && eqb (m header_at) 5497841045243514922
    && eqb (m signature_high_at) 21479300299440975
    && eqb (m total_at) n
    && all_zero m padding_at padding_words)
unfolding is_pool
pool_tests n m = rw (low_is, high_is)

-- a right length lets the header page be read
pub right_least : (n : ℕ) → right_length n ≡ true → least_length ≤ n
right_least n e = (right_length_lem n e).least

-- laws that no proof cites now; they stand as they were stated: the ways out of the page test
module _ (n : ℕ) (m : Mem) where
  pub no_length : (b : Bool) → b ≡ right_length n → not b ≡ true → false ≡ is_pool n m
  unfolding is_pool
  no_length b e t = rw (sym e ∙ not-true b t)

  module _ (b : Bool) (len : b ≡ right_length n) (t : not b ≡ false) where
    pub no_low : (w : ℕ) → w ≡ m header_at → (w ≡ 5497841045243514922 → ⊥) → false ≡ is_pool n m
    unfolding is_pool
    no_low w e h = rw (sym len ∙ not-false b t, ← e, low_is, ne_eqb w 5497841045243514922 h)

    module _ (w : ℕ) (at : w ≡ m header_at) (low : w ≡ 5497841045243514922) where
      pub no_high : (v : ℕ) → v ≡ m signature_high_at → (v ≡ 21479300299440975 → ⊥) → false ≡ is_pool n m
      unfolding is_pool
      no_high v e h = rw (sym len ∙ not-false b t, ← at, low_is, eq-eqb w 5497841045243514922 low, ← e, high_is, ne_eqb v 21479300299440975 h)

      module _ (v : ℕ) (at2 : v ≡ m signature_high_at) (high : v ≡ 21479300299440975) where
        pub no_total : (u : ℕ) → u ≡ m total_at → (u ≡ n → ⊥) → false ≡ is_pool n m
        unfolding is_pool
        no_total u e h =
            rw (sym len ∙ not-false b t, ← at, low_is, eq-eqb w 5497841045243514922 low, ← at2, high_is, eq-eqb v 21479300299440975 high, ← e, ne_eqb u n h)

        pub padded : (u : ℕ) → u ≡ m total_at → u ≡ n → (z : Bool) → z ≡ all_zero m padding_at padding_words → z ≡ is_pool n m
        unfolding is_pool
        padded u e h z f =
            rw (sym len ∙ not-false b t, ← at, low_is, eq-eqb w 5497841045243514922 low, ← at2, high_is, eq-eqb v 21479300299440975 high, ← e, eq-eqb u n h, ← f)
