-- How reserve ends, once the sizes are right, in either form: the body, then the state. So until its last store the state is what it was, and
-- the body is left blank in the first form, while no store reaches it in the second. By going along the run of zeros. Assumes nothing.
use Rattle.std.specs.Prelude.{ℕ, ◌+◌, ◌≤◌, ◌≡◌, Bool, false, cond, [], ◌∷◌}
use Rattle.std.proofs.Math.Bool.{true}
use Rattle.std.proofs.Common.{inl, inr}
use native.Mathlib.Omega.{arith}
use Rattle.rules.specs.Lists.{Each}
use Rattle.rules.specs.Words.{Mem, store, zeros, all_zero}
use Rattle.rules.specs.Clumps.{header_bytes, state_at, RESERVED}
use Rattle.rules.specs.Stores.{is_split, cleared_words, clearing}
use Rattle.laws.specs.Named.{Miss}
use Rattle.loss.specs.Orders.{end_order}
use Rattle.loss.specs.Blanked.{Leaves, Late, late_one, late_behind, zeros_other, zeros_blank}

-- so many bytes are taken of those that there are
abbrev pub part_of : ℕ → ℕ → ℕ
part_of need size = cond (is_split need size) need size

-- every word of the body is 0
abbrev pub Blank : ℕ → ℕ → Mem → Type 0
Blank a size x = all_zero x (a + header_bytes) (cleared_words true size) ≡ true

module _ (a size : ℕ) where
  -- until the last store the state is what it was
  pub end_late : (clears : Bool) → Late (state_at a) (end_order clears a size)
  unfolding end_order
  end_late clears =
      late_behind (state_at a) (clearing clears a size) (store (state_at a) RESERVED ∷ []) (zeros_other (state_at a) (a + header_bytes) (cleared_words clears size) (inl (omega arith)))
      (late_one (state_at a) (store (state_at a) RESERVED))

  -- the body is blank, or spared
  pub end_blank : Leaves (Blank a size) (end_order true a size)
  unfolding end_order
  end_blank = zeros_blank (cleared_words true size) (a + header_bytes) (store (state_at a) RESERVED ∷ []) (λ o l u. (omega arith, tt))

  pub end_spared : (i : ℕ) → a + header_bytes ≤ i → Each (Miss i) (end_order false a size)
  unfolding end_order cleared_words zeros
  end_spared i l = (inr (omega arith), tt)
