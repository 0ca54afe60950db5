-- Cuts: what holds after each number of a list's stores. It is built store by store and joined over `++`, by induction on the stores.
-- Assumes nothing.
use Prim.Native.Nat.{ℕ, zero, suc}
use mathlib.Core.List.{List, [], ◌∷◌, ◌++◌}
use Rattle.std.specs.Prelude.{take}
use Rattle.rules.specs.Words.{Mem, Store, upd, after}

-- P holds of m, and after each store of the list
abbrev pub Every : (Mem → Type 0) → Mem → List Store → Type 0
Every P m [] = P m
Every P m (s ∷ st) = P m × Every P (upd m s.to s.word) st

module _ (P : Mem → Type 0) where
  pub every_start : (m : Mem) (st : List Store) → Every P m st → P m
  every_start m [] e = e
  every_start m (s ∷ st) e = e.0

  -- a cut after k stores
  pub every_cut : (m : Mem) (st : List Store) (k : ℕ) → Every P m st → P (after m (take k st))
  unfolding after
  every_cut m [] zero e = e
  every_cut m [] (suc k) e = e
  every_cut m (s ∷ st) zero e = e.0
  every_cut m (s ∷ st) (suc k) e = every_cut (upd m s.to s.word) st k e.1

  pub every_append : (m : Mem) (a b : List Store) → Every P m a → Every P (after m a) b → Every P m (a ++ b)
  unfolding after
  every_append m [] b e f = f
  every_append m (s ∷ a) b e f = (e.0, every_append (upd m s.to s.word) a b e.1 f)

  -- what is shown of each cut holds at every one
  pub cuts_every : (m : Mem) (st : List Store) → ((k : ℕ) → P (after m (take k st))) → Every P m st
  unfolding after
  cuts_every m [] f = f 0
  cuts_every m (s ∷ st) f = (f 0, cuts_every (upd m s.to s.word) st (λ k. f (suc k)))
