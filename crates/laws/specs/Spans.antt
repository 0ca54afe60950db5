-- The runs of a tiling tile as its clumps do, and what holds of each clump holds of the first of each run. By induction on the clumps.
-- Assumes nothing.
use Rattle.std.specs.Prelude.{ℕ, ◌+◌, ◌≤◌, ◌≡◌, Bool, true, false, cond, ◌&&◌}
use Rattle.std.proofs.Common.{subst, arith}
use mathlib.Core.List.{List, [], ◌∷◌}
use Rattle.rules.specs.Lists.{Each}
use Rattle.rules.specs.Clumps.{Head, is_free, Tiles}
use Rattle.rules.specs.Answers.{bytes_of}
use Rattle.rules.specs.Stores.{Run, in_front, runs}

-- each run stands where the one before ends
abbrev pub RunsTile : ℕ → List Run → ℕ → Type 0
RunsTile a [] b = a ≡ b
RunsTile a (r ∷ rs) b = (r.first.at ≡ a) × RunsTile (a + bytes_of (r.first ∷ r.more)) rs b

pub runs-le : (a b : ℕ) (rs : List Run) → RunsTile a rs b → a ≤ b
runs-le a b [] t = omega arith
runs-le a b (r ∷ rs) t = let x = runs-le (a + bytes_of (r.first ∷ r.more)) b rs t.1 in omega arith

front_tile : (a b : ℕ) (h : Head) (rs : List Run) → h.at ≡ a → RunsTile (a + h.nbytes) rs b → RunsTile a (in_front h rs) b
unfolding bytes_of
front_tile a b h [] e t = (e, omega arith)
front_tile a b h (r ∷ rs) e t = go (is_free h && is_free r.first)
  where
    go : (c : Bool) → RunsTile a (cond c (record { first = h; more = r.first ∷ r.more } ∷ rs) (record { first = h; more = [] } ∷ r ∷ rs)) b
    go true = (e, subst (λ (k : ℕ). RunsTile k rs b) (omega arith) t.1)
    go false = (e, subst (λ (k : ℕ). RunsTile k (r ∷ rs) b) (omega arith) t)

pub runs_tile : (a b : ℕ) (hs : List Head) → Tiles a hs b → RunsTile a (runs hs) b
unfolding runs
runs_tile a b [] t = t
runs_tile a b (h ∷ hs) t = front_tile a b h (runs hs) t.0.here (runs_tile (a + h.nbytes) b hs t.1)

-- the first of each run
module _ (P : Head → Type 0) where
  front_first : (h : Head) (rs : List Run) → P h → Each (λ r. P r.first) rs → Each (λ r. P r.first) (in_front h rs)
  front_first h [] e f = (e, tt)
  front_first h (r ∷ rs) e f = go (is_free h && is_free r.first)
    where
      go : (c : Bool) → Each (λ x. P x.first) (cond c (record { first = h; more = r.first ∷ r.more } ∷ rs) (record { first = h; more = [] } ∷ r ∷ rs))
      go true = (e, f.1)
      go false = (e, f)

  pub runs-first : (hs : List Head) → Each P hs → Each (λ r. P r.first) (runs hs)
  unfolding runs
  runs-first [] f = tt
  runs-first (h ∷ hs) f = front_first h (runs hs) f.0 (runs-first hs f.1)
