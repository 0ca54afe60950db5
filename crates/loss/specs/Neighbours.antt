-- The FREE neighbours of a clump, which free joins: in a tiling the first clump behind it and the last one before it, if it is FREE.
-- By the laws of neighbours, and by induction on the clumps before. Assumes nothing.
use Rattle.std.specs.Prelude.{ℕ, ◌≡◌, refl, Bool, true, false, cond, List, [], ◌∷◌, ◌++◌}
use Rattle.std.proofs.Common.{ap}
use Rattle.std.proofs.Math.Option.{Option, some, none}
use Rattle.rules.specs.Clumps.{Head, is_free, Tiles}
use Rattle.rules.specs.Sound.{starts_free}
use Rattle.rules.specs.Stores.{if_free, free_after, free_before}
use Rattle.laws.specs.Searches.{some-none}
use Rattle.laws.specs.Neighbours.{if_free_lem, first, last, next_is, before_is}
use Rattle.loss.specs.Calm.{ends_free}

-- the first of the clumps and the last, if it is FREE
abbrev pub next_free : List Head → Option Head
next_free q = if_free (first q)

abbrev pub last_free : List Head → Option Head
last_free p = if_free (last p)

-- the next clump and the one before, if it is FREE
pub free-after : (a b : ℕ) (p : List Head) (h : Head) (q : List Head) → Tiles a (p ++ (h ∷ q)) b → free_after (p ++ (h ∷ q)) h ≡ next_free q
free-after a b p h q t = ap if_free (next_is a b p h q t)

pub free_before_lem : (a b : ℕ) (p : List Head) (h : Head) (q : List Head) → Tiles a (p ++ (h ∷ q)) b → free_before (p ++ (h ∷ q)) h ≡ last_free p
free_before_lem a b p h q t = ap if_free (before_is a b p h q t)

-- a clump that is FREE, and one that is not
free_some : (h k : Head) → if_free (some h) ≡ some k → (h ≡ k) × (is_free k ≡ true)
free_some h k e =
    let x = if_free_lem (some h) k e in
    let i : h ≡ k = (let z = x.0 in cc) in
    (i, x.1)

free_none : (h : Head) → if_free (some h) ≡ none → is_free h ≡ false
free_none h e = go (is_free h) e
  where
    go : (b : Bool) → cond b (some h) none ≡ none → b ≡ false
    go true e = some-none refl e
    go false e = refl

-- the FREE clump behind is the first of the rest, and where there is none the rest starts with a live clump or is empty
pub next_some : (q : List Head) (k : Head) → next_free q ≡ some k → (r : List Head) × (q ≡ k ∷ r) × (is_free k ≡ true)
next_some [] k e = some-none e refl
next_some (h ∷ q) k e = let x = free_some h k e in (q, ap (λ (j : Head). j ∷ q) x.0, x.1)

pub next_none : (q : List Head) → next_free q ≡ none → starts_free q ≡ false
next_none [] e = refl
next_none (h ∷ q) e = free_none h e

-- the FREE clump before is the last of those below, and where there is none these end with a live clump or are empty
pub last_some : (p : List Head) (k : Head) → last_free p ≡ some k → (r : List Head) × (p ≡ r ++ (k ∷ [])) × (is_free k ≡ true)
unfolding last
last_some [] k e = some-none e refl
last_some (h ∷ []) k e = let x = free_some h k e in ([], ap (λ (j : Head). j ∷ []) x.0, x.1)
last_some (h ∷ j ∷ p) k e = let x = last_some (j ∷ p) k e in (h ∷ x.0, ap (λ (r : List Head). h ∷ r) x.1, x.2)

pub last_none : (p : List Head) → last_free p ≡ none → ends_free p ≡ false
unfolding last
last_none [] e = refl
last_none (h ∷ []) e = free_none h e
last_none (h ∷ j ∷ p) e = last_none (j ∷ p) e
