-- The runs of touching FREE clumps: they are the clumps, each of more than one is FREE throughout, and joined they touch no more. Each by
-- induction on the clumps, with a law for one clump in front. Assumes nothing.
use Rattle.std.specs.Prelude.{◌+◌, ◌≡◌, refl, Bool, true, false, cond, ◌&&◌, List, [], ◌∷◌, ◌++◌, map}
use Rattle.std.proofs.Common.{ap, ◌∙◌, arith}
use Rattle.std.proofs.Math.Bool.{and-false}
use Rattle.rules.specs.Lists.{Each}
use Rattle.rules.specs.Clumps.{Head, is_free}
use Rattle.rules.specs.Sound.{touching}
use Rattle.rules.specs.Answers.{bytes_of}
use Rattle.rules.specs.Stores.{Run, in_front, runs, joining}
use Rattle.laws.specs.Searches.{or_neither, and_both, each_right}

-- a run of one clump
abbrev pub lone : Head → Run
lone h = record { first = h; more = [] }

-- a clump in front of a run joins it if both are FREE, and else is one by itself
pub in_front_lem :
    (P : List Run → Type 0) (h : Head) (r : Run) (rs : List Run)
    → (is_free h ≡ true → is_free r.first ≡ true → P (record { first = h; more = r.first ∷ r.more } ∷ rs))
    → ((is_free h && is_free r.first) ≡ false → P (lone h ∷ r ∷ rs))
    → P (in_front h (r ∷ rs))
in_front_lem P h r rs f g = go (is_free h && is_free r.first) refl
  where
    go : (b : Bool) → (is_free h && is_free r.first) ≡ b → P (cond b (record { first = h; more = r.first ∷ r.more } ∷ rs) (lone h ∷ r ∷ rs))
    go true e = let x = and_both (is_free h) (is_free r.first) e in f x.0 x.1
    go false e = g e

-- the clump that a run is joined to: it stands where the first stands and is as large as all
abbrev pub joined_to : Head → List Head → Head
joined_to h ks = record { at = h.at; nbytes = bytes_of (h ∷ ks); state = h.state }

abbrev pub whole : Run → Head
whole r = joined_to r.first r.more

pub whole-lone : (h : Head) → whole (lone h) ≡ h
unfolding bytes_of
whole-lone h = let e : h.nbytes + 0 ≡ h.nbytes = omega arith in (λ i. record { at = h.at; nbytes = e i; state = h.state })

-- the clumps of the runs, in order
unfoldable pub flat : List Run → List Head
flat [] = []
flat (r ∷ rs) = r.first ∷ (r.more ++ flat rs)

-- the runs of the clumps have these very clumps
flat_front : (h : Head) (rs : List Run) → flat (in_front h rs) ≡ h ∷ flat rs
unfolding flat
flat_front h [] = refl
flat_front h (r ∷ rs) = in_front_lem (λ (x : List Run). flat x ≡ h ∷ flat (r ∷ rs)) h r rs (λ e f. refl) (λ e. refl)

pub flat-runs : (hs : List Head) → flat (runs hs) ≡ hs
unfolding flat runs
flat-runs [] = refl
flat-runs (h ∷ hs) = flat_front h (runs hs) ∙ ap (λ (k : List Head). h ∷ k) (flat-runs hs)

-- a run of more than one clump is FREE throughout
abbrev pub FreeMore : Head → List Head → Type 0
FreeMore h [] = Unit {0}
FreeMore h (k ∷ ks) = Each (λ x. is_free x ≡ true) (h ∷ k ∷ ks)

abbrev pub FreeRun : Run → Type 0
FreeRun r = FreeMore r.first r.more

-- behind the first clump of a run all are FREE
pub free_more : (h : Head) (ks : List Head) → FreeMore h ks → Each (λ x. is_free x ≡ true) ks
free_more h [] f = tt
free_more h (k ∷ ks) f = f.1

free_front : (h : Head) (rs : List Run) → Each FreeRun rs → Each FreeRun (in_front h rs)
free_front h [] t = (tt, tt)
free_front h (r ∷ rs) t = in_front_lem (Each FreeRun) h r rs (λ e f. ((e, (f, free_more r.first r.more t.0)), t.1)) (λ e. (tt, t))

pub free-runs : (hs : List Head) → Each FreeRun (runs hs)
unfolding runs
free-runs [] = tt
free-runs (h ∷ hs) = free_front h (runs hs) (free-runs hs)

-- joined, no two FREE clumps touch
calm_front : (h : Head) (rs : List Run) → touching (map whole rs) ≡ false → touching (map whole (in_front h rs)) ≡ false
unfolding touching
calm_front h [] t = rw (and-false (is_free h))
calm_front h (r ∷ rs) t = in_front_lem (λ (x : List Run). touching (map whole x) ≡ false) h r rs (λ e f. rw e (rw f at t)) (λ e. rw e t)

pub joined_calm : (hs : List Head) → touching (map whole (runs hs)) ≡ false
unfolding runs touching
joined_calm [] = refl
joined_calm (h ∷ hs) = calm_front h (runs hs) (joined_calm hs)

-- where no FREE clumps touch, each clump is a run by itself
calm_runs : (hs : List Head) → touching hs ≡ false → runs hs ≡ map lone hs
unfolding runs touching
calm_runs [] e = refl
calm_runs (h ∷ []) e = refl
calm_runs (h ∷ k ∷ hs) e =
    let x = or_neither (is_free h && is_free k) (touching (k ∷ hs)) e in
    ap (in_front h) (calm_runs (k ∷ hs) x.1) ∙ rw x.0 refl

joining-lone : (hs : List Head) → joining (map lone hs) ≡ []
unfolding joining
joining-lone [] = refl
joining-lone (h ∷ hs) = joining-lone hs

-- and there is nothing to join
pub calm_joins : (hs : List Head) → touching hs ≡ false → joining (runs hs) ≡ []
calm_joins hs e = ap joining (calm_runs hs e) ∙ joining-lone hs

-- what holds of each clump holds of each run's first
pub first_each : (P : Head → Type 0) (rs : List Run) → Each P (flat rs) → Each (λ r. P r.first) rs
unfolding flat
first_each P [] e = tt
first_each P (r ∷ rs) e = (e.0, first_each P rs (each_right P r.more (flat rs) e.1))
