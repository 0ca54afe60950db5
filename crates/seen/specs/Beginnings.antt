-- What the state is after any beginning of the clumps: the clumps before the first fault, of which `Parts` tells, and then the fault. By
-- induction on the clumps. Assumes nothing.
use Prim.Native.Nat.{ℕ, zero, suc, ◌+◌, ◌≤◌}
use Rattle.std.specs.Prelude.{◌≡◌, Bool, cond, eqb, IsSome, IsNone}
use Rattle.std.proofs.Math.Path.{refl}
use Rattle.std.proofs.Common.{sym, ap, subst, ◌∙◌}
use Rattle.std.proofs.Math.Bool.{true, false}
use Rattle.std.proofs.Math.Option.{Option, some, none}
use mathlib.Core.List.{List, [], ◌∷◌}
use native.Mathlib.Omega.{arith}
use borrow.Author.Tests.{ne_eqb, eqb-true}
use Rattle.rules.specs.Lists.{Each}
use Rattle.rules.specs.Words.{Mem}
use Rattle.rules.specs.Clumps.{Head, has_state, FREE, RESERVED, ACTIVATING, ACTIVE, FREEING}
use Rattle.rules.specs.Sound.{Fault, fault_of, clump_fault}
use Rattle.laws.specs.Searches.{differ, some-none}
use Rattle.laws.specs.Walks.{clump_hit, clump_pass, clump_end}
use Rattle.seen.specs.declared.Seen.{Seen}
use Rattle.seen.specs.States.{UpTo, nothing, broken, plus, more, takes, seen_from, seen, until_fault, Sees, After}
use Rattle.seen.specs.Parts.{mores, mores_sees, mores-fault}

-- one clump more
module _ (n : ℕ) (m : Mem) (s : Seen) where
  pub seen_stays : (hs : List Head) → IsSome s.fault → seen_from n m s hs ≡ s
  unfolding seen_from
  seen_stays [] f = refl
  seen_stays (h ∷ hs) f = rw f

  pub seen_step : (h : Head) (hs : List Head) → IsNone s.fault → seen_from n m s (h ∷ hs) ≡ seen_from n m (takes (fault_of n m h) s h) hs
  unfolding seen_from
  seen_step h hs z = rw z

  pub seen_end : seen_from n m s [] ≡ s
  unfolding seen_from
  seen_end = refl

-- a state that takes a clump in and is then without fault: the clump had none, and the totals have stayed within its end
module _ (f : ℕ) (s : Seen) (h : Head) where
  pub takes_sound : IsNone (takes f s h).fault → f ≡ 0
  takes_sound e = go (eqb f 0) refl e
    where
      go : (b : Bool) → eqb f 0 ≡ b → IsNone (cond b (more s h) (broken f h.at s)).fault → f ≡ 0
      go true p e = eqb-true f 0 p
      go false p e = differ refl e

  plus_least : (k t a : ℕ) → k ≤ a → plus k t h ≤ a + h.nbytes
  plus_least k t a l = go (has_state t h)
    where
      go : (b : Bool) → cond b (k + h.nbytes) k ≤ a + h.nbytes
      go true = omega arith
      go false = omega arith

  pub takes_up : (a : ℕ) → f ≡ 0 → UpTo a s.totals → UpTo (a + h.nbytes) (takes f s h).totals
  takes_up a z u =
      rw z (
        plus_least s.totals.free FREE a u.0,
        plus_least s.totals.reserved RESERVED a u.1,
        plus_least s.totals.activating ACTIVATING a u.2,
        plus_least s.totals.active ACTIVE a u.3,
        plus_least s.totals.freeing FREEING a u.4,
      )

-- they are all that pass, and then the fault
abbrev ended : Option Fault → Seen → Seen
ended none s = s
ended (some f) s = broken f.number f.place s

module _ (n : ℕ) (m : Mem) where
  comes_to : (s : Seen) (hs : List Head) → IsNone s.fault → seen_from n m s hs ≡ ended (clump_fault n m hs) (mores s (until_fault n m hs))
  unfolding seen_from mores until_fault
  comes_to s [] z = rw (clump_end n m)
  comes_to s (h ∷ hs) z = go (fault_of n m h) refl (comes_to (more s h) hs z)
    where
      go :
          (f : ℕ)
          → fault_of n m h ≡ f
          → seen_from n m (more s h) hs ≡ ended (clump_fault n m hs) (mores (more s h) (until_fault n m hs))
          → seen_from n m s (h ∷ hs) ≡ ended (clump_fault n m (h ∷ hs)) (mores s (until_fault n m (h ∷ hs)))
      go zero e ih = seen_step n m s h hs z ∙ rw (clump_pass n m h hs e, e) ih
      go (suc k) e ih =
          let f : suc k ≡ 0 → ⊥ = λ x. omega arith in
          let g = ne_eqb (suc k) 0 f in
          seen_step n m s h hs z
          ∙ rw (clump_hit n m h hs (suc k) (sym e) f, e, g) (seen_stays n m (broken (suc k) h.at s) hs refl)

  -- without a fault they are all
  until_none : (hs : List Head) → clump_fault n m hs ≡ none → until_fault n m hs ≡ hs
  unfolding until_fault
  until_none [] e = refl
  until_none (h ∷ hs) e = go (fault_of n m h) refl (until_none hs)
    where
      go : (f : ℕ) → fault_of n m h ≡ f → (clump_fault n m hs ≡ none → until_fault n m hs ≡ hs) → until_fault n m (h ∷ hs) ≡ h ∷ hs
      go zero p ih = rw p (ap (λ (q : List Head). h ∷ q) (ih (sym (clump_pass n m h hs p) ∙ e)))
      go (suc k) p ih = some-none (clump_hit n m h hs (suc k) (sym p) (λ x. omega arith)) e

  -- what holds of every clump holds of those (no proof cites it any more)
  until_each : (P : Head → Type 0) (hs : List Head) → Each P hs → Each P (until_fault n m hs)
  unfolding until_fault
  until_each P [] l = tt
  until_each P (h ∷ hs) l = go (eqb (fault_of n m h) 0) (until_each P hs l.1)
    where
      go : (b : Bool) → Each P (until_fault n m hs) → Each P (cond b (h ∷ until_fault n m hs) [])
      go true r = (l.0, r)
      go false r = tt

  -- no fault has the number 0 (no proof cites it any more, since an Option tells of no fault by None)
  fault-number : (hs : List Head) (f : Fault) → clump_fault n m hs ≡ some f → f.number ≡ 0 → ⊥
  fault-number [] f e z = some-none e (clump_end n m)
  fault-number (h ∷ hs) f e z = go (fault_of n m h) refl (λ p. fault-number hs f p z)
    where
      go : (k : ℕ) → fault_of n m h ≡ k → (clump_fault n m hs ≡ some f → ⊥) → ⊥
      go zero p ih = ih (sym (clump_pass n m h hs p) ∙ e)
      go (suc k) p ih =
          let q = clump_hit n m h hs (suc k) (sym p) (λ x. omega arith) in
          let i : suc k ≡ f.number = cc in
          omega arith

-- whatever clumps they are
pub seen-after : (n : ℕ) (m : Mem) (hs : List Head) → After n m hs (seen n m hs)
seen-after n m hs = subst (After n m hs) (sym (comes_to n m nothing hs refl)) (go (clump_fault n m hs) refl (mores_sees (until_fault n m hs)))
  where
    go : (o : Option Fault) → clump_fault n m hs ≡ o → Sees (until_fault n m hs) (mores nothing (until_fault n m hs)) → After n m hs (ended (clump_fault n m hs) (mores nothing (until_fault n m hs)))
    go none p w = rw p (record { fault_is = rw p (mores-fault nothing (until_fault n m hs)); sees = w })
    go (some f) p w =
        rw p
        (record {
          fault_is = rw p refl;
          sees = record { first_is = w.first_is; second_is = w.second_is; free_is = w.free_is; touched_is = w.touched_is; totals_are = w.totals_are };
        })

-- without a fault, that is all of them
pub after_sound : {n : ℕ} {m : Mem} {hs : List Head} {s : Seen} → After n m hs s → IsNone s.fault → (clump_fault n m hs ≡ none) × Sees hs s
after_sound {n} {m} {hs} {s} a z = go (clump_fault n m hs) refl
  where
    go : (o : Option Fault) → clump_fault n m hs ≡ o → (clump_fault n m hs ≡ none) × Sees hs s
    go none p = (p, subst (λ (q : List Head). Sees q s) (until_none n m hs p) a.sees)
    go (some f) p = differ refl (rw (a.fault_is, p) at z)
