-- Two memories that agree on the header page, and on what is read of each header of one walk as far as its first fault, get the same
-- verdict on every request. By induction on the steps of the walk: with a fault both have the same first one, which decides, so that
-- nothing behind it matters; without one the walks are the same, and the rest is Headers. Assumes nothing.
use Prim.Native.Nat.{ℕ, zero, suc, ◌+◌, ◌≤◌}
use Rattle.std.specs.Prelude.{◌≡◌, Bool, not, ◌||◌, eqb}
use Rattle.std.proofs.Math.Path.{refl, sym, ap, ap₂}
use Rattle.std.proofs.Common.{◌∙◌, arith, eqb-true, ne_eqb}
use Rattle.std.proofs.Math.Bool.{true, false, cond}
use Rattle.std.proofs.Math.Option.{Option, some, none}
use mathlib.Core.List.{List, [], ◌∷◌, ◌++◌, map}
use Rattle.std.proofs.Math.Dec.{ltb}
use Rattle.rules.specs.declared.Request.{Request}
use Rattle.rules.specs.declared.Request.TheVariants.{Create, Reserve, ReserveUncleared, Grow, Onactive, Onfree, Withdraw, Activate, Free, Check, Recover}
use Rattle.rules.specs.Lists.{seek, Each}
use Rattle.rules.specs.Words.{Mem, Store}
use Rattle.rules.specs.Pages.{clumps_at, is_pool}
use Rattle.rules.specs.Clumps.{Head, head, body_of, state_at, least_clump, FREE, RESERVED, ACTIVATING, has_state, is_live, is_waiting, is_pending, slots, used, due, with_mark, heads_from, walk}
use Rattle.rules.specs.Sound.{Fault, fault_at, size_bad, fault_of, clump_fault, invalid, target_fault, judge}
use Rattle.rules.specs.Answers.{Verdict, granted, test, test_fault, not_pool, if_sound, if_settled, totals_for}
use Rattle.rules.specs.Stores.{releasing, released, runs, joining, finishing, recover_stores}
use Rattle.rules.specs.Requests.{reserve, grow, finder, found, enlist, withdraw, activate, free, verdict}
use Rattle.laws.specs.Searches.{some-none, seek_split, seek_each}
use Rattle.laws.specs.Walks.{size_good, faultless, clump_hit, clump_pass, clump_end, no_faults}
use Rattle.laws.specs.Choices.{chooses_due}
use Rattle.laws.specs.Headers.{AgreePage, SameSlots, list_same, valid_same, finish_activating_same, finish_freeing_same, enlist-same, withdraw-same, activate-same, free-same, pool_same}

-- what is read of a list: nothing, if the clump is FREE
abbrev pub SameList : Mem → Mem → Head → Type 0
SameList m x h = is_live h ≡ true → SameSlots m x (slots h.at)

-- what is read of a header: no list, if the clump is too small to have one
pub record SameHeader (m x : Mem) (h : Head) : Type 0 where
  pub size : x h.at ≡ m h.at
  pub state : x (state_at h.at) ≡ m (state_at h.at)
  pub list : least_clump ≤ h.nbytes → SameList m x h

-- what is read of the clumps hs: nothing behind the first that has a fault
abbrev pub SameUpTo : ℕ → Mem → Mem → List Head → Type 0
SameUpTo n m x [] = Unit {0}
SameUpTo n m x (h ∷ hs) = SameHeader m x h × (fault_of n m h ≡ 0 → SameUpTo n m x hs)

-- a clump in one of two states that are not FREE is live: the list waits, or is being carried out
state_live : (s : ℕ) (h : Head) → has_state (suc s) h ≡ true → is_live h ≡ true
state_live s h e = let z = eqb-true h.state (suc s) e in rw (ne_eqb h.state FREE (omega arith))

pub either_live : (s t : ℕ) (h : Head) → (has_state (suc s) h || has_state (suc t) h) ≡ true → is_live h ≡ true
either_live s t h e = go (has_state (suc s) h) refl e
  where
    go : (b : Bool) → has_state (suc s) h ≡ b → (b || has_state (suc t) h) ≡ true → is_live h ≡ true
    go true q f = state_live s h q
    go false q f = state_live t h f

-- what is made of the clump that a search finds
found-same :
    {B : Type 0} (P : Head → Type 0) (p : Head → Bool) (hs : List Head) (f k : Option Head → B)
    → Each P hs
    → f none ≡ k none
    → ((h : Head) → p h ≡ true → P h → f (some h) ≡ k (some h))
    → f (seek p hs) ≡ k (seek p hs)
found-same {B} P p hs f k g z e = go (seek p hs) refl
  where
    go : (o : Option Head) → seek p hs ≡ o → f o ≡ k o
    go none q = z
    go (some h) q = e h (seek_split p hs h q).passes (seek_each P p hs h q g)

module _ (n : ℕ) (m x : Mem) where
  fault-same : (h : Head) → (least_clump ≤ h.nbytes → SameList m x h) → fault_of n x h ≡ fault_of n m h
  unfolding fault_of
  fault-same h g = go (size_bad n h) refl
    where
      go : (b : Bool) → size_bad n h ≡ b → fault_of n x h ≡ fault_of n m h
      go true e = rw e
      go false e = let l = g (size_good n h e).0 in rw (list_same n m x h (λ w. l (either_live 0 2 h w)) (λ w. l (state_live 1 h w)))

  -- the clumps hs of m and ks of x have the same first fault, and are the same if there is none
  record Together (hs ks : List Head) : Type 0 where
    fault : clump_fault n x ks ≡ clump_fault n m hs
    clumps : clump_fault n m hs ≡ none → (ks ≡ hs) × Each (SameList m x) hs

  module _ (a : ℕ) (hs ks : List Head) (s : SameHeader m x (head m a)) (r : fault_of n m (head m a) ≡ 0 → Together hs ks) where
    abbrev h : Head
    h = head m a

    together_cons : Together (h ∷ hs) (h ∷ ks)
    together_cons = go (fault_of n m h) refl
      where
        f : fault_of n x h ≡ fault_of n m h
        f = fault-same h s.list

        go : (k : ℕ) → fault_of n m h ≡ k → Together (h ∷ hs) (h ∷ ks)
        go zero e =
            let p = clump_pass n m h hs e in
            record {
              fault = clump_pass n x h ks (f ∙ e) ∙ (r e).fault ∙ sym p;
              clumps =
                  λ z. let q = (r e).clumps (sym p ∙ z) in
                  (ap (λ (l : List Head). h ∷ l) q.0, (s.list (faultless n a m e).sits.least, q.1));
            }
        go (suc k) e =
            let p = clump_hit n m h hs (suc k) (sym e) (λ z. absurd (omega arith)) in
            record { fault = clump_hit n x h ks (suc k) (sym (f ∙ e)) (λ z. absurd (omega arith)) ∙ sym p; clumps = λ z. some-none p z }

  heads_same : (k a : ℕ) → SameUpTo n m x (heads_from k n m a) → Together (heads_from k n m a) (heads_from k n x a)
  unfolding heads_from
  heads_same zero a g = record { fault = clump_end n x ∙ sym (clump_end n m); clumps = λ e. (refl, tt) }
  heads_same (suc k) a g = go (ltb a n) refl g (heads_same k (a + m a))
    where
      go :
          (t : Bool)
          → ltb a n ≡ t
          → SameUpTo n m x (elim t [ true ↦ head m a ∷ heads_from k n m (a + m a) | false ↦ [] ])
          → (SameUpTo n m x (heads_from k n m (a + m a)) → Together (heads_from k n m (a + m a)) (heads_from k n x (a + m a)))
          → Together (heads_from (suc k) n m a) (heads_from (suc k) n x a)
      go true p f ih =
          rw (p, heads_from, f.0.size, f.0.state)
          (together_cons a (heads_from k n m (a + m a)) (heads_from k n x (a + m a)) f.0 (λ e. ih (f.1 e)))
      go false p f ih = rw (p, heads_from) (record { fault = clump_end n x ∙ sym (clump_end n m); clumps = λ e. (refl, tt) })

-- the faults 4 and 5, and the stores of recovery, of one walk
module _ (n : ℕ) (m x : Mem) (hs : List Head) (g : Each (SameList m x) hs) where
  -- what is made of the clump whose list is being carried out
  pending_same :
      {B : Type 0} (f k : Option Head → B)
      → f none ≡ k none
      → ((h : Head) → SameSlots m x (slots h.at) → f (some h) ≡ k (some h))
      → f (seek is_pending hs) ≡ k (seek is_pending hs)
  pending_same f k z e = found-same (SameList m x) is_pending hs f k g z (λ h p s. e h (s (either_live 1 3 h p)))

  target_fault_same : target_fault x hs ≡ target_fault m hs
  unfolding target_fault
  target_fault_same =
      pending_same (invalid x hs) (invalid m hs) refl (λ h s. ap (λ (b : Bool). cond b none (some (fault_at 5 h))) (valid_same n m x hs (due h) (chooses_due h) h s))

  recover_same : recover_stores x hs ≡ recover_stores m hs
  unfolding recover_stores
  recover_same =
      ap (λ (st : List Store). st ++ (releasing hs ++ joining (runs (map released hs))))
      (pending_same (finishing x) (finishing m) refl
      (λ h s. ap₂ (cond (has_state ACTIVATING h)) (finish_activating_same n m x hs h s) (finish_freeing_same n m x hs used refl h s)))

-- the same verdict
module _ (n : ℕ) (m x : Mem) (page : AgreePage m x) (g : SameUpTo n m x (walk n m)) where
  together : Together n m x (walk n m) (walk n x)
  unfolding walk
  together = heads_same n m x n clumps_at g

  pub judge-same : judge n x ≡ judge n m
  unfolding judge
  judge-same = go (clump_fault n m (walk n m)) refl
    where
      go : (o : Option Fault) → clump_fault n m (walk n m) ≡ o → judge n x ≡ judge n m
      go none e =
          let c = together.clumps e in
          rw (together.fault, e, c.0, target_fault_same n m x (walk n m) c.1)
      go (some f) e = rw (together.fault, e)

  pub walk_same : judge n m ≡ none → walk n x ≡ walk n m
  walk_same s = (together.clumps (no_faults n m s).clumps).0

  lists_same : judge n m ≡ none → Each (SameList m x) (walk n m)
  lists_same s = (together.clumps (no_faults n m s).clumps).1

  sound_same : (v w : Verdict) → (judge n m ≡ none → v ≡ w) → if_sound n x v ≡ if_sound n m w
  unfolding if_sound
  sound_same v w e = rw (pool_same n m x page, judge-same) (ap (test (not (is_pool n m)) not_pool) (go (judge n m) refl))
    where
      go : (o : Option Fault) → judge n m ≡ o → test_fault o v ≡ test_fault o w
      go none s = e s
      go (some f) s = refl

  settled_same : (v w : Verdict) → (judge n m ≡ none → v ≡ w) → if_settled n x v ≡ if_settled n m w
  unfolding if_settled
  settled_same v w e = sound_same _ _ (λ s. rw (walk_same s, e s))

  -- a request on the clump that the finder finds
  asked-same :
      (o : ℕ) (f k : List Head → Head → Verdict)
      → ((h : Head) → SameList m x h → f (walk n m) h ≡ k (walk n m) h)
      → if_settled n x (found (finder (walk n x) o) (f (walk n x))) ≡ if_settled n m (found (finder (walk n m) o) (k (walk n m)))
  asked-same o f k e =
      settled_same _ _
      (λ s. ap (λ (hs : List Head). found (finder hs o) (f hs)) (walk_same s)
      ∙ found-same (SameList m x) (λ h. eqb (body_of h) o) (walk n m) (λ c. found c (f (walk n m))) (λ c. found c (k (walk n m)))
      (lists_same s) refl (λ h p. e h))

  -- a request that goes by the clumps alone
  walked_same : (f : List Head → Verdict) → if_settled n x (f (walk n x)) ≡ if_settled n m (f (walk n m))
  walked_same f = settled_same _ _ (λ s. ap f (walk_same s))

  pub verdict-same : (q : Request) → verdict n x q ≡ verdict n m q
  unfolding verdict
  verdict-same Create = refl
  verdict-same (Reserve size) = walked_same (λ hs. reserve true hs size)
  verdict-same (ReserveUncleared size) = walked_same (λ hs. reserve false hs size)
  verdict-same (Grow o size) = walked_same (λ hs. grow hs o size)
  verdict-same (Onactive o t v) =
      asked-same o (λ hs. enlist x hs (has_state RESERVED) o t t v) (λ hs. enlist m hs (has_state RESERVED) o t t v)
      (λ h f. enlist-same n m x (walk n m) (has_state RESERVED) o t t v h (λ w. f (state_live 0 h w)))
  verdict-same (Onfree o t v) =
      asked-same o (λ hs. enlist x hs is_waiting o t (with_mark t) v) (λ hs. enlist m hs is_waiting o t (with_mark t) v)
      (λ h f. enlist-same n m x (walk n m) is_waiting o t (with_mark t) v h (λ w. f (either_live 0 2 h w)))
  verdict-same (Withdraw o) =
      asked-same o (λ hs. withdraw x o) (λ hs. withdraw m o) (λ h f. withdraw-same n m x (walk n m) o h (λ w. f (either_live 0 2 h w)))
  verdict-same (Activate o) =
      asked-same o (λ hs. activate x hs o) (λ hs. activate m hs o) (λ h f. activate-same n m x (walk n m) o h (λ w. f (state_live 0 h w)))
  verdict-same (Free o) =
      asked-same o (λ hs. free x hs o) (λ hs. free m hs o) (λ h f. free-same n m x (walk n m) o h (λ w. f (either_live 0 2 h w)))
  verdict-same Check = sound_same _ _ (λ s. refl)
  verdict-same Recover =
      sound_same _ _ (λ s. ap (granted 0) (ap (recover_stores x) (walk_same s) ∙ recover_same n m x (walk n m) (lists_same s)))

  -- and the same totals: all 0 with a refusal, else of the same clumps
  pub totals_same : totals_for (verdict n x Check) (walk n x) ≡ totals_for (verdict n m Check) (walk n m)
  unfolding verdict if_sound
  totals_same = rw (verdict-same Check) (go (is_pool n m) (judge n m) refl)
    where
      go :
          (b : Bool) (o : Option Fault)
          → judge n m ≡ o
          → let v = test (not b) not_pool (test_fault o (granted 0 [])) in
          totals_for v (walk n x) ≡ totals_for v (walk n m)
      go false o s = refl
      go true none s = rw (walk_same s)
      go true (some f) s = refl
