-- The walk: what is left of it at an offset, step by step; without faults 1 and 2 it tiles; and a tiling is what it finds.
-- Each by induction on the steps. Assumes nothing.
use Rattle.std.specs.Prelude.{ℕ, zero, suc, ◌+◌, ◌%◌, ◌<◌, ◌≤◌, ◌≡◌, refl, Bool, true, false, cond, not, List, [], ◌∷◌, ltb, eqb}
use Rattle.std.proofs.Common.{sym, ap₂, ◌∙◌, arith}
use Rattle.std.proofs.Math.Path.{ap}
use Rattle.std.proofs.Math.Option.{Option, some, none, map}
use borrow.Author.Tests.{lt-ltb, le-ltb, ltb-false, eqb-true, eq-eqb, ne_eqb, not-false}
use Rattle.rules.specs.Lists.{seek, Each}
use Rattle.rules.specs.Words.{Mem}
use Rattle.rules.specs.Pages.{clumps_at, unit}
use Rattle.rules.specs.Clumps.{Head, head, state_at, end_of, least_clump, FREEING, Sits, Tiles, heads_from, walk}
use Rattle.rules.specs.Sound.{Fault, fault_at, size_bad, state_bad, list_bad, fault_of, clump_fault, second_fault, target_fault, or_else, judge}
use Rattle.laws.specs.Searches.{some-none, or_neither, seek_hit, seek_pass}
use Rattle.laws.specs.Tilings.{tiles_le}

-- hs is the walk from a on, with steps that last
pub record Rest (n : ℕ) (m : Mem) (a : ℕ) (hs : List Head) : Type 0 where
  pub steps : ℕ
  pub lasts : n ≤ a + steps
  pub same : heads_from steps n m a ≡ hs

pub rest_start : (n : ℕ) (m : Mem) → Rest n m clumps_at (walk n m)
unfolding walk
rest_start n m = record { steps = n; lasts = omega arith; same = refl }

pub rest_end : {n a : ℕ} {m : Mem} {hs : List Head} → Rest n m a hs → n ≤ a → hs ≡ []
unfolding heads_from
rest_end {n} {a} {m} {hs} r l = go r.steps r.same
  where
    go : (k : ℕ) → heads_from k n m a ≡ hs → hs ≡ []
    go zero e = sym e
    go (suc k) e = sym e ∙ rw (le-ltb a n l, heads_from)

pub rest_step : {n a : ℕ} {m : Mem} {hs : List Head} → Rest n m a hs → a < n → (t : List Head) × (hs ≡ head m a ∷ t) × (0 < m a → Rest n m (a + m a) t)
unfolding heads_from
rest_step {n} {a} {m} {hs} r l = go r.steps r.lasts r.same
  where
    go : (k : ℕ) → n ≤ a + k → heads_from k n m a ≡ hs → (t : List Head) × (hs ≡ head m a ∷ t) × (0 < m a → Rest n m (a + m a) t)
    go zero g e = absurd (omega arith)
    go (suc k) g e = (heads_from k n m (a + m a), sym e ∙ rw (lt-ltb a n l, heads_from), λ p. record { steps = k; lasts = omega arith; same = refl })

-- it only goes up
abbrev pub Low : Head → Type 0
Low h = clumps_at ≤ h.at

heads_low : (k n a : ℕ) (m : Mem) → clumps_at ≤ a → Each Low (heads_from k n m a)
unfolding heads_from
heads_low zero n a m l = tt
heads_low (suc k) n a m l = go (ltb a n) (heads_low k n (a + m a) m (omega arith))
  where
    go : (t : Bool) → Each Low (heads_from k n m (a + m a)) → Each Low (elim t [ true ↦ head m a ∷ heads_from k n m (a + m a) | false ↦ [] ])
    go true r = (l, r)
    go false r = tt

-- (no proof cites it now; it stands as it was stated)
pub walk_low : (n : ℕ) (m : Mem) → Each Low (walk n m)
unfolding walk
walk_low n m = heads_low n n clumps_at m (omega arith)

-- a size without fault
pub size_good : (n : ℕ) (h : Head) → size_bad n h ≡ false → (least_clump ≤ h.nbytes) × (h.nbytes % unit ≡ 0) × (end_of h ≤ n)
unfolding size_bad
size_good n h e =
    let q = or_neither _ _ e in
    let r = or_neither _ _ q.0 in
    (ltb-false h.nbytes least_clump r.1, eqb-true (h.nbytes % unit) 0 (not-false _ r.0), ltb-false n (end_of h) q.1)

-- a clump without the faults 1 to 3
pub record Faultless (n a : ℕ) (m : Mem) : Type 0 where
  pub sits : Sits a (head m a)
  pub inside : a + m a ≤ n
  pub list : list_bad n m (head m a) ≡ false

cond_zero : (b : Bool) (k x : ℕ) → cond b (suc k) x ≡ 0 → (b ≡ false) × (x ≡ 0)
cond_zero true k x e = absurd (omega arith)
cond_zero false k x e = (refl, e)

pub faultless : (n a : ℕ) (m : Mem) → fault_of n m (head m a) ≡ 0 → Faultless n a m
unfolding fault_of state_bad
faultless n a m e =
    let p = cond_zero (size_bad n (head m a)) 0 _ e in
    let q = size_good n (head m a) p.0 in
    let s = cond_zero (state_bad (head m a)) 1 _ p.1 in
    record {
      sits = record { here = refl; least = q.0; whole = q.1; known = ltb-false FREEING (m (state_at a)) s.0 };
      inside = q.2;
      list = (cond_zero _ 2 _ s.1).0;
    }

-- the test of a clump for the faults 1 to 3
abbrev pub is_faulty : ℕ → Mem → Head → Bool
is_faulty n m h = not (eqb (fault_of n m h) 0)

-- the faults 1 to 3 of the clumps that are left: at a hit, past a clump and at the end
module _ (n : ℕ) (m : Mem) (h : Head) (hs : List Head) where
  pub clump_hit : (f : ℕ) → f ≡ fault_of n m h → (f ≡ 0 → ⊥) → clump_fault n m (h ∷ hs) ≡ some (fault_at f h)
  unfolding clump_fault
  clump_hit f e g =
      ap (map (λ k. fault_at (fault_of n m k) k)) (seek_hit (is_faulty n m) h hs (rw (← e, ne_eqb f 0 g)))
      ∙ ap (λ (k : ℕ). some (fault_at k h)) (sym e)

  pub clump_pass : fault_of n m h ≡ 0 → clump_fault n m (h ∷ hs) ≡ clump_fault n m hs
  unfolding clump_fault
  clump_pass e = ap (map (λ k. fault_at (fault_of n m k) k)) (seek_pass (is_faulty n m) h hs (rw (eq-eqb (fault_of n m h) 0 e)))

pub clump_end : (n : ℕ) (m : Mem) → clump_fault n m [] ≡ none
unfolding clump_fault seek
clump_end n m = refl

tiles_from : (k n a : ℕ) (m : Mem) → seek (is_faulty n m) (heads_from k n m a) ≡ none → a ≤ n → n ≤ a + k → Tiles a (heads_from k n m a) n
unfolding heads_from
tiles_from zero n a m e l g = omega arith
tiles_from (suc k) n a m e l g = go (ltb a n) refl (is_faulty n m (head m a)) refl (tiles_from k n (a + m a) m)
  where
    go :
        (t : Bool)
        → ltb a n ≡ t
        → (u : Bool)
        → is_faulty n m (head m a) ≡ u
        → (seek (is_faulty n m) (heads_from k n m (a + m a)) ≡ none → a + m a ≤ n → n ≤ a + m a + k → Tiles (a + m a) (heads_from k n m (a + m a)) n)
        → Tiles a (heads_from (suc k) n m a) n
    go true p true q ih = some-none (seek_hit (is_faulty n m) (head m a) (heads_from k n m (a + m a)) q) (rw (p, heads_from) at e)
    go true p false q ih =
        let c = faultless n a m (eqb-true _ _ (not-false _ q)) in
        rw (p, heads_from)
        (c.sits, ih (sym (seek_pass (is_faulty n m) (head m a) (heads_from k n m (a + m a)) q) ∙ (rw (p, heads_from) at e)) c.inside (omega (arith, c.sits.least)))
    go false p u q ih = rw (p, heads_from) (omega (arith, ltb-false a n p))

pub map_none : {A B : Type 0} (f : A → B) (o : Option A) → map f o ≡ none → o ≡ none
map_none f none e = refl
map_none f (some x) e = some-none refl e

-- a pool without the faults 1 to 3 tiles
pub clumps_tile : (n : ℕ) (m : Mem) → clumps_at ≤ n → clump_fault n m (walk n m) ≡ none → Tiles clumps_at (walk n m) n
unfolding clump_fault walk
clumps_tile n m l e = tiles_from n n clumps_at m (map_none _ _ e) l (omega arith)

-- a sound pool has none of the five faults
pub or_else_none : (f g : Option Fault) → or_else f g ≡ none → (f ≡ none) × (g ≡ none)
or_else_none none g e = (refl, e)
or_else_none (some f) g e = some-none refl e

pub record Faults (n : ℕ) (m : Mem) : Type 0 where
  pub clumps : clump_fault n m (walk n m) ≡ none
  pub second : second_fault (walk n m) ≡ none
  pub targets : target_fault m (walk n m) ≡ none

pub no_faults : (n : ℕ) (m : Mem) → judge n m ≡ none → Faults n m
unfolding judge
no_faults n m e =
    let a = or_else_none _ _ e in
    let b = or_else_none _ _ a.1 in
    record { clumps = a.0; second = b.0; targets = b.1 }

pub sound_tiles : (n : ℕ) (m : Mem) → clumps_at ≤ n → judge n m ≡ none → Tiles clumps_at (walk n m) n
sound_tiles n m l e = clumps_tile n m l (no_faults n m e).clumps

-- the memory holds the headers of hs
abbrev pub Reads : Mem → List Head → Type 0
Reads m [] = Unit {0}
Reads m (h ∷ hs) = (m h.at ≡ h.nbytes) × (m (state_at h.at) ≡ h.state) × Reads m hs

pub heads_read : (k n a : ℕ) (m : Mem) → Reads m (heads_from k n m a)
unfolding heads_from
heads_read zero n a m = tt
heads_read (suc k) n a m = go (ltb a n) (heads_read k n (a + m a) m)
  where
    go : (t : Bool) → Reads m (heads_from k n m (a + m a)) → Reads m (elim t [ true ↦ head m a ∷ heads_from k n m (a + m a) | false ↦ [] ])
    go true r = (refl, refl, r)
    go false r = tt

pub walk-reads : (n : ℕ) (m : Mem) → Reads m (walk n m)
unfolding walk
walk-reads n m = heads_read n n clumps_at m

head_is : (a : ℕ) (m : Mem) (h : Head) → h.at ≡ a → m h.at ≡ h.nbytes → m (state_at h.at) ≡ h.state → head m a ≡ h
head_is a m h e p q =
    let p' : m a ≡ h.nbytes = rw (← e) p in
    let q' : m (state_at a) ≡ h.state = rw (← e) q in
    λ i. record { at = sym e i; nbytes = p' i; state = q' i }

-- a tiling that the memory holds is what the walk finds
pub walk_finds : (k n a : ℕ) (m : Mem) (hs : List Head) → Tiles a hs n → Reads m hs → n ≤ a + k → heads_from k n m a ≡ hs
unfolding heads_from
walk_finds zero n a m [] t r g = refl
walk_finds zero n a m (h ∷ hs) t r g = let z = tiles_le (a + h.nbytes) n hs t.1 in absurd (omega arith)
walk_finds (suc k) n a m [] t r g = rw (le-ltb a n (omega arith), heads_from) refl
walk_finds (suc k) n a m (h ∷ hs) t r g =
    let z = tiles_le (a + h.nbytes) n hs t.1 in
    let e = head_is a m h t.0.here r.0 r.1 in
    rw (lt-ltb a n (omega arith), heads_from)
    (ap₂ ◌∷◌ e (ap (λ (x : Head). heads_from k n m (a + x.nbytes)) e ∙ walk_finds k n (a + h.nbytes) m hs t.1 r.2 (omega arith)))

pub walk_is : (n : ℕ) (m : Mem) (hs : List Head) → Tiles clumps_at hs n → Reads m hs → walk n m ≡ hs
unfolding walk
walk_is n m hs t r = walk_finds n n clumps_at m hs t r (omega arith)
