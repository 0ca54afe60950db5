-- What a sound pool holds: its page, its clumps as a tiling, their headers and lists; at rest, or with one clump whose list is being
-- carried out. A memory that holds so much is sound, and a sound one holds so much. By the laws of the walk. Assumes nothing.
use Rattle.std.specs.Prelude.{ℕ, ◌+◌, ◌%◌, ◌≡◌, refl, Bool, true, false, cond, not, List, [], ◌∷◌, ◌++◌, eqb}
use Rattle.std.proofs.Common.{sym, ap, subst, arith, le-ltb, eq-eqb}
use Rattle.std.proofs.Math.Option.{Option, some, none, map}
use Rattle.rules.specs.Lists.{seek, those, Each}
use Rattle.rules.specs.Words.{Mem}
use Rattle.rules.specs.Pages.{clumps_at, unit, is_pool}
use Rattle.rules.specs.Clumps.{Head, end_of, least_clump, FREEING, is_pending, due, Tiles, walk}
use Rattle.rules.specs.Sound.{size_bad, state_bad, list_bad, fault_of, fault_at, clump_fault, second_fault, all_valid, target_fault, judge}
use Rattle.laws.specs.Searches.{differ, seek_none, none_seek, seek_split, seek_at, those_nil, those_append, each_map}
use Rattle.laws.specs.Tilings.{tiles_le}
use Rattle.laws.specs.Walks.{Reads, is_faulty, map_none, no_faults, heads_read, walk_finds, sound_tiles}
use Rattle.laws.specs.Pools.{Sound, pool_length}
use Rattle.laws.specs.Mending.{targets_valid, others_idle}

-- the pool n, m has the clumps hs
pub record Held (n : ℕ) (m : Mem) (hs : List Head) : Type 0 where
  pub page : is_pool n m ≡ true
  pub tiles : Tiles clumps_at hs n
  pub reads : Reads m hs
  pub lists : Each (λ h. list_bad n m h ≡ false) hs

abbrev pub Idle : Head → Type 0
Idle h = is_pending h ≡ false

-- one clump's list is being carried out
pub record Pends (n : ℕ) (m : Mem) (p : List Head) (h : Head) (q : List Head) : Type 0 where
  pub held : Held n m (p ++ (h ∷ q))
  pub below : Each Idle p
  pub pending : is_pending h ≡ true
  pub above : Each Idle q
  pub valid : all_valid (due h) m (p ++ (h ∷ q)) h ≡ true

-- the walk finds these clumps
pub held_walk : (n : ℕ) (m : Mem) (hs : List Head) → Held n m hs → walk n m ≡ hs
unfolding walk
held_walk n m hs e = walk_finds n n clumps_at m hs e.tiles e.reads (omega arith)

-- a clump of a tiling, with a list that is in order, has no fault
clean : (n a : ℕ) (m : Mem) (hs : List Head) → Tiles a hs n → Each (λ h. list_bad n m h ≡ false) hs → Each (λ h. is_faulty n m h ≡ false) hs
unfolding fault_of size_bad state_bad
clean n a m [] t e = tt
clean n a m (h ∷ hs) t e =
    let l = tiles_le (a + h.nbytes) n hs t.1 in
    let i = t.0.here in (
      rw (eq-eqb (h.nbytes % unit) 0 t.0.whole, le-ltb h.nbytes least_clump t.0.least, le-ltb n (end_of h) (omega arith), le-ltb FREEING h.state t.0.known, e.0),
      clean n (a + h.nbytes) m hs t.1 e.1,
    )

held_clean : (n : ℕ) (m : Mem) (hs : List Head) → Held n m hs → clump_fault n m hs ≡ none
unfolding clump_fault
held_clean n m hs e = ap (map (λ h. fault_at (fault_of n m h) h)) (none_seek (is_faulty n m) hs (clean n clumps_at m hs e.tiles e.lists))

held_judge : (n : ℕ) (m : Mem) (hs : List Head) → Held n m hs → second_fault hs ≡ none → target_fault m hs ≡ none → Sound n m
unfolding judge
held_judge n m hs e f g = record { pool = e.page; sound = rw (held_walk n m hs e, held_clean n m hs e, f, g) }

-- at rest it is sound
pub idle_sound : (n : ℕ) (m : Mem) (hs : List Head) → Held n m hs → Each Idle hs → Sound n m
unfolding second_fault target_fault
idle_sound n m hs e f = held_judge n m hs e (rw (those_nil is_pending hs f)) (rw (none_seek is_pending hs f))

-- with one list being carried out it is sound
pub pends_seek : (n : ℕ) (m : Mem) (p : List Head) (h : Head) (q : List Head) → Pends n m p h q → seek is_pending (p ++ (h ∷ q)) ≡ some h
pends_seek n m p h q e = seek_at is_pending p h q e.below e.pending

pub pends_sound : (n : ℕ) (m : Mem) (p : List Head) (h : Head) (q : List Head) → Pends n m p h q → Sound n m
unfolding second_fault target_fault those
pends_sound n m p h q e =
    held_judge n m (p ++ (h ∷ q)) e.held
    (rw (those_append is_pending p (h ∷ q), those_nil is_pending p e.below, e.pending, those_nil is_pending q e.above))
    (rw (pends_seek n m p h q e, e.valid))

-- and a sound pool holds its clumps
list_good : (n : ℕ) (m : Mem) (h : Head) → is_faulty n m h ≡ false → list_bad n m h ≡ false
unfolding fault_of
list_good n m h e = go (size_bad n h) (state_bad h) (list_bad n m h) e
  where
    go : (a b c : Bool) → not (eqb (cond a 1 (cond b 2 (cond c 3 0))) 0) ≡ false → c ≡ false
    go true b c f = differ refl f
    go false true c f = differ refl f
    go false false true f = differ refl f
    go false false false f = refl

pub sound_held : (n : ℕ) (m : Mem) → Sound n m → Held n m (walk n m)
unfolding walk clump_fault
sound_held n m s =
    let l = pool_length n m s.pool in
    let f = no_faults n m s.sound in
    record {
      page = s.pool;
      tiles = sound_tiles n m (omega (arith, l.least)) s.sound;
      reads = heads_read n n clumps_at m;
      lists = each_map (λ h. is_faulty n m h ≡ false) (λ h. list_bad n m h ≡ false) (walk n m) (list_good n m) (seek_none (is_faulty n m) (walk n m) (map_none _ _ f.clumps));
    }

-- at rest, or with one list being carried out
pub data Stands (n : ℕ) (m : Mem) : List Head → Type 0 where
  rests : {hs : List Head} → Held n m hs → Each Idle hs → Stands n m hs
  pends : {p : List Head} {h : Head} {q : List Head} → Pends n m p h q → Stands n m (p ++ (h ∷ q))

pub sound_stands : (n : ℕ) (m : Mem) → Sound n m → Stands n m (walk n m)
sound_stands n m s = go (seek is_pending (walk n m)) refl
  where
    go : (o : Option Head) → seek is_pending (walk n m) ≡ o → Stands n m (walk n m)
    go none e = rests (sound_held n m s) (seek_none is_pending (walk n m) e)
    go (some h) e =
        let f = no_faults n m s.sound in
        let x = seek_split is_pending (walk n m) h e in
        let i = x.whole in
        subst (λ (hs : List Head). Stands n m hs) (sym i)
        (pends {p = x.lower} {h = h} {q = x.higher}
        (record {
          held = subst (λ (hs : List Head). Held n m hs) i (sound_held n m s);
          below = x.before;
          pending = x.passes;
          above = others_idle x.lower h x.higher (subst (λ (hs : List Head). second_fault hs ≡ none) i f.second) x.before x.passes;
          valid = subst (λ (hs : List Head). all_valid (due h) m hs h ≡ true) i (targets_valid m (walk n m) h e f.targets);
        }))
