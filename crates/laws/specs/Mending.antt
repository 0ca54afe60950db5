-- Recovery, part by part: what the headers are after the unfinished clump is finished, and after RESERVED clumps are released.
-- By induction on the clumps, with one law for each kind of store. Assumes nothing.
use Rattle.std.specs.Prelude.{ℕ, ◌+◌, ◌<◌, ◌≤◌, ◌≡◌, refl, Bool, true, false, cond, List, [], ◌∷◌, ◌++◌, map, eqb}
use Rattle.std.proofs.Common.{sym, ap, ap₂, ◌∙◌, subst}
use Rattle.std.proofs.Math.Option.{Option, some, none}
use native.Mathlib.Omega.{arith}
use Rattle.rules.specs.Lists.{seek, those, Each}
use Rattle.rules.specs.Words.{Mem, store, upd, after}
use Rattle.rules.specs.Pages.{clumps_at}
use Rattle.rules.specs.Clumps.{Head, Tiles, state_at, has_state, is_pending, slots, Choice, used, unmarked, due, slots_by, target_at, entry, entries_by, FREE, RESERVED, ACTIVATING, ACTIVE, FREEING}
use Rattle.rules.specs.Sound.{fault_at, second, second_fault, is_valid, all_valid, target_fault}
use Rattle.rules.specs.Stores.{set_state, emptying, finish_activating, finish_freeing, finishing, releasing, released}
use Rattle.word.specs.Memory.{upd_same, upd_other, after-append}
use Rattle.laws.specs.Searches.{some-none, or_neither, Split, seek_split, seek_none, each_map, map_each, all_each, those_each, those_nil, nil_those, those_append}
use Rattle.laws.specs.Tilings.{tiles_split}
use Rattle.laws.specs.Totals.{five}
use Rattle.laws.specs.Walks.{Reads}
use Rattle.laws.specs.Stored.{with_state, Clear, clear_below, clear_header, reads-upd, reads-after, reads_state, valid_clear}

-- the state once the clump is finished, and once it is released
abbrev settled : ℕ → ℕ
settled s = cond (eqb s ACTIVATING) ACTIVE (cond (eqb s FREEING) FREE s)

abbrev unreserved : ℕ → ℕ
unreserved s = cond (eqb s RESERVED) FREE s

-- the clump then
abbrev pub settle : Head → Head
settle h = with_state h (settled h.state)

abbrev pub freed : Head → Head
freed h = with_state h (unreserved h.state)

pub map-released : (a b : ℕ) (hs : List Head) → Tiles a hs b → map freed (map settle hs) ≡ map released hs
map-released a b [] t = refl
map-released a b (h ∷ hs) t =
    ap₂ ◌∷◌
    (five (λ s. freed (settle (record { at = h.at; nbytes = h.nbytes; state = s })) ≡ released (record { at = h.at; nbytes = h.nbytes; state = s })) refl refl refl refl refl h.state t.0.known)
    (map-released (a + h.nbytes) b hs t.1)

-- with other states, of the five, the clumps tile as before
tiles_states : (f : ℕ → ℕ) → ((s : ℕ) → s ≤ FREEING → f s ≤ FREEING) → (a b : ℕ) (hs : List Head) → Tiles a hs b → Tiles a (map (λ h. with_state h (f h.state)) hs) b
tiles_states f g a b [] t = t
tiles_states f g a b (h ∷ hs) t = (
  record { here = t.0.here; least = t.0.least; whole = t.0.whole; known = g h.state t.0.known },
  tiles_states f g (a + h.nbytes) b hs t.1,
)

pub tiles_settle : (a b : ℕ) (hs : List Head) → Tiles a hs b → Tiles a (map settle hs) b
tiles_settle = tiles_states settled (five (λ s. settled s ≤ FREEING) (omega arith) (omega arith) (omega arith) (omega arith) (omega arith))

pub tiles_freed : (a b : ℕ) (hs : List Head) → Tiles a hs b → Tiles a (map freed hs) b
tiles_freed = tiles_states unreserved (five (λ s. unreserved s ≤ FREEING) (omega arith) (omega arith) (omega arith) (omega arith) (omega arith))

pub tiles_released : (a b : ℕ) (hs : List Head) → Tiles a hs b → Tiles a (map released hs) b
tiles_released a b hs t = subst (λ (ks : List Head). Tiles a ks b) (map-released a b hs t) (tiles_freed a b (map settle hs) (tiles_settle a b hs t))

-- a clump that is not unfinished stays
settle_idle : (h : Head) → is_pending h ≡ false → settle h ≡ h
settle_idle h e = let x = or_neither (has_state ACTIVATING h) (has_state FREEING h) e in ap (with_state h) (rw (x.0, x.1))

pub map_idle : (hs : List Head) → Each (λ h. is_pending h ≡ false) hs → map settle hs ≡ hs
map_idle [] e = refl
map_idle (h ∷ hs) e = ap₂ ◌∷◌ (settle_idle h e.0) (map_idle hs e.1)

pub map_split : (p : List Head) (h : Head) (q : List Head) → Each (λ k. is_pending k ≡ false) p → Each (λ k. is_pending k ≡ false) q → map settle (p ++ (h ∷ q)) ≡ p ++ (settle h ∷ q)
map_split [] h q e f = ap (λ (ks : List Head). settle h ∷ ks) (map_idle q f)
map_split (k ∷ p) h q e f = ap₂ ◌∷◌ (settle_idle k e.0) (map_split p h q e.1 f)

-- the one unfinished clump: no other is
second_none : (h : Head) (ks : List Head) → second (h ∷ ks) ≡ none → ks ≡ []
second_none h [] e = refl
second_none h (k ∷ ks) e = some-none refl e

pub others_idle : (p : List Head) (h : Head) (q : List Head) → second_fault (p ++ (h ∷ q)) ≡ none → Each (λ k. is_pending k ≡ false) p → is_pending h ≡ true → Each (λ k. is_pending k ≡ false) q
unfolding second_fault those
others_idle p h q e f g = nil_those is_pending q (second_none h (those is_pending q) (rw (those_append is_pending p (h ∷ q), those_nil is_pending p f, g) at e))

-- the targets that are carried out miss the headers
pub targets_valid : (m : Mem) (hs : List Head) (h : Head) → seek is_pending hs ≡ some h → target_fault m hs ≡ none → all_valid (due h) m hs h ≡ true
unfolding target_fault
targets_valid m hs h e f = go (all_valid (due h) m hs h) refl (rw e at f)
  where
    go : (t : Bool) → all_valid (due h) m hs h ≡ t → cond t none (some (fault_at 5 h)) ≡ none → all_valid (due h) m hs h ≡ true
    go true q g = q
    go false q g = some-none refl g

entries_clear : (n : ℕ) (m : Mem) (hs : List Head) (sl : List ℕ) → Tiles clumps_at hs n → Each (λ s. is_valid hs (target_at m s) ≡ true) sl → Each (λ s. Clear s.to hs) (map (entry m) sl)
entries_clear n m hs sl t e =
    map_each (λ s. Clear s.to hs) (entry m) sl (each_map (λ s. is_valid hs (target_at m s) ≡ true) (λ s. Clear (target_at m s) hs) sl (λ s v. valid_clear n (target_at m s) hs t v) e)

emptying_clear : (c : Choice) (m : Mem) (a b : ℕ) (p : List Head) (h : Head) (q : List Head) (sl : List ℕ) → Tiles a (p ++ (h ∷ q)) b → Each (λ s. (h.at + 16 ≤ s) × (s < h.at + h.nbytes)) sl → Each (λ s. Clear s.to (p ++ (h ∷ q))) (emptying (those (λ s. c (m s)) sl))
emptying_clear c m a b p h q sl t e =
    map_each (λ s. Clear s.to (p ++ (h ∷ q))) (λ s. store s 0) (those (λ s. c (m s)) sl)
    (those_each (λ s. Clear s (p ++ (h ∷ q))) (λ s. c (m s)) sl
    (each_map (λ s. (h.at + 16 ≤ s) × (s < h.at + h.nbytes)) (λ s. Clear s (p ++ (h ∷ q))) sl (λ s f. clear_header a b s p h q t f.0 f.1) e))

-- the headers after the unfinished clump is finished
module _ (n : ℕ) (m : Mem) (p : List Head) (h : Head) (q : List Head) (t : Tiles clumps_at (p ++ (h ∷ q)) n) (r : Reads m (p ++ (h ∷ q))) where
  assigned : (c : Choice) → all_valid c m (p ++ (h ∷ q)) h ≡ true → Reads (after m (entries_by c m h.at)) (p ++ (h ∷ q))
  unfolding all_valid
  assigned c v = reads-after m (entries_by c m h.at) (p ++ (h ∷ q)) (entries_clear n m (p ++ (h ∷ q)) (slots_by c m h.at) t (all_each (λ s. is_valid (p ++ (h ∷ q)) (target_at m s)) (slots_by c m h.at) v)) r

  pub activated : all_valid unmarked m (p ++ (h ∷ q)) h ≡ true → 64 ≤ h.nbytes → Reads (after m (finish_activating m h)) (p ++ (with_state h ACTIVE ∷ q))
  unfolding finish_activating after
  activated v l =
      let st = entries_by unmarked m h.at in
      let sl = slots_by unmarked m h.at in
      rw (after-append m st (emptying sl ++ (set_state h ACTIVE ∷ [])), after-append (after m st) (emptying sl) (set_state h ACTIVE ∷ []))
      (reads_state _ ACTIVE clumps_at n p h q t
      (reads-after _ (emptying sl) (p ++ (h ∷ q))
      (emptying_clear unmarked m clumps_at n p h q (slots h.at) t ((omega arith, omega arith), ((omega arith, omega arith), ((omega arith, omega arith), tt)))) (assigned unmarked v)))

  pub dropped : (c : Choice) → all_valid c m (p ++ (h ∷ q)) h ≡ true → Reads (after m (finish_freeing c m h)) (p ++ (with_state h FREE ∷ q))
  unfolding finish_freeing after
  dropped c v = rw (after-append m (entries_by c m h.at) (set_state h FREE ∷ [])) (reads_state _ FREE clumps_at n p h q t (assigned c v))

pub finish_reads : (n : ℕ) (m : Mem) (hs : List Head) → Tiles clumps_at hs n → Reads m hs → second_fault hs ≡ none → target_fault m hs ≡ none → Reads (after m (finishing m (seek is_pending hs))) (map settle hs)
unfolding after
finish_reads n m hs t r s f = go (seek is_pending hs) refl
  where
    go : (o : Option Head) → seek is_pending hs ≡ o → Reads (after m (finishing m o)) (map settle hs)
    go none e = rw (map_idle hs (seek_none is_pending hs e)) r
    go (some h) e =
        let x = seek_split is_pending hs h e in
        let w = x.whole in
        let t' = subst (λ (ks : List Head). Tiles clumps_at ks n) w t in
        let r' = subst (Reads m) w r in
        let v' = subst (λ (ks : List Head). all_valid (due h) m ks h ≡ true) w (targets_valid m hs h e f) in
        let i = others_idle x.lower h x.higher (subst (λ (ks : List Head). second_fault ks ≡ none) w s) x.before x.passes in
        let l = (tiles_split clumps_at n x.lower (h ∷ x.higher) t').2.0.least in
        subst (λ (ks : List Head). Reads (after m (finishing m (some h))) (map settle ks)) (sym w)
        (rw (map_split x.lower h x.higher x.before i) (pick x t' r' l (has_state ACTIVATING h) refl v'))
      where
        pick :
            (x : Split is_pending hs h)
            → (t' : Tiles clumps_at (x.lower ++ (h ∷ x.higher)) n)
            → Reads m (x.lower ++ (h ∷ x.higher))
            → 128 ≤ h.nbytes
            → (b : Bool)
            → has_state ACTIVATING h ≡ b
            → all_valid (cond b unmarked used) m (x.lower ++ (h ∷ x.higher)) h ≡ true
            → Reads (after m (cond b (finish_activating m h) (finish_freeing used m h))) (x.lower ++ (with_state h (cond b ACTIVE (cond (has_state FREEING h) FREE h.state)) ∷ x.higher))
        pick x t' r' l true q v' = activated n m x.lower h x.higher t' r' v' (omega arith)
        pick x t' r' l false q v' =
            let y : has_state FREEING h ≡ true = rw q at x.passes in
            rw y (dropped n m x.lower h x.higher t' r' used v')

-- the headers after RESERVED clumps are released, upward
pub releasing_cons : (h : Head) (hs : List Head) → releasing (h ∷ hs) ≡ cond (has_state RESERVED h) (set_state h FREE ∷ []) [] ++ releasing hs
unfolding releasing those
releasing_cons h hs = go (has_state RESERVED h)
  where
    go : (t : Bool) → map (λ k. set_state k FREE) (cond t (h ∷ those (has_state RESERVED) hs) (those (has_state RESERVED) hs)) ≡ cond t (set_state h FREE ∷ []) [] ++ releasing hs
    go true = refl
    go false = refl

release_miss : (hs : List Head) (m : Mem) (a b o : ℕ) → Tiles a hs b → o < a → after m (releasing hs) o ≡ m o
unfolding after releasing those
release_miss [] m a b o t l = refl
release_miss (h ∷ hs) m a b o t l = go (has_state RESERVED h) (λ k. release_miss hs k (a + h.nbytes) b o t.1 (omega arith))
  where
    go : (u : Bool) → ((k : Mem) → after k (releasing hs) o ≡ k o) → after m (map (λ k. set_state k FREE) (cond u (h ∷ those (has_state RESERVED) hs) (those (has_state RESERVED) hs))) o ≡ m o
    go true ih = ih (upd m (state_at h.at) FREE) ∙ upd_other m (state_at h.at) FREE o (omega (arith, t.0.here))
    go false ih = ih m

pub release_reads : (hs : List Head) (m : Mem) (a b : ℕ) → Tiles a hs b → Reads m hs → Reads (after m (releasing hs)) (map freed hs)
unfolding after releasing those
release_reads [] m a b t r = tt
release_reads (h ∷ hs) m a b t r = go (has_state RESERVED h) refl (λ k. release_reads hs k (a + h.nbytes) b t.1)
  where
    go :
        (u : Bool)
        → has_state RESERVED h ≡ u
        → ((k : Mem) → Reads k hs → Reads (after k (releasing hs)) (map freed hs))
        → Reads (after m (map (λ k. set_state k FREE) (cond u (h ∷ those (has_state RESERVED) hs) (those (has_state RESERVED) hs)))) (with_state h (cond u FREE h.state) ∷ map freed hs)
    go true e ih =
        let m' = upd m (state_at h.at) FREE in
        let l = t.0.least in
        let k = t.0.here in (
          release_miss hs m' (a + h.nbytes) b h.at t.1 (omega arith) ∙ upd_other m (state_at h.at) FREE h.at (omega arith) ∙ r.0,
          release_miss hs m' (a + h.nbytes) b (state_at h.at) t.1 (omega arith) ∙ upd_same m (state_at h.at) FREE,
          ih m' (reads-upd m (state_at h.at) FREE hs (clear_below (state_at h.at) (a + h.nbytes) b hs t.1 (omega arith)) r.2),
        )
    go false e ih =
        let l = t.0.least in
        let k = t.0.here in (
          release_miss hs m (a + h.nbytes) b h.at t.1 (omega arith) ∙ r.0,
          release_miss hs m (a + h.nbytes) b (state_at h.at) t.1 (omega arith) ∙ r.1,
          ih m r.2,
        )

-- what is released is the same, whether the unfinished clump was finished before or not
pub releasing-settle : (a b : ℕ) (hs : List Head) → Tiles a hs b → releasing (map settle hs) ≡ releasing hs
releasing-settle a b [] t = refl
releasing-settle a b (h ∷ hs) t =
    releasing_cons (settle h) (map settle hs)
    ∙ ap₂ ◌++◌
    (five (λ s. cond (has_state RESERVED (settle (record { at = h.at; nbytes = h.nbytes; state = s }))) (set_state h FREE ∷ []) [] ≡ cond (eqb s RESERVED) (set_state h FREE ∷ []) []) refl refl refl refl refl h.state t.0.known)
    (releasing-settle (a + h.nbytes) b hs t.1)
    ∙ sym (releasing_cons h hs)
