-- Every request on a settled pool takes its course, whatever its numbers: a refusal stores nothing, and what each test leaves is what the
-- laws of its stores want. By cases on the requests. Assumes nothing.
use Rattle.std.specs.Prelude.{ℕ, ◌+◌, ◌-◌, ◌<◌, ◌≤◌, ◌≡◌, refl, Bool, false, not}
use Rattle.std.proofs.Common.{sym, ap, ◌∙◌, arith}
use Rattle.std.proofs.Math.Path.{subst}
use Rattle.std.proofs.Math.Bool.{true}
use Rattle.std.proofs.Math.Option.{Option, some, none}
use mathlib.Core.List.{List, [], ◌∷◌, ◌++◌}
use Rattle.std.proofs.Math.Dec.{ltb}
use borrow.Author.Tests.{leb-true, not-false, not-true}
use Rattle.rules.specs.declared.Request.{Request}
use Rattle.rules.specs.declared.Request.TheVariants.{Create, Reserve, ReserveUncleared, Grow, Onactive, Onfree, Withdraw, Activate, Free, Check, Recover}
use Rattle.rules.specs.Lists.{seek, Each}
use Rattle.rules.specs.Pages.{clumps_at}
use Rattle.rules.specs.Words.{Mem, Store, store, after}
use Rattle.rules.specs.Clumps.{Head, header_bytes, has_state, is_free, is_waiting, slots, value_at, used, unmarked, freed, target_of, with_mark, slots_by, entries_by, RESERVED, walk}
use Rattle.rules.specs.Sound.{is_valid, all_valid, touching, unsettled}
use Rattle.rules.specs.Answers.{stores_of, wrong_state, bad_target, if_settled}
use Rattle.rules.specs.Stores.{need_of, fits, reserve_stores, free_after, activate_stores, free_stores, recover_stores}
use Rattle.rules.specs.Requests.{reserve, grow, finder, open_slot, listed, enlist, withdrawn, withdraw, activate, free, verdict}
use Rattle.rules.specs.Traces.{is_create, before_turn, is_through}
use Rattle.laws.specs.Searches.{differ, and_both, each_right, seek_split}
use Rattle.laws.specs.Lying.{valid_even}
use Rattle.laws.specs.Choices.{target_even, target_marked}
use Rattle.laws.specs.Behind.{behind_test, behind_sound, behind-settled, behind-found}
use Rattle.laws.specs.Pools.{Sound}
use Rattle.laws.specs.Needs.{need_even, need_clump, need_body}
use Rattle.laws.specs.Bodies.{Off}
use Rattle.laws.specs.Verdicts.{either_live}
use Rattle.laws.specs.Granted.{Reserves, Enlarges, enough, takes, Grows, fair_stores, fair_reserve, fair_grow}
use Rattle.loss.specs.Orders.{reserve_order, grow_order, list_order, recover_order}
use Rattle.loss.specs.Held.{Held, Idle, sound_held}
use Rattle.loss.specs.Fates.{fates, Owned, Rests}
use Rattle.loss.specs.Neighbours.{free-after, next_some}
use Rattle.loss.proofs.Reserving.{Reserved, reserves}
use Rattle.loss.proofs.Growing.{Enlarged, enlarges}
use Rattle.loss.proofs.Listing.{value_rests, target_held, withdrawn_held}
use Rattle.loss.specs.Owning.{owned_off, owned_beyond, rests_as, own_fate}
use Rattle.loss.proofs.Recovering.{comes_none, comes_store, recovers}
use Rattle.loss.proofs.Courses.{Course, never, Decides, calm_idle, course_none, course_comes, course_last, course_decides}
use Rattle.loss.proofs.Turns.{activate_decides, free_decides}

-- a clump of a settled pool, with the clumps below and above it
pub record Amid (n : ℕ) (m : Mem) (h : Head) : Type 0 where
  pub below : List Head
  pub above : List Head
  pub whole : walk n m ≡ below ++ (h ∷ above)
  pub held : Held n m (below ++ (h ∷ above))
  pub idle : Each Idle (below ++ (h ∷ above))
  pub apart : touching (below ++ (h ∷ above)) ≡ false

pub amid : (n : ℕ) (m : Mem) (t : Head → Bool) (h : Head) → Sound n m → unsettled (walk n m) ≡ false → seek t (walk n m) ≡ some h → Amid n m h
amid n m t h s u e =
    let x = seek_split t (walk n m) h e in
    let i = x.whole in
    let c = calm_idle (walk n m) u in
    record {
      below = x.lower;
      above = x.higher;
      whole = i;
      held = subst (λ (hs : List Head). Held n m hs) i (sound_held n m s);
      idle = subst (Each Idle) i c.0;
      apart = subst (λ (hs : List Head). touching hs ≡ false) i c.1;
    }

-- recovery will keep of it what it has
pub at_rest : (n : ℕ) (m : Mem) (h : Head) (a : Amid n m h) → let hs = a.below ++ (h ∷ a.above) in Rests n (Owned (fates m hs)) (fates m hs) m m hs
at_rest n m h a =
    let hs = a.below ++ (h ∷ a.above) in
    rests_as n (Owned (fates m hs)) m hs a.held a.idle (owned_beyond n m hs a.held.tiles)

module _ (n : ℕ) (m : Mem) (s : Sound n m) (u : unsettled (walk n m) ≡ false) where
  none_made : (b : ℕ → Bool) → Course n m b []
  none_made b = course_none n m b s u

  -- the clump that reserve finds
  pub placing :
      (clears : Bool) (size : ℕ) → (size ≡ 0 → ⊥) → (h : Head) → seek (fits (need_of size)) (walk n m) ≡ some h → (a : Amid n m h)
      → let k = fates m (a.below ++ (h ∷ a.above)) in
      Reserved clears n (Owned k) k m m a.below h a.above (need_of size)
  placing clears size z h e a =
      let p = a.below in
      let q = a.above in
      let f = and_both (is_free h) _ (seek_split (fits (need_of size)) (walk n m) h e).passes in
      let k = fates m (p ++ (h ∷ q)) in
      let t = a.held.tiles in
      reserves n (Owned k) k m p h q f.0 (λ o d. (each_right (Off o) p (h ∷ q) (owned_off n m (p ++ (h ∷ q)) o t d)).0.whole f.0) clears m (need_of size) (need_even size) (need_clump size z)
      (leb-true (need_of size) h.nbytes f.1)
      (at_rest n m h a)

  reserve_course : (clears : Bool) (size : ℕ) → Course n m never (stores_of (if_settled n m (reserve clears (walk n m) size)))
  unfolding reserve_order
  reserve_course clears size =
      fair_stores (Reserves clears n m size) (Course n m never) (none_made never)
      (λ p st g. let h = g.clump in
      let a = amid n m (fits (need_of size)) h s u g.found in
      let x = placing clears size g.asked h g.found a in
      subst (Course n m never) (sym g.stores)
      (course_comes n _ m m never (reserve_stores clears (need_of size) h) (a.below ++ (x.clump ∷ x.above)) x.comes (x.calm a.apart)))
      (if_settled n m (reserve clears (walk n m) size)) (fair_reserve clears n m size)

  -- the FREE clump that grow takes
  pub enlarging :
      (size : ℕ) (h next : Head) (a : Amid n m h)
      → is_waiting h ≡ true
      → h.nbytes - header_bytes < size
      → free_after (walk n m) h ≡ some next
      → need_of size ≤ h.nbytes + next.nbytes
      → (r : List Head) × (a.above ≡ next ∷ r) × Enlarged n m a.below h next r (need_of size)
  enlarging size h next a w l e r =
      let p = a.below in
      let x = next_some a.above next (sym (free-after clumps_at n p h a.above a.held.tiles) ∙ ap (λ (hs : List Head). free_after hs h) (sym a.whole) ∙ e) in
      let i = x.1 in (
        x.0,
        i,
        enlarges n m p h next x.0
            (subst (λ (q : List Head). Held n m (p ++ (h ∷ q))) i a.held)
            (subst (λ (q : List Head). Each Idle (p ++ (h ∷ q))) i a.idle)
            (subst (λ (q : List Head). touching (p ++ (h ∷ q)) ≡ false) i a.apart)
            (not-true _ (either_live 0 2 h w)) x.2 (need_of size) (need_even size) (omega (arith, need_body size)) r,
      )

  grow_course : (o size : ℕ) → Course n m never (stores_of (if_settled n m (grow (walk n m) o size)))
  unfolding grow_order
  grow_course o size =
      fair_stores (Grows n m o size) (Course n m never) (none_made never)
      (λ p st g. go g.clump (amid n m _ g.clump s u g.found) g.waits st g.stores) (if_settled n m (grow (walk n m) o size)) (fair_grow n m o size)
    where
      go : (h : Head) → Amid n m h → is_waiting h ≡ true → (st : List Store) → Enlarges n m size h st → Course n m never st
      go h a w st (enough l) = none_made never
      go h a w st (takes next l e r) = (enlarging size h next a w l e r).2.course

  -- the list of a clump
  listed_course : (h : Head) (o t r v : ℕ) → (is_valid (walk n m) t ≡ true → target_of r ≡ t) → Amid n m h → (e : Option ℕ) → open_slot m (slots h.at) ≡ e → Course n m never (stores_of (listed (is_valid (walk n m) t) e o r v))
  unfolding list_order after
  listed_course h o t r v y a none e = none_made never
  listed_course h o t r v y a (some i) e =
      behind_test (Course n m never) (none_made never) (not (is_valid (walk n m) t)) bad_target _
      (λ z. let x = not-false _ z in go (subst (λ (hs : List Head). is_valid hs (target_of r) ≡ true) a.whole (rw (y x) x)))
    where
      go : is_valid (a.below ++ (h ∷ a.above)) (target_of r) ≡ true → Course n m never (list_order i r v)
      go z =
          let p = a.below in
          let q = a.above in
          let hs = p ++ (h ∷ q) in
          let k = fates m hs in
          let f = at_rest n m h a in
          let g = value_rests n m p h q i v e (Owned k) k m f in
          course_last n k m m (store (value_at i) v ∷ []) (store i r) hs hs (comes_store n (Owned k) k m m _ [] hs hs f (comes_none n (Owned k) k m _ hs g)) (target_held n m p h q i v e r z a.held g.held) a.idle a.apart

  enlist_course : (allowed : Head → Bool) (o t r v : ℕ) (h : Head) → (is_valid (walk n m) t ≡ true → target_of r ≡ t) → Amid n m h → Course n m never (stores_of (enlist m (walk n m) allowed o t r v h))
  unfolding enlist
  enlist_course allowed o t r v h y a =
      behind_test (Course n m never) (none_made never) (not (allowed h)) wrong_state _
      (λ z. listed_course h o t r v y a (open_slot m (slots h.at)) refl)

  withdrawn_course : (o : ℕ) (h : Head) → Amid n m h → (us : List ℕ) → slots_by used m h.at ≡ us → Course n m never (stores_of (withdrawn us o))
  unfolding after
  withdrawn_course o h a [] e = none_made never
  withdrawn_course o h a (i ∷ us) e =
      let hs = a.below ++ (h ∷ a.above) in
      let k = fates m hs in
      course_last n k m m [] _ hs hs (comes_none n (Owned k) k m m hs (at_rest n m h a)) (withdrawn_held n m a.below h a.above i us e a.held) a.idle a.apart

  withdraw_course : (o : ℕ) (h : Head) → Amid n m h → Course n m never (stores_of (withdraw m o h))
  unfolding withdraw
  withdraw_course o h a =
      behind_test (Course n m never) (none_made never) (not (is_waiting h)) wrong_state _ (λ z. withdrawn_course o h a (slots_by used m h.at) refl)

  -- activate and free
  pub activating : (h : Head) (a : Amid n m h) → has_state RESERVED h ≡ true → all_valid unmarked m (walk n m) h ≡ true → Decides n m (a.below ++ (h ∷ a.above)) (entries_by unmarked m h.at) (activate_stores m h) 0
  activating h a e v = activate_decides n m a.below h a.above a.held a.idle e (subst (λ (hs : List Head). all_valid unmarked m hs h ≡ true) a.whole v) a.apart

  activated_course : (o : ℕ) (h : Head) → Amid n m h → Course n m (ltb 0) (stores_of (activate m (walk n m) o h))
  unfolding activate
  activated_course o h a =
      behind_test (Course n m (ltb 0)) (none_made (ltb 0)) (not (has_state RESERVED h)) wrong_state _
      (λ z. behind_test (Course n m (ltb 0)) (none_made (ltb 0)) (not (all_valid unmarked m (walk n m) h)) bad_target _
      (λ v. course_decides n m _ _ _ 0 a.held (activating h a (not-false _ z) (not-false _ v))))

  pub freeing : (h : Head) (a : Amid n m h) → is_waiting h ≡ true → all_valid (freed h) m (walk n m) h ≡ true → Decides n m (a.below ++ (h ∷ a.above)) (entries_by (freed h) m h.at) (free_stores m (walk n m) h) (before_turn m (some h))
  freeing h a e v =
      subst (λ (hs : List Head). Decides n m (a.below ++ (h ∷ a.above)) (entries_by (freed h) m h.at) (free_stores m hs h) (before_turn m (some h))) (sym a.whole)
      (free_decides n m a.below h a.above a.held a.idle a.apart e (subst (λ (hs : List Head). all_valid (freed h) m hs h ≡ true) a.whole v))

  freed_course : (o : ℕ) (h : Head) → Amid n m h → Course n m (ltb (before_turn m (some h))) (stores_of (free m (walk n m) o h))
  unfolding free
  freed_course o h a =
      let b = ltb (before_turn m (some h)) in
      behind_test (Course n m b) (none_made b) (not (is_waiting h)) wrong_state _
      (λ z. behind_test (Course n m b) (none_made b) (not (all_valid (freed h) m (walk n m) h)) bad_target _
      (λ v. course_decides n m _ _ _ _ a.held (freeing h a (not-false _ z) (not-false _ v))))

-- recovery, of any sound pool
pub recover_course : (n : ℕ) (m : Mem) → Sound n m → Course n m never (recover_stores m (walk n m))
unfolding recover_order
recover_course n m s =
    let f = own_fate n m s in
    let r = recovers n (Owned f.kept) f.kept f.words m f.one in
    course_comes n f.kept f.words m never (recover_stores m (walk n m)) r.clumps r.comes r.calm.apart

pub courses : (n : ℕ) (m : Mem) (q : Request) → Sound n m → unsettled (walk n m) ≡ false → is_create q ≡ false → Course n m (is_through m (walk n m) q) (stores_of (verdict n m q))
unfolding verdict
courses n m Create s u c = differ refl c
courses n m (Reserve size) s u c = reserve_course n m s u true size
courses n m (ReserveUncleared size) s u c = reserve_course n m s u false size
courses n m (Grow o size) s u c = grow_course n m s u o size
courses n m (Onactive o t v) s u c =
    behind-settled (Course n m never) (course_none n m never s u) n m _
    (λ y z. behind-found (Course n m never) (course_none n m never s u) (finder (walk n m) o) _ (λ h e. enlist_course n m s u (has_state RESERVED) o t t v h (λ x. target_even t (valid_even (walk n m) t x)) (amid n m _ h s u e)))
courses n m (Onfree o t v) s u c =
    behind-settled (Course n m never) (course_none n m never s u) n m _
    (λ y z. behind-found (Course n m never) (course_none n m never s u) (finder (walk n m) o) _ (λ h e. enlist_course n m s u is_waiting o t (with_mark t) v h (λ x. target_marked t (valid_even (walk n m) t x)) (amid n m _ h s u e)))
courses n m (Withdraw o) s u c =
    behind-settled (Course n m never) (course_none n m never s u) n m _
    (λ y z. behind-found (Course n m never) (course_none n m never s u) (finder (walk n m) o) _ (λ h e. withdraw_course n m s u o h (amid n m _ h s u e)))
courses n m (Activate o) s u c =
    behind-settled (Course n m (ltb 0)) (course_none n m (ltb 0) s u) n m _
    (λ y z. behind-found (Course n m (ltb 0)) (course_none n m (ltb 0) s u) (finder (walk n m) o) _ (λ h e. activated_course n m s u o h (amid n m _ h s u e)))
courses n m (Free o) s u c =
    let b = ltb (before_turn m (finder (walk n m) o)) in
    behind-settled (Course n m b) (course_none n m b s u) n m _
    (λ y z. behind-found (Course n m b) (course_none n m b s u) (finder (walk n m) o) _
    (λ h e. subst (λ (f : Option Head). Course n m (ltb (before_turn m f)) (stores_of (free m (walk n m) o h))) (sym e) (freed_course n m s u o h (amid n m _ h s u e))))
courses n m Check s u c = behind_sound (Course n m never) (course_none n m never s u) n m _ (λ y. course_none n m never s u)
courses n m Recover s u c = behind_sound (Course n m never) (course_none n m never s u) n m _ (λ y. recover_course n m y)
