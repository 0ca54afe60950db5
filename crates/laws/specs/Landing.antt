-- Where the stores of a request land: in the header of a clump, in the FREE clump that is split, or at the words that the list being
-- carried out names; create's apart. What holds of every such store holds of each store of the request. By cases on the requests.
-- Assumes nothing.
use Rattle.std.specs.Prelude.{ℕ, ◌<◌, ◌≡◌, Bool, not, cond, List, [], ◌∷◌, ◌++◌, map}
use Rattle.std.proofs.Math.Path.{refl}
use Rattle.std.proofs.Common.{sym, ap, subst, ◌∙◌, arith}
use Rattle.std.proofs.Math.Bool.{true, false}
use Rattle.std.proofs.Math.Option.{Option, some, none}
use borrow.Author.Tests.{eqb-true, leb-true, not-false}
use Rattle.rules.specs.declared.Request.{Request}
use Rattle.rules.specs.declared.Request.TheVariants.{Create, Reserve, ReserveUncleared, Grow, Onactive, Onfree, Withdraw, Activate, Free, Check, Recover}
use Rattle.rules.specs.Lists.{seek, those, Each}
use Rattle.rules.specs.Words.{Mem, Store, store, word_values}
use Rattle.rules.specs.Pages.{clumps_at, right_length}
use Rattle.rules.specs.Clumps.{Head, end_of, is_free, is_waiting, is_pending, slots, Choice, used, marked, unmarked, with_mark, due, freed, slots_by, entries_by, has_state, FREE, RESERVED, ACTIVATING, ACTIVE, FREEING, walk, next_of, before_of}
use Rattle.rules.specs.Sound.{is_valid, all_valid}
use Rattle.rules.specs.Answers.{Verdict, stores_of, if_settled, not_pool, wrong_state, bad_target}
use Rattle.rules.specs.Stores.{set_state, create_stores, need_of, finish_activating, finish_freeing, activate_stores, has_marked, drop_stores, emptying, free_after, free_before, join_both, free_stores, finishing, releasing, released, runs, joining, recover_stores}
use Rattle.rules.specs.Requests.{Numbers, reserve, grow, finder, found, open_slot, enlist, withdraw, activate, free, verdict}
use Rattle.rules.specs.Traces.{is_create}
use Rattle.rules.specs.Demands.{entries_of, carried_out}
use Rattle.laws.specs.Searches.{those_each, and_both, seek_each, seek_split, each_append, each_map, each_both, map_each}
use Rattle.laws.specs.Walks.{no_faults}
use Rattle.laws.specs.Neighbours.{if_free_lem}
use Rattle.laws.specs.Mending.{targets_valid, tiles_released}
use Rattle.laws.specs.Needs.{need_least, need_even, need_body}
use Rattle.laws.specs.Behind.{behind_test, behind_sound, behind-settled, behind-found}
use Rattle.laws.specs.Pools.{Sound, pool_length, pool_tiles}
use Rattle.laws.specs.Lying.{Lies, all_lie, valid_even}
use Rattle.laws.specs.Spans.{runs_tile, runs-first}
use Rattle.laws.specs.Choices.{mark_word, open_each}
use Rattle.laws.specs.Granted.{Reserves, Enlarges, enough, takes, Grows, fair_stores, fair_reserve, fair_grow}
use Rattle.laws.specs.Taking.{Takes, Slot, slots_in, chosen_in, In, state_lands, size_lands, emptying_lands, reserve_lands, grow_lands, listed_lands, withdrawn_lands, activated_lands, freed_lands, both_lands, joining_lands}

-- on a pool whose clumps take the stores
module _ (P : Store → Type 0) (N : Type 0) (n : ℕ) (m : Mem) (heads : Sound n m → Each (Takes P N) (walk n m)) where
  all_in : Sound n m → Each (In P N n) (walk n m)
  all_in s = each_both (Lies n) (Takes P N) (walk n m) (all_lie n m s) (heads s)

  found_in : Sound n m → (p : Head → Bool) (h : Head) → seek p (walk n m) ≡ some h → In P N n h
  found_in s p h e = seek_each (In P N n) p (walk n m) h e (all_in s)

  -- chosen entries whose targets are valid are carried out
  abbrev Carries : Choice → Head → Type 0
  Carries c h = all_valid c m (walk n m) h ≡ true → Each P (entries_by c m h.at)

  -- each request, from the clump that was found on
  placing_lands : (clears : Bool) (size : ℕ) → Each P (stores_of (if_settled n m (reserve clears (walk n m) size)))
  placing_lands clears size =
      fair_stores (Reserves clears n m size) (Each P) tt
      (λ p st g. let h = g.clump in
      let x = and_both (is_free h) _ (seek_split _ (walk n m) h g.found).passes in
      subst (Each P) (sym g.stores)
      (reserve_lands P N n clears (need_of size) h (found_in g.sound _ h g.found) x.0 (need_even size) (need_least size) (leb-true (need_of size) h.nbytes x.1)))
      (if_settled n m (reserve clears (walk n m) size)) (fair_reserve clears n m size)

  -- the next clump of one that was found, if it is FREE
  next_in : Sound n m → (h next : Head) → free_after (walk n m) h ≡ some next → In P N n next × (next.at ≡ end_of h)
  next_in s h next e = let x = (if_free_lem (next_of (walk n m) h) next e).0 in (found_in s _ next x, eqb-true next.at (end_of h) (seek_split _ (walk n m) next x).passes)

  growing_lands : (o size : ℕ) → Each P (stores_of (if_settled n m (grow (walk n m) o size)))
  growing_lands o size =
      fair_stores (Grows n m o size) (Each P) tt
      (λ p st g. go g.sound g.clump (found_in g.sound _ g.clump g.found) st g.stores) (if_settled n m (grow (walk n m) o size)) (fair_grow n m o size)
    where
      go : Sound n m → (h : Head) → In P N n h → (st : List Store) → Enlarges n m size h st → Each P st
      go s h t st (enough l) = tt
      go s h t st (takes next l e r) =
          let x = next_in s h next e in
          grow_lands P N n (need_of size) h next t x.0 (if_free_lem (next_of (walk n m) h) next e).1 x.1 (need_even size) (omega (arith, l, need_body size)) r

  enlist_lands : (a : Head → Bool) (p t u v : ℕ) (h : Head) → In P N n h → (is_valid (walk n m) t ≡ true → N → u < word_values) → (N → v < word_values) → Each P (stores_of (enlist m (walk n m) a p t u v h))
  unfolding enlist
  enlist_lands a p t u v h i k l =
      behind_test (Each P) tt (not (a h)) wrong_state _
      (λ z. listed_lands P N n h i (is_valid (walk n m) t) (open_slot m (slots h.at)) p u v (λ x e. open_each m (Slot h) (slots h.at) x e (slots_in n h i.0)) k l)

  withdraw_lands : (p : ℕ) (h : Head) → In P N n h → Each P (stores_of (withdraw m p h))
  unfolding withdraw
  withdraw_lands p h t = behind_test (Each P) tt (not (is_waiting h)) wrong_state _ (λ z. withdrawn_lands P N n h t (slots_by used m h.at) p (chosen_in n used m h t.0))

  activate_lands : (p : ℕ) (h : Head) → In P N n h → (has_state RESERVED h ≡ true → Carries unmarked h) → Each P (stores_of (activate m (walk n m) p h))
  unfolding activate activate_stores
  activate_lands p h t e =
      behind_test (Each P) tt (not (has_state RESERVED h)) wrong_state _
      (λ z. behind_test (Each P) tt (not (all_valid unmarked m (walk n m) h)) bad_target _
      (λ q. (state_lands P N n h t ACTIVATING (omega arith), activated_lands P N n m h t (e (not-false _ z) (not-false _ q)))))

  drop_lands : (h : Head) → In P N n h → Each P (entries_by (freed h) m h.at) → Each P (drop_stores m h)
  unfolding drop_stores
  drop_lands h t e = go (has_state ACTIVE h) (has_marked m h) e
    where
      by_freeing : (c : Choice) → Each P (entries_by c m h.at) → Each P (set_state h FREEING ∷ finish_freeing c m h)
      by_freeing c f = (state_lands P N n h t FREEING (omega arith), freed_lands P N n m h t c f)

      go :
          (a b : Bool)
          → Each P (entries_by (cond a used marked) m h.at)
          → Each P
          (cond a
          (set_state h FREEING ∷ finish_freeing used m h)
          (cond b (emptying (slots_by unmarked m h.at) ++ (set_state h FREEING ∷ finish_freeing marked m h)) (set_state h FREE ∷ [])))
      go true b f = by_freeing used f
      go false true f =
          each_append P (emptying (slots_by unmarked m h.at)) (set_state h FREEING ∷ finish_freeing marked m h)
          (emptying_lands P N n h t (slots_by unmarked m h.at) (chosen_in n unmarked m h t.0)) (by_freeing marked f)
      go false false f = (state_lands P N n h t FREE (omega arith), tt)

  free_lands : Sound n m → (p : ℕ) (h : Head) → In P N n h → (is_waiting h ≡ true → Carries (freed h) h) → Each P (stores_of (free m (walk n m) p h))
  unfolding free free_stores
  free_lands s p h t e =
      behind_test (Each P) tt (not (is_waiting h)) wrong_state _
      (λ z. behind_test (Each P) tt (not (all_valid (freed h) m (walk n m) h)) bad_target _
      (λ q. each_append P (drop_stores m h) (join_both (free_after (walk n m) h) (free_before (walk n m) h) h) (drop_lands h t (e (not-false _ z) (not-false _ q)))
      (both_lands P N n (free_after (walk n m) h) (free_before (walk n m) h) h t
      (next_in s h)
      (λ k i. let x = (if_free_lem (before_of (walk n m) h) k i).0 in (found_in s _ k x, eqb-true (end_of k) h.at (seek_split _ (walk n m) k x).passes)))))

  finishing_lands : Sound n m → (o : Option Head) → seek is_pending (walk n m) ≡ o → ((h : Head) → o ≡ some h → Carries (due h) h) → Each P (finishing m o)
  finishing_lands s none e f = tt
  finishing_lands s (some h) e f =
      go (found_in s is_pending h e) (has_state ACTIVATING h) (f h refl (targets_valid m (walk n m) h e (no_faults n m s.sound).targets))
    where
      go : In P N n h → (c : Bool) → Each P (entries_by (cond c unmarked used) m h.at) → Each P (cond c (finish_activating m h) (finish_freeing used m h))
      go t true v = activated_lands P N n m h t v
      go t false v = freed_lands P N n m h t used v

  recover_lands : Sound n m → ((h : Head) → seek is_pending (walk n m) ≡ some h → Carries (due h) h) → Each P (recover_stores m (walk n m))
  unfolding recover_stores releasing
  recover_lands s f =
      each_append P (finishing m (seek is_pending (walk n m))) (releasing (walk n m) ++ joining (runs (map released (walk n m))))
      (finishing_lands s (seek is_pending (walk n m)) refl f)
      (each_append P (releasing (walk n m)) (joining (runs (map released (walk n m))))
      (map_each P (λ h. set_state h FREE) (those (has_state RESERVED) (walk n m))
      (those_each (λ h. P (set_state h FREE)) (has_state RESERVED) (walk n m) (each_map (In P N n) (λ h. P (set_state h FREE)) (walk n m) (λ h t. state_lands P N n h t FREE (omega arith)) (all_in s))))
      (joining_lands P N n clumps_at n (runs (map released (walk n m))) (omega (arith, (pool_length n m s.pool).most))
      (runs_tile clumps_at n (map released (walk n m)) (tiles_released clumps_at n (walk n m) (pool_tiles n m s)))
      (runs-first Sized (map released (walk n m)) (map_each Sized released (walk n m) (each_map (In P N n) (λ h. Sized (released h)) (walk n m) (size_lands P N n) (all_in s))))))
    where
      Sized : Head → Type 0
      Sized h = (w : ℕ) → w < word_values → P (store h.at w)

  -- a request on the clump that the finder finds
  asked_lands :
      (o : ℕ) (go : Head → Verdict)
      → (Sound n m → (h : Head) → finder (walk n m) o ≡ some h → In P N n h → Each P (stores_of (go h)))
      → Each P (stores_of (if_settled n m (found (finder (walk n m) o) go)))
  asked_lands o go f = behind-settled (Each P) tt n m _ (λ s c. behind-found (Each P) tt (finder (walk n m) o) go (λ h e. f s h e (found_in s _ h e)))

  -- the entries that a search names
  entries_if : (t : Head → Bool) (c : Head → Choice) (o : Option Head) (h : Head) → o ≡ some h → t h ≡ true → entries_of t c m o ≡ entries_by (c h) m h.at
  entries_if t c o h e z = ap (entries_of t c m) e ∙ ap (λ (b : Bool). cond b (entries_by (c h) m h.at) []) z

  -- every request
  pub lands :
      (q : Request)
      → (N → Numbers q)
      → (is_create q ≡ true → right_length n ≡ true → Each P (create_stores n))
      → ((c : Choice) (h : Head) → Sound n m → carried_out m (walk n m) q ≡ entries_by c m h.at → Carries c h)
      → Each P (stores_of (verdict n m q))
  unfolding verdict
  lands Create k c f = behind_test (Each P) tt (not (right_length n)) not_pool _ (λ e. c refl (not-false _ e))
  lands (Reserve size) k c f = placing_lands true size
  lands (ReserveUncleared size) k c f = placing_lands false size
  lands (Grow o size) k c f = growing_lands o size
  lands (Onactive o t v) k c f = asked_lands o _ (λ s h e i. enlist_lands (has_state RESERVED) o t t v h i (λ y z. (k z).1) (λ z. (k z).2))
  lands (Onfree o t v) k c f = asked_lands o _ (λ s h e i. enlist_lands is_waiting o t (with_mark t) v h i (λ y z. mark_word t (valid_even (walk n m) t y) (k z).1) (λ z. (k z).2))
  lands (Withdraw o) k c f = asked_lands o _ (λ s h e i. withdraw_lands o h i)
  lands (Activate o) k c f = asked_lands o _ (λ s h e i. activate_lands o h i (λ z. f unmarked h s (entries_if (has_state RESERVED) (λ j. unmarked) _ h e z)))
  lands (Free o) k c f = asked_lands o _ (λ s h e i. free_lands s o h i (λ z. f (freed h) h s (entries_if is_waiting freed _ h e z)))
  lands Check k c f = behind_sound (Each P) tt n m _ (λ s. tt)
  lands Recover k c f = behind_sound (Each P) tt n m _ (λ s. recover_lands s (λ h e. f (due h) h s (entries_if is_pending due _ h e (seek_split is_pending (walk n m) h e).passes)))
