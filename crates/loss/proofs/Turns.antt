-- Activate and free of a clump, by what their stores come to: one store decides what recovery keeps, those behind it are what recovery would
-- store, and free's joins follow. Before that store free of a RESERVED clump with a marked entry empties the others, which tells recovery
-- nothing; the marked ones are then all that is used. Assumes nothing.
use Rattle.std.specs.Prelude.{ℕ, ◌≡◌, Bool, cond, ◌||◌, length}
use Rattle.std.proofs.Math.Path.{refl, ap, subst}
use Rattle.std.proofs.Common.{sym, ◌∙◌, arith}
use Rattle.std.proofs.Math.Bool.{true, false}
use mathlib.Core.List.{List, [], ◌∷◌, ◌++◌, map, append_assoc}
use Rattle.std.proofs.Math.Option.{some}
use Rattle.std.proofs.lemmas.List.{length-map}
use Rattle.std.proofs.Math.Seq.{take-length}
use borrow.Author.Tests.{eqb-true}
use Rattle.rules.specs.Lists.{Each}
use Rattle.rules.specs.Words.{Mem, Store, store, upd, after}
use Rattle.rules.specs.Clumps.{Head, state_at, has_state, is_free, is_waiting, slots, used, marked, unmarked, due, freed, slots_by, entry, entries_by, Choice, FREE, RESERVED, ACTIVATING, ACTIVE, FREEING}
use Rattle.rules.specs.Sound.{is_valid, all_valid, touching, list_bad}
use Rattle.rules.specs.Stores.{set_state, emptying, finish_activating, finish_freeing, activate_stores, has_marked, drop_stores, free_after, free_before, join_both, free_stores}
use Rattle.rules.specs.Reading.{Listed, listed_at, listing}
use Rattle.rules.specs.Traces.{before_turn}
use Rattle.laws.specs.Searches.{differ, those_each, those_nil, any_none, each_map, each_right}
use Rattle.laws.specs.Choices.{chooses_due, chooses_marked, chooses_unmarked, chosen_used, marked_apart, those_marked}
use Rattle.laws.specs.Headers.{targets_same, entries_same, finish_activating_same, finish_freeing_same}
use Rattle.laws.specs.Stored.{with_state}
use Rattle.loss.specs.Orders.{active_order, drop_order}
use Rattle.loss.specs.Held.{Held, Idle, Pends}
use Rattle.loss.specs.Fates.{Kept, is_kept, fates, Beyond, Owned}
use Rattle.loss.specs.Parts.{front_slots, state_word, each_other}
use Rattle.loss.specs.Redo.{after-at}
use Rattle.loss.specs.Emptied.{InList, slots_in, all_emptied, Fades, fades, faded_listing}
use Rattle.loss.specs.Entries.{InOrder, Good, list_good, good_list, good_alike, unjudged}
use Rattle.loss.specs.Targets.{valid_entries, entries_valid}
use Rattle.loss.proofs.Finishing.{activated_led, freed_led}
use Rattle.loss.specs.Turning.{state_rests, begins}
use Rattle.loss.specs.Calm.{touching_sides, touching_like}
use Rattle.loss.specs.Neighbours.{next_free, last_free, free-after, free_before_lem}
use Rattle.loss.proofs.Freeing.{Ends, both_joined}
use Rattle.loss.proofs.Recovering.{Comes, comes_none, comes_then}
use Rattle.loss.proofs.Listing.{emptying_comes}
use Rattle.loss.specs.Owning.{rests_as, leads_as, owned_beyond}
use Rattle.loss.proofs.Courses.{Outside, Decides, decides}

-- a state that waits, and is not the one
other : (b : Bool) {c : Bool} → (b || c) ≡ true → c ≡ false → b ≡ true
other true f g = refl
other false f g = differ f g

-- a list begins to be carried out in the memory y of a pool at rest
module _ (n : ℕ) (y : Mem) (p : List Head) (h : Head) (q : List Head) (held : Held n y (p ++ (h ∷ q))) (idle : Each Idle (p ++ (h ∷ q))) where
  abbrev hs : List Head
  hs = p ++ (h ∷ q)

  -- the pool then, and what recovery will make of it
  abbrev begun : ℕ → Mem
  begun s = upd y (state_at h.at) s

  abbrev kept : ℕ → List Kept
  kept s = fates (begun s) (p ++ (with_state h s ∷ q))

  abbrev words : ℕ → Mem
  words s = after (begun s) (entries_by (due (with_state h s)) (begun s) h.at)

  own_good : list_bad n y h ≡ false
  own_good = (each_right (λ g. list_bad n y g ≡ false) p (h ∷ q) held.lists).0

  kept_beyond : (s : ℕ) → Pends n (begun s) p (with_state h s) q → (o : ℕ) → Owned (kept s) o → Outside hs o
  kept_beyond s f o d = each_other (Beyond o) p (with_state h s) h q (λ b. b) (owned_beyond n (begun s) (p ++ (with_state h s ∷ q)) f.held.tiles o d)

  beyond_kept : (s o : ℕ) → Outside hs o → Outside (p ++ (with_state h s ∷ q)) o
  beyond_kept s o d = each_other (Beyond o) p h (with_state h s) q (λ b. b) d

  -- the words that recovery will leave outside the headers: the entries that are due are carried out
  words-made : (s o : ℕ) → Outside hs o → words s o ≡ after y (entries_by (due (with_state h s)) y h.at) o
  words-made s o d =
      let c = due (with_state h s) in
      ap (λ (st : List Store). after (begun s) st o)
      (entries_same c (chooses_due (with_state h s)) y (begun s) (slots h.at) (front_slots y h.at (state_at h.at) s (omega arith)))
      ∙ after-at y (begun s) (entries_by c y h.at) o (state_word n y p h q s held o d)

  -- activate: the marked ones of the used entries wait
  module _ (reserved : has_state RESERVED h ≡ true) (valid : all_valid unmarked y hs h ≡ true) where
    waits_marked : list_bad n (begun ACTIVATING) (with_state h ACTIVATING) ≡ false
    waits_marked =
        let z : Good used n y (slots h.at) = rw (eqb-true h.state RESERVED reserved) at (list_good n y h own_good) in
        good_list n (begun ACTIVATING) (with_state h ACTIVATING)
        (good_alike marked n y (begun ACTIVATING) (slots h.at)
        (targets_same used refl y (begun ACTIVATING) (slots h.at) (front_slots y h.at (state_at h.at) ACTIVATING (omega arith)))
        (each_map (InOrder used n y) (InOrder marked n y) (slots h.at) (λ s e i. e (chosen_used marked (y s) chooses_marked i)) z))

    activating : Pends n (begun ACTIVATING) p (with_state h ACTIVATING) q
    activating = let z = eqb-true h.state RESERVED reserved in begins n y p h q ACTIVATING held idle (omega arith) refl (rw z) waits_marked valid

    activates : Comes n (Outside hs) (kept ACTIVATING) (words ACTIVATING) (begun ACTIVATING) (finish_activating y h) (p ++ (with_state h ACTIVE ∷ q))
    unfolding active_order finish_activating
    activates =
        let x = begun ACTIVATING in
        let f = leads_as n (Outside hs) x p (with_state h ACTIVATING) q activating (beyond_kept ACTIVATING) in
        let c = activated_led n (Outside hs) (kept ACTIVATING) (words ACTIVATING) x p (with_state h ACTIVATING) q f refl in
        let e = finish_activating_same n y x hs h (front_slots y h.at (state_at h.at) ACTIVATING (omega arith)) in
        subst (λ (st : List Store). Comes n (Outside hs) (kept ACTIVATING) (words ACTIVATING) x st (p ++ (with_state h ACTIVE ∷ q))) e (record { every = c.0; ends = c.1 })

    pub activate_decides : touching hs ≡ false → Decides n y hs (entries_by unmarked y h.at) (activate_stores y h) 0
    unfolding activate_stores after
    activate_decides t =
        let z = eqb-true h.state RESERVED reserved in
        let i : is_free (with_state h ACTIVE) ≡ is_free h = rw z in
        decides n y hs (entries_by unmarked y h.at) [] (set_state h ACTIVATING) (finish_activating y h) (kept ACTIVATING) (words ACTIVATING) (p ++ (with_state h ACTIVE ∷ q))
        (comes_none n (Outside hs) (fates y hs) y y hs (rests_as n (Outside hs) y hs held idle (λ o d. d)))
        (words-made ACTIVATING) (kept_beyond ACTIVATING activating) activates (touching_like p h (with_state h ACTIVE) q i t)

  -- free, with every used entry
  module _ (live : is_free h ≡ false) (valid : all_valid used y hs h ≡ true) where
    freeing : Pends n (begun FREEING) p (with_state h FREEING) q
    freeing = begins n y p h q FREEING held idle (omega arith) refl (sym live) (unjudged n (begun FREEING) (with_state h FREEING) refl refl) valid

    frees : Comes n (Outside hs) (kept FREEING) (words FREEING) (begun FREEING) (finish_freeing used y h) (p ++ (with_state h FREE ∷ q))
    unfolding finish_freeing
    frees =
        let x = begun FREEING in
        let f = leads_as n (Outside hs) x p (with_state h FREEING) q freeing (beyond_kept FREEING) in
        let c = freed_led n (Outside hs) (kept FREEING) (words FREEING) x p (with_state h FREEING) q f refl in
        let e = finish_freeing_same n y x hs used refl h (front_slots y h.at (state_at h.at) FREEING (omega arith)) in
        subst (λ (st : List Store). Comes n (Outside hs) (kept FREEING) (words FREEING) x st (p ++ (with_state h FREE ∷ q))) e (record { every = c.0; ends = c.1 })

    -- and the joins
    freed_ends : touching hs ≡ false → Ends n (Outside hs) (kept FREEING) (words FREEING) (begun FREEING) (finish_freeing used y h ++ join_both (next_free q) (last_free p) h)
    freed_ends t =
        let k = kept FREEING in
        let w = words FREEING in
        let s = touching_sides p h q t in
        let d = both_joined n (Outside hs) k w (after (begun FREEING) (finish_freeing used y h)) p h q s.0 s.1 frees.ends in
        record { clumps = d.clumps; comes = comes_then n (Outside hs) k w (begun FREEING) (finish_freeing used y h) _ (p ++ (with_state h FREE ∷ q)) d.clumps frees d.comes; apart = d.apart }

module _ (n : ℕ) (m : Mem) (p : List Head) (h : Head) (q : List Head) (held : Held n m (p ++ (h ∷ q))) (idle : Each Idle (p ++ (h ∷ q))) (t : touching (p ++ (h ∷ q)) ≡ false) where
  abbrev ks : List Head
  ks = p ++ (h ∷ q)

  -- free's joins
  abbrev joins : List Store
  joins = join_both (next_free q) (last_free p) h

  joins_are : join_both (free_after ks h) (free_before ks h) h ≡ joins
  joins_are = rw (free-after _ n p h q held.tiles, free_before_lem _ n p h q held.tiles)

  -- stores that tell recovery nothing, and leave the memory y
  module _ (a : List Store) (early : Comes n (Outside ks) (fates m ks) m m a ks) (live : is_free h ≡ false) where
    abbrev y : Mem
    y = after m a

    by_freeing : all_valid used y ks h ≡ true → Decides n m ks (entries_by used y h.at) (a ++ (set_state h FREEING ∷ (finish_freeing used y h ++ joins))) (length a)
    by_freeing v =
        let f = early.ends in
        let d = freed_ends n y p h q f.held idle live v t in
        decides n m ks (entries_by used y h.at) a (set_state h FREEING) (finish_freeing used y h ++ joins) (kept n y p h q f.held idle FREEING) (words n y p h q f.held idle FREEING) d.clumps early
        (λ o b. words-made n y p h q f.held idle FREEING o b ∙ after-at m y (entries_by used y h.at) o (f.words o b))
        (kept_beyond n y p h q f.held idle FREEING (freeing n y p h q f.held idle live v)) d.comes d.apart

  rests : Comes n (Outside ks) (fates m ks) m m [] ks
  rests = comes_none n (Outside ks) (fates m ks) m m ks (rests_as n (Outside ks) m ks held idle (λ o d. d))

  -- of an ACTIVE clump
  active_decides : has_state ACTIVE h ≡ true → all_valid used m ks h ≡ true → Decides n m ks (entries_by used m h.at) ((set_state h FREEING ∷ finish_freeing used m h) ++ joins) 0
  unfolding after
  active_decides e v = let z = eqb-true h.state ACTIVE e in by_freeing [] rests (rw z) v

  -- of a RESERVED clump
  module _ (reserved : has_state RESERVED h ≡ true) where
    not_kept : is_kept h ≡ false
    not_kept = let z = eqb-true h.state RESERVED reserved in rw z

    -- without a marked entry
    bare_decides : has_marked m h ≡ false → Decides n m ks (entries_by marked m h.at) ((set_state h FREE ∷ []) ++ joins) 0
    unfolding after
    bare_decides e =
        let none : entries_by marked m h.at ≡ [] = ap (map (entry m)) (those_nil (λ s. marked (m s)) (slots h.at) (any_none (λ s. marked (m s)) (slots h.at) e)) in
        let k = fates m ks in
        let f = rests_as n (Outside ks) m ks held idle (λ o d. d) in
        let g = state_rests n (Outside ks) k m m p h q FREE f (omega arith) refl not_kept refl (unjudged n (upd m (state_at h.at) FREE) (with_state h FREE) refl refl) in
        let s = touching_sides p h q t in
        let d = both_joined n (Outside ks) k m (upd m (state_at h.at) FREE) p h q s.0 s.1 g in
        decides n m ks (entries_by marked m h.at) [] (set_state h FREE) joins k m d.clumps rests (λ o b. ap (λ (st : List Store). after m st o) (sym none)) (owned_beyond n m ks held.tiles) d.comes d.apart

    -- with one: the unmarked ones are emptied
    abbrev sl : List ℕ
    sl = slots_by unmarked m h.at

    abbrev x : Mem
    x = after m (emptying sl)

    emptied : Comes n (Outside ks) (fates m ks) m m (emptying sl) ks
    emptied =
        emptying_comes n (Outside ks) (fates m ks) m p h q not_kept sl m (those_each (InList h.at) (λ s. unmarked (m s)) (slots h.at) (slots_in h.at))
        (rests_as n (Outside ks) m ks held idle (λ o d. d))

    left : listing used x h.at ≡ listing marked m h.at
    left =
        ap (map (listed_at x)) (those_marked x (slots h.at) (all_emptied unmarked chooses_unmarked m h.at))
        ∙ faded_listing unmarked marked marked_apart chooses_marked m x (slots h.at)
        (subst (λ (l : List ℕ). Each (Fades unmarked m (after m (emptying l))) (slots h.at)) (take-length sl) (fades unmarked m h.at (length sl)))

    assigns : (c : Choice) (z : Mem) → map (λ (l : Listed). l.assigns) (listing c z h.at) ≡ entries_by c z h.at
    assigns c z = go (slots_by c z h.at)
      where
        go : (ss : List ℕ) → map (λ (l : Listed). l.assigns) (map (listed_at z) ss) ≡ map (λ s. (listed_at z s).assigns) ss
        go [] = refl
        go (s ∷ ss) = ap (λ (st : List Store). (listed_at z s).assigns ∷ st) (go ss)

    entries_left : entries_by used x h.at ≡ entries_by marked m h.at
    entries_left = sym (assigns used x) ∙ ap (map (λ (l : Listed). l.assigns)) left ∙ assigns marked m

    marked_decides :
        all_valid marked m ks h ≡ true
        → Decides n m ks (entries_by marked m h.at) ((emptying sl ++ (set_state h FREEING ∷ finish_freeing marked m h)) ++ joins) (length sl)
    unfolding finish_freeing
    marked_decides v =
        let z = eqb-true h.state RESERVED reserved in
        let u = entries_valid used x ks h (subst (Each (λ s. is_valid ks s.to ≡ true)) (sym entries_left) (valid_entries marked m ks h v)) in
        let e : finish_freeing used x h ≡ finish_freeing marked m h = ap (λ (st : List Store). st ++ (set_state h FREE ∷ [])) entries_left in
        let es = entries_by marked m h.at in
        subst (λ (j : ℕ). Decides n m ks es ((emptying sl ++ (set_state h FREEING ∷ finish_freeing marked m h)) ++ joins) j) (length-map sl (λ s. store s 0))
        (subst (λ (st : List Store). Decides n m ks es st (length (emptying sl))) (sym (append_assoc (emptying sl) (set_state h FREEING ∷ finish_freeing marked m h) joins))
        (subst (λ (st : List Store). Decides n m ks es (emptying sl ++ (set_state h FREEING ∷ (st ++ joins))) (length (emptying sl))) e
        (subst (λ (st : List Store). Decides n m ks st (emptying sl ++ (set_state h FREEING ∷ (finish_freeing used x h ++ joins))) (length (emptying sl))) entries_left
        (by_freeing (emptying sl) emptied (rw z) u))))

  -- of any
  dropped_decides : is_waiting h ≡ true → all_valid (freed h) m ks h ≡ true → Decides n m ks (entries_by (freed h) m h.at) (drop_order m h ++ joins) (before_turn m (some h))
  unfolding drop_order drop_stores
  dropped_decides w v = go (has_state ACTIVE h) refl (has_marked m h) refl v
    where
      go :
          (b : Bool)
          → has_state ACTIVE h ≡ b
          → (c : Bool)
          → has_marked m h ≡ c
          → all_valid (cond b used marked) m ks h ≡ true
          → Decides n m ks (entries_by (cond b used marked) m h.at)
          (cond b
          (set_state h FREEING ∷ finish_freeing used m h)
          (cond c (emptying (slots_by unmarked m h.at) ++ (set_state h FREEING ∷ finish_freeing marked m h)) (set_state h FREE ∷ []))
          ++ joins)
          (cond b 0 (cond c (length (slots_by unmarked m h.at)) 0))
      go true e c i v = active_decides e v
      go false e true i v = marked_decides (other (has_state RESERVED h) w e) v
      go false e false i v = bare_decides (other (has_state RESERVED h) w e) i

  pub free_decides : is_waiting h ≡ true → all_valid (freed h) m ks h ≡ true → Decides n m ks (entries_by (freed h) m h.at) (free_stores m ks h) (before_turn m (some h))
  unfolding free_stores drop_order
  free_decides w v = rw joins_are (dropped_decides w v)
