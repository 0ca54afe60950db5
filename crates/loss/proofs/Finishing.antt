-- Carrying a list out, cut after any store: recovery still leaves what it would have left, and the last store brings the clump to rest.
-- By the laws of its parts. Assumes nothing.
use Rattle.std.specs.Prelude.{ℕ, zero, suc, ◌≤◌, ◌≡◌, cond, ◌||◌, length, take}
use Rattle.std.proofs.Math.Path.{refl, sym, ap, subst}
use Rattle.std.proofs.Common.{◌∙◌, arith}
use Rattle.std.proofs.Math.Bool.{true, false}
use Rattle.std.proofs.Math.Logic.{⊎_elim}
use Rattle.std.proofs.Math.Option.{some}
use mathlib.Core.List.{List, [], ◌∷◌, ◌++◌, map}
use Rattle.std.proofs.Math.Dec.{eqb}
use Rattle.std.proofs.Math.Seq.{take-length}
use Rattle.rules.specs.Lists.{Each}
use Rattle.rules.specs.Words.{Mem, Store, store, upd, after}
use Rattle.rules.specs.Clumps.{Head, state_at, has_state, slots, Choice, used, marked, unmarked, nothing, due, waiting, slots_by, entry, entries_by, RESERVED, ACTIVATING, ACTIVE, FREEING, FREE}
use Rattle.rules.specs.Sound.{list_bad}
use Rattle.rules.specs.Stores.{emptying, set_state, finish_activating, finish_freeing, finishing}
use Rattle.rules.specs.Reading.{Listed, listed_at, listing}
use Rattle.word.specs.Memory.{after-append}
use Rattle.laws.specs.Searches.{each_append, each_right, each_map, each_both, those_nil}
use Rattle.laws.specs.Choices.{chooses_due, used-marked, those_marked}
use Rattle.laws.specs.Headers.{targets_same, listing-same}
use Rattle.laws.specs.Stored.{with_state}
use Rattle.laws.specs.Mending.{settle}
use Rattle.loss.specs.Cuts.{Every, every_append, cuts_every}
use Rattle.loss.specs.Orders.{active_order}
use Rattle.loss.specs.Held.{Idle}
use Rattle.loss.specs.Fates.{Kept, is_kept, fates, fates_none, fates_one, Beyond, Rests, Leads, Led, resting, leading}
use Rattle.loss.specs.Parts.{front_slots, held_state, fates_state, state_word, each_other}
use Rattle.loss.specs.Entries.{InOrder, Good, good_alike, list_good, good_list, unjudged}
use Rattle.loss.specs.Emptied.{all_emptied}
use Rattle.loss.specs.Carrying.{due-same, assigned_leads, assigning, busy, emptying_leads}

-- a beginning of the stores that empty a list
take-map : (j : ℕ) (sl : List ℕ) → take j (emptying sl) ≡ emptying (take j sl)
take-map zero sl = refl
take-map (suc j) [] = refl
take-map (suc j) (s ∷ sl) = ap (λ (l : List Store). store s 0 ∷ l) (take-map j sl)

-- the store that brings the clump to rest
module _ (n : ℕ) (D : ℕ → Type 0) (k : List Kept) (w y : Mem) (p : List Head) (h : Head) (q : List Head) (s : ℕ) where
  to_rest :
      Leads n D k w y p h q
      → s ≤ FREEING
      → Idle (with_state h s)
      → list_bad n (upd y (state_at h.at) s) (with_state h s) ≡ false
      → fates (upd y (state_at h.at) s) (with_state h s ∷ []) ≡ fates y (h ∷ [])
      → ((o : ℕ) → D o → y o ≡ w o)
      → Rests n D k w (upd y (state_at h.at) s) (p ++ (with_state h s ∷ q))
  to_rest f l i b g u =
      let e = f.pends.held in
      record {
        held = held_state n y p h q s e l b;
        idle = each_append Idle p (with_state h s ∷ q) f.pends.below (i, f.pends.above);
        kept = fates_state n y p h q s e g ∙ f.kept;
        words = λ o d. state_word n y p h q s e o (f.off o d) ∙ u o d;
        off = λ o d. each_other (Beyond o) p h (with_state h s) q (λ c. c) (f.off o d);
      }

-- which entries are due, and which wait, in each state
due-activating : (h : Head) → h.state ≡ ACTIVATING → due h ≡ unmarked
due-activating h z = ap (λ (s : ℕ). cond (eqb s ACTIVATING) unmarked used) z

due-freeing : (h : Head) → h.state ≡ FREEING → due h ≡ used
due-freeing h z = ap (λ (s : ℕ). cond (eqb s ACTIVATING) unmarked used) z

waits_activating : (h : Head) → h.state ≡ ACTIVATING → waiting h ≡ marked
waits_activating h z = ap (λ (s : ℕ). cond (eqb s RESERVED || eqb s ACTIVE) used (cond (eqb s ACTIVATING) marked nothing)) z

-- the list carried out and the clump at rest, cut after any store
module _ (n : ℕ) (D : ℕ → Type 0) (k : List Kept) (w m : Mem) (p : List Head) (h : Head) (q : List Head) (f : Leads n D k w m p h q) where
  abbrev st : List Store
  st = entries_by (due h) m h.at

  abbrev u : List ℕ
  u = slots_by (due h) m h.at

  assigned_every : Every (Led n D k w) m st
  assigned_every = cuts_every (Led n D k w) m st (λ j. leading (assigning n D k w m p h q f j))

  -- ACTIVATING
  emptied_every : h.state ≡ ACTIVATING → Every (Led n D k w) (after m st) (emptying u)
  emptied_every z =
      cuts_every (Led n D k w) (after m st) (emptying u)
      (λ j. subst (λ (l : List Store). Led n D k w (after (after m st) l)) (sym (take-map j u)) (leading (emptying_leads n D k w m p h q f z j)))

  -- the list, once what was due is emptied
  abbrev y : Mem
  y = after (after m st) (emptying u)

  none_due : Each (λ s. due h (y s) ≡ false) (slots h.at)
  none_due =
      subst (λ (sl : List ℕ). Each (λ s. due h (after (after m st) (emptying sl) s) ≡ false) (slots h.at)) (due-same n D k w m p h q f)
      (all_emptied (due h) (chooses_due h) (after m st) h.at)

  emptied_all : entries_by (due h) y h.at ≡ []
  emptied_all = ap (map (entry y)) (those_nil (λ s. due h (y s)) (slots h.at) none_due)

  emptied_leads : h.state ≡ ACTIVATING → Leads n D k w y p h q
  emptied_leads z =
      subst (λ (sl : List ℕ). Leads n D k w (after (after m st) (emptying sl)) p h q) (take-length u) (emptying_leads n D k w m p h q f z (length u))

  module _ (z : h.state ≡ ACTIVATING) where
    -- every entry that is left is marked, and each is in place
    only-marked : Each (λ s. unmarked (y s) ≡ false) (slots h.at)
    only-marked = subst (λ (c : Choice). Each (λ s. c (y s) ≡ false) (slots h.at)) (due-activating h z) none_due

    marked_good : Good marked n y (slots h.at)
    marked_good =
        subst (λ (c : Choice). Good c n y (slots h.at)) (waits_activating h z)
        (list_good n y h (each_right (λ g. list_bad n y g ≡ false) p (h ∷ q) (emptied_leads z).pends.held.lists).0)

    used_good : Good used n y (slots h.at)
    used_good =
        each_map (λ s. (unmarked (y s) ≡ false) × InOrder marked n y s) (InOrder used n y) (slots h.at)
        (λ s e i. e.1 (sym (used-marked (y s) e.0) ∙ i))
        (each_both (λ s. unmarked (y s) ≡ false) (InOrder marked n y) (slots h.at) only-marked marked_good)

    -- ACTIVE
    abbrev x : Mem
    x = upd y (state_at h.at) ACTIVE

    list_left : listing used x h.at ≡ listing (waiting h) y h.at
    list_left =
        listing-same used refl y x (slots h.at) (front_slots y h.at (state_at h.at) ACTIVE (omega arith))
        ∙ ap (map (listed_at y)) (those_marked y (slots h.at) only-marked)
        ∙ ap (λ (c : Choice). listing c y h.at) (sym (waits_activating h z))

    activated_rests : Rests n D k w x (p ++ (with_state h ACTIVE ∷ q))
    unfolding after
    activated_rests =
        let g = emptied_leads z in
        let i : is_kept h ≡ true = rw z in
        to_rest n D k w y p h q ACTIVE g (omega arith) refl
        (good_list n x (with_state h ACTIVE)
        (good_alike used n y x (slots h.at) (targets_same used refl y x (slots h.at) (front_slots y h.at (state_at h.at) ACTIVE (omega arith))) used_good))
        (fates_one x (with_state h ACTIVE) refl ∙ ap (λ (l : List Listed). record { clump = with_state h ACTIVE; list = l } ∷ []) list_left ∙ sym (fates_one y h i))
        (λ o d. sym (ap (λ (l : List Store). after y l o) emptied_all) ∙ g.words o d)

    pub activated_led : Every (Led n D k w) m (active_order m h) × Rests n D k w (after m (active_order m h)) (p ++ (with_state h ACTIVE ∷ q))
    unfolding active_order finish_activating after
    activated_led =
        subst
        (λ (c : Choice).
        let o = entries_by c m h.at ++ (emptying (slots_by c m h.at) ++ (set_state h ACTIVE ∷ [])) in
        Every (Led n D k w) m o × Rests n D k w (after m o) (p ++ (with_state h ACTIVE ∷ q)))
        (due-activating h z) (
          every_append (Led n D k w) m st (emptying u ++ (set_state h ACTIVE ∷ [])) assigned_every
              (every_append (Led n D k w) (after m st) (emptying u) (set_state h ACTIVE ∷ []) (emptied_every z) (leading (emptied_leads z), resting activated_rests)),
          rw (after-append m st (emptying u ++ (set_state h ACTIVE ∷ [])), after-append (after m st) (emptying u) (set_state h ACTIVE ∷ [])) activated_rests,
        )

  -- FREEING
  freed_rests : h.state ≡ FREEING → Rests n D k w (upd (after m st) (state_at h.at) FREE) (p ++ (with_state h FREE ∷ q))
  freed_rests z =
      let v = after m st in
      let i : is_kept h ≡ false = rw z in
      to_rest n D k w v p h q FREE (assigned_leads n D k w m p h q f) (omega arith) refl (unjudged n (upd v (state_at h.at) FREE) (with_state h FREE) refl refl)
      (fates_none (upd v (state_at h.at) FREE) (with_state h FREE ∷ []) (refl, tt) ∙ sym (fates_none v (h ∷ []) (i, tt)))
      f.words

  pub freed_led : h.state ≡ FREEING → Every (Led n D k w) m (finish_freeing used m h) × Rests n D k w (after m (finish_freeing used m h)) (p ++ (with_state h FREE ∷ q))
  unfolding finish_freeing after
  freed_led z =
      let g = freed_rests z in
      subst
      (λ (c : Choice).
      let o = entries_by c m h.at ++ (set_state h FREE ∷ []) in
      Every (Led n D k w) m o × Rests n D k w (after m o) (p ++ (with_state h FREE ∷ q)))
      (due-freeing h z) (
        every_append (Led n D k w) m st (set_state h FREE ∷ []) assigned_every (leading (assigned_leads n D k w m p h q f), resting g),
        rw (after-append m st (set_state h FREE ∷ [])) g,
      )

  -- either: the clump is then settled
  pub finishing_led : Every (Led n D k w) m (finishing m (some h)) × Rests n D k w (after m (finishing m (some h))) (p ++ (settle h ∷ q))
  unfolding active_order
  finishing_led =
      ⊎_elim (λ (z : h.state ≡ ACTIVATING). let b : has_state ACTIVATING h ≡ true = ap (λ (s : ℕ). eqb s ACTIVATING) z in rw b (activated_led z))
      (λ (z : h.state ≡ FREEING).
      let b : has_state ACTIVATING h ≡ false = ap (λ (s : ℕ). eqb s ACTIVATING) z in
      let c : has_state FREEING h ≡ true = ap (λ (s : ℕ). eqb s FREEING) z in
      rw (b, c) (freed_led z))
      (busy h f.pends.pending)
