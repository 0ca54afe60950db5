-- A list being carried out, cut in the assignments or while it is emptied: recovery will still leave the same. The assignments are made
-- again, by the laws of redoing; an emptied beginning of the list leaves an end of it. Assumes nothing.
use Rattle.std.specs.Prelude.{ℕ, ◌+◌, ◌<◌, ◌≤◌, ◌≡◌, refl, Bool, true, false, ◌||◌, ◌⊎◌, List, [], ◌∷◌, ◌++◌, take, drop}
use Rattle.std.proofs.Common.{sym, ap, subst, ◌∙◌, inl, inr, ⊎_elim, arith, eqb-true}
use Rattle.rules.specs.Lists.{Each}
use Rattle.rules.specs.Words.{Mem, Store, after}
use Rattle.rules.specs.Pages.{clumps_at}
use Rattle.rules.specs.Clumps.{Head, end_of, state_at, has_state, is_pending, slots, due, waiting, slots_by, entries_by, ACTIVATING, FREEING, Tiles}
use Rattle.rules.specs.Sound.{is_valid, list_bad}
use Rattle.rules.specs.Stores.{emptying}
use Rattle.laws.specs.Searches.{those_each, each_map, each_right, each_drop, each_take}
use Rattle.laws.specs.Walks.{Reads}
use Rattle.laws.specs.Choices.{chooses_due, chooses_waiting, due_apart}
use Rattle.laws.specs.Headers.{AgreeAt, Agree, AgreePage, slots_same, targets_same, chosen_same, entries_same, valid_same, pool_same}
use Rattle.laws.specs.Stored.{reads_right}
use Rattle.loss.specs.Fates.{Kept, fates_list, fates_agree, Beyond, Leads}
use Rattle.loss.specs.Parts.{Elsewhere, Parted, parted_one, Segment, reads_agree, lists_agree, held_replaced, fates_replaced}
use Rattle.loss.specs.Redo.{after_spared, after-at, redo_start, redo_end}
use Rattle.loss.specs.Emptied.{InList, slots_in, emptying_spared, emptied, Fades, fades, faded_listing}
use Rattle.loss.specs.Entries.{list_good, good_list, good_faded}
use Rattle.loss.specs.Targets.{valid_entries, entries_valid, assigned_headers, assigned_page}

-- headers that agree, and words that come to the same once the list is carried out
agree_leads :
    (n : ℕ) (D : ℕ → Type 0) (k : List Kept) (w m x : Mem) (p : List Head) (h : Head) (q : List Head)
    → Leads n D k w m p h q
    → AgreePage m x
    → Agree m x (p ++ (h ∷ q))
    → ((o : ℕ) → D o → after x (entries_by (due h) m h.at) o ≡ after m (entries_by (due h) m h.at) o)
    → Leads n D k w x p h q
agree_leads n D k w m x p h q f page g u =
    let hs = p ++ (h ∷ q) in
    let e = f.pends.held in
    let s = slots_same m x h.at (each_right (λ (j : Head). AgreeAt m x j.at) p (h ∷ q) g).0 in
    record {
      pends =
          record {
            held = record { page = pool_same n m x page ∙ e.page; tiles = e.tiles; reads = reads_agree m x hs g e.reads; lists = lists_agree n m x hs g e.lists };
            below = f.pends.below;
            pending = f.pends.pending;
            above = f.pends.above;
            valid = valid_same n m x hs (due h) (chooses_due h) h s ∙ f.pends.valid;
          };
      kept = fates_agree m x hs g ∙ f.kept;
      words = λ o y. ap (λ (st : List Store). after x st o) (entries_same (due h) (chooses_due h) m x (slots h.at) s) ∙ u o y ∙ f.words o y;
      off = f.off;
    }

-- a clump whose list is being carried out
pub busy : (h : Head) → is_pending h ≡ true → (h.state ≡ ACTIVATING) ⊎ (h.state ≡ FREEING)
busy h e = go (has_state ACTIVATING h) refl e
  where
    go : (b : Bool) → has_state ACTIVATING h ≡ b → (b || has_state FREEING h) ≡ true → (h.state ≡ ACTIVATING) ⊎ (h.state ≡ FREEING)
    go true q f = inl (eqb-true h.state ACTIVATING q)
    go false q f = inr (eqb-true h.state FREEING f)

module _ (n : ℕ) (D : ℕ → Type 0) (k : List Kept) (w m : Mem) (p : List Head) (h : Head) (q : List Head) (f : Leads n D k w m p h q) where
  abbrev a : ℕ
  a = h.at

  abbrev st : List Store
  st = entries_by (due h) m a

  abbrev hs : List Head
  hs = p ++ (h ∷ q)

  valid : Each (λ s. is_valid hs s.to ≡ true) st
  valid = valid_entries (due h) m hs h f.pends.valid

  tiles : Tiles clumps_at hs n
  tiles = f.pends.held.tiles

  -- the assignments, cut after j
  pub assigning : (j : ℕ) → Leads n D k w (after m (take j st)) p h q
  assigning j =
      let v = each_take (λ s. is_valid hs s.to ≡ true) j st valid in
      agree_leads n D k w m (after m (take j st)) p h q f (assigned_page n m hs tiles (take j st) v) (assigned_headers n m hs tiles (take j st) v)
      (λ o y. redo_start m st j o)

  -- once they are made, the list is as it was
  abbrev m2 : Mem
  m2 = after m st

  assigned : Agree m m2 hs
  assigned = assigned_headers n m hs tiles st valid

  own : AgreeAt m m2 a
  own = (each_right (λ (j : Head). AgreeAt m m2 j.at) p (h ∷ q) assigned).0

  room : Parted n p a (h ∷ []) (end_of h) q
  room = parted_one n p h q tiles

  -- the entries that are due, as they are once they are made
  abbrev due-slots : List ℕ
  due-slots = slots_by (due h) m a

  pub due-same : slots_by (due h) m2 a ≡ due-slots
  due-same = chosen_same (due h) m m2 (slots a) (targets_same (due h) (chooses_due h) m m2 (slots a) (slots_same m m2 a own))

  -- the list lies in the header
  due_in : Each (InList a) due-slots
  due_in = those_each (InList a) (λ s. due h (m s)) (slots a) (slots_in a)

  -- the list, emptied of its first j entries
  abbrev x : ℕ → Mem
  x j = after m2 (emptying (take j due-slots))

  left : (j : ℕ) → entries_by (due h) (x j) a ≡ drop j st
  left j =
      ap (λ (sl : List ℕ). entries_by (due h) (after m2 (emptying (take j sl))) a) (sym due-same)
      ∙ emptied (due h) (chooses_due h) m2 a j
      ∙ ap (drop j) (entries_same (due h) (chooses_due h) m m2 (slots a) (slots_same m m2 a own))

  outside : (j o : ℕ) → (o < a + 16) ⊎ (a + 64 ≤ o) → x j o ≡ m2 o
  outside j o e =
      after_spared m2 (emptying (take j due-slots)) o
      (emptying_spared o (take j due-slots)
      (each_map (InList a) (λ s. o ≡ s → ⊥) (take j due-slots) (λ s i z. ⊎_elim (λ y. absurd (omega (arith, i.low))) (λ y. absurd (omega (arith, i.high))) e)
      (each_take (InList a) j due-slots due_in)))

  -- each entry is as it was, or emptied
  faded : (j : ℕ) → Each (Fades (due h) m2 (x j)) (slots a)
  faded j = subst (λ (sl : List ℕ). Each (Fades (due h) m2 (after m2 (emptying (take j sl)))) (slots a)) due-same (fades (due h) m2 a j)

  emptied_elsewhere : (j : ℕ) → Elsewhere a (end_of h) m2 (x j)
  emptied_elsewhere j o e = let l = room.part.0.least in outside j o (⊎_elim (λ y. inl (omega arith)) (λ y. inr (omega arith)) e)

  -- the places of D are beyond the header
  beyond : (o : ℕ) → D o → Beyond o h
  beyond o y = (each_right (Beyond o) p (h ∷ q) (f.off o y)).0

  emptied_words : (j o : ℕ) → D o → x j o ≡ m2 o
  emptied_words j o y = outside j o (⊎_elim (λ l. inl (omega arith)) (λ l. inr l) (beyond o y))

  -- all assignments are made
  pub assigned_leads : Leads n D k w m2 p h q
  assigned_leads = agree_leads n D k w m m2 p h q f (assigned_page n m hs tiles st valid) assigned (λ o y. redo_end m st 0 o)

  own_reads : Reads m2 (h ∷ q)
  own_reads = reads_right m2 p (h ∷ q) assigned_leads.pends.held.reads

  -- emptying, cut after j
  emptying_good : (j : ℕ) → list_bad n (x j) h ≡ false
  emptying_good j =
      let b = (each_right (λ g. list_bad n m2 g ≡ false) p (h ∷ q) assigned_leads.pends.held.lists).0 in
      good_list n (x j) h (good_faded (waiting h) n (due h) m2 (x j) (slots a) (chooses_waiting h) (faded j) (list_good n m2 h b))

  emptying_segment : (j : ℕ) → Segment n (x j) a (h ∷ []) (end_of h)
  emptying_segment j =
      record {
        tiles = room.part;
        reads = (outside j a (inl (omega arith)) ∙ own_reads.0, outside j (state_at a) (inl (omega arith)) ∙ own_reads.1, tt);
        lists = (emptying_good j, tt);
      }

  pub emptying_leads : h.state ≡ ACTIVATING → (j : ℕ) → Leads n D k w (x j) p h q
  emptying_leads z j =
      record {
        pends =
            record {
              held = held_replaced n m2 (x j) p a (h ∷ []) (h ∷ []) (end_of h) q room (emptied_elsewhere j) assigned_leads.pends.held (emptying_segment j);
              below = f.pends.below;
              pending = f.pends.pending;
              above = f.pends.above;
              valid = entries_valid (due h) (x j) hs h (subst (Each (λ s. is_valid hs s.to ≡ true)) (sym (left j)) (each_drop (λ s. is_valid hs s.to ≡ true) j st valid));
            };
        kept = fates_replaced n m2 (x j) p a (h ∷ []) (h ∷ []) (end_of h) q room (emptied_elsewhere j)
            (fates_list m2 (x j) h (faded_listing (due h) (waiting h) (due_apart h z) (chooses_waiting h) m2 (x j) (slots a) (faded j)))
            ∙ assigned_leads.kept;
        words = λ o y. ap (λ (l : List Store). after (x j) l o) (left j) ∙ after-at m2 (x j) (drop j st) o (emptied_words j o y) ∙ redo_end m st j o ∙ f.words o y;
        off = f.off;
      }
