-- Onactive, onfree and withdraw, and the entries that a free empties first: a store to the list of one clump leaves the pool sound with the
-- same clumps; the value that goes first, and an entry emptied of a clump that recovery frees, tell recovery nothing. By the laws of a list
-- under one store. Assumes nothing.
use Rattle.std.specs.Prelude.{ℕ, ◌+◌, ◌<◌, ◌≤◌, ◌≡◌, refl, Bool, true, false, ◌||◌, List, [], ◌∷◌, ◌++◌, leb}
use Rattle.std.proofs.Common.{sym, subst, ◌∙◌, ⊎_elim, arith, leb-true, le-leb}
use Rattle.std.proofs.Math.Option.{some}
use Rattle.std.proofs.lemmas.Bool.{not-true}
use Rattle.rules.specs.Lists.{any, Each}
use Rattle.rules.specs.Words.{Mem, upd, word_bytes}
use Rattle.rules.specs.Pages.{clumps_at, static_at, static_end}
use Rattle.rules.specs.Clumps.{Head, body_of, end_of, state_at, is_live, is_empty, slots, value_at, used, waiting, target_of, slots_by, Tiles}
use Rattle.rules.specs.Sound.{is_even, lies, holds_word, in_place, is_valid, list_bad}
use Rattle.rules.specs.Stores.{emptying, last_of}
use Rattle.rules.specs.Requests.{open_slot}
use Rattle.word.specs.Memory.{upd_other}
use Rattle.laws.specs.Searches.{differ, and_both, any_each, each_map, each_right, those_each, last_each}
use Rattle.laws.specs.Choices.{chooses_waiting, open_each, open_empty}
use Rattle.laws.specs.Headers.{SameSlot, SameSlots, targets_same, listing-same}
use Rattle.laws.specs.Tilings.{tiles_in}
use Rattle.laws.specs.Stored.{reads_right}
use Rattle.loss.specs.Held.{Held, Idle}
use Rattle.loss.specs.Fates.{Kept, is_kept, fates, fates_none, fates_list, Beyond, Rests}
use Rattle.loss.specs.Parts.{Elsewhere, one_store, Parted, parted_one, Segment, held_replaced, replaced}
use Rattle.loss.specs.Emptied.{InList, slots_in}
use Rattle.loss.specs.Entries.{Good, list_good, good_list, good_with, good_alike}
use Rattle.loss.proofs.Recovering.{Comes, comes_none, comes_store}

-- a valid target is in place
valid_place : (n t : ℕ) (hs : List Head) → Tiles clumps_at hs n → is_valid hs t ≡ true → in_place n t ≡ true
unfolding is_valid in_place
valid_place n t hs s e =
    let x = and_both (is_even t) _ e in rw x.0 (go (lies static_at static_end t) x.1)
  where
    go : (b : Bool) → (b || any (holds_word t) hs) ≡ true → (b || lies clumps_at n t) ≡ true
    go true f = refl
    go false f =
        let y = any_each (λ h. (clumps_at ≤ h.at) × (h.at < n) × (end_of h ≤ n)) (holds_word t) hs f (tiles_in clumps_at n hs s) in
        let z = and_both (leb (body_of y.0) t) _ (and_both (is_live y.0) _ y.1).1 in
        let l = leb-true (body_of y.0) t z.0 in
        let u = leb-true (t + word_bytes) (end_of y.0) z.1 in
        rw (le-leb clumps_at t (omega (arith, y.2.0)), le-leb (t + word_bytes) n (omega (arith, y.2.2)))

-- a store to a word of the list
module _ (n : ℕ) (m : Mem) (p : List Head) (h : Head) (q : List Head) (i v : ℕ) (low : h.at + 16 ≤ i) (high : i < body_of h) where
  list_parted : Held n m (p ++ (h ∷ q)) → Parted n p h.at (h ∷ []) (end_of h) q
  list_parted f = parted_one n p h q f.tiles

  list_elsewhere : Held n m (p ++ (h ∷ q)) → Elsewhere h.at (end_of h) m (upd m i v)
  list_elsewhere f = let l = (list_parted f).part.0.least in one_store m h.at (end_of h) i v (omega arith) (omega arith)

  list_segment : Held n m (p ++ (h ∷ q)) → list_bad n (upd m i v) h ≡ false → Segment n (upd m i v) h.at (h ∷ []) (end_of h)
  list_segment f b =
      let r = reads_right m p (h ∷ q) f.reads in
      record { tiles = (list_parted f).part; reads = (upd_other m i v h.at (omega arith) ∙ r.0, upd_other m i v (state_at h.at) (omega arith) ∙ r.1, tt); lists = (b, tt) }

  list_held : Held n m (p ++ (h ∷ q)) → list_bad n (upd m i v) h ≡ false → Held n (upd m i v) (p ++ (h ∷ q))
  list_held f b = held_replaced n m (upd m i v) p h.at (h ∷ []) (h ∷ []) (end_of h) q (list_parted f) (list_elsewhere f) f (list_segment f b)

  list_rests : (D : ℕ → Type 0) (k : List Kept) (w : Mem) → Rests n D k w m (p ++ (h ∷ q)) → list_bad n (upd m i v) h ≡ false → fates (upd m i v) (h ∷ []) ≡ fates m (h ∷ []) → Rests n D k w (upd m i v) (p ++ (h ∷ q))
  list_rests D k w f b e =
      replaced n m (upd m i v) p h.at (h ∷ []) (h ∷ []) (end_of h) q (list_parted f.held) (list_elsewhere f.held) D k w f (list_segment f.held b)
      ((each_right Idle p (h ∷ q) f.idle).0, tt)
      e
      (λ o d. upd_other m i v o (λ z. ⊎_elim (λ x. absurd (omega arith)) (λ x. absurd (omega arith)) (each_right (Beyond o) p (h ∷ q) (f.off o d)).0))
      (λ o d. ((each_right (Beyond o) p (h ∷ q) (f.off o d)).0, tt))

-- onactive and onfree: s is the entry behind the last used one
module _ (n : ℕ) (m : Mem) (p : List Head) (h : Head) (q : List Head) (s v : ℕ) (found : open_slot m (slots h.at) ≡ some s) where
  abbrev x : Mem
  x = upd m (value_at s) v

  stands : InList h.at s
  stands = open_each m (InList h.at) (slots h.at) s found (slots_in h.at)

  empty : is_empty m s ≡ true
  empty = open_empty m (slots h.at) s found

  -- the value is no target, and no used entry's value
  alike : SameSlots m x (slots h.at)
  alike =
      each_map (InList h.at) (SameSlot m x) (slots h.at)
      (λ u i.
      let a = i.low in
      let b = i.step in
      let c = stands.low in
      let d = stands.step in (
        upd_other m (value_at s) v u (omega arith),
        λ z. upd_other m (value_at s) v (value_at u)
            (λ e. differ (subst (λ (o : ℕ). is_empty m o ≡ true) (let y : s ≡ u = omega arith in y) empty) (not-true _ z)),
      ))
      (slots_in h.at)

  value_good : list_bad n m h ≡ false → Good (waiting h) n x (slots h.at)
  value_good b = good_alike (waiting h) n m x (slots h.at) (targets_same (waiting h) (chooses_waiting h) m x (slots h.at) alike) (list_good n m h b)

  own_good : Held n m (p ++ (h ∷ q)) → list_bad n m h ≡ false
  own_good f = (each_right (λ g. list_bad n m g ≡ false) p (h ∷ q) f.lists).0

  -- the value
  pub value_rests : (D : ℕ → Type 0) (k : List Kept) (w : Mem) → Rests n D k w m (p ++ (h ∷ q)) → Rests n D k w x (p ++ (h ∷ q))
  value_rests D k w f =
      let c = stands.low in
      let d = stands.high in
      list_rests n m p h q (value_at s) v (omega arith) (omega arith) D k w f (good_list n x h (value_good (own_good f.held)))
      (fates_list m x h (listing-same (waiting h) (chooses_waiting h) m x (slots h.at) alike))

  -- the word of a valid target, marked or not
  pub target_held : (t : ℕ) → is_valid (p ++ (h ∷ q)) (target_of t) ≡ true → Held n m (p ++ (h ∷ q)) → Held n x (p ++ (h ∷ q)) → Held n (upd x s t) (p ++ (h ∷ q))
  target_held t e f g =
      let d = stands.high in
      list_held n x p h q s t stands.low (omega arith) g
      (good_list n (upd x s t) h (good_with (waiting h) n x s t (slots h.at) (λ y. valid_place n (target_of t) (p ++ (h ∷ q)) f.tiles e) (value_good (own_good f))))

-- an entry emptied
emptied_good : (n : ℕ) (m : Mem) (h : Head) (s : ℕ) → list_bad n m h ≡ false → list_bad n (upd m s 0) h ≡ false
emptied_good n m h s b = good_list n (upd m s 0) h (good_with (waiting h) n m s 0 (slots h.at) (λ y. differ y (chooses_waiting h)) (list_good n m h b))

-- withdraw: the last used entry
pub withdrawn_held : (n : ℕ) (m : Mem) (p : List Head) (h : Head) (q : List Head) (u : ℕ) (us : List ℕ) → slots_by used m h.at ≡ u ∷ us → Held n m (p ++ (h ∷ q)) → Held n (upd m (last_of u us) 0) (p ++ (h ∷ q))
withdrawn_held n m p h q u us e f =
    let b = (each_right (λ g. list_bad n m g ≡ false) p (h ∷ q) f.lists).0 in
    let a = subst (Each (InList h.at)) e (those_each (InList h.at) (λ o. used (m o)) (slots h.at) (slots_in h.at)) in
    let s = last_each (InList h.at) u us a.0 a.1 in
    let d = s.high in
    list_held n m p h q (last_of u us) 0 s.low (omega arith) f (emptied_good n m h (last_of u us) b)

-- W4, free of a RESERVED clump: entries of a clump that recovery frees are emptied, one after the other, and that tells recovery nothing
pub emptying_comes :
    (n : ℕ) (D : ℕ → Type 0) (k : List Kept) (w : Mem) (p : List Head) (h : Head) (q : List Head)
    → is_kept h ≡ false
    → (sl : List ℕ) (m : Mem)
    → Each (InList h.at) sl
    → Rests n D k w m (p ++ (h ∷ q))
    → Comes n D k w m (emptying sl) (p ++ (h ∷ q))
emptying_comes n D k w p h q i [] m e f = comes_none n D k w m (p ++ (h ∷ q)) f
emptying_comes n D k w p h q i (s ∷ sl) m e f =
    let b = (each_right (λ g. list_bad n m g ≡ false) p (h ∷ q) f.held.lists).0 in
    let d = e.0.high in
    let x = upd m s 0 in
    comes_store n D k w m _ (emptying sl) (p ++ (h ∷ q)) (p ++ (h ∷ q)) f
    (emptying_comes n D k w p h q i sl x e.1
    (list_rests n m p h q s 0 e.0.low (omega arith) D k w f (emptied_good n m h s b) (fates_none x (h ∷ []) (i, tt) ∙ sym (fates_none m (h ∷ []) (i, tt)))))
