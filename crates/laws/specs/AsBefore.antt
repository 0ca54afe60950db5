-- A pool that 01 calls sound is sound, and every request but onfree and reserve has the verdict on it that 01's rules gave. In such a pool
-- every used target of a live clump is divisible by 8, so that no entry is marked: the unmarked entries are the used ones, each target is
-- its word, and without a gap the entry behind the last used one is the first empty one. By cases on the states, and on the requests.
-- Assumes nothing.
use Rattle.std.specs.Prelude.{ℕ, ◌%◌, ◌≡◌, Bool, ◌&&◌, ◌||◌, eqb, length}
use Rattle.std.proofs.Math.Path.{refl, ap}
use Rattle.std.proofs.Common.{sym, ap₂, subst, ◌∙◌, arith}
use Rattle.std.proofs.Math.Bool.{true, false, cond, not}
use Rattle.std.proofs.Math.Option
use Rattle.std.proofs.Math.Option.{Option, some, none}
use mathlib.Core.List.{List, [], ◌∷◌, ◌++◌, map}
use borrow.Author.Tests.{eqb-true, ne_eqb, not-false}
use Rattle.rules.specs.declared.Request.{Request}
use Rattle.rules.specs.declared.Request.TheVariants.{Create, Reserve, ReserveUncleared, Grow, Onactive, Onfree, Withdraw, Activate, Free, Check, Recover}
use Rattle.rules.specs.Lists.{seek, those, any, all, Each}
use Rattle.rules.specs.Words.{Mem, Store, store, mem, word_bytes}
use Rattle.rules.specs.Clumps.{Head, RESERVED, ACTIVATING, ACTIVE, FREE, has_state, is_waiting, is_pending, is_empty, is_used, used, marked, unmarked, due, bit_values, mark, slots, slots_by, value_at, target_at, entry, entries_by, walk}
use Rattle.rules.specs.Sound.{fault_at, size_bad, state_bad, is_even, in_place, list_bad, fault_of, clump_fault, second_fault, is_valid, all_valid, invalid, target_fault, judge, unsettled}
use Rattle.rules.specs.Answers.{Verdict, granted, test, not_settled, wrong_state, bad_target, if_sound, if_settled}
use Rattle.rules.specs.Stores.{set_state, emptying, finish_activating, finish_freeing, activate_stores, has_marked, drop_stores, free_after, free_before, join_both, free_stores, finishing, releasing, released, runs, joining, recover_stores}
use Rattle.rules.specs.Requests.{finder, found, open_slot, listed, enlist, activate, free, verdict}
use Rattle.rules.specs.Earlier.{entries01, gapped01, list_bad01, fault_of01, clump_fault01, all_valid01, invalid01, judge01, if_sound01, if_settled01, enlist01, finish_activating01, finish_freeing01, activate01, drop_stores01, free01, finishing01, verdict01, is_as_in01, AsBefore}
use Rattle.laws.specs.Searches.{differ, some-none, or_neither, and_both, seek_split, seek_none, none_seek, seek_each, any_none, any_same, none_any, all_same, all_each, those_alike, those_nil, those_each, each_append, each_map, each_both}
use Rattle.laws.specs.Walks.{map_none, or_else_none}
use Rattle.laws.specs.Choices.{target_plain}
use Rattle.laws.specs.Headers.{map_same}
use Rattle.laws.specs.Mending.{others_idle}
use Rattle.laws.specs.Lying.{valid_even}

-- an entry that is empty, or whose word is divisible by 8, is not marked
even_plain : (t : ℕ) → (used t ≡ true → t % word_bytes ≡ 0) → marked t ≡ false
unfolding marked
even_plain t f = go (eqb t 0) refl
  where
    go : (b : Bool) → eqb t 0 ≡ b → eqb (t % bit_values) mark ≡ false
    go true q = let z = eqb-true t 0 q in ne_eqb (t % bit_values) mark (omega arith)
    go false q = let z = f (rw q) in ne_eqb (t % bit_values) mark (omega arith)

-- no entry of these is marked
abbrev Plain : Mem → List ℕ → Type 0
Plain m sl = Each (λ s. marked (m s) ≡ false) sl

-- a test that only numbers divisible by 8 pass, of each used word
plain-test : (p : ℕ → Bool) → ((t : ℕ) → p t ≡ true → t % word_bytes ≡ 0) → (m : Mem) (sl : List ℕ) → Each (λ s. p (m s) ≡ true) (those (is_used m) sl) → Plain m sl
unfolding those
plain-test p f m [] e = tt
plain-test p f m (s ∷ sl) e = go (is_used m s) refl e (plain-test p f m sl)
  where
    go :
        (b : Bool)
        → is_used m s ≡ b
        → Each (λ t. p (m t) ≡ true) (cond b (s ∷ those (is_used m) sl) (those (is_used m) sl))
        → (Each (λ t. p (m t) ≡ true) (those (is_used m) sl) → Plain m sl)
        → Plain m (s ∷ sl)
    go true q g ih = (even_plain (m s) (λ u. f (m s) g.0), ih g.1)
    go false q g ih = (even_plain (m s) (λ u. differ u q), ih g)

place_even : (n t : ℕ) → in_place n t ≡ true → t % word_bytes ≡ 0
unfolding in_place
place_even n t e = eqb-true (t % word_bytes) 0 (and_both (is_even t) _ e).0

-- without a gap
open_first : (m : Mem) (sl : List ℕ) → gapped01 m sl ≡ false → open_slot m sl ≡ seek (is_empty m) sl
unfolding gapped01 open_slot any seek
open_first m [] g = refl
open_first m (s ∷ sl) g = go (is_empty m s) refl (or_neither (is_empty m s && any (is_used m) sl) (gapped01 m sl) g) (open_first m sl)
  where
    go :
        (b : Bool)
        → is_empty m s ≡ b
        → ((b && any (is_used m) sl) ≡ false) × (gapped01 m sl ≡ false)
        → (gapped01 m sl ≡ false → open_slot m sl ≡ seek (is_empty m) sl)
        → cond (not (is_empty m s) || any (is_used m) sl) (open_slot m sl) (some s) ≡ elim (is_empty m s) [ true ↦ some s | false ↦ seek (is_empty m) sl ]
    go true q f ih = let z = f.0 in rw (q, z)
    go false q f ih = rw q (ih f.1)

-- a list of which no entry is marked
module _ (m : Mem) (hs : List Head) (h : Head) (e : Plain m (slots h.at)) where
  abbrev a : ℕ
  a = h.at

  words : Each (λ s. target_at m s ≡ m s) (slots a)
  words = each_map (λ s. marked (m s) ≡ false) (λ s. target_at m s ≡ m s) (slots a) (λ s f. target_plain (m s) f) e

  unmarked-used : slots_by unmarked m a ≡ slots_by used m a
  unfolding unmarked
  unmarked-used = those_alike (λ s. unmarked (m s)) (λ s. used (m s)) (slots a) (each_map (λ s. marked (m s) ≡ false) (λ s. unmarked (m s) ≡ used (m s)) (slots a) (λ s f. go (used (m s)) f) e)
    where
      go : (b : Bool) {c : Bool} → c ≡ false → (b && not c) ≡ b
      go true f = ap not f
      go false f = refl

  marked_none : slots_by marked m a ≡ []
  marked_none = those_nil (λ s. marked (m s)) (slots a) e

  none_marked : has_marked m h ≡ false
  none_marked = none_any (λ s. marked (m s)) (slots a) e

  used-words : Each (λ s. target_at m s ≡ m s) (slots_by used m a)
  used-words = those_each (λ s. target_at m s ≡ m s) (λ s. used (m s)) (slots a) words

  entries_are : entries_by used m a ≡ entries01 m a
  entries_are = map_same (entry m) (λ s. store (m s) (m (value_at s))) (slots_by used m a) (each_map (λ s. target_at m s ≡ m s) (λ s. entry m s ≡ store (m s) (m (value_at s))) (slots_by used m a) (λ s f. ap (λ (t : ℕ). store t (m (value_at s))) f) used-words)

  valid_are : all_valid used m hs h ≡ all_valid01 m hs h
  unfolding all_valid all_valid01
  valid_are = all_same (λ s. is_valid hs (target_at m s)) (λ s. is_valid hs (m s)) (slots_by used m a) (each_map (λ s. target_at m s ≡ m s) (λ s. is_valid hs (target_at m s) ≡ is_valid hs (m s)) (slots_by used m a) (λ s f. ap (is_valid hs) f) used-words)

  unmarked_valid : all_valid unmarked m hs h ≡ all_valid01 m hs h
  unfolding all_valid
  unmarked_valid = ap (all (λ s. is_valid hs (target_at m s))) unmarked-used ∙ valid_are

  marked_valid : all_valid marked m hs h ≡ true
  unfolding all_valid all
  marked_valid = rw marked_none

  due_valid : all_valid (due h) m hs h ≡ all_valid01 m hs h
  due_valid = go (has_state ACTIVATING h)
    where
      go : (b : Bool) → all_valid (cond b unmarked used) m hs h ≡ all_valid01 m hs h
      go true = unmarked_valid
      go false = valid_are

  activating_are : finish_activating m h ≡ finish_activating01 m h
  unfolding finish_activating
  activating_are = ap (λ (sl : List ℕ). map (entry m) sl ++ (emptying sl ++ (set_state h ACTIVE ∷ []))) unmarked-used ∙ ap (λ (st : List Store). st ++ (emptying (slots_by used m a) ++ (set_state h ACTIVE ∷ []))) entries_are

  freeing_are : finish_freeing used m h ≡ finish_freeing01 m h
  unfolding finish_freeing
  freeing_are = ap (λ (st : List Store). st ++ (set_state h FREE ∷ [])) entries_are

  drop_are : drop_stores m h ≡ drop_stores01 m h
  unfolding drop_stores
  drop_are = rw (none_marked, freeing_are)

  finishing_are : finishing m (some h) ≡ finishing01 m (some h)
  finishing_are = ap₂ (cond (has_state ACTIVATING h)) activating_are freeing_are

  -- the requests on such a clump, where the list has no gap
  enlist_are : (o t v : ℕ) → gapped01 m (slots a) ≡ false → enlist m hs (has_state RESERVED) o t t v h ≡ enlist01 m hs RESERVED o t v h
  unfolding enlist enlist01
  enlist_are o t v g = ap (λ (s : Option ℕ). test (not (has_state RESERVED h)) wrong_state (listed (is_valid hs t) s o t v)) (open_first m (slots a) g)

  activate_are : (o : ℕ) → activate m hs o h ≡ activate01 m hs o h
  unfolding activate activate01 activate_stores
  activate_are o = rw (unmarked_valid, activating_are)

  free_are : (o : ℕ) → free m hs o h ≡ free01 m hs o h
  unfolding free free01 free_stores
  free_are o = rw drop_are (go (has_state ACTIVE h))
    where
      go :
          (b : Bool)
          → let st = drop_stores01 m h ++ join_both (free_after hs h) (free_before hs h) h in
          test (not (is_waiting h)) wrong_state (test (not (all_valid (cond b used marked) m hs h)) bad_target (granted o st))
          ≡ test (not (is_waiting h)) wrong_state (test (not (cond b (all_valid01 m hs h) true)) bad_target (granted o st))
      go true = rw valid_are
      go false = rw marked_valid

-- fault 3, of a list that waits: it is judged alike, and has no mark
record Waits (n : ℕ) (m : Mem) (h : Head) : Type 0 where
  gap : gapped01 m (slots h.at) ≡ false
  plain : Plain m (slots h.at)
  list : list_bad n m h ≡ false

waits : (n : ℕ) (m : Mem) (hs : List Head) (h : Head) → list_bad01 n m h ≡ false → is_waiting h ≡ true → Waits n m h
unfolding list_bad01 list_bad
waits n m hs h e w =
    let x = or_neither (gapped01 m (slots h.at)) _ (rw w at e) in
    let y = any_none (λ s. not (in_place n (m s))) (slots_by used m h.at) x.1 in
    let z = plain-test (in_place n) (place_even n) m (slots h.at) (each_map (λ s. not (in_place n (m s)) ≡ false) (λ s. in_place n (m s) ≡ true) (slots_by used m h.at) (λ s f. not-false _ f) y) in
    record {
      gap = x.0;
      plain = z;
      list =
          rw w
          (any_same (λ s. not (in_place n (target_at m s))) (λ s. not (in_place n (m s))) (slots_by used m h.at)
          (each_map (λ s. target_at m s ≡ m s) (λ s. not (in_place n (target_at m s)) ≡ not (in_place n (m s))) (slots_by used m h.at) (λ s f. ap (λ (t : ℕ). not (in_place n t)) f) (used-words m hs h z))
          ∙ x.1);
    }

-- a clump as 01 wants it
record Fine (n : ℕ) (m : Mem) (h : Head) : Type 0 where
  waiting : is_waiting h ≡ true → Waits n m h
  busy : is_pending h ≡ true → Plain m (slots h.at)

fine_list : (n : ℕ) (m : Mem) (h : Head) → Fine n m h → list_bad n m h ≡ false
unfolding list_bad those any
fine_list n m h f = go (is_waiting h) refl (has_state ACTIVATING h) refl
  where
    go : (a : Bool) → is_waiting h ≡ a → (b : Bool) → has_state ACTIVATING h ≡ b → list_bad n m h ≡ false
    go true p b q = (f.waiting p).list
    go false p true q = rw (p, q, marked_none m [] h (f.busy (rw q)))
    go false p false q = rw (p, q)

fault_zero : (n : ℕ) (m : Mem) (h : Head) → fault_of01 n m h ≡ 0 → (list_bad01 n m h ≡ false) × (list_bad n m h ≡ false → fault_of n m h ≡ 0)
unfolding fault_of01 fault_of
fault_zero n m h e = go (size_bad n h) (state_bad h) (list_bad01 n m h) e
  where
    number : Bool → Bool → Bool → ℕ
    number a b c = cond a 1 (cond b 2 (cond c 3 0))

    go : (a b c : Bool) → number a b c ≡ 0 → (c ≡ false) × (list_bad n m h ≡ false → number a b (list_bad n m h) ≡ 0)
    go true b c f = absurd (omega arith)
    go false true c f = absurd (omega arith)
    go false false true f = absurd (omega arith)
    go false false false f = (refl, λ z. rw z)

-- a pool that 01 calls sound
module _ (n : ℕ) (m : Mem) (s : judge01 n m ≡ none) where
  abbrev hs : List Head
  hs = walk n m

  parts : (clump_fault01 n m hs ≡ none) × (second_fault hs ≡ none) × (invalid01 m hs (seek is_pending hs) ≡ none)
  unfolding judge01
  parts = let x = or_else_none _ _ s in let y = or_else_none _ _ x.1 in (x.0, y.0, y.1)

  clean : Each (λ h. fault_of01 n m h ≡ 0) hs
  unfolding clump_fault01
  clean = each_map (λ h. not (eqb (fault_of01 n m h) 0) ≡ false) (λ h. fault_of01 n m h ≡ 0) hs (λ h f. eqb-true _ _ (not-false _ f)) (seek_none (λ h. not (eqb (fault_of01 n m h) 0)) hs (map_none _ _ parts.0))

  -- the one unfinished clump
  busy_plain : (h : Head) → seek is_pending hs ≡ some h → Plain m (slots h.at)
  unfolding all_valid01
  busy_plain h e = go (all_valid01 m hs h) refl (rw e at parts.2)
    where
      go : (b : Bool) → all_valid01 m hs h ≡ b → cond b none (some (fault_at 5 h)) ≡ none → Plain m (slots h.at)
      go true q f = plain-test (is_valid hs) (valid_even hs) m (slots h.at) (all_each (λ t. is_valid hs (m t)) (slots_by used m h.at) q)
      go false q f = some-none refl f

  abbrev Busy : Head → Type 0
  Busy h = is_pending h ≡ true → Plain m (slots h.at)

  busy : Each Busy hs
  busy = go (seek is_pending hs) refl
    where
      idle : (ks : List Head) → Each (λ h. is_pending h ≡ false) ks → Each Busy ks
      idle ks f = each_map (λ h. is_pending h ≡ false) Busy ks (λ h e z. differ z e) f

      go : (o : Option Head) → seek is_pending hs ≡ o → Each Busy hs
      go none e = idle hs (seek_none is_pending hs e)
      go (some h) e =
          let x = seek_split is_pending hs h e in
          let i = others_idle x.lower h x.higher (subst (λ (ks : List Head). second_fault ks ≡ none) x.whole parts.1) x.before x.passes in
          subst (Each Busy) (sym x.whole) (each_append Busy x.lower (h ∷ x.higher) (idle x.lower x.before) ((λ z. busy_plain h e), idle x.higher i))

  fine : Each (Fine n m) hs
  fine = each_map (λ h. (fault_of01 n m h ≡ 0) × Busy h) (Fine n m) hs (λ h f. record { waiting = waits n m hs h (fault_zero n m h f.0).0; busy = f.1 }) (each_both (λ h. fault_of01 n m h ≡ 0) Busy hs clean busy)

  no_fault : clump_fault n m hs ≡ none
  unfolding clump_fault
  no_fault =
      ap (Option.map (λ h. fault_at (fault_of n m h) h))
      (none_seek (λ h. not (eqb (fault_of n m h) 0)) hs
      (each_map (λ h. (fault_of01 n m h ≡ 0) × Fine n m h) (λ h. not (eqb (fault_of n m h) 0) ≡ false) hs
      (λ h f. let z = (fault_zero n m h f.0).1 (fine_list n m h f.1) in rw z) (each_both (λ h. fault_of01 n m h ≡ 0) (Fine n m) hs clean fine)))

  no_target : target_fault m hs ≡ none
  unfolding target_fault
  no_target = go (seek is_pending hs) refl parts.2
    where
      go : (o : Option Head) → seek is_pending hs ≡ o → invalid01 m hs o ≡ none → invalid m hs o ≡ none
      go none e f = refl
      go (some h) e f = rw (due_valid m hs h (busy_plain h e)) f

  sound : judge n m ≡ none
  unfolding judge
  sound = rw (no_fault, parts.1, no_target)

  -- the tests of both
  sound_same : (v w : Verdict) → v ≡ w → if_sound n m v ≡ if_sound01 n m w
  unfolding if_sound if_sound01
  sound_same v w e = rw (sound, s, e)

  settled_same : (v w : Verdict) → v ≡ w → if_settled n m v ≡ if_settled01 n m w
  unfolding if_settled if_settled01
  settled_same v w e = sound_same _ _ (ap (test (unsettled hs) not_settled) e)

  -- a request on the clump that the finder finds
  asked-same : (o : ℕ) (f g : Head → Verdict) → ((h : Head) → Fine n m h → f h ≡ g h) → if_settled n m (found (finder hs o) f) ≡ if_settled01 n m (found (finder hs o) g)
  asked-same o f g e = settled_same _ _ (go (finder hs o) refl)
    where
      go : (c : Option Head) → finder hs o ≡ c → found c f ≡ found c g
      go none q = refl
      go (some h) q = e h (seek_each (Fine n m) _ hs h q fine)

  verdict-same : (q : Request) → is_as_in01 q ≡ true → verdict n m q ≡ verdict01 n m q
  unfolding verdict verdict01 recover_stores
  verdict-same Create e = refl
  verdict-same (Reserve size) e = differ e refl
  verdict-same (ReserveUncleared size) e = settled_same _ _ refl
  verdict-same (Grow o size) e = settled_same _ _ refl
  verdict-same (Onactive o t v) e = asked-same o _ _ (λ h f. go h f (has_state RESERVED h) refl)
    where
      go : (h : Head) → Fine n m h → (b : Bool) → has_state RESERVED h ≡ b → enlist m hs (has_state RESERVED) o t t v h ≡ enlist01 m hs RESERVED o t v h
      go h f true q = let w = f.waiting (rw q) in enlist_are m hs h w.plain o t v w.gap
      go h f false q = unfold enlist enlist01 in rw q
  verdict-same (Onfree o t v) e = differ e refl
  verdict-same (Withdraw o) e = settled_same _ _ refl
  verdict-same (Activate o) e = asked-same o _ _ (λ h f. go h f (has_state RESERVED h) refl)
    where
      go : (h : Head) → Fine n m h → (b : Bool) → has_state RESERVED h ≡ b → activate m hs o h ≡ activate01 m hs o h
      go h f true q = activate_are m hs h (f.waiting (rw q)).plain o
      go h f false q = unfold activate activate01 in rw q
  verdict-same (Free o) e = asked-same o _ _ (λ h f. go h f (is_waiting h) refl)
    where
      go : (h : Head) → Fine n m h → (b : Bool) → is_waiting h ≡ b → free m hs o h ≡ free01 m hs o h
      go h f true q = free_are m hs h (f.waiting q).plain o
      go h f false q = unfold free free01 in rw q
  verdict-same Check e = sound_same _ _ refl
  verdict-same Recover e =
      sound_same _ _ (ap (λ (st : List Store). granted 0 (st ++ (releasing hs ++ joining (runs (map released hs))))) (go (seek is_pending hs) refl))
    where
      go : (o : Option Head) → seek is_pending hs ≡ o → finishing m o ≡ finishing01 m o
      go none q = refl
      go (some h) q = finishing_are m hs h (busy_plain h q)

pub as_before : AsBefore
as_before img q p s e = verdict-same (length img) (mem img) s q e
