-- 01's rules of the on-list as they stood before W4, kept for one comparison alone: modules in the field hold pools that were written by
-- them. Each is 01's sentence; what W4 leaves alone is taken from where it stands. Then the comparison, as a named statement; nothing is
-- proved here but a table of rows. Total on any n and m. Assumes nothing.
use Rattle.std.specs.Prelude.{ℕ, ◌≡◌, refl, Bool, true, false, cond, not, ◌&&◌, ◌||◌, List, [], ◌∷◌, ◌++◌, map, eqb, length}
use Rattle.std.proofs.Math.Option
use Rattle.std.proofs.Math.Option.{Option, some, none}
use Rattle.rules.specs.declared.Request.{Request}
use Rattle.rules.specs.declared.Request.TheVariants.{Create, Reserve, ReserveUncleared, Grow, Onactive, Onfree, Withdraw, Activate, Free, Check, Recover}
use Rattle.rules.specs.Lists.{seek, any, all}
use Rattle.rules.specs.Words.{Image, Mem, Store, store, mem}
use Rattle.rules.specs.Pages.{is_pool, right_length}
use Rattle.rules.specs.Clumps.{Head, FREE, RESERVED, ACTIVATING, ACTIVE, FREEING, has_state, is_waiting, is_pending, is_empty, is_used, used, slots, slots_by, value_at, walk}
use Rattle.rules.specs.Sound.{Fault, fault_at, size_bad, state_bad, in_place, second_fault, is_valid, or_else, unsettled}
use Rattle.rules.specs.Answers.{Verdict, granted, refuse, test, test_fault, not_pool, not_settled, wrong_state, bad_target}
use Rattle.rules.specs.Stores.{emptying, set_state, create_stores, free_after, free_before, join_both, releasing, released, runs, joining}
use Rattle.rules.specs.Requests.{reserve, grow, finder, found, listed, withdraw, verdict_on}
use Rattle.rules.specs.Cases.{every_rule, pool_of, case_h}

-- the entry that stands at s, as the store that it asks for: the target is the word as it stands; and the used entries
abbrev pub entries01 : Mem → ℕ → List Store
entries01 m a = map (λ s. store (m s) (m (value_at s))) (slots_by used m a)

-- "a used entry after an empty one"
unfoldable pub gapped01 : Mem → List ℕ → Bool
gapped01 m [] = false
gapped01 m (s ∷ sl) = (is_empty m s && any (is_used m) sl) || gapped01 m sl

-- "3. list: in a RESERVED or ACTIVE clump a used entry after an empty one, or a target that isn't .. "
unfoldable pub list_bad01 : ℕ → Mem → Head → Bool
list_bad01 n m h = is_waiting h && (gapped01 m (slots h.at) || any (λ s. not (in_place n (m s))) (slots_by used m h.at))

unfoldable pub fault_of01 : ℕ → Mem → Head → ℕ
fault_of01 n m h = cond (size_bad n h) 1 (cond (state_bad h) 2 (cond (list_bad01 n m h) 3 0))

unfoldable pub clump_fault01 : ℕ → Mem → List Head → Option Fault
clump_fault01 n m hs = Option.map (λ h. fault_at (fault_of01 n m h) h) (seek (λ h. not (eqb (fault_of01 n m h) 0)) hs)

-- every used target of the clump is valid; "5. in the one ACTIVATING or FREEING clump, a used target that isn't valid"
unfoldable pub all_valid01 : Mem → List Head → Head → Bool
all_valid01 m hs h = all (λ s. is_valid hs (m s)) (slots_by used m h.at)

abbrev pub invalid01 : Mem → List Head → Option Head → Option Fault
invalid01 m hs none = none
invalid01 m hs (some h) = cond (all_valid01 m hs h) none (some (fault_at 5 h))

unfoldable pub judge01 : ℕ → Mem → Option Fault
judge01 n m = let hs = walk n m in or_else (clump_fault01 n m hs) (or_else (second_fault hs) (invalid01 m hs (seek is_pending hs)))

-- the tests 1 and 2, and 3
unfoldable pub if_sound01 : ℕ → Mem → Verdict → Verdict
if_sound01 n m v = test (not (is_pool n m)) not_pool (test_fault (judge01 n m) v)

unfoldable pub if_settled01 : ℕ → Mem → Verdict → Verdict
if_settled01 n m v = if_sound01 n m (test (unsettled (walk n m)) not_settled v)

-- onactive (RESERVED) and onfree (ACTIVE): "into the first empty entry, value, then target"
unfoldable pub enlist01 : Mem → List Head → ℕ → ℕ → ℕ → ℕ → Head → Verdict
enlist01 m hs allowed offset target value h =
    test (not (has_state allowed h)) wrong_state
    (listed (is_valid hs target) (seek (is_empty m) (slots h.at)) offset target value)

-- "each value to its target, in list order; 0 to each used target word of the list, first to last; state ACTIVE"
abbrev pub finish_activating01 : Mem → Head → List Store
finish_activating01 m h = entries01 m h.at ++ (emptying (slots_by used m h.at) ++ (set_state h ACTIVE ∷ []))

-- "the assignments in order; state FREE"
abbrev pub finish_freeing01 : Mem → Head → List Store
finish_freeing01 m h = entries01 m h.at ++ (set_state h FREE ∷ [])

-- activate: "every used target must be valid now, else 10. State ACTIVATING; .. "
unfoldable pub activate01 : Mem → List Head → ℕ → Head → Verdict
activate01 m hs offset h =
    test (not (has_state RESERVED h)) wrong_state
    (test (not (all_valid01 m hs h)) bad_target (granted offset (set_state h ACTIVATING ∷ finish_activating01 m h)))

-- free: "RESERVED: state FREE, list dropped. ACTIVE: every used target must be valid now, else 10; state FREEING; the assignments in order;
-- state FREE." Then the joins.
abbrev pub drop_stores01 : Mem → Head → List Store
drop_stores01 m h = cond (has_state ACTIVE h) (set_state h FREEING ∷ finish_freeing01 m h) (set_state h FREE ∷ [])

unfoldable pub free01 : Mem → List Head → ℕ → Head → Verdict
free01 m hs offset h =
    test (not (is_waiting h)) wrong_state
    (test (not (cond (has_state ACTIVE h) (all_valid01 m hs h) true)) bad_target
    (granted offset (drop_stores01 m h ++ join_both (free_after hs h) (free_before hs h) h)))

-- recover: "finish the ACTIVATING clump (assign, empty the list, ACTIVE) or the FREEING one (assign, FREE)"; then as it stands
abbrev pub finishing01 : Mem → Option Head → List Store
finishing01 m none = []
finishing01 m (some h) = cond (has_state ACTIVATING h) (finish_activating01 m h) (finish_freeing01 m h)

-- What 01 calls reserve is what W5 calls its second form. 01 has no grow: W6's rule stands behind 01's tests 1 to 3.
unfoldable pub verdict01 : ℕ → Mem → Request → Verdict
verdict01 n m Create = test (not (right_length n)) not_pool (granted 0 (create_stores n))
verdict01 n m (Reserve size) = if_settled01 n m (reserve false (walk n m) size)
verdict01 n m (ReserveUncleared size) = if_settled01 n m (reserve false (walk n m) size)
verdict01 n m (Grow o size) = if_settled01 n m (grow (walk n m) o size)
verdict01 n m (Onactive o t v) = let hs = walk n m in if_settled01 n m (found (finder hs o) (enlist01 m hs RESERVED o t v))
verdict01 n m (Onfree o t v) = let hs = walk n m in if_settled01 n m (found (finder hs o) (enlist01 m hs ACTIVE o t v))
verdict01 n m (Withdraw o) = if_settled01 n m (found (finder (walk n m) o) (withdraw m o))
verdict01 n m (Activate o) = let hs = walk n m in if_settled01 n m (found (finder hs o) (activate01 m hs o))
verdict01 n m (Free o) = let hs = walk n m in if_settled01 n m (found (finder hs o) (free01 m hs o))
verdict01 n m Check = if_sound01 n m (granted 0 [])
verdict01 n m Recover =
    let hs = walk n m in
    if_sound01 n m (granted 0 (finishing01 m (seek is_pending hs) ++ (releasing hs ++ joining (runs (map released hs)))))

-- the requests that are as they were on such a pool: each but onfree, which "always writes" the mark "and now takes RESERVED too" (W4), and
-- reserve, which "stores 0 to every word of the body"; its second form "keeps the old rule" (W5)
abbrev pub is_as_in01 : Request → Bool
is_as_in01 Create = true
is_as_in01 (Reserve size) = false
is_as_in01 (ReserveUncleared size) = true
is_as_in01 (Grow o size) = true
is_as_in01 (Onactive o t v) = true
is_as_in01 (Onfree o t v) = false
is_as_in01 (Withdraw o) = true
is_as_in01 (Activate o) = true
is_as_in01 (Free o) = true
is_as_in01 Check = true
is_as_in01 Recover = true

-- Modules in the field hold pools written before W4. On every image that 01 calls sound, gaps in an unfinished clump included, each request
-- but onfree and reserve has the verdict of 01's rules, reserve_uncleared that of 01's reserve, and grow (W6) that of its rule behind 01's
-- tests: so it gets their answer, place and count, and leaves their image, under any fuse.
abbrev pub AsBefore : Type 0
AsBefore =
    (img : Image) (q : Request)
    → is_pool (length img) (mem img) ≡ true
    → judge01 (length img) (mem img) ≡ none
    → is_as_in01 q ≡ true
    → verdict_on img q ≡ verdict01 (length img) (mem img) q

-- a clump of 128 in a state, with three target words, and a FREE one of 128; its judging by 01
abbrev judged01 : ℕ → ℕ × ℕ × ℕ → Option Fault
judged01 s t =
    let p = pool_of ((128, s) ∷ (128, 0) ∷ []) (store 16400 t.0 ∷ store 16416 t.1 ∷ store 16432 t.2 ∷ []) in
    judge01 p.0 p.1

abbrev fault : ℕ → Option Fault
fault k = some (record { place = 16384; number = k })

-- 01's own words, in rows: gaps, by state; H's six stores; and a pool that holds a mark, which a build of 01 refuses with fault 3, or 5
abbrev pub Earlier : Type 0
Earlier =
    (map (λ s. judged01 s (0, 4096, 0)) (1 ∷ 2 ∷ 3 ∷ 4 ∷ []) ≡ fault 3 ∷ none ∷ fault 3 ∷ none ∷ [])
    × (verdict01 case_h.0 case_h.1 (Activate 16448)
    ≡ granted 16448 (store 16392 2 ∷ store 4096 7 ∷ store 4096 9 ∷ store 16400 0 ∷ store 16416 0 ∷ store 16392 3 ∷ []))
    × (verdict01 case_h.0 case_h.1 (Onfree 16448 4096 1) ≡ refuse wrong_state)
    × (map (λ s. judged01 s (4097, 0, 0)) (0 ∷ 1 ∷ 2 ∷ 3 ∷ 4 ∷ []) ≡ none ∷ fault 3 ∷ fault 5 ∷ fault 3 ∷ fault 5 ∷ [])

earlier : Earlier
unfolding every_rule gapped01 list_bad01 fault_of01 clump_fault01 all_valid01 judge01 if_sound01 if_settled01 enlist01 activate01 free01 verdict01
earlier = (refl, refl, refl, refl)
