-- 01, "Plausible builds that are wrong", and eight more, two of them W4's, one W5's and two W6's: each order of stores that the laws refuse,
-- on a small pool, cut where it hurts, and what recovery then answers and leaves; of W5's, what the cut leaves, since recovery hides it. So
-- the laws are not about one order by chance: these orders are wrong. One table, proved by computing. The numbers are worked out by hand
-- from the paper's rules. Assumes nothing.
use Rattle.std.specs.Prelude.{ℕ, ◌≡◌, refl, true, List, [], ◌∷◌, ◌++◌, map, reverse, take}
use Rattle.rules.specs.declared.Request.TheVariants.{Recover}
use Rattle.rules.specs.Lists.{seek}
use Rattle.rules.specs.Words.{Store, store}
use Rattle.rules.specs.Clumps.{Head, head, state_at, slots, value_at, used, marked, unmarked, slots_by, entries_by, is_pending, FREE, RESERVED, ACTIVATING, ACTIVE, FREEING, walk}
use Rattle.rules.specs.Answers.{answer_of}
use Rattle.rules.specs.Stores.{emptying, set_state, rest_header, clearing, finishing, releasing, released, runs, joining, finish_freeing}
use Rattle.rules.specs.Requests.{verdict}
use Rattle.rules.specs.Reading.{Listed, listing}
use Rattle.rules.specs.Cases.{Pool, pool_of, shape, with, under, longest, case_h, every_rule}
use Rattle.rules.specs.ReadingSamples.{plain, on_free, mixed}

-- a pool after the first k stores of a list
abbrev cut_at : ℕ → Pool → List Store → Pool
cut_at k p st = with p (take k st)

-- recovered: its answer, fault, clumps, the used entries of the first clump, and the words at 4096 and 4104
abbrev Left : Type 0
Left = (ℕ × ℕ) × List (ℕ × ℕ) × List Listed × (ℕ × ℕ)

abbrev recovered : Pool → Left
recovered p =
    let r = answer_of longest (verdict p.0 p.1 Recover) in
    let x = under longest p Recover in
    ((r.answer, r.fault), shape x, listing used x.1 16384, (x.1 4096, x.1 4104))

-- the first clump
abbrev first : Pool → Head
first p = head p.1 16384

-- case H's list, emptied last entry first
abbrev last_first : List Store
last_first =
    let m = case_h.1 in
    set_state (first case_h) ACTIVATING ∷ (entries_by unmarked m 16384 ++ (emptying (reverse (slots_by unmarked m 16384)) ++ (set_state (first case_h) ACTIVE ∷ [])))

-- case H, ACTIVE before the list is empty
abbrev active_first : List Store
active_first = let m = case_h.1 in set_state (first case_h) ACTIVATING ∷ (entries_by unmarked m 16384 ++ (set_state (first case_h) ACTIVE ∷ emptying (slots_by unmarked m 16384)))

-- an ACTIVATING clump with a target in the body of a RESERVED one, which is released first
abbrev linked : Pool
linked = pool_of ((128, 2) ∷ (128, 1) ∷ []) (store 16400 16576 ∷ store 16408 5 ∷ [])

abbrev reserved_first : List Store
reserved_first =
    let m = linked.1 in
    let hs = walk linked.0 m in
    releasing hs ++ (finishing m (seek is_pending hs) ++ joining (runs (map released hs)))

-- reserve of 1000 in a FREE clump of 16384, the smaller nbytes first
abbrev wide : Pool
wide = pool_of ((16384, 0) ∷ []) []

abbrev smaller_first : List Store
smaller_first = store 16384 1088 ∷ store 17472 15296 ∷ store (state_at 17472) FREE ∷ (emptying (slots 16384) ++ (set_state (first wide) RESERVED ∷ []))

-- reserve of a FREE clump whose first target word is 3, which stays
abbrev stale : Pool
stale = pool_of ((128, 0) ∷ []) (store 16400 3 ∷ [])

abbrev not_cleared : List Store
not_cleared = set_state (first stale) RESERVED ∷ []

-- onfree of (4096, 7) on an ACTIVE clump, the target first; the value word holds 2
abbrev live : Pool
live = pool_of ((128, 3) ∷ []) (store 16408 2 ∷ [])

abbrev target_first : List Store
target_first = store 16400 4096 ∷ store (value_at 16400) 7 ∷ []

-- free of an ACTIVE clump that lists (4096, 7) and (4104, 9), in state ACTIVE
abbrev paired : Pool
paired = pool_of ((128, 3) ∷ []) (store 16400 4096 ∷ store 16408 7 ∷ store 16416 4104 ∷ store 16424 9 ∷ store 4096 1 ∷ store 4104 1 ∷ [])

abbrev no_freeing : List Store
no_freeing = set_state (first paired) ACTIVE ∷ finish_freeing used paired.1 (first paired)

-- W4, free of a RESERVED clump that lists (4096, 7), unmarked, and (4104, 9), marked: FREEING before the unmarked one is emptied
abbrev freeing_first : List Store
freeing_first = let m = mixed.1 in set_state (first mixed) FREEING ∷ (emptying (slots_by unmarked m 16384) ++ finish_freeing marked m (first mixed))

-- and the unmarked one emptied after the assignments
abbrev emptied_last : List Store
emptied_last =
    let m = mixed.1 in
    set_state (first mixed) FREEING ∷ (entries_by marked m 16384 ++ (emptying (slots_by unmarked m 16384) ++ (set_state (first mixed) FREE ∷ [])))

-- W5, reserve of 1 in a FREE clump of 128 bytes whose body begins with the word 5, an old valve position: cleared once it is RESERVED
abbrev valve : Pool
valve = pool_of ((128, 0) ∷ []) (store 16448 5 ∷ [])

abbrev cleared_last : List Store
cleared_last = emptying (slots 16384) ++ (set_state (first valve) RESERVED ∷ clearing true 16384 128)

-- W6, grow to 65 of an ACTIVE clump of 128 bytes before a FREE one of 320, in whose body old words stand where the rest's header comes: the
-- grown nbytes first, and the rest's state left out
abbrev before320 : Pool
before320 = pool_of ((128, 3) ∷ (320, 0) ∷ []) (store 16576 7 ∷ store 16584 9 ∷ [])

abbrev grown_first : List Store
grown_first = store 16384 192 ∷ rest_header 16576 256

abbrev stateless : List Store
stateless = store 16576 256 ∷ store 16384 192 ∷ []

-- what a technician reads in an image: the clumps, and the first word of the first body
abbrev raw : Pool → List (ℕ × ℕ) × ℕ
raw p = (shape p, p.1 16448)

abbrev pub Wrong : Type 0
Wrong =
    -- "in H a cut leaves (4096, 7) and recovery puts 7 back": 4096 would have to hold 9
    (recovered (cut_at 4 case_h last_first) ≡ ((0, 0), ((256, 3) ∷ []), [], (7, 0)))
    -- "its leftovers then act at the next free": the list would have to be empty
    × (recovered (cut_at 4 case_h active_first) ≡ ((0, 0), ((256, 3) ∷ []), (plain 16400 4096 7 ∷ plain 16416 4096 9 ∷ []), (9, 0)))
    -- "a pending target would lie in a FREE body": fault 5
    × (recovered (cut_at 1 linked reserved_first) ≡ ((2, 5), ((128, 2) ∷ (128, 0) ∷ []), (plain 16400 16576 5 ∷ []), (0, 0)))
    -- "the smaller nbytes before the rest's header": the walk meets a clump of 0 bytes, fault 1
    × ((recovered (cut_at 1 wide smaller_first)).0 ≡ (2, 1))
    -- a RESERVED clump with a list that nobody made: fault 3
    × (recovered (cut_at 1 stale not_cleared) ≡ ((2, 3), ((128, 1) ∷ []), (on_free 16400 2 0 ∷ []), (0, 0)))
    -- a used entry with an old value: the list would have to be empty
    × (recovered (cut_at 1 live target_first) ≡ ((0, 0), ((128, 3) ∷ []), (plain 16400 4096 2 ∷ []), (0, 0)))
    -- one word of two assigned, and the clump kept: all would have to be assigned and the clump freed
    × (recovered (cut_at 2 paired no_freeing) ≡ ((0, 0), ((128, 3) ∷ []), (plain 16400 4096 7 ∷ plain 16416 4104 9 ∷ []), (7, 1)))
    -- W4: with the FREEING store made, an unmarked entry that is left is carried out by recovery: 4096 would have to keep its 0
    × (recovered (cut_at 1 mixed freeing_first) ≡ ((0, 0), ((128, 0) ∷ []), (plain 16400 4096 7 ∷ on_free 16416 4104 9 ∷ []), (7, 9)))
    × (recovered (cut_at 2 mixed emptied_last) ≡ ((0, 0), ((128, 0) ∷ []), (plain 16400 4096 7 ∷ on_free 16416 4104 9 ∷ []), (7, 9)))
    -- W5: "an old valve position out of a fresh record", which would have to be FREE still; recovered it is, so that only a raw image shows it
    × (raw (cut_at 4 valve cleared_last) ≡ ((128, 1) ∷ [], 5))
    × (recovered (cut_at 4 valve cleared_last) ≡ ((0, 0), ((128, 0) ∷ []), [], (0, 0)))
    -- W6: "the rest's header first": the walk meets an old word for the rest's nbytes, fault 1; finished, an old word for its state, fault 2
    × ((recovered (cut_at 1 before320 grown_first)).0 ≡ (2, 1))
    × ((recovered (cut_at 2 before320 stateless)).0 ≡ (2, 2))

pub wrong : Wrong
unfolding every_rule
wrong = (refl, refl, refl, refl, refl, refl, refl, refl, refl, refl, refl, refl, refl)
