-- The rules that the cases A to J leave out, sampled: pages, faults and their order, valid targets, each answer, each exact list of
-- stores, totals, fuses and what to flush, as one table over the definitions, proved by one statement. The numbers expected follow from
-- 01 and 02 by hand. Assumes nothing.
use Rattle.std.specs.Prelude.{ℕ, ◌≡◌, refl, Bool, true, false, List, [], ◌∷◌, ◌++◌, map, replicate, get_or}
use Rattle.std.proofs.Math.Option.{Option, some, none}
use Rattle.rules.specs.declared.Request.{Request}
use Rattle.rules.specs.declared.Totals.{Totals}
use Rattle.rules.specs.declared.Request.TheVariants.{Create, Reserve, ReserveUncleared, Grow, Onactive, Onfree, Withdraw, Activate, Free, Check, Recover}
use Rattle.rules.specs.Words.{store, put, mem}
use Rattle.rules.specs.Pages.{signature_low, signature_high, right_length}
use Rattle.rules.specs.Clumps.{walk}
use Rattle.rules.specs.Sound.{is_valid}
use Rattle.rules.specs.Answers.{stores_of, totals_for}
use Rattle.rules.specs.Requests.{reserving, verdict, finding}
use Rattle.rules.specs.Cases.{every_rule, Pool, pool_of, under, longest, answer_in, case_h, fresh}

-- answer, place and fault of check
abbrev pub checked : Pool → ℕ × ℕ × ℕ
checked p = let r = answer_in longest p Check in (r.answer, r.place, r.fault)

-- the answer of a request
abbrev pub answered : Pool → Request → ℕ
answered p q = (answer_in longest p q).answer

-- its place
abbrev pub place_of : Pool → Request → ℕ
place_of p q = (answer_in longest p q).place

-- each request but create, on the clump that has its body at o
abbrev pub requests_on : ℕ → List Request
requests_on o = Reserve 1 ∷ ReserveUncleared 1 ∷ Grow o 1 ∷ Onactive o 4096 1 ∷ Onfree o 4096 1 ∷ Withdraw o ∷ Activate o ∷ Free o ∷ Check ∷ Recover ∷ []

-- check's totals
abbrev pub totalled : Pool → Totals
totalled p = totals_for (verdict p.0 p.1 Check) (walk p.0 p.1)

-- the stores of a request
abbrev pub list_of : Pool → Request → List (ℕ × ℕ)
list_of p q = map (λ s. (s.to, s.word)) (stores_of (verdict p.0 p.1 q))

-- a clump of 128 in a state, with three target words, and a FREE one of 128
abbrev pub listing : ℕ → ℕ × ℕ × ℕ → Pool
listing s t = pool_of ((128, s) ∷ (128, 0) ∷ []) (store 16400 t.0 ∷ store 16416 t.1 ∷ store 16432 t.2 ∷ [])

-- FREE, ACTIVE with the list (4096, 7), FREE
abbrev pub between : Pool
between = pool_of ((128, 0) ∷ (128, 3) ∷ (128, 0) ∷ []) (store 16528 4096 ∷ store 16536 7 ∷ [])

-- what a power loss may leave: FREE, RESERVED, FREEING with the list (4096, 7), ACTIVE, RESERVED, FREE
abbrev pub broken : Pool
broken = pool_of ((128, 0) ∷ (128, 1) ∷ (128, 4) ∷ (128, 3) ∷ (128, 1) ∷ (128, 0) ∷ []) (store 16656 4096 ∷ store 16664 7 ∷ [])

-- answer, place and count of case C, in a form of reserve, under a fuse
abbrev pub fused : Bool → ℕ → ℕ × ℕ × ℕ
fused clears k =
    let r = answer_in k (pool_of ((1216, 0) ∷ []) []) (reserving clears 1000) in
    (r.answer, r.place, r.stores)

-- what a request says to flush, under a fuse
abbrev pub flushed : ℕ → Pool → Request → ℕ × ℕ
flushed k p q = let r = answer_in k p q in (r.flush_from, r.flush_to)

-- what the finder answers of the clump that has its body at an offset
abbrev pub found_at : Pool → ℕ → Option (ℕ × ℕ)
found_at p o = finding (walk p.0 p.1) o

abbrev pub Samples : Type 0
Samples =
    -- words: eight bytes, least significant first; none at an offset that isn't divisible by 8
    (put (replicate 16 255) 8 513 ≡ replicate 8 255 ++ (1 ∷ 2 ∷ 0 ∷ 0 ∷ 0 ∷ 0 ∷ 0 ∷ 0 ∷ []))
    × (map (mem (0 ∷ 0 ∷ 0 ∷ 0 ∷ 0 ∷ 0 ∷ 0 ∷ 128 ∷ 1 ∷ 2 ∷ [])) (0 ∷ 8 ∷ 9 ∷ []) ≡ 9223372036854775808 ∷ 513 ∷ 0 ∷ [])
    -- pages: lengths; the signature's words; a word that is not 0 where one is judged, and where none is
    × (map right_length (16448 ∷ 16512 ∷ 16520 ∷ 16544 ∷ 1073741824 ∷ 1073741888 ∷ [])
    ≡ false ∷ true ∷ false ∷ false ∷ true ∷ false ∷ [])
    × ((signature_low ∷ signature_high ∷ []) ≡ 5497841045243514922 ∷ 21479300299440975 ∷ [])
    × (map (λ o. checked (pool_of ((128, 0) ∷ []) (store o 1 ∷ []))) (0 ∷ 4096 ∷ 8192 ∷ 12288 ∷ 12296 ∷ 12304 ∷ 12312 ∷ 16376 ∷ [])
    ≡ (0, 0, 0) ∷ (0, 0, 0) ∷ (0, 0, 0) ∷ (1, 0, 0) ∷ (1, 0, 0) ∷ (1, 0, 0) ∷ (1, 0, 0) ∷ (1, 0, 0) ∷ [])
    -- the total size: below the length, the length, and above it
    × (map (λ t. checked (pool_of ((128, 0) ∷ (128, 0) ∷ []) (store 12304 t ∷ []))) (16576 ∷ 16640 ∷ 16704 ∷ [])
    ≡ (1, 0, 0) ∷ (0, 0, 0) ∷ (1, 0, 0) ∷ [])
    -- fault 1, by the first clump's nbytes; 192 leaves the next header at 16576, where nbytes is 0
    × (map (λ w. checked (pool_of ((128, 0) ∷ (128, 0) ∷ []) (store 16384 w ∷ []))) (64 ∷ 136 ∷ 160 ∷ 192 ∷ 256 ∷ 320 ∷ [])
    ≡ (2, 16384, 1) ∷ (2, 16384, 1) ∷ (2, 16384, 1) ∷ (2, 16576, 1) ∷ (0, 0, 0) ∷ (2, 16384, 1) ∷ [])
    -- fault 2, by the second clump's state
    × (map (λ s. checked (pool_of ((128, 0) ∷ (128, s) ∷ []) [])) (4 ∷ 5 ∷ 6 ∷ 256 ∷ longest ∷ [])
    ≡ (0, 0, 0) ∷ (2, 16512, 2) ∷ (2, 16512, 2) ∷ (2, 16512, 2) ∷ (2, 16512, 2) ∷ [])
    -- fault 3, by the targets of a RESERVED clump and of an ACTIVE one (W4: empty entries may stand anywhere); the list of a FREE one means
    -- nothing
    × (map (λ t. checked (listing 1 t)) ((0, 4096, 0) ∷ (4096, 0, 8184) ∷ (4096, 8184, 16632) ∷ (4100, 0, 0) ∷ (4096, 8192, 0) ∷ (16376, 0, 0) ∷ (16384, 0, 0) ∷ (16640, 0, 0) ∷ [])
    ≡ (0, 0, 0) ∷ (0, 0, 0) ∷ (0, 0, 0) ∷ (2, 16384, 3) ∷ (2, 16384, 3) ∷ (2, 16384, 3) ∷ (0, 0, 0) ∷ (2, 16384, 3) ∷ [])
    × (map (λ t. checked (listing 3 t)) ((0, 0, 4096) ∷ (4096, 4104, 8184) ∷ (4096, 8188, 0) ∷ (8, 0, 0) ∷ [])
    ≡ (0, 0, 0) ∷ (0, 0, 0) ∷ (2, 16384, 3) ∷ (2, 16384, 3) ∷ [])
    × (checked (listing 0 (4100, 0, 1)) ≡ (0, 0, 0))
    -- fault 4, and the lower number before the higher
    × (map (λ s. checked (pool_of ((128, 2) ∷ (128, s) ∷ []) (store 16400 16384 ∷ []))) (2 ∷ 4 ∷ 5 ∷ [])
    ≡ (2, 16512, 4) ∷ (2, 16512, 4) ∷ (2, 16512, 2) ∷ [])
    -- fault 5, by the targets of an ACTIVATING clump, where empty entries may stand anywhere
    × (map (λ t. checked (listing 2 t)) ((0, 4096, 0) ∷ (16448, 0, 16504) ∷ (16384, 0, 0) ∷ (16576, 0, 0) ∷ [])
    ≡ (0, 0, 0) ∷ (0, 0, 0) ∷ (2, 16384, 5) ∷ (2, 16384, 5) ∷ [])
    -- valid targets, with ACTIVE 128 and FREE 128
    × (map (is_valid (walk 16640 (listing 3 (0, 0, 0)).1)) (4088 ∷ 4096 ∷ 8184 ∷ 8192 ∷ 16440 ∷ 16448 ∷ 16452 ∷ 16504 ∷ 16512 ∷ 16576 ∷ [])
    ≡ false ∷ true ∷ true ∷ false ∷ false ∷ true ∷ false ∷ true ∷ false ∷ false ∷ [])
    -- answer 3: two FREE touch, or a clump is ACTIVATING, or FREEING; before 4, and never of check and recover
    × (map (answered (pool_of ((128, 0) ∷ (128, 0) ∷ []) [])) (Reserve 0 ∷ ReserveUncleared 0 ∷ Grow 16448 0 ∷ requests_on 16448)
    ≡ 3 ∷ 3 ∷ 3 ∷ 3 ∷ 3 ∷ 3 ∷ 3 ∷ 3 ∷ 3 ∷ 3 ∷ 3 ∷ 0 ∷ 0 ∷ [])
    × (map (λ s. map (answered (listing s (0, 0, 0))) (Reserve 1 ∷ Withdraw 16448 ∷ Free 16448 ∷ Check ∷ Recover ∷ [])) (2 ∷ 4 ∷ [])
    ≡ replicate 2 (3 ∷ 3 ∷ 3 ∷ 0 ∷ 0 ∷ []))
    -- answers 4, 6 and 7, with FREE 128 and ACTIVE 128
    × (map (answered (pool_of ((128, 0) ∷ (128, 3) ∷ []) [])) (Reserve 0 ∷ ReserveUncleared 0 ∷ Grow 16384 0 ∷ Grow 16384 1 ∷ Grow 16448 longest ∷ Activate 16384 ∷ Activate 16448 ∷ Free 16448 ∷ Withdraw 16448 ∷ Activate 16576 ∷ Onactive 16576 4096 1 ∷ [])
    ≡ 4 ∷ 4 ∷ 4 ∷ 6 ∷ 7 ∷ 6 ∷ 7 ∷ 7 ∷ 7 ∷ 7 ∷ 7 ∷ [])
    -- answers 8, 9 and 10 on a RESERVED clump: its list full, then empty
    × (map (answered (listing 1 (4096, 4096, 4096))) (Onfree 16448 4096 1 ∷ Onactive 16448 8192 1 ∷ Withdraw 16448 ∷ []) ≡ 8 ∷ 8 ∷ 0 ∷ [])
    × (map (answered (listing 1 (0, 0, 0))) (Withdraw 16448 ∷ Onactive 16448 8192 1 ∷ Onactive 16448 16504 1 ∷ Free 16448 ∷ []) ≡ 9 ∷ 10 ∷ 0 ∷ 0 ∷ [])
    -- answer 10 of a target that was listed and lies in a FREE body now: activate and free of an ACTIVE clump, not free of a RESERVED one
    × ((answered (listing 1 (16576, 0, 0)) (Activate 16448) ∷ answered (listing 3 (16576, 0, 0)) (Free 16448) ∷ answered (listing 1 (16576, 0, 0)) (Free 16448) ∷ []) ≡ 10 ∷ 10 ∷ 0 ∷ [])
    -- the place of a request that is done: on a RESERVED clump, and on an ACTIVE one
    × (map (place_of (listing 1 (4096, 0, 0))) (Reserve 1 ∷ Onactive 16448 4096 1 ∷ Withdraw 16448 ∷ Recover ∷ [])
    ≡ 16576 ∷ 16448 ∷ 16448 ∷ 0 ∷ [])
    × (map (place_of (listing 3 (4096, 0, 0))) (Onfree 16448 4096 1 ∷ Withdraw 16448 ∷ Free 16448 ∷ []) ≡ 16448 ∷ 16448 ∷ 16448 ∷ [])
    -- first fit: of two clumps that fit, the lower; of three, the first that is large enough
    × (map (λ size. place_of (pool_of ((128, 0) ∷ (128, 3) ∷ (256, 0) ∷ (128, 3) ∷ (128, 0) ∷ []) []) (Reserve size)) (1 ∷ 65 ∷ 193 ∷ []) ≡ 16448 ∷ 16704 ∷ 0 ∷ [])
    -- the lists of stores: of create its first, the ends of its parts, and three words inside each run of zeros
    × (map (λ i. get_or (list_of fresh Create) i (0, 0)) (0 ∷ 1 ∷ 2 ∷ 3 ∷ 4 ∷ 512 ∷ 513 ∷ 514 ∷ 515 ∷ 516 ∷ 517 ∷ 518 ∷ 1023 ∷ 1024 ∷ 1025 ∷ 1026 ∷ 1027 ∷ 1028 ∷ 1031 ∷ 1032 ∷ 1033 ∷ [])
    ≡ (12288, 0)
    ∷ (4096, 0)
    ∷ (4104, 0)
    ∷ (4112, 0)
    ∷ (4120, 0)
    ∷ (8184, 0)
    ∷ (12296, 21479300299440975)
    ∷ (12304, 32768)
    ∷ (12312, 0)
    ∷ (12320, 0)
    ∷ (12328, 0)
    ∷ (12336, 0)
    ∷ (16376, 0)
    ∷ (16384, 16384)
    ∷ (16392, 0)
    ∷ (16400, 0)
    ∷ (16408, 0)
    ∷ (16416, 0)
    ∷ (16440, 0)
    ∷ (12288, 5497841045243514922)
    ∷ (0, 0)
    ∷ [])
    × (list_of (pool_of ((1216, 0) ∷ []) []) (ReserveUncleared 1000)
    ≡ (17472, 128) ∷ (17480, 0) ∷ (16400, 0) ∷ (16416, 0) ∷ (16432, 0) ∷ (16384, 1088) ∷ (16392, 1) ∷ [])
    × (list_of (pool_of ((1152, 0) ∷ []) []) (ReserveUncleared 1000) ≡ (16400, 0) ∷ (16416, 0) ∷ (16432, 0) ∷ (16392, 1) ∷ [])
    × (list_of (listing 1 (4096, 0, 0)) (Onactive 16448 8184 9) ≡ (16424, 9) ∷ (16416, 8184) ∷ [])
    × (list_of (listing 3 (4096, 4096, 0)) (Onfree 16448 16448 5) ≡ (16440, 5) ∷ (16432, 16449) ∷ [])
    × (list_of (listing 3 (4096, 4104, 0)) (Withdraw 16448) ≡ (16416, 0) ∷ [])
    × (list_of case_h (Activate 16448) ≡ (16392, 2) ∷ (4096, 7) ∷ (4096, 9) ∷ (16400, 0) ∷ (16416, 0) ∷ (16392, 3) ∷ [])
    × (list_of between (Free 16576) ≡ (16520, 4) ∷ (4096, 7) ∷ (16520, 0) ∷ (16512, 256) ∷ (16384, 384) ∷ [])
    × (list_of (listing 1 (4096, 0, 0)) (Free 16448) ≡ (16392, 0) ∷ (16384, 256) ∷ [])
    × (list_of broken Recover ≡ (4096, 7) ∷ (16648, 0) ∷ (16520, 0) ∷ (16904, 0) ∷ (16384, 384) ∷ (16896, 256) ∷ [])
    × (list_of (under longest broken Recover) Recover ≡ [])
    -- totals: with a clump in every state but ACTIVATING, and in that; with a refusal
    × (totalled broken ≡ record { free = 256; reserved = 256; activating = 0; active = 128; freeing = 128 })
    × (totalled (listing 2 (0, 0, 0)) ≡ record { free = 128; reserved = 0; activating = 128; active = 0; freeing = 0 })
    × (totalled (listing 3 (8, 0, 0)) ≡ record { free = 0; reserved = 0; activating = 0; active = 0; freeing = 0 })
    -- fuses of 0, one too few, and enough
    × (map (fused true) (0 ∷ 134 ∷ 135 ∷ 136 ∷ []) ≡ (11, 0, 0) ∷ (11, 0, 134) ∷ (0, 16448, 135) ∷ (0, 16448, 135) ∷ [])
    × (map (fused false) (0 ∷ 6 ∷ 7 ∷ 8 ∷ []) ≡ (11, 0, 0) ∷ (11, 0, 6) ∷ (0, 16448, 7) ∷ (0, 16448, 7) ∷ [])
    -- W1, what to flush. Of create: cut before its first store and after it, after the static area, after the header page, before the
    -- last; finished
    × (map (λ k. flushed k (32768, λ o. o) Create) (0 ∷ 1 ∷ 513 ∷ 1024 ∷ 1032 ∷ 1033 ∷ [])
    ≡ (0, 0) ∷ (12288, 12296) ∷ (4096, 12296) ∷ (4096, 16384) ∷ (4096, 16448) ∷ (4096, 16448) ∷ [])
    -- of reserve in its second form, splitting (the rest's state, at 17480, is the highest) and not: there the targets hold 0 already, and count
    × (map (λ k. flushed k (pool_of ((1216, 0) ∷ []) []) (ReserveUncleared 1000)) (0 ∷ 1 ∷ 2 ∷ 5 ∷ 6 ∷ 7 ∷ [])
    ≡ (0, 0) ∷ (17472, 17480) ∷ (17472, 17488) ∷ (16400, 17488) ∷ (16384, 17488) ∷ (16384, 17488) ∷ [])
    × (map (λ k. flushed k (pool_of ((1152, 0) ∷ []) []) (ReserveUncleared 1000)) (1 ∷ 3 ∷ 4 ∷ []) ≡ (16400, 16408) ∷ (16400, 16440) ∷ (16392, 16440) ∷ [])
    -- of onactive, value first, and of withdraw
    × (map (λ k. flushed k (listing 1 (4096, 0, 0)) (Onactive 16448 8184 9)) (1 ∷ 2 ∷ []) ≡ (16424, 16432) ∷ (16416, 16432) ∷ [])
    × (flushed longest (listing 3 (4096, 4104, 0)) (Withdraw 16448) ≡ (16416, 16424))
    -- of H at every cut
    × (map (λ k. flushed k case_h (Activate 16448)) (0 ∷ 1 ∷ 2 ∷ 3 ∷ 4 ∷ 5 ∷ 6 ∷ [])
    ≡ (0, 0) ∷ (16392, 16400) ∷ (4096, 16400) ∷ (4096, 16400) ∷ (4096, 16408) ∷ (4096, 16424) ∷ (4096, 16424) ∷ [])
    -- of a free that joins the clump below, without a list (I) and with one
    × (flushed longest (pool_of ((256, 0) ∷ (256, 3) ∷ (256, 0) ∷ []) []) (Free 16704) ≡ (16384, 16656))
    × (flushed longest between (Free 16576) ≡ (4096, 16528))
    -- of recover, and of one with nothing to do
    × (flushed longest broken Recover ≡ (4096, 16912))
    × (flushed longest (under longest broken Recover) Recover ≡ (0, 0))
    -- of check, and of what is refused: with 2, 3, 4, 6 and 7, and with 1
    × (map (flushed longest between) (Check ∷ Reserve 0 ∷ Free 16384 ∷ Activate 16576 ∷ []) ≡ replicate 4 (0, 0))
    × ((flushed longest (listing 3 (8, 0, 0)) (Reserve 1) ∷ flushed longest broken (Reserve 1) ∷ flushed longest (16448, λ o. o) Create ∷ [])
    ≡ replicate 3 (0, 0))
    -- W7, the finder: the header offset and that of the clump before it, whatever its state, 0 for the first clump; none at a header, in
    -- a body, or behind the last clump
    × (map (found_at (pool_of ((128, 0) ∷ (256, 3) ∷ (192, 1) ∷ (128, 0) ∷ []) [])) (16448 ∷ 16576 ∷ 16832 ∷ 17024 ∷ 16384 ∷ 16512 ∷ 16640 ∷ 17152 ∷ [])
    ≡ some (16384, 0) ∷ some (16512, 16384) ∷ some (16768, 16512) ∷ some (16960, 16768) ∷ none ∷ none ∷ none ∷ none ∷ [])

samples : Samples
unfolding every_rule
samples = (refl, refl, refl, refl, refl, refl, refl, refl, refl, refl, refl, refl, refl, refl, refl, refl, refl, refl, refl, refl, refl, refl, refl, refl, refl, refl, refl, refl, refl, refl, refl, refl, refl, refl, refl, refl, refl, refl, refl, refl, refl, refl, refl, refl, refl, refl, refl, refl, refl, refl, refl, refl)
