-- 01, "Numbers to try": the cases A to J and the whole case of "The program", as one table over the definitions, proved by one
-- statement. The numbers expected are the paper's; where it gives a part only, the rest follows from its rules by hand. Reserve is there in
-- both forms (02, W5): 01's counts are those of the second.
-- Assumes nothing.
use Rattle.std.specs.Prelude.{ℕ, ◌+◌, ◌-◌, ◌≡◌, refl, true, false, cond, ◌&&◌, leb, ltb, List, [], ◌∷◌, map, replicate}
use Rattle.rules.specs.declared.Answer.{Answer}
use Rattle.rules.specs.declared.Request.{Request}
use Rattle.rules.specs.declared.Request.TheVariants.{Create, Reserve, Activate, Free, Recover}
use Rattle.rules.specs.Lists.{seek, those, any, all}
use Rattle.rules.specs.Words.{Mem, Store, store, word_values, le, puts, word_at, put, mem, upd, after, zeros, all_zero}
use Rattle.rules.specs.Pages.{header_at, signature_low, signature_high, signature_high_at, total_at, padding_at, clumps_at, static_at, right_length, is_pool}
use Rattle.rules.specs.Clumps.{state_at, marked, unmarked, target_of, heads_from, walk}
use Rattle.rules.specs.Sound.{size_bad, state_bad, in_place, list_bad, fault_of, clump_fault, second_fault, is_valid, all_valid, target_fault, judge, touching, unsettled}
use Rattle.rules.specs.Answers.{Verdict, made, flush_of, widened, answer_of, if_sound, if_settled, bytes_of}
use Rattle.rules.specs.Stores.{create_stores, need_of, cleared_words, reserve_stores, finish_activating, finish_freeing, grow_stores, activate_stores, drop_stores, free_stores, releasing, runs, joining, recover_stores}
use Rattle.rules.specs.Requests.{reserve, reserving, grown, grow, open_slot, enlist, withdraw, activate, free, verdict, answer_for}

-- a pool: its length and its memory
abbrev pub Pool : Type 0
Pool = ℕ × Mem

-- clumps from a on, each given by nbytes and state
abbrev pub headers : ℕ → List (ℕ × ℕ) → List Store
headers a [] = []
headers a (c ∷ cs) = store a c.0 ∷ store (state_at a) c.1 ∷ headers (a + c.0) cs

abbrev pub end_from : ℕ → List (ℕ × ℕ) → ℕ
end_from a [] = a
end_from a (c ∷ cs) = end_from (a + c.0) cs

-- the page of a pool of n bytes, and the headers of its clumps; every other word is 0. Of the padding that is said first: the page test reads
-- 509 of its words
abbrev pub laid : ℕ → List (ℕ × ℕ) → Mem
laid n cs o =
    cond (leb padding_at o && ltb o clumps_at) 0
    (after (λ i. 0) (store header_at signature_low ∷ store signature_high_at signature_high ∷ store total_at n ∷ headers clumps_at cs) o)

-- the pool of these clumps, with further words stored
abbrev pub pool_of : List (ℕ × ℕ) → List Store → Pool
pool_of cs more = let n = end_from clumps_at cs in (n, after (laid n cs) more)

-- nbytes and state of each clump
abbrev pub shape : Pool → List (ℕ × ℕ)
shape p = map (λ h. (h.nbytes, h.state)) (walk p.0 p.1)

-- the pool after stores, and after a request under a fuse
abbrev pub with : Pool → List Store → Pool
with p st = (p.0, after p.1 st)

abbrev pub under : ℕ → Pool → Request → Pool
under fuse p q = with p (made fuse (verdict p.0 p.1 q))

-- recovery's stores by the rule of the clumps, and the pool after them
abbrev pub recovering : Pool → List Store
recovering p = recover_stores p.1 (walk p.0 p.1)

abbrev pub again : Pool → Pool
again p = with p (recovering p)

-- what to flush of stores
abbrev pub range_of : List Store → ℕ × ℕ
range_of st = let f = flush_of st in (f.from, f.to)

-- "otherwise the fuse is the largest 64-bit number"
abbrev pub longest : ℕ
longest = word_values - 1

-- what a request answers under a fuse
abbrev pub answer_in : ℕ → Pool → Request → Answer
answer_in fuse p q = answer_for p.0 p.1 q fuse

-- answer, place and count of a request under a fuse, and the clumps after it
abbrev pub Row : Type 0
Row = ℕ × ℕ × ℕ × List (ℕ × ℕ)

abbrev pub row_of : ℕ → Pool → Verdict → Row
row_of fuse p v = let r = answer_of fuse v in (r.answer, r.place, r.stores, shape (with p (made fuse v)))

abbrev pub row : ℕ → Pool → Request → Row
row fuse p q = row_of fuse p (verdict p.0 p.1 q)

-- reserve, in both forms: that which clears, and the other
abbrev pub rows : Pool → ℕ → List Row
rows p size = map (λ clears. row longest p (reserving clears size)) (true ∷ false ∷ [])

-- H: RESERVED 256 with the list (4096, 7), (4096, 9); 4096 holds 1
abbrev pub case_h : Pool
case_h = pool_of ((256, 1) ∷ []) (store 16400 4096 ∷ store 16408 7 ∷ store 16416 4096 ∷ store 16424 9 ∷ store static_at 1 ∷ [])

-- H cut after k stores: the answer, the word at 4096, then what recovery answers and leaves, and the word at 4096
abbrev pub cut_h : ℕ → ℕ × ℕ × Row × ℕ
cut_h k =
    let x = under k case_h (Activate 16448) in (
      (answer_in k case_h (Activate 16448)).answer,
      x.1 static_at,
      row longest x Recover,
      (under longest x Recover).1 static_at,
    )

-- J: RESERVED 128 that lists (16576, 5), and ACTIVE 128, which is freed
abbrev pub case_j : Pool
case_j = pool_of ((128, 1) ∷ (128, 3) ∷ []) (store 16400 16576 ∷ store 16408 5 ∷ [])

-- create over words that are not 0, cut after k stores: what stands in place of the first signature word
abbrev pub create_cut : ℕ → ℕ
create_cut k = (under k (32768, λ o. o) Create).1 header_at

-- what a finished create leaves, for the program's whole case
abbrev pub fresh : Pool
fresh = pool_of ((16384, 0) ∷ []) []

-- a row is computed by opening every rule that it may meet
unfoldable pub every_rule : Unit {0}
unfolding seek those any all le puts word_at put mem upd after zeros all_zero signature_low signature_high right_length is_pool marked unmarked target_of heads_from walk size_bad state_bad in_place list_bad fault_of clump_fault second_fault is_valid all_valid target_fault judge touching unsettled widened answer_of if_sound if_settled bytes_of create_stores need_of cleared_words reserve_stores finish_activating finish_freeing grow_stores activate_stores drop_stores free_stores releasing runs joining recover_stores reserve grown grow open_slot enlist withdraw activate free verdict
every_rule = tt

abbrev pub Cases : Type 0
Cases =
    -- A
    (map need_of (1 ∷ 64 ∷ 65 ∷ 1000 ∷ []) ≡ 128 ∷ 128 ∷ 192 ∷ 1088 ∷ [])
    -- B: 1,024 bytes of a body are 128 words
    × (rows (pool_of ((256, 3) ∷ (2048, 0) ∷ (256, 3) ∷ []) []) 1000
    ≡ map (λ count. (0, 16704, count, ((256, 3) ∷ (1088, 1) ∷ (960, 0) ∷ (256, 3) ∷ []))) (135 ∷ 7 ∷ []))
    -- C to F: of 1,088 bytes 136
    × (map (λ size. rows (pool_of ((size, 0) ∷ []) []) 1000) (1216 ∷ 1152 ∷ 1088 ∷ 1024 ∷ [])
    ≡ map (λ count. (0, 16448, count, ((1088, 1) ∷ (128, 0) ∷ []))) (135 ∷ 7 ∷ [])
    ∷ map (λ count. (0, 16448, count, ((1152, 1) ∷ []))) (140 ∷ 4 ∷ [])
    ∷ map (λ count. (0, 16448, count, ((1088, 1) ∷ []))) (132 ∷ 4 ∷ [])
    ∷ replicate 2 (5, 0, 0, ((1024, 0) ∷ []))
    ∷ [])
    -- G: of 16,320 bytes 2,040
    × (map (rows (pool_of ((16384, 0) ∷ []) [])) (16320 ∷ 16321 ∷ 18446744073709551615 ∷ [])
    ≡ map (λ count. (0, 16448, count, ((16384, 1) ∷ []))) (2044 ∷ 4 ∷ [])
    ∷ replicate 2 (5, 0, 0, ((16384, 0) ∷ []))
    ∷ replicate 2 (5, 0, 0, ((16384, 0) ∷ []))
    ∷ [])
    -- H: activate, and each of its cuts
    × (row longest case_h (Activate 16448) ≡ (0, 16448, 6, ((256, 3) ∷ [])))
    × (map cut_h (0 ∷ 1 ∷ 2 ∷ 3 ∷ 4 ∷ 5 ∷ 6 ∷ [])
    ≡ (11, 1, (0, 0, 1, ((256, 0) ∷ [])), 1)
    ∷ (11, 1, (0, 0, 5, ((256, 3) ∷ [])), 9)
    ∷ (11, 7, (0, 0, 5, ((256, 3) ∷ [])), 9)
    ∷ (11, 9, (0, 0, 5, ((256, 3) ∷ [])), 9)
    ∷ (11, 9, (0, 0, 3, ((256, 3) ∷ [])), 9)
    ∷ (11, 9, (0, 0, 1, ((256, 3) ∷ [])), 9)
    ∷ (0, 9, (0, 0, 0, ((256, 3) ∷ [])), 9)
    ∷ [])
    -- I
    × (row longest (pool_of ((256, 0) ∷ (256, 3) ∷ (256, 0) ∷ []) []) (Free 16704) ≡ (0, 16704, 4, ((768, 0) ∷ [])))
    -- J
    × (row longest (under longest case_j (Free 16576)) (Activate 16448) ≡ (10, 0, 0, ((128, 1) ∷ (128, 0) ∷ [])))
    -- create, and its cuts
    × (row longest (32768, λ o. o) Create ≡ (0, 0, 1033, ((16384, 0) ∷ [])))
    × (map create_cut (0 ∷ 1 ∷ 1032 ∷ 1033 ∷ []) ≡ 12288 ∷ 0 ∷ 0 ∷ signature_low ∷ [])
    × (is_pool 32768 (under longest (32768, λ o. o) Create).1 ≡ true)
    -- the program's whole case: "prints 135 where it printed 7"
    × (rows fresh 1000 ≡ map (λ count. (0, 16448, count, ((1088, 1) ∷ (15296, 0) ∷ []))) (135 ∷ 7 ∷ []))
    × (row longest (under longest fresh (Reserve 1000)) (Activate 16448) ≡ (0, 16448, 2, ((1088, 3) ∷ (15296, 0) ∷ [])))

cases : Cases
unfolding every_rule
cases = (refl, refl, refl, refl, refl, refl, refl, refl, refl, refl, refl, refl, refl)
