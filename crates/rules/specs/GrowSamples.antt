-- W6 sampled, over pools in which every word is old: each answer and the order of its tests, each list of stores, what every cut leaves and
-- what recovery makes of it, and what to flush. One table over the definitions, proved by one statement. The numbers expected follow from 02
-- by hand. A row goes by the rule of the clumps: the tests of a whole request take longer to compute. Assumes nothing.
use Rattle.std.specs.Prelude.{ℕ, ◌≡◌, refl, List, [], ◌∷◌, ◌++◌, map, replicate, take}
use Rattle.rules.specs.Words.{Store, store}
use Rattle.rules.specs.Clumps.{walk}
use Rattle.rules.specs.Answers.{Verdict, granted, refuse, stores_of}
use Rattle.rules.specs.Requests.{grow}
use Rattle.rules.specs.Cases.{every_rule, Pool, shape, with, again, range_of, longest}
use Rattle.rules.specs.ReadingSamples.{words_in}
use Rattle.rules.specs.ClearSamples.{old}

-- a clump of 128 in a state, with its body at 16448; then FREE 320, with its body at 16576; then ACTIVE 128, with its body at 16896
abbrev pub record128 : ℕ → Pool
record128 s = old ((128, s) ∷ (320, 0) ∷ (128, 3) ∷ [])

-- the verdict on a grow
abbrev pub grows : Pool → ℕ → ℕ → Verdict
grows p o size = grow (walk p.0 p.1) o size

-- done, with these stores
abbrev pub storing : List Store → Verdict
storing st = granted 16448 st

-- what grow of the first clump stores, the pool after k of these stores, and what to flush then
abbrev pub made : Pool → ℕ → ℕ → List Store
made p size k = take k (stores_of (grows p 16448 size))

abbrev pub cut_at : Pool → ℕ → ℕ → Pool
cut_at p size k = with p (made p size k)

abbrev pub flush_at : Pool → ℕ → ℕ → ℕ × ℕ
flush_at p size k = range_of (made p size k)

-- the clumps, and the words of the first body, up to a
abbrev pub seen : ℕ → Pool → List (ℕ × ℕ) × List ℕ
seen a p = (shape p, words_in p.1 16448 a)

abbrev pub GrowSamples : Type 0
GrowSamples =
    -- enough already: less than the body of 64, and all of it; RESERVED and ACTIVE alike
    (map (λ s. map (grows (record128 s) 16448) (1 ∷ 63 ∷ 64 ∷ [])) (1 ∷ 3 ∷ []) ≡ replicate 2 (replicate 3 (storing [])))
    -- both together are 448: rests of 256, of 192 and of 128 are split off; a rest of 64 is not, and with none it is an exact fit
    × (map (λ s. map (grows (record128 s) 16448) (65 ∷ 129 ∷ 256 ∷ 257 ∷ 321 ∷ 384 ∷ [])) (1 ∷ 3 ∷ [])
    ≡ replicate 2
    (storing (store 16576 256 ∷ store 16584 0 ∷ store 16384 192 ∷ [])
    ∷ storing (store 16640 192 ∷ store 16648 0 ∷ store 16384 256 ∷ [])
    ∷ storing (store 16704 128 ∷ store 16712 0 ∷ store 16384 320 ∷ [])
    ∷ storing (store 16384 448 ∷ [])
    ∷ storing (store 16384 448 ∷ [])
    ∷ storing (store 16384 448 ∷ [])
    ∷ []))
    -- answer 5: too small by 64, and by far, with a need past 64 bits too
    × (map (grows (record128 3) 16448) (385 ∷ 449 ∷ 18446744073709551552 ∷ 18446744073709551553 ∷ longest ∷ []) ≡ replicate 5 (refuse 5))
    -- the next clump missing, and ACTIVE, RESERVED, with room enough: for one byte more than the body
    × (map (grows (record128 3) 16896) (64 ∷ 65 ∷ []) ≡ granted 16896 [] ∷ refuse 5 ∷ [])
    × (map (λ s. map (grows (old ((128, 1) ∷ (320, s) ∷ [])) 16448) (64 ∷ 65 ∷ [])) (1 ∷ 3 ∷ []) ≡ replicate 2 (storing [] ∷ refuse 5 ∷ []))
    -- answer 4, before 6; answer 6 at a header, inside a body, behind the end
    × (map (λ o. grows (record128 3) o 0) (16448 ∷ 16512 ∷ []) ≡ replicate 2 (refuse 4))
    × (map (λ o. grows (record128 3) o longest) (0 ∷ 16384 ∷ 16456 ∷ 16512 ∷ 16960 ∷ longest ∷ []) ≡ replicate 6 (refuse 6))
    -- answer 7, before 5 and where the body is enough: of a FREE clump, an ACTIVATING and a FREEING one
    × (map (grows (record128 3) 16576) (1 ∷ longest ∷ []) ≡ replicate 2 (refuse 7))
    × (map (λ s. map (grows (record128 s) 16448) (1 ∷ 65 ∷ longest ∷ [])) (0 ∷ 2 ∷ 4 ∷ []) ≡ replicate 3 (replicate 3 (refuse 7)))
    -- each cut, split: the clumps and the words up to the rest's header. The added bytes are the FREE clump's header and its old words
    × (map (λ k. seen 16576 (cut_at (record128 3) 65 k)) (0 ∷ 1 ∷ 2 ∷ 3 ∷ [])
    ≡ replicate 3 ((128, 3) ∷ (320, 0) ∷ (128, 3) ∷ [], replicate 8 9 ++ (320 ∷ 0 ∷ replicate 6 9))
    ++ (((192, 3) ∷ (256, 0) ∷ (128, 3) ∷ [], replicate 8 9 ++ (320 ∷ 0 ∷ replicate 6 9)) ∷ []))
    -- each cut, with all taken
    × (map (λ k. shape (cut_at (record128 3) 257 k)) (0 ∷ 1 ∷ []) ≡ ((128, 3) ∷ (320, 0) ∷ (128, 3) ∷ []) ∷ ((448, 3) ∷ (128, 3) ∷ []) ∷ [])
    -- "Cut before the nbytes store, it reads as not asked": recovered, of an ACTIVE clump and of a RESERVED one, which recovery frees
    × (map (λ k. shape (again (cut_at (record128 3) 65 k))) (0 ∷ 1 ∷ 2 ∷ 3 ∷ [])
    ≡ replicate 3 ((128, 3) ∷ (320, 0) ∷ (128, 3) ∷ []) ++ (((192, 3) ∷ (256, 0) ∷ (128, 3) ∷ []) ∷ []))
    × (map (λ k. shape (again (cut_at (record128 1) 65 k))) (0 ∷ 1 ∷ 2 ∷ 3 ∷ []) ≡ replicate 4 ((448, 0) ∷ (128, 3) ∷ []))
    -- W1, what to flush: with the rest's header, and the one store
    × (map (flush_at (record128 3) 65) (0 ∷ 1 ∷ 2 ∷ 3 ∷ []) ≡ (0, 0) ∷ (16576, 16584) ∷ (16576, 16592) ∷ (16384, 16592) ∷ [])
    × (map (flush_at (record128 3) 257) (0 ∷ 1 ∷ []) ≡ (0, 0) ∷ (16384, 16392) ∷ [])
    × (flush_at (record128 3) 64 1 ≡ (0, 0))

grow_samples : GrowSamples
unfolding every_rule
grow_samples = (refl, refl, refl, refl, refl, refl, refl, refl, refl, refl, refl, refl, refl, refl, refl, refl)
