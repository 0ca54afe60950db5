-- W5 sampled: both forms of reserve, split and not split, over a pool in which every word is old: the lists of stores, what stands after a
-- cut before the first zero, in the middle, after the last and behind the state, what recovery makes of every cut, and what to flush. One
-- table over the definitions, proved by one statement. The numbers expected follow from 02 by hand. A row goes by the rule of the clump: the
-- tests of a whole request take longer to compute. Assumes nothing.
use Rattle.std.specs.Prelude.{ℕ, zero, suc, ◌+◌, ◌≡◌, refl, Bool, true, false, List, [], ◌∷◌, ◌++◌, map, replicate, take}
use Rattle.rules.specs.Words.{Store, store, zeros, after}
use Rattle.rules.specs.Clumps.{head}
use Rattle.rules.specs.Stores.{need_of, cleared_words, reserve_stores}
use Rattle.rules.specs.Cases.{every_rule, Pool, shape, with, again, range_of, headers, end_from}
use Rattle.rules.specs.ReadingSamples.{words_in}

-- clumps in which every other word is 9, the words of lists too
abbrev pub old : List (ℕ × ℕ) → Pool
old cs = (end_from 16384 cs, after (λ o. 9) (headers 16384 cs))

-- FREE 320, which is split for 1 byte into 128 and 192; FREE 192, whose rest of 64 is too small, and an ACTIVE clump behind it
abbrev pub large : Pool
large = old ((320, 0) ∷ [])

abbrev pub tight : Pool
tight = old ((192, 0) ∷ (128, 3) ∷ [])

-- the stores of reserve of 1 byte in the first clump
abbrev pub makes : Bool → Pool → List Store
makes clears p = reserve_stores clears (need_of 1) (head p.1 16384)

-- the pool after k of them
abbrev pub cut_at : Bool → Pool → ℕ → Pool
cut_at clears p k = with p (take k (makes clears p))

-- the clumps, the words from 16448 up to the next clump's header at a, and the first word of that one's body
abbrev pub Seen : Type 0
Seen = List (ℕ × ℕ) × List ℕ × ℕ

abbrev pub seen : ℕ → Pool → Seen
seen a p = (shape p, words_in p.1 16448 a, p.1 (a + 64))

-- every number of stores up to so many
abbrev pub up_to : ℕ → List ℕ
up_to zero = 0 ∷ []
up_to (suc k) = up_to k ++ (suc k ∷ [])

-- what to flush after k stores
abbrev pub flush_at : Bool → Pool → ℕ → ℕ × ℕ
flush_at clears p k = range_of (take k (makes clears p))

abbrev pub ClearSamples : Type 0
ClearSamples =
    -- how many words of a clump's body, in either form
    (map (cleared_words true) (128 ∷ 192 ∷ 1088 ∷ 16384 ∷ []) ≡ 8 ∷ 16 ∷ 128 ∷ 2040 ∷ [])
    × (map (cleared_words false) (128 ∷ 16384 ∷ []) ≡ 0 ∷ 0 ∷ [])
    -- the lists: split and not split, "after the sizes are right and before the state becomes RESERVED"
    × (makes true large
    ≡ store 16512 192
    ∷ store 16520 0
    ∷ store 16400 0
    ∷ store 16416 0
    ∷ store 16432 0
    ∷ store 16384 128
    ∷ store 16448 0
    ∷ store 16456 0
    ∷ store 16464 0
    ∷ store 16472 0
    ∷ store 16480 0
    ∷ store 16488 0
    ∷ store 16496 0
    ∷ store 16504 0
    ∷ store 16392 1
    ∷ [])
    × (makes true tight ≡ store 16400 0 ∷ store 16416 0 ∷ store 16432 0 ∷ (zeros 16448 16 ++ (store 16392 1 ∷ [])))
    × (makes false large
    ≡ store 16512 192
    ∷ store 16520 0
    ∷ store 16400 0
    ∷ store 16416 0
    ∷ store 16432 0
    ∷ store 16384 128
    ∷ store 16392 1
    ∷ [])
    × (makes false tight ≡ store 16400 0 ∷ store 16416 0 ∷ store 16432 0 ∷ store 16392 1 ∷ [])
    -- split, cut before the smaller nbytes, before the first zero, after it, in the middle, after the last; finished. The rest's body keeps
    -- its words
    × (map (λ k. seen 16512 (cut_at true large k)) (5 ∷ 6 ∷ 7 ∷ 10 ∷ 14 ∷ 15 ∷ [])
    ≡ ((320, 0) ∷ [], replicate 8 9, 9)
    ∷ ((128, 0) ∷ (192, 0) ∷ [], replicate 8 9, 9)
    ∷ ((128, 0) ∷ (192, 0) ∷ [], replicate 1 0 ++ replicate 7 9, 9)
    ∷ ((128, 0) ∷ (192, 0) ∷ [], replicate 4 0 ++ replicate 4 9, 9)
    ∷ ((128, 0) ∷ (192, 0) ∷ [], replicate 8 0, 9)
    ∷ ((128, 1) ∷ (192, 0) ∷ [], replicate 8 0, 9)
    ∷ [])
    × (map (λ k. seen 16512 (cut_at false large k)) (5 ∷ 6 ∷ 7 ∷ [])
    ≡ ((320, 0) ∷ [], replicate 8 9, 9)
    ∷ ((128, 0) ∷ (192, 0) ∷ [], replicate 8 9, 9)
    ∷ ((128, 1) ∷ (192, 0) ∷ [], replicate 8 9, 9)
    ∷ [])
    -- not split: all of the body, also beyond the size asked, and no word of the next clump
    × (map (λ k. seen 16576 (cut_at true tight k)) (3 ∷ 4 ∷ 11 ∷ 19 ∷ 20 ∷ [])
    ≡ ((192, 0) ∷ (128, 3) ∷ [], replicate 16 9, 9)
    ∷ ((192, 0) ∷ (128, 3) ∷ [], replicate 1 0 ++ replicate 15 9, 9)
    ∷ ((192, 0) ∷ (128, 3) ∷ [], replicate 8 0 ++ replicate 8 9, 9)
    ∷ ((192, 0) ∷ (128, 3) ∷ [], replicate 16 0, 9)
    ∷ ((192, 1) ∷ (128, 3) ∷ [], replicate 16 0, 9)
    ∷ [])
    × (map (λ k. seen 16576 (cut_at false tight k)) (3 ∷ 4 ∷ [])
    ≡ ((192, 0) ∷ (128, 3) ∷ [], replicate 16 9, 9)
    ∷ ((192, 1) ∷ (128, 3) ∷ [], replicate 16 9, 9)
    ∷ [])
    -- "After a cut and recovery it still reads as not asked": after every number of stores
    × (map (λ k. shape (again (cut_at true large k))) (up_to 15) ≡ replicate 16 ((320, 0) ∷ []))
    × (map (λ k. shape (again (cut_at true tight k))) (up_to 20) ≡ replicate 21 ((192, 0) ∷ (128, 3) ∷ []))
    × (map (λ k. shape (again (cut_at false large k))) (up_to 7) ≡ replicate 8 ((320, 0) ∷ []))
    -- W1, what to flush: with the zeros, up to the last
    × (map (flush_at true large) (6 ∷ 7 ∷ 15 ∷ []) ≡ replicate 3 (16384, 16528))
    × (map (flush_at true tight) (3 ∷ 4 ∷ 11 ∷ 19 ∷ 20 ∷ [])
    ≡ (16400, 16440) ∷ (16400, 16456) ∷ (16400, 16512) ∷ (16400, 16576) ∷ (16392, 16576) ∷ [])

clear_samples : ClearSamples
unfolding every_rule
clear_samples = (refl, refl, refl, refl, refl, refl, refl, refl, refl, refl, refl, refl, refl, refl, refl)
