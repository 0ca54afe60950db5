-- The reading of a small pool, to the last entry and word, and what becomes of it where one word differs; where the owner may write, what
-- no answer depends on, the pages that are never touched, and which image a cut request reads as: sampled as one table over the
-- definitions, proved by one statement. The numbers expected follow from 01 by hand. One image more is there byte for byte, for a
-- statement that is proved in laws. Assumes nothing.
use Rattle.std.specs.Prelude.{ℕ, zero, suc, ◌+◌, ◌-◌, ◌/◌, ◌≡◌, refl, Bool, true, false, List, [], ◌∷◌, ◌++◌, map, replicate}
use Rattle.rules.specs.declared.Request.{Request}
use Rattle.rules.specs.declared.Request.TheVariants.{Create}
use Rattle.rules.specs.Words.{Image, Mem, Store, store, put, word_bytes}
use Rattle.rules.specs.Pages.{page_bytes, clumps_at}
use Rattle.rules.specs.Clumps.{Head, walk}
use Rattle.rules.specs.Reading.{Listed, Reading, reading_by, reading, in_part, may_write, hidden, in_spare_page}
use Rattle.rules.specs.Traces.{is_through}
use Rattle.rules.specs.Cases.{every_rule, Pool, pool_of}
use Rattle.rules.specs.Samples.{requests_on}

-- A pool with a clump in every state but one, the words further stored behind the others:
-- 16384  128  ACTIVE      lists (4096, 7), (8184, 16504) and an empty entry of value 77
-- 16512  128  FREE        lists (4104, 3)
-- 16640  192  RESERVED    lists (16448, 9)
-- 16832  128  ACTIVATING  lists (4104, 1)
-- The first and the last word of each body, of the static area and of the page on either side of it is a number of its own.
abbrev pub kiln : List Store → Pool
kiln more =
    pool_of ((128, 3) ∷ (128, 0) ∷ (192, 1) ∷ (128, 2) ∷ [])
    (store 4088 1
    ∷ store 4096 2
    ∷ store 8184 3
    ∷ store 8192 4
    ∷ store 16400 4096
    ∷ store 16408 7
    ∷ store 16416 8184
    ∷ store 16424 16504
    ∷ store 16440 77
    ∷ store 16448 11
    ∷ store 16504 12
    ∷ store 16528 4104
    ∷ store 16536 3
    ∷ store 16576 13
    ∷ store 16632 14
    ∷ store 16656 16448
    ∷ store 16664 9
    ∷ store 16704 15
    ∷ store 16824 16
    ∷ store 16848 4104
    ∷ store 16856 1
    ∷ store 16896 17
    ∷ store 16952 18
    ∷ more)

-- what stands from a up to b, word by word
abbrev pub words_from : Mem → ℕ → ℕ → List ℕ
words_from m a zero = []
words_from m a (suc k) = m a ∷ words_from m (a + word_bytes) k

abbrev pub words_in : Mem → ℕ → ℕ → List ℕ
words_in m a b = words_from m a ((b - a) / word_bytes)

-- the reading of a pool, bytes taken by words
abbrev pub reads : Pool → Reading
reads p = reading_by (walk p.0 p.1) p.1 (words_in p.1)

abbrev pub clump : ℕ → ℕ → ℕ → Head
clump a size s = record { at = a; nbytes = size; state = s }

-- a word, k zeros, and another word
abbrev pub zeros_in : ℕ → ℕ → ℕ → List ℕ
zeros_in a k z = a ∷ (replicate k 0 ++ (z ∷ []))

-- an entry that is read: where it stands, its target and its value; unmarked, and marked
abbrev pub plain : ℕ → ℕ → ℕ → Listed
plain s t v = record { place = s; mark = false; assigns = store t v }

abbrev pub on_free : ℕ → ℕ → ℕ → Listed
on_free s t v = record { place = s; mark = true; assigns = store t v }

-- the reading of that pool: its first clump in a state, the lists that are read before the RESERVED clump's, the first word of the static
-- area and that of the first body
abbrev pub told : ℕ → List (List Listed) → ℕ → ℕ → Reading
told s lists static body =
    record {
      clumps = clump 16384 128 s ∷ clump 16512 128 0 ∷ clump 16640 192 1 ∷ clump 16832 128 2 ∷ [];
      lists = lists ++ ((plain 16656 16448 9 ∷ []) ∷ []);
      static = zeros_in static 510 3;
      bodies = zeros_in body 6 12 ∷ zeros_in 15 14 16 ∷ zeros_in 17 6 18 ∷ [];
    }

abbrev pub first_list : List (List Listed)
first_list = (plain 16400 4096 7 ∷ plain 16416 8184 16504 ∷ []) ∷ []

-- a pool of one ACTIVE clump as an image, byte for byte: it lists (4104, 9)
abbrev pub in_bytes : ℕ → Image
in_bytes w = put (replicate word_bytes 0) 0 w

abbrev pub one_clump : Image
one_clump =
    replicate page_bytes 1
    ++ (zeros_in 2 4094 3
    ++ (replicate (page_bytes + page_bytes) 4
    ++ (in_bytes 128 ++ (in_bytes 3 ++ (in_bytes 4104 ++ (in_bytes 9 ++ (replicate 32 0 ++ zeros_in 5 62 6)))))))

-- its reading
abbrev pub OneClumpReads : Type 0
OneClumpReads =
    reading one_clump
    ≡ record {
      clumps = clump clumps_at 128 3 ∷ [];
      lists = (plain 16400 4104 9 ∷ []) ∷ [];
      static = zeros_in 2 4094 3;
      bodies = zeros_in 5 62 6 ∷ [];
    }

-- RESERVED, with the entries (4096, 7), unmarked, and (4104, 9), marked
abbrev pub mixed : Pool
mixed = pool_of ((128, 1) ∷ []) (store 16400 4096 ∷ store 16408 7 ∷ store 16416 4105 ∷ store 16424 9 ∷ [])

-- a request that was cut after k stores is carried through
abbrev pub through : Pool → ℕ → Request → Bool
through p k q = is_through p.1 (walk p.0 p.1) q k

abbrev pub ReadingSamples : Type 0
ReadingSamples =
    -- the pool; then another listed value, another listed target, an entry more, another word of the static area, of the first body
    (reads (kiln []) ≡ told 3 first_list 2 11)
    × (reads (kiln (store 16408 8 ∷ [])) ≡ told 3 ((plain 16400 4096 8 ∷ plain 16416 8184 16504 ∷ []) ∷ []) 2 11)
    × (reads (kiln (store 16400 4104 ∷ [])) ≡ told 3 ((plain 16400 4104 7 ∷ plain 16416 8184 16504 ∷ []) ∷ []) 2 11)
    × (reads (kiln (store 16432 4104 ∷ [])) ≡ told 3 ((plain 16400 4096 7 ∷ plain 16416 8184 16504 ∷ plain 16432 4104 77 ∷ []) ∷ []) 2 11)
    -- W4, an entry marked, and one that stands behind a gap
    × (reads (kiln (store 16416 8185 ∷ [])) ≡ told 3 ((plain 16400 4096 7 ∷ on_free 16416 8184 16504 ∷ []) ∷ []) 2 11)
    × (reads (kiln (store 16416 0 ∷ store 16432 4105 ∷ [])) ≡ told 3 ((plain 16400 4096 7 ∷ on_free 16432 4104 77 ∷ []) ∷ []) 2 11)
    × (reads (kiln (store 4096 258 ∷ [])) ≡ told 3 first_list 258 11)
    × (reads (kiln (store 16448 267 ∷ [])) ≡ told 3 first_list 2 267)
    -- another state: RESERVED, whose list is read too, and FREEING, whose list is not
    × (reads (kiln (store 16392 1 ∷ [])) ≡ told 1 first_list 2 11)
    × (reads (kiln (store 16392 4 ∷ [])) ≡ told 4 [] 2 11)
    -- another size: the clump behind is in the first one's body then
    × (reads (kiln (store 16384 256 ∷ []))
    ≡ record {
      clumps = clump 16384 256 3 ∷ clump 16640 192 1 ∷ clump 16832 128 2 ∷ [];
      lists = (told 3 first_list 2 11).lists;
      static = (told 3 first_list 2 11).static;
      bodies =
          (zeros_in 11 6 12 ++ (128 ∷ 0 ∷ 4104 ∷ 3 ∷ (replicate 4 0 ++ zeros_in 13 6 14)))
          ∷ zeros_in 15 14 16
          ∷ zeros_in 17 6 18
          ∷ [];
    })
    -- another word of a FREE body, of a FREE clump's list, of the value of an empty entry, of the pages 0 and 8192: the same reading
    × (map (λ o. reads (kiln (store o 99 ∷ []))) (16576 ∷ 16632 ∷ 16528 ∷ 16536 ∷ 16440 ∷ 4088 ∷ 8192 ∷ []) ≡ replicate 7 (told 3 first_list 2 11))
    -- where the owner may write: the static area, ACTIVE and RESERVED bodies; not headers, FREE and ACTIVATING bodies
    × (map (may_write (walk (kiln []).0 (kiln []).1)) (4095 ∷ 4096 ∷ 8191 ∷ 8192 ∷ 16384 ∷ 16447 ∷ 16448 ∷ 16511 ∷ 16512 ∷ 16576 ∷ 16639 ∷ 16703 ∷ 16704 ∷ 16831 ∷ 16832 ∷ 16896 ∷ 16959 ∷ [])
    ≡ false ∷ true ∷ true ∷ false ∷ false ∷ false ∷ true ∷ true ∷ false ∷ false ∷ false ∷ false ∷ true ∷ true ∷ false ∷ false ∷ false ∷ [])
    -- what no answer depends on: all below the header page; bodies; the value of an empty entry; the list of a FREE clump
    × (map (hidden (kiln []).1 (walk (kiln []).0 (kiln []).1)) (0 ∷ 4096 ∷ 12287 ∷ 12288 ∷ 16383 ∷ 16384 ∷ 16392 ∷ 16400 ∷ 16408 ∷ 16432 ∷ 16439 ∷ 16440 ∷ 16447 ∷ 16448 ∷ 16511 ∷ [])
    ≡ true ∷ true ∷ true ∷ false ∷ false ∷ false ∷ false ∷ false ∷ false ∷ false ∷ false ∷ true ∷ true ∷ true ∷ true ∷ [])
    × (map (hidden (kiln []).1 (walk (kiln []).0 (kiln []).1)) (16512 ∷ 16520 ∷ 16527 ∷ 16528 ∷ 16536 ∷ 16575 ∷ 16576 ∷ 16639 ∷ 16640 ∷ 16656 ∷ 16664 ∷ 16672 ∷ 16680 ∷ [])
    ≡ false ∷ false ∷ false ∷ true ∷ true ∷ true ∷ true ∷ true ∷ false ∷ false ∷ false ∷ false ∷ true ∷ [])
    -- the pages that are never read or written
    × (map in_spare_page (0 ∷ 4095 ∷ 4096 ∷ 8191 ∷ 8192 ∷ 12287 ∷ 12288 ∷ []) ≡ true ∷ true ∷ false ∷ false ∷ true ∷ true ∷ false ∷ [])
    -- what a cut request reads as, true for the finished image: with no store made none; with one activate and free, unless free of a
    -- RESERVED clump with a marked entry empties others first (W4); with two that as well
    × (map (λ p. map (through p 0) (Create ∷ requests_on 16448)) (kiln [] ∷ mixed ∷ []) ≡ replicate 2 (replicate 11 false))
    × (map (through (kiln []) 1) (Create ∷ requests_on 16448)
    ≡ false ∷ false ∷ false ∷ false ∷ false ∷ false ∷ false ∷ true ∷ true ∷ false ∷ false ∷ [])
    × (map (λ k. map (through mixed k) (Create ∷ requests_on 16448)) (1 ∷ 2 ∷ [])
    ≡ (false ∷ false ∷ false ∷ false ∷ false ∷ false ∷ false ∷ true ∷ false ∷ false ∷ false ∷ [])
    ∷ (false ∷ false ∷ false ∷ false ∷ false ∷ false ∷ false ∷ true ∷ true ∷ false ∷ false ∷ [])
    ∷ [])

reading_samples : ReadingSamples
unfolding every_rule in_part hidden in_spare_page
reading_samples = (refl, refl, refl, refl, refl, refl, refl, refl, refl, refl, refl, refl, refl, refl, refl, refl, refl, refl, refl)
