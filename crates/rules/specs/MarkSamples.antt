-- W4 sampled: the mark and the target, fault 3 and fault 5 in each state, gaps of every shape, where a new entry goes, what activate, free
-- and recover store of each mixture of marked and unmarked entries, and every cut of a free that goes by FREEING. One table over the
-- definitions, proved by one statement. The numbers expected follow from 02 by hand. A row goes by the rule of the clump, or by the judging,
-- where it can: the tests of a whole request, the page's among them, take ten times as long to compute. Assumes nothing.
use Rattle.std.specs.Prelude.{ℕ, ◌≡◌, refl, true, false, List, [], ◌∷◌, map, replicate, take}
use Rattle.std.proofs.Math.Option.{Option, some, none}
use Rattle.rules.specs.declared.Request.TheVariants.{Onactive, Onfree}
use Rattle.rules.specs.Words.{Mem, Store, store}
use Rattle.rules.specs.Clumps.{Head, head, has_state, RESERVED, marked, unmarked, target_of, walk}
use Rattle.rules.specs.Sound.{Fault, judge}
use Rattle.rules.specs.Answers.{Verdict, refused, granted, stores_of}
use Rattle.rules.specs.Requests.{enlist, withdraw, activate, free}
use Rattle.rules.specs.Cases.{every_rule, Pool, pool_of, longest, with, recovering}
use Rattle.rules.specs.Samples.{answered, listing}

-- a clump of 128 in a state with three target words, of the values 1, 2 and 3, and a FREE one of 128
abbrev pub valued : ℕ → ℕ × ℕ × ℕ → Pool
valued s t =
    pool_of ((128, s) ∷ (128, 0) ∷ [])
    (store 16400 t.0 ∷ store 16408 1 ∷ store 16416 t.1 ∷ store 16424 2 ∷ store 16432 t.2 ∷ store 16440 3 ∷ [])

-- the number of a fault, 0 for none; of such a clump in the states FREE, RESERVED, ACTIVATING, ACTIVE and FREEING
abbrev pub number_of : Option Fault → ℕ
number_of none = 0
number_of (some f) = f.number

abbrev pub faults : ℕ × ℕ × ℕ → List ℕ
faults t = map (λ s. let p = listing s t in number_of (judge p.0 p.1)) (0 ∷ 1 ∷ 2 ∷ 3 ∷ 4 ∷ [])

-- the verdict on a request that has found the first clump: its answer, 0 if it is granted, and its stores
abbrev pub ruled : Pool → (Mem → List Head → Head → Verdict) → Verdict
ruled p f = f p.1 (walk p.0 p.1) (head p.1 16384)

abbrev pub says : Verdict → ℕ
says (refused a p f) = a
says (granted p st) = 0

abbrev pub pairs : List Store → List (ℕ × ℕ)
pairs st = map (λ s. (s.to, s.word)) st

abbrev pub makes : Verdict → List (ℕ × ℕ)
makes v = pairs (stores_of v)

-- onactive of (4104, 9) on it
abbrev pub entering : ℕ × ℕ × ℕ → Verdict
entering t = ruled (listing 1 t) (λ m hs. enlist m hs (has_state RESERVED) 16448 4104 4104 9)

-- withdraw, activate and free
abbrev pub withdrawing : ℕ × ℕ × ℕ → Verdict
withdrawing t = ruled (listing 1 t) (λ m hs. withdraw m 16448)

abbrev pub activating : Pool → Verdict
activating p = ruled p (λ m hs. activate m hs 16448)

abbrev pub freeing : Pool → Verdict
freeing p = ruled p (λ m hs. free m hs 16448)

-- free of a RESERVED clump with three target words, cut after k stores and recovered: the words at 4096, 4104 and 4112
abbrev pub freed_at : ℕ × ℕ × ℕ → ℕ → ℕ × ℕ × ℕ
freed_at t k =
    let p = valued 1 t in
    let x = with p (take k (stores_of (freeing p))) in
    let m = (with x (recovering x)).1 in
    (m 4096, m 4104, m 4112)

-- a RESERVED clump of 128 between FREE ones, with the third of its entries marked
abbrev pub amidst : Pool
amidst = pool_of ((128, 0) ∷ (128, 1) ∷ (128, 0) ∷ []) (store 16528 4096 ∷ store 16544 4104 ∷ store 16560 4113 ∷ store 16568 3 ∷ [])

abbrev pub MarkSamples : Type 0
MarkSamples =
    -- the mark, and the number without it; only 0 is empty
    (map target_of (0 ∷ 1 ∷ 2 ∷ 4096 ∷ 4097 ∷ 4099 ∷ []) ≡ 0 ∷ 0 ∷ 2 ∷ 4096 ∷ 4096 ∷ 4098 ∷ [])
    × (map marked (0 ∷ 1 ∷ 2 ∷ 4096 ∷ 4097 ∷ 4099 ∷ []) ≡ false ∷ true ∷ false ∷ false ∷ true ∷ true ∷ [])
    × (map unmarked (0 ∷ 1 ∷ 2 ∷ 4096 ∷ 4097 ∷ 4099 ∷ []) ≡ false ∷ false ∷ true ∷ true ∷ false ∷ false ∷ [])
    -- faults by the state: a stored 1; a marked target in the static area, in a FREE body, at a header, past the static area, not divisible
    -- by 8; an unmarked one in a FREE body, past the static area
    × (map (λ t. faults (t, 0, 0)) (1 ∷ 4097 ∷ 16577 ∷ 16385 ∷ 8193 ∷ 4099 ∷ 16576 ∷ 8192 ∷ [])
    ≡ (0 ∷ 3 ∷ 3 ∷ 3 ∷ 5 ∷ [])
    ∷ (0 ∷ 0 ∷ 0 ∷ 0 ∷ 0 ∷ [])
    ∷ (0 ∷ 0 ∷ 0 ∷ 0 ∷ 5 ∷ [])
    ∷ (0 ∷ 0 ∷ 0 ∷ 0 ∷ 5 ∷ [])
    ∷ (0 ∷ 3 ∷ 3 ∷ 3 ∷ 5 ∷ [])
    ∷ (0 ∷ 3 ∷ 3 ∷ 3 ∷ 5 ∷ [])
    ∷ (0 ∷ 0 ∷ 5 ∷ 0 ∷ 5 ∷ [])
    ∷ (0 ∷ 3 ∷ 5 ∷ 3 ∷ 5 ∷ [])
    ∷ [])
    -- in an ACTIVATING clump fault 3 of a marked entry goes before fault 5 of an unmarked one
    × (faults (16576, 8193, 0) ≡ 0 ∷ 3 ∷ 3 ∷ 3 ∷ 5 ∷ [])
    -- gaps of every shape are sound in every state
    × (map faults ((0, 4096, 0) ∷ (0, 4097, 0) ∷ (0, 0, 4096) ∷ (0, 0, 4097) ∷ (0, 4096, 4097) ∷ (4097, 0, 4096) ∷ (4096, 0, 4097) ∷ [])
    ≡ replicate 7 (replicate 5 0))
    -- a new entry goes after the last used one, marked or not; with the third used nowhere: answer 8, before 10
    × (map (λ t. makes (entering t)) ((0, 0, 0) ∷ (4097, 0, 0) ∷ (0, 4096, 0) ∷ (4096, 4097, 0) ∷ (0, 0, 4096) ∷ (4097, 0, 4097) ∷ [])
    ≡ ((16408, 9) ∷ (16400, 4104) ∷ [])
    ∷ ((16424, 9) ∷ (16416, 4104) ∷ [])
    ∷ ((16440, 9) ∷ (16432, 4104) ∷ [])
    ∷ ((16440, 9) ∷ (16432, 4104) ∷ [])
    ∷ []
    ∷ []
    ∷ [])
    × (map (λ t. says (entering t)) ((0, 0, 4096) ∷ (4097, 0, 4097) ∷ (0, 4096, 4096) ∷ []) ≡ replicate 3 8)
    × (map (answered (listing 1 (0, 0, 4096))) (Onactive 16448 4105 9 ∷ Onfree 16448 4105 9 ∷ []) ≡ replicate 2 8)
    -- onfree takes RESERVED and ACTIVE, not FREE; onactive takes RESERVED alone. (That onfree writes the mark is a row of Samples.)
    × (map (λ s. answered (listing s (0, 4096, 0)) (Onfree 16448 4096 1)) (1 ∷ 3 ∷ []) ≡ 0 ∷ 0 ∷ [])
    × (map (answered (listing 3 (0, 0, 0))) (Onactive 16448 4096 1 ∷ Onfree 16576 4096 1 ∷ []) ≡ 7 ∷ 7 ∷ [])
    -- a target asked for with bit 0 set is not divisible by 8
    × (map (answered (listing 1 (0, 0, 0))) (Onactive 16448 4097 1 ∷ Onfree 16448 4097 1 ∷ Onfree 16448 longest 1 ∷ []) ≡ replicate 3 10)
    -- withdraw empties the last used one, marked or not
    × (map (λ t. makes (withdrawing t)) ((4096, 4105, 0) ∷ (4097, 0, 4096) ∷ (0, 4097, 0) ∷ (0, 0, 4097) ∷ []) ≡ ((16416, 0) ∷ []) ∷ ((16432, 0) ∷ []) ∷ ((16416, 0) ∷ []) ∷ ((16432, 0) ∷ []) ∷ [])
    -- activate: the unmarked ones, 2 + 2e stores; none of them; and what recovery stores in an ACTIVATING clump
    × (map (λ t. makes (activating (valued 1 t))) ((4096, 4105, 4112) ∷ (4097, 4105, 4113) ∷ [])
    ≡ ((16392, 2) ∷ (4096, 1) ∷ (4112, 3) ∷ (16400, 0) ∷ (16432, 0) ∷ (16392, 3) ∷ [])
    ∷ ((16392, 2) ∷ (16392, 3) ∷ [])
    ∷ [])
    × (pairs (recovering (valued 2 (4096, 4105, 4112))) ≡ (4096, 1) ∷ (4112, 3) ∷ (16400, 0) ∷ (16432, 0) ∷ (16392, 3) ∷ [])
    -- it judges the unmarked ones: the FREE body's word, unmarked and marked
    × (map (λ t. says (activating (listing 1 (4096, t, 0)))) (16576 ∷ 16577 ∷ []) ≡ 10 ∷ 0 ∷ [])
    -- the marked one that waited acts at the free
    × (makes (freeing (with (valued 1 (4096, 4105, 4112)) (stores_of (activating (valued 1 (4096, 4105, 4112)))))) ≡ (16392, 4) ∷ (4104, 2) ∷ (16392, 0) ∷ (16384, 256) ∷ [])
    -- free of a RESERVED clump with no marked entry, with one, two and three; with equal targets
    × (map (λ t. makes (freeing (valued 1 t))) ((4096, 16576, 0) ∷ (4096, 4105, 4112) ∷ (4097, 4105, 4112) ∷ (4097, 4105, 4113) ∷ (4097, 0, 4097) ∷ [])
    ≡ ((16392, 0) ∷ (16384, 256) ∷ [])
    ∷ ((16400, 0) ∷ (16432, 0) ∷ (16392, 4) ∷ (4104, 2) ∷ (16392, 0) ∷ (16384, 256) ∷ [])
    ∷ ((16432, 0) ∷ (16392, 4) ∷ (4096, 1) ∷ (4104, 2) ∷ (16392, 0) ∷ (16384, 256) ∷ [])
    ∷ ((16392, 4) ∷ (4096, 1) ∷ (4104, 2) ∷ (4112, 3) ∷ (16392, 0) ∷ (16384, 256) ∷ [])
    ∷ ((16392, 4) ∷ (4096, 1) ∷ (4096, 3) ∷ (16392, 0) ∷ (16384, 256) ∷ [])
    ∷ [])
    -- seven stores, with FREE clumps on both sides
    × (makes (free amidst.1 (walk amidst.0 amidst.1) 16576 (head amidst.1 16512)) ≡ (16528, 0) ∷ (16544, 0) ∷ (16520, 4) ∷ (4112, 3) ∷ (16520, 0) ∷ (16512, 256) ∷ (16384, 384) ∷ [])
    -- it judges the marked ones alone
    × (map (λ t. says (freeing (listing 1 t))) ((16577, 0, 0) ∷ (4097, 16576, 0) ∷ (16576, 0, 0) ∷ (4097, 16577, 0) ∷ []) ≡ 10 ∷ 0 ∷ 0 ∷ 10 ∷ [])
    -- free of an ACTIVE clump, and recovery of a FREEING one: an unmarked entry is an old onfree
    × (makes (freeing (valued 3 (4096, 4105, 4112))) ≡ (16392, 4) ∷ (4096, 1) ∷ (4104, 2) ∷ (4112, 3) ∷ (16392, 0) ∷ (16384, 256) ∷ [])
    × (pairs (recovering (valued 4 (4096, 4105, 4112))) ≡ (4096, 1) ∷ (4104, 2) ∷ (4112, 3) ∷ (16392, 0) ∷ (16384, 256) ∷ [])
    × (map (λ t. says (freeing (listing 3 (4096, t, 0)))) (16576 ∷ 16577 ∷ []) ≡ 10 ∷ 10 ∷ [])
    -- recovery of a RESERVED clump carries out nothing
    × (pairs (recovering (valued 1 (4097, 4104, 4113))) ≡ (16392, 0) ∷ (16384, 256) ∷ [])
    -- every cut of a free of a RESERVED clump, recovered: no marked entry; one, behind two stores that empty; two, behind one; three
    × (map (freed_at (4096, 4104, 4112)) (0 ∷ 1 ∷ 2 ∷ []) ≡ replicate 3 (0, 0, 0))
    × (map (freed_at (4096, 4105, 4112)) (0 ∷ 1 ∷ 2 ∷ 3 ∷ 4 ∷ 5 ∷ 6 ∷ [])
    ≡ (0, 0, 0) ∷ (0, 0, 0) ∷ (0, 0, 0) ∷ (0, 2, 0) ∷ (0, 2, 0) ∷ (0, 2, 0) ∷ (0, 2, 0) ∷ [])
    × (map (freed_at (4097, 4105, 4112)) (0 ∷ 1 ∷ 2 ∷ 3 ∷ 4 ∷ 5 ∷ 6 ∷ [])
    ≡ (0, 0, 0) ∷ (0, 0, 0) ∷ (1, 2, 0) ∷ (1, 2, 0) ∷ (1, 2, 0) ∷ (1, 2, 0) ∷ (1, 2, 0) ∷ [])
    × (map (freed_at (4097, 4105, 4113)) (0 ∷ 1 ∷ 2 ∷ 3 ∷ 4 ∷ 5 ∷ 6 ∷ [])
    ≡ (0, 0, 0) ∷ (1, 2, 3) ∷ (1, 2, 3) ∷ (1, 2, 3) ∷ (1, 2, 3) ∷ (1, 2, 3) ∷ (1, 2, 3) ∷ [])

mark_samples : MarkSamples
unfolding every_rule
mark_samples = (refl, refl, refl, refl, refl, refl, refl, refl, refl, refl, refl, refl, refl, refl, refl, refl, refl, refl, refl, refl, refl, refl, refl, refl, refl, refl, refl, refl)
