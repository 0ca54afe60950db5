-- What answer 0 tells of the image: each test before it failed. By cases on the tests; with what an answer without a store is.
-- Assumes nothing.
use Rattle.std.specs.Prelude.{ℕ, ◌%◌, ◌<◌, ◌≤◌, ◌≡◌, refl, Bool, true, false, not, []}
use Rattle.std.proofs.Math.Option.{Option, some, none}
use Rattle.std.proofs.Common.{arith, leb-true, le-ltb, eqb-true}
use Rattle.std.proofs.Math.Seq.{take-nil}
use Rattle.std.proofs.lemmas.Bool.{not-false}
use Rattle.rules.specs.declared.Answer.{Answer}
use Rattle.rules.specs.Words.{Mem}
use Rattle.rules.specs.Pages.{clumps_at, least_length, most_length, unit, right_length, is_pool}
use Rattle.rules.specs.Clumps.{Tiles, walk}
use Rattle.rules.specs.Sound.{Fault, judge, unsettled}
use Rattle.rules.specs.Answers.{done, not_pool, not_settled, flush_of, answer_by, answer_of, Verdict, granted, test, test_fault, if_sound, if_settled}
use Rattle.laws.specs.Searches.{and_both}
use Rattle.laws.specs.Walks.{sound_tiles}

-- an answer without a store, and the one of a grant that has none
abbrev pub answer_is : ℕ → ℕ → ℕ → Answer
answer_is a p f = answer_by a p f 0 (flush_of [])

pub granted_none : (place fuse : ℕ) → answer_is 0 place 0 ≡ answer_of fuse (granted place [])
unfolding answer_of
granted_none place fuse = rw (le-ltb fuse 0 (omega arith), take-nil fuse)

pub record RightLength (n : ℕ) : Type 0 where
  pub least : least_length ≤ n
  pub most : n ≤ most_length
  pub whole : n % unit ≡ 0

pub right_length_lem : (n : ℕ) → right_length n ≡ true → RightLength n
unfolding right_length
right_length_lem n e =
    let a = and_both _ _ e in
    let b = and_both _ _ a.0 in
    record { least = leb-true least_length n b.0; most = leb-true n most_length b.1; whole = eqb-true (n % unit) 0 a.1 }

pub pool_right : (n : ℕ) (m : Mem) → is_pool n m ≡ true → right_length n ≡ true
unfolding is_pool
pool_right n m e =
    let a = and_both _ _ e in
    let b = and_both _ _ a.0 in
    let c = and_both _ _ b.0 in
    (and_both _ _ c.0).0

pub pool_length : (n : ℕ) (m : Mem) → is_pool n m ≡ true → RightLength n
pool_length n m e = right_length_lem n (pool_right n m e)

-- what has passed the tests 1 and 2
pub record Sound (n : ℕ) (m : Mem) : Type 0 where
  pub pool : is_pool n m ≡ true
  pub sound : judge n m ≡ none

-- a sound pool's clumps tile
pub pool_tiles : (n : ℕ) (m : Mem) → Sound n m → Tiles clumps_at (walk n m) n
pool_tiles n m s = sound_tiles n m (omega (arith, (pool_length n m s.pool).least)) s.sound

-- answer 0 tells that each test failed, whatever the fuse
pub done-test : (b : Bool) (a fuse : ℕ) (v : Verdict) → 0 < a → (answer_of fuse (test b a v)).answer ≡ done → (b ≡ false) × ((answer_of fuse v).answer ≡ done)
unfolding answer_of
done-test true a fuse v l e = absurd (omega arith)
done-test false a fuse v l e = (refl, e)

done-fault : (o : Option Fault) (fuse : ℕ) (v : Verdict) → (answer_of fuse (test_fault o v)).answer ≡ done → (o ≡ none) × ((answer_of fuse v).answer ≡ done)
unfolding answer_of
done-fault none fuse v e = (refl, e)
done-fault (some f) fuse v e = absurd (omega arith)

pub done_sound : (n : ℕ) (m : Mem) (fuse : ℕ) (v : Verdict) → (answer_of fuse (if_sound n m v)).answer ≡ done → Sound n m × ((answer_of fuse v).answer ≡ done)
unfolding if_sound
done_sound n m fuse v e =
    let a = done-test (not (is_pool n m)) not_pool fuse _ (omega arith) e in
    let b = done-fault (judge n m) fuse v a.1 in
    (record { pool = not-false _ a.0; sound = b.0 }, b.1)

pub done-settled : (n : ℕ) (m : Mem) (fuse : ℕ) (v : Verdict) → (answer_of fuse (if_settled n m v)).answer ≡ done → Sound n m × (unsettled (walk n m) ≡ false) × ((answer_of fuse v).answer ≡ done)
unfolding if_settled
done-settled n m fuse v e =
    let a = done_sound n m fuse _ e in
    let b = done-test (unsettled (walk n m)) not_settled fuse v (omega arith) a.1 in
    (a.0, b.0, b.1)

-- an accepted check has a sound pool
pub check_sound : (n : ℕ) (m : Mem) (fuse : ℕ) → (answer_of fuse (if_sound n m (granted 0 []))).answer ≡ done → Sound n m
check_sound n m fuse e = (done_sound n m fuse (granted 0 []) e).0
