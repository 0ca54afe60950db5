-- What a request, or the part of one behind its first tests, does of a verdict: `Acts`. A refusal acts by leaving the image alone,
-- a run of stores by what `Ran` says; the whole request then `Does`. Assumes nothing.
use Rattle.std.specs.Prelude.{ℕ, ◌≡◌, refl, Bool, not, List, [], length, take}
use Rattle.std.proofs.Math.Path.{sym}
use Rattle.std.proofs.Common.{ap, ◌∙◌}
use Rattle.std.proofs.Math.Bool.{true, false}
use Rattle.std.proofs.Math.Option.{Option, some, none}
use Rattle.std.proofs.Math.Seq.{take-nil}
use Rattle.rules.specs.declared.Answer.{Answer}
use Rattle.rules.specs.declared.Request.{Request}
use Rattle.rules.specs.Words.{Image, Store, mem, carry}
use Rattle.rules.specs.Pages.{is_pool}
use Rattle.rules.specs.Clumps.{Head, walk}
use Rattle.rules.specs.Sound.{Fault, judge, unsettled}
use Rattle.rules.specs.Answers.{Verdict, refused, granted, refuse, no_clump, test, test_fault, not_pool, not_settled, if_sound, if_settled, stores_of, answer_of}
use Rattle.rules.specs.Requests.{verdict_on, Does, finder, found}
use Rattle.rules.specs.Reading.{clumps_of, Tiled}
use Rattle.laws.specs.Pools.{answer_is, granted_none, done-settled, Sound, RightLength, pool_length, pool_tiles}
use Rattle.word.specs.declared.Power.{Power}
use Rattle.word.specs.Runs.{full, Ran, told, ran_answer}

-- from the image before, under a fuse, the verdict v leads to the image x and the answer r
pub record Acts (before : Image) (v : Verdict) (fuse : ℕ) (x : Image) (r : Answer) : Type 0 where
  pub answered : r ≡ answer_of fuse v
  pub stored : x ≡ carry before (take fuse (stores_of v))

pub acts_does : {img x : Image} {q : Request} {fuse : ℕ} {r : Answer} (v : Verdict) → verdict_on img q ≡ v → Acts img v fuse x r → Does img q fuse x r
acts_does v e a = record { answered = rw e a.answered; stored = rw e a.stored }

-- the verdict may be put another way
pub acts_same : {img x : Image} {fuse : ℕ} {r : Answer} (v w : Verdict) → w ≡ v → Acts img v fuse x r → Acts img w fuse x r
acts_same v w e a = record { answered = rw e a.answered; stored = rw e a.stored }

kept : (img : Image) (fuse : ℕ) → img ≡ carry img (take fuse [])
unfolding carry
kept img fuse = rw (take-nil fuse)

pub acts_refused : (img : Image) (a p f fuse : ℕ) → Acts img (refused a p f) fuse img (answer_is a p f)
unfolding answer_of
acts_refused img a p f fuse = record { answered = refl; stored = kept img fuse }

-- a grant without a store
pub acts_none : (img : Image) (place fuse : ℕ) → Acts img (granted place []) fuse img (answer_is 0 place 0)
acts_none img place fuse = record { answered = granted_none place fuse; stored = kept img fuse }

pub acts_ran :
    {img x : Image} {q : Power} {st : List Store} {r : Answer} (fuse place : ℕ)
    → Ran img (full fuse) st x q → r ≡ told q place → Acts img (granted place st) fuse x r
acts_ran fuse place s e = record { answered = e ∙ ran_answer fuse place s; stored = s.image }

-- behind the tests 1 and 2
module _ (img : Image) (r : Answer) (e : (fuse : ℕ) → r ≡ answer_of fuse (if_sound (length img) (mem img) (granted 0 []))) where
  pub unsound_acts : (r.answer ≡ 0 → ⊥) → (v : Verdict) (fuse : ℕ) → Acts img (if_sound (length img) (mem img) v) fuse img r
  unfolding if_sound
  unsound_acts z v fuse = go (is_pool (length img) (mem img)) (judge (length img) (mem img)) (e fuse)
    where
      go :
          (t : Bool) (o : Option Fault)
          → r ≡ answer_of fuse (test (not t) not_pool (test_fault o (granted 0 [])))
          → Acts img (test (not t) not_pool (test_fault o v)) fuse img r
      go true none f = absurd (z (ap (λ (a : Answer). a.answer) (f ∙ sym (granted_none 0 fuse))))
      go true (some x) f = record { answered = f; stored = kept img fuse }
      go false o f = record { answered = f; stored = kept img fuse }

-- behind the tests 1, 2 and 3
module _ (img : Image) (r : Answer) (e : (fuse : ℕ) → r ≡ answer_of fuse (if_settled (length img) (mem img) (granted 0 []))) where
  pub unsettled_acts : (r.answer ≡ 0 → ⊥) → (v : Verdict) (fuse : ℕ) → Acts img (if_settled (length img) (mem img) v) fuse img r
  unfolding if_settled if_sound
  unsettled_acts z v fuse =
      go (is_pool (length img) (mem img)) (judge (length img) (mem img)) (unsettled (walk (length img) (mem img))) (e fuse)
    where
      go :
          (t : Bool) (o : Option Fault) (u : Bool)
          → r ≡ answer_of fuse (test (not t) not_pool (test_fault o (test u not_settled (granted 0 []))))
          → Acts img (test (not t) not_pool (test_fault o (test u not_settled v))) fuse img r
      go true none true f = record { answered = f; stored = kept img fuse }
      go true none false f = absurd (z (ap (λ (a : Answer). a.answer) (f ∙ sym (granted_none 0 fuse))))
      go true (some x) u f = record { answered = f; stored = kept img fuse }
      go false o u f = record { answered = f; stored = kept img fuse }

  -- what answer 0 tells
  settled : r.answer ≡ 0 → Sound (length img) (mem img) × (unsettled (walk (length img) (mem img)) ≡ false)
  settled z =
      let x = done-settled (length img) (mem img) 0 (granted 0 []) (ap (λ (a : Answer). a.answer) (sym (e 0)) ∙ z) in
      (x.0, x.1)

  pub settled_sound : r.answer ≡ 0 → Sound (length img) (mem img)
  settled_sound z = (settled z).0

  pub settled_is : r.answer ≡ 0 → (v : Verdict) → if_settled (length img) (mem img) v ≡ v
  unfolding if_settled if_sound
  settled_is z v = let s = settled z in rw (s.0.pool, s.0.sound, s.1)

  pub settled_tiles : r.answer ≡ 0 → Tiled img
  settled_tiles z = pool_tiles (length img) (mem img) (settled_sound z)

  pub settled-length : r.answer ≡ 0 → RightLength (length img)
  settled-length z = pool_length (length img) (mem img) (settled_sound z).pool

  -- a request that has passed the tests 1, 2 and 3
  pub passed_does :
      {x : Image} {q : Request} {fuse : ℕ} {s : Answer} (w v : Verdict)
      → r.answer ≡ 0 → verdict_on img q ≡ if_settled (length img) (mem img) w → w ≡ v → Acts img v fuse x s → Does img q fuse x s
  passed_does w v z e f a = acts_does v (e ∙ settled_is z w ∙ f) a

  pub stopped_does :
      {q : Request} {fuse : ℕ} (w : Verdict)
      → (r.answer ≡ 0 → ⊥) → verdict_on img q ≡ if_settled (length img) (mem img) w → Does img q fuse img r
  stopped_does {fuse = fuse} w z e = acts_does _ e (unsettled_acts z w fuse)

  -- a request on the clump that has its body at an offset
  module _ (q : Request) (offset fuse : ℕ) (go : Head → Verdict) (z : r.answer ≡ 0) (is : verdict_on img q ≡ if_settled (length img) (mem img) (found (finder (clumps_of img) offset) go)) where
    pub missing_does : finder (clumps_of img) offset ≡ none → Does img q fuse img (answer_is 6 0 0)
    missing_does f = passed_does (found (finder (clumps_of img) offset) go) (refuse no_clump) z is (ap (λ (c : Option Head). found c go) f) (acts_refused img 6 0 0 fuse)

    pub found_does : {x : Image} {s : Answer} (h : Head) → finder (clumps_of img) offset ≡ some h → Acts img (go h) fuse x s → Does img q fuse x s
    found_does h f a = passed_does (found (finder (clumps_of img) offset) go) (go h) z is (ap (λ (c : Option Head). found c go) f) a
