-- The contracts of check and of the tests 1 and 2, and the laws of the survey and of check. Assumes nothing.
use Rattle.std.specs.Prelude.{ℕ, Bool, cond, not, ◌||◌, [], length, Result, Ok, Err, Option as Maybe, Some, None, is_some}
use Rattle.std.proofs.Math.Path.{◌≡◌, refl, sym}
use Rattle.std.proofs.Common.{ap, ◌∙◌}
use Rattle.std.proofs.Math.Bool.{true, false}
use Rattle.std.proofs.lemmas.Option.{none-some, same_Some}
use Rattle.std.proofs.Math.Option.{Option, some, none}
use Rattle.rules.specs.declared.Answer.{Answer}
use Rattle.rules.specs.declared.Request.TheVariants.{Check}
use Rattle.rules.specs.Lists.{seek}
use Rattle.rules.specs.Words.{Image, Mem, mem}
use Rattle.rules.specs.Pages.{is_pool}
use Rattle.rules.specs.Clumps.{is_pending, walk}
use Rattle.rules.specs.Sound.{Fault, judge, unsettled}
use Rattle.rules.specs.Answers.{granted, test, test_fault, not_pool, not_settled, if_sound, if_settled, answer_of, totals_for}
use Rattle.rules.specs.Requests.{verdict, answer_on, totals_on}
use Rattle.rules.specs.Reading.{clumps_of}
use Rattle.laws.specs.Pools.{answer_is, granted_none, Sound, check_sound}
use Rattle.answer.specs.declared.Refusal.{Refusal}
use Rattle.answer.specs.declared.Refusal.TheVariants.{NotAPool, NotSound}
use Rattle.answer.specs.Refusals.{refusal_is, answer_in, ok_done, refusal_not_done, answer_in_same}
use Rattle.seen.specs.Forms.{judged_of, offset_in}
use Rattle.seen.specs.declared.Fault.{Fault as Broken}
use Rattle.seen.specs.declared.Seen.{Seen}
use Rattle.seen.specs.States.{nothing, seen}
use Rattle.seen.specs.Told.{told_sound, told-first, told-unsettled, told_totals}
use Rattle.survey.specs.declared.Checked.{Checked}
use Rattle.survey.specs.declared.Surveyed.{Surveyed}

-- check's answer, whatever the fuse, and its totals
pub record Checks (img : Image) (r : Checked) : Type 0 where
  pub answered : (fuse : ℕ) → r.answer ≡ answer_on img Check fuse
  pub totalled : r.totals ≡ totals_on img

-- the answer to the tests 1 and 2, whatever the fuse, and what is seen of the whole walk; nothing, where there is no pool
pub record Surveys (img : Image) (r : Surveyed) : Type 0 where
  pub answered : (fuse : ℕ) → answer_in r.tests ≡ answer_of fuse (if_sound (length img) (mem img) (granted 0 []))
  pub seen_is : r.seen ≡ cond (is_pool (length img) (mem img)) (seen (length img) (mem img) (clumps_of img)) nothing

-- the tests 1 and 2, a law for each way out
module _ (img : Image) (s : Seen) where
  pub surveys_no_pool : is_pool (length img) (mem img) ≡ false → s ≡ nothing → Surveys img (record { tests = Err NotAPool; seen = s })
  unfolding answer_of if_sound
  surveys_no_pool p f = record { answered = λ fuse. rw p; seen_is = rw p f }

  module _ (pool : is_pool (length img) (mem img) ≡ true) (sees : s ≡ seen (length img) (mem img) (clumps_of img)) where
    pub surveys_fault : (f : Broken) → Some f ≡ judged_of (judge (length img) (mem img)) → Surveys img (record { tests = Err (NotSound f.place f.number); seen = s })
    unfolding answer_of if_sound
    surveys_fault f e = record { answered = λ fuse. rw pool (go (judge (length img) (mem img)) e fuse); seen_is = rw pool sees }
      where
        go : (o : Option Fault) → Some f ≡ judged_of o → (fuse : ℕ) → answer_is 2 f.place f.number ≡ answer_of fuse (test_fault o (granted 0 []))
        go none i fuse = absurd (none-some f (sym i))
        go (some x) i fuse = rw (same_Some f _ i)

    pub surveys_done : {x : Unit {0}} → judge (length img) (mem img) ≡ none → Surveys img (record { tests = Ok x; seen = s })
    unfolding if_sound
    surveys_done e = record { answered = λ fuse. rw (pool, e) (granted_none 0 fuse); seen_is = rw pool sees }

-- whether the state is unsettled: an unfinished clump, or none. No proof cites these now; they stand as they were stated, of an Option
module _ (s : Seen) where
  pub unsettled_pending : (s.first ≡ None → ⊥) → true ≡ (is_some s.first || s.touched)
  unsettled_pending f = go s.first refl
    where
      go : (o : Maybe ℕ) → s.first ≡ o → true ≡ (is_some o || s.touched)
      go None e = absurd (f e)
      go (Some a) e = refl

  pub unsettled_touched : s.first ≡ None → s.touched ≡ (is_some s.first || s.touched)
  unsettled_touched e = rw e

-- the tests 1, 2 and 3, by the answer to the first two
module _ (n : ℕ) (m : Mem) (r : Answer) (e : (fuse : ℕ) → r ≡ answer_of fuse (if_sound n m (granted 0 []))) where
  pub survey_sound : r.answer ≡ 0 → Sound n m
  survey_sound z = check_sound n m 0 (ap (λ (a : Answer). a.answer) (sym (e 0)) ∙ z)

  pub survey_refused : (r.answer ≡ 0 → ⊥) → (fuse : ℕ) → r ≡ answer_of fuse (if_settled n m (granted 0 []))
  unfolding if_settled if_sound
  survey_refused z fuse = go (is_pool n m) (judge n m) (e fuse)
    where
      go :
          (t : Bool) (o : Option Fault)
          → r ≡ answer_of fuse (test (not t) not_pool (test_fault o (granted 0 [])))
          → r ≡ answer_of fuse (test (not t) not_pool (test_fault o (test (unsettled (walk n m)) not_settled (granted 0 []))))
      go true none f = absurd (z (ap (λ (a : Answer). a.answer) (f ∙ sym (granted_none 0 fuse))))
      go true (some x) f = f
      go false o f = f

  pub survey_unsettled : r.answer ≡ 0 → unsettled (walk n m) ≡ true → (fuse : ℕ) → answer_is 3 0 0 ≡ answer_of fuse (if_settled n m (granted 0 []))
  unfolding if_settled if_sound answer_of
  survey_unsettled z u fuse = let s = survey_sound z in rw (s.pool, s.sound, u)

  pub survey_settled : r.answer ≡ 0 → unsettled (walk n m) ≡ false → (fuse : ℕ) → r ≡ answer_of fuse (if_settled n m (granted 0 []))
  unfolding if_settled
  survey_settled z u fuse = rw u (e fuse)

-- the state, where the tests passed
module _ {img : Image} {r : Surveyed} (v : Surveys img r) {x : Unit {0}} (z : r.tests ≡ Ok x) where
  pub surveyed_sound : Sound (length img) (mem img)
  surveyed_sound = survey_sound (length img) (mem img) (answer_in r.tests) v.answered (ok_done z)

  pub surveyed_seen : r.seen ≡ seen (length img) (mem img) (clumps_of img)
  surveyed_seen = v.seen_is ∙ rw surveyed_sound.pool

  pub surveyed_fault : r.seen.fault ≡ None
  surveyed_fault = told_sound (length img) (mem img) r.seen surveyed_seen surveyed_sound.sound

  -- the unfinished clump
  pub surveyed_first : r.seen.first ≡ offset_in (seek is_pending (clumps_of img))
  surveyed_first = told-first (length img) (mem img) r.seen surveyed_seen surveyed_fault

  pub surveyed_unsettled : unsettled (clumps_of img) ≡ (is_some r.seen.first || r.seen.touched)
  surveyed_unsettled = told-unsettled (length img) (mem img) r.seen surveyed_seen surveyed_fault

-- any two outcomes that the contracts of the tests allow are equal
pub surveys_determined : (img : Image) (r s : Surveyed) → Surveys img r → Surveys img s → r ≡ s
surveys_determined img r s a b =
    let e = answer_in_same r.tests s.tests (a.answered 0 ∙ sym (b.answered 0)) in
    let f = a.seen_is ∙ sym b.seen_is in
    λ i. record { tests = e i; seen = f i }

pub survey_determined :
    (img : Image) (s t : Result (Unit {0}) Refusal)
    → ((fuse : ℕ) → answer_in s ≡ answer_of fuse (if_settled (length img) (mem img) (granted 0 [])))
    → ((fuse : ℕ) → answer_in t ≡ answer_of fuse (if_settled (length img) (mem img) (granted 0 [])))
    → s ≡ t
survey_determined img s t e f = answer_in_same s t (e 0 ∙ sym (f 0))

-- check, refused and accepted
module _ {img : Image} {r : Surveyed} (v : Surveys img r) where
  pub checks_refused :
      {q : Refusal} → r.tests ≡ Err q
      → Checks img (record { answer = refusal_is q; totals = record { free = 0; reserved = 0; activating = 0; active = 0; freeing = 0 } })
  unfolding verdict if_sound
  checks_refused {q = q} z =
      record {
        answered = λ fuse. rw z at (v.answered fuse);
        totalled = go (is_pool (length img) (mem img)) (judge (length img) (mem img)) (rw z at (v.answered 0));
      }
    where
      go :
          (t : Bool) (o : Option Fault)
          → refusal_is q ≡ answer_of 0 (test (not t) not_pool (test_fault o (granted 0 [])))
          → record { free = 0; reserved = 0; activating = 0; active = 0; freeing = 0 } ≡ totals_for (test (not t) not_pool (test_fault o (granted 0 []))) (clumps_of img)
      go true none f = absurd (refusal_not_done q (ap (λ (a : Answer). a.answer) (f ∙ sym (granted_none 0 0))))
      go true (some x) f = refl
      go false o f = refl

  pub checks_done : {x : Unit {0}} → r.tests ≡ Ok x → Checks img (record { answer = answer_is 0 0 0; totals = r.seen.totals })
  unfolding verdict if_sound
  checks_done z =
      let s = surveyed_sound v z in
      record {
        answered = λ fuse. rw z at (v.answered fuse);
        totalled = rw (s.pool, s.sound) (told_totals (length img) (mem img) r.seen (surveyed_seen v z) (surveyed_fault v z));
      }
