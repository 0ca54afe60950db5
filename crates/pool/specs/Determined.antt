-- Any two outcomes that a public contract allows are equal: each contract is an equation for its answer and for the image afterwards,
-- so that two outcomes equal the same thing. Assumes nothing.
use Rattle.std.specs.Prelude.{ℕ, ◌≡◌, refl, Bool, true, false, not, List, [], length}
use Rattle.std.proofs.Common.{sym, ◌∙◌}
use Rattle.std.proofs.Math.Option.{Option, some, none}
use Rattle.std.proofs.Math.Seq.{take-nil}
use Rattle.rules.specs.declared.Request.TheVariants.{Check}
use Rattle.rules.specs.Words.{Image, Store, mem, carry}
use Rattle.rules.specs.Pages.{is_pool}
use Rattle.rules.specs.Sound.{Fault, judge}
use Rattle.rules.specs.Answers.{granted, test, test_fault, not_pool, if_sound, stores_of}
use Rattle.rules.specs.Requests.{verdict, stores_for, Does}
use Rattle.rules.specs.Demands.{Determined}
use Rattle.word.specs.declared.Power.{Power}
use Rattle.word.specs.Runs.{Ran}
use Rattle.survey.specs.declared.Checked.{Checked}
use Rattle.survey.specs.Checking.{Checks}

-- the contracts of the ten requests that may store, and of `ask`
pub determined : Determined
determined img q fuse x y r s a b = (a.stored ∙ sym b.stored, a.answered ∙ sym b.answered)

-- the contract of check
pub checks_determined : (img : Image) (r s : Checked) → Checks img r → Checks img s → r ≡ s
checks_determined img r s a b =
    let e = a.answered 0 ∙ sym (b.answered 0) in
    let f = a.totalled ∙ sym b.totalled in
    λ i. record { answer = e i; totals = f i }

-- the contract of the store function and of every run of stores
pub ran_determined : {img x y : Image} {p q r : Power} {st : List Store} → Ran img p st x q → Ran img p st y r → (x ≡ y) × (q ≡ r)
ran_determined a b = (a.image ∙ sym b.image, a.power ∙ sym b.power)

-- every other public contract: the result is a function of the arguments, whatever the fuse where one is named
pub equal_determined : {A : Type 0} {r s v : A} → r ≡ v → s ≡ v → r ≡ s
equal_determined e f = e ∙ sym f

pub every_determined : {A : Type 0} {r s : A} {v : ℕ → A} → ((fuse : ℕ) → r ≡ v fuse) → ((fuse : ℕ) → s ≡ v fuse) → r ≡ s
every_determined e f = e 0 ∙ sym (f 0)

-- check stores nothing
check_stores : (img : Image) → stores_for img Check ≡ []
unfolding verdict if_sound
check_stores img = go (is_pool (length img) (mem img)) (judge (length img) (mem img))
  where
    go : (t : Bool) (o : Option Fault) → stores_of (test (not t) not_pool (test_fault o (granted 0 []))) ≡ []
    go true none = refl
    go true (some f) = refl
    go false o = refl

pub check_does : (img : Image) (r : Checked) (fuse : ℕ) → Checks img r → Does img Check fuse img r.answer
unfolding carry
check_does img r fuse c = record { answered = c.answered fuse; stored = rw (check_stores img, take-nil fuse) }
