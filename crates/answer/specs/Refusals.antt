-- The answer of each refusal, with this paper's number and values (01: "Where an answer is an enum, a definition gives this paper's number
-- and values for each of its cases. The promises use that definition."), and that of tests which refuse or pass. Assumes nothing.
use Rattle.std.specs.Prelude.{ℕ, ◌≡◌, refl, List, [], ◌∷◌, get_or, Result, Ok, Err}
use Rattle.std.proofs.Common.{arith, ap, sym, ◌∙◌}
use Rattle.rules.specs.declared.Answer.{Answer}
use Rattle.rules.specs.Answers.{done, not_pool, not_sound, not_settled, size_zero, no_room, no_clump, wrong_state, list_full, list_empty, bad_target}
use Rattle.laws.specs.Pools.{answer_is}
use Rattle.answer.specs.declared.Refusal.{Refusal}
use Rattle.answer.specs.declared.Refusal.TheVariants.{NotAPool, NotSound, Unsettled, SizeZero, NoRoom, NoClump, WrongState, ListFull, ListEmpty, BadTarget}

-- "Answers 1 to 10 make no store." "Fault is 0 except with answer 2."
abbrev pub refusal_is : Refusal → Answer
refusal_is NotAPool = answer_is not_pool 0 0
refusal_is (NotSound p f) = answer_is not_sound p f
refusal_is Unsettled = answer_is not_settled 0 0
refusal_is SizeZero = answer_is size_zero 0 0
refusal_is NoRoom = answer_is no_room 0 0
refusal_is NoClump = answer_is no_clump 0 0
refusal_is WrongState = answer_is wrong_state 0 0
refusal_is ListFull = answer_is list_full 0 0
refusal_is ListEmpty = answer_is list_empty 0 0
refusal_is BadTarget = answer_is bad_target 0 0

-- the answer of tests that a request begins with: where they pass it is 0
abbrev pub answer_in : Result (Unit {0}) Refusal → Answer
answer_in (Ok x) = answer_is done 0 0
answer_in (Err r) = refusal_is r

-- no refusal answers 0
pub refusal_not_done : (r : Refusal) → (refusal_is r).answer ≡ done → ⊥
refusal_not_done NotAPool e = omega arith
refusal_not_done (NotSound p f) e = omega arith
refusal_not_done Unsettled e = omega arith
refusal_not_done SizeZero e = omega arith
refusal_not_done NoRoom e = omega arith
refusal_not_done NoClump e = omega arith
refusal_not_done WrongState e = omega arith
refusal_not_done ListFull e = omega arith
refusal_not_done ListEmpty e = omega arith
refusal_not_done BadTarget e = omega arith

-- the tests by what they came to
module _ {t : Result (Unit {0}) Refusal} where
  pub ok_done : {x : Unit {0}} → t ≡ Ok x → (answer_in t).answer ≡ done
  ok_done e = rw e

  pub err_not_done : {r : Refusal} → t ≡ Err r → (answer_in t).answer ≡ done → ⊥
  err_not_done {r = r} e z = refusal_not_done r (rw e at z)

-- no two cases have the same answer: the one is read off the other by its number
cases : ℕ → ℕ → List (Result (Unit {0}) Refusal)
cases p f =
    Ok tt
    ∷ Err NotAPool
    ∷ Err (NotSound p f)
    ∷ Err Unsettled
    ∷ Err SizeZero
    ∷ Err NoRoom
    ∷ Err NoClump
    ∷ Err WrongState
    ∷ Err ListFull
    ∷ Err ListEmpty
    ∷ Err BadTarget
    ∷ []

read_by : Answer → Result (Unit {0}) Refusal
read_by a = get_or (cases a.place a.fault) a.answer (Ok tt)

read_back : (t : Result (Unit {0}) Refusal) → read_by (answer_in t) ≡ t
unfolding read_by cases
read_back (Ok x) = refl
read_back (Err NotAPool) = refl
read_back (Err (NotSound p f)) = refl
read_back (Err Unsettled) = refl
read_back (Err SizeZero) = refl
read_back (Err NoRoom) = refl
read_back (Err NoClump) = refl
read_back (Err WrongState) = refl
read_back (Err ListFull) = refl
read_back (Err ListEmpty) = refl
read_back (Err BadTarget) = refl

pub answer_in_same : (s t : Result (Unit {0}) Refusal) → answer_in s ≡ answer_in t → s ≡ t
answer_in_same s t e = sym (read_back s) ∙ ap read_by e ∙ read_back t
