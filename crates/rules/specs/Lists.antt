-- The few words about lists that the rules use: a search, a choice and two tests. Each goes by a test, a function to Bool.
-- Assumes nothing.
use Rattle.std.specs.Prelude.{Bool, true, false, cond, ◌&&◌, ◌||◌, List, [], ◌∷◌}
use Rattle.std.proofs.Math.Option.{Option, some, none}

module _ {A : Type 0} where
  -- the first element that passes the test
  unfoldable pub seek : (A → Bool) → List A → Option A
  seek p [] = none
  seek p (x ∷ xs) = elim (p x) [ true ↦ some x | false ↦ seek p xs ]

  -- the elements that pass the test, in order
  unfoldable pub those : (A → Bool) → List A → List A
  those p [] = []
  those p (x ∷ xs) = cond (p x) (x ∷ those p xs) (those p xs)

  -- some element passes the test
  unfoldable pub any : (A → Bool) → List A → Bool
  any p [] = false
  any p (x ∷ xs) = p x || any p xs

  -- each element passes the test
  unfoldable pub all : (A → Bool) → List A → Bool
  all p [] = true
  all p (x ∷ xs) = p x && all p xs

  -- the statement P holds of each element
  abbrev pub Each : (A → Type 0) → List A → Type 0
  Each P [] = Unit {0}
  Each P (x ∷ xs) = P x × Each P xs
