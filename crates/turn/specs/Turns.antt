-- A law for each way out of activate: each opens its rule, and the stores are those of the unmarked entries of the list that was read. Assumes nothing.
use Rattle.std.specs.Prelude.{ℕ, ◌+◌, ◌≡◌, true, false, List, [], ◌∷◌, ◌++◌}
use Rattle.rules.specs.Words.{Mem, store}
use Rattle.rules.specs.Clumps.{Head, has_state, state_at, RESERVED, ACTIVATING, ACTIVE, unmarked}
use Rattle.rules.specs.Sound.{all_valid}
use Rattle.rules.specs.Answers.{granted, refuse, wrong_state, bad_target}
use Rattle.rules.specs.Stores.{finish_activating, activate_stores}
use Rattle.rules.specs.Requests.{activate}
use Rattle.laws.specs.Choices.{chooses_unmarked}
use Rattle.page.specs.Forms.{list_at, only_in}
use Rattle.steps.specs.Lists.{assigns_of, empties_of, assigns_are, empties_are}

module _ (m : Mem) (hs : List Head) (o : ℕ) (h : Head) where
  pub activate_state : has_state RESERVED h ≡ false → activate m hs o h ≡ refuse wrong_state
  unfolding activate
  activate_state e = rw e

  pub activate-bad : has_state RESERVED h ≡ true → all_valid unmarked m hs h ≡ false → activate m hs o h ≡ refuse bad_target
  unfolding activate
  activate-bad e f = rw (e, f)

  pub activate-done :
      has_state RESERVED h ≡ true
      → all_valid unmarked m hs h ≡ true
      → (l : List (List ℕ))
      → l ≡ only_in unmarked (list_at m h.at)
      → activate m hs o h
      ≡ granted o (store (state_at h.at) ACTIVATING ∷ (assigns_of l ++ (empties_of (h.at + 16) l ++ (store (state_at h.at) ACTIVE ∷ []))))
  unfolding activate activate_stores finish_activating
  activate-done e f l q = rw (e, f, q, assigns_are unmarked chooses_unmarked m h.at, empties_are unmarked chooses_unmarked m h.at)
