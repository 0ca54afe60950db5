-- The faults 1 to 3 of one clump by the words of its header, with no memory at hand, and how the code's answers stand for the rules': each
-- is a function of the rule's own answer, so that a contract is an equation. Assumes nothing.
use Rattle.std.specs.Prelude.{ℕ, Bool, false, cond, not, ◌||◌, List, eqb, Option, Some, None}
use Rattle.std.proofs.Math.Option.{Option as Maybe, some, none}
use Rattle.rules.specs.Clumps.{Head, RESERVED, ACTIVATING, ACTIVE, marked}
use Rattle.rules.specs.Sound.{Fault as RuleFault, size_bad, state_bad, in_place}
use Rattle.page.specs.Forms.{only_in, list_passes}
use Rattle.seen.specs.declared.Fault.{Fault}

-- fault 3 of a list as it was read, by the entries that wait in that state
abbrev pub list_bad_in : ℕ → ℕ → List (List ℕ) → Bool
list_bad_in n state l =
    cond (eqb state RESERVED || eqb state ACTIVE)
    (not (list_passes (in_place n) l))
    (cond (eqb state ACTIVATING) (not (list_passes (in_place n) (only_in marked l))) false)

-- the first of the faults 1 to 3 in a clump with that list, 0 for none
unfoldable pub fault_in : ℕ → List (List ℕ) → Head → ℕ
fault_in n l h = cond (size_bad n h) 1 (cond (state_bad h) 2 (cond (list_bad_in n h.state l) 3 0))

-- the number of a fault that a rule gives as 0 for none
abbrev pub number_in : ℕ → Option ℕ
number_in k = cond (eqb k 0) None (Some k)

-- the first fault
abbrev pub judged_of : Maybe RuleFault → Option Fault
judged_of none = None
judged_of (some f) = Some (record { place = f.place; number = f.number })

-- its place alone, and the place of a clump that is sought
abbrev pub place_of : Maybe RuleFault → Option ℕ
place_of none = None
place_of (some f) = Some f.place

abbrev pub offset_in : Maybe Head → Option ℕ
offset_in none = None
offset_in (some h) = Some h.at
