-- How the code's answers stand for the rules': each is a function of the rule's own answer, so that a contract is an equation.
-- Assumes nothing.
use Rattle.std.specs.Prelude.{ℕ, Bool, List, Option, Some, None}
use Rattle.std.proofs.Math.Option as rule
use Rattle.std.proofs.Math.Option.{some, none}
use Rattle.rules.specs.Clumps.{Head}
use Rattle.rules.specs.Sound.{is_valid}
use Rattle.page.specs.Forms.{list_passes}
use Rattle.walk.specs.declared.Found.{Found}

-- what the finder answers: the header offset, and that of the clump before it
abbrev pub found_at : ℕ → ℕ → Found
found_at h b = record { at = h; below = b }

abbrev pub found_of : rule.Option (ℕ × ℕ) → Option Found
found_of none = None
found_of (some f) = Some (found_at f.0 f.1)

-- every used target of a list that was read is valid
abbrev pub list_valid : List Head → List (List ℕ) → Bool
list_valid hs = list_passes (is_valid hs)
