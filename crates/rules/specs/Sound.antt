-- A sound pool: the five faults in the order of judging, and their places (01, "A sound pool"; 02, W4).
-- n is the image's length, m its memory, hs the clumps of its walk. Total on any n and m. Assumes nothing.
use Rattle.std.specs.Prelude.{ℕ, ◌+◌, ◌%◌, Bool, false, cond, not, ◌&&◌, ◌||◌, List, [], ◌∷◌, eqb, leb, ltb}
use Rattle.std.proofs.Math.Option.{Option, some, none, map}
use Rattle.rules.specs.Lists.{seek, those, any, all}
use Rattle.rules.specs.Words.{Mem, word_bytes}
use Rattle.rules.specs.Pages.{static_at, static_end, clumps_at, unit}
use Rattle.rules.specs.Clumps.{Head, body_of, end_of, least_clump, FREEING, is_free, is_live, is_pending, Choice, slots_by, target_at, due, waiting, walk}

-- a fault has a number and a place: "The place is the header offset of the clump at fault (for 4, of the second)."
pub record Fault : Type 0 where
  pub place : ℕ
  pub number : ℕ

abbrev pub fault_at : ℕ → Head → Fault
fault_at k h = record { place = h.at; number = k }

-- "1. size: nbytes not divisible by 64, below 128, or past the end"
unfoldable pub size_bad : ℕ → Head → Bool
size_bad n h = not (eqb (h.nbytes % unit) 0) || ltb h.nbytes least_clump || ltb n (end_of h)

-- "2. state above 4"
unfoldable pub state_bad : Head → Bool
state_bad h = ltb FREEING h.state

-- "divisible by 8"
abbrev pub is_even : ℕ → Bool
is_even t = eqb (t % word_bytes) 0

-- the word at t lies in a..b
abbrev pub lies : ℕ → ℕ → ℕ → Bool
lies a b t = leb a t && leb (t + word_bytes) b

-- the other side of "isn't divisible by 8 or lies neither in 4096..8184 nor in 16384..length-8", both ends in
unfoldable pub in_place : ℕ → ℕ → Bool
in_place n t = is_even t && (lies static_at static_end t || lies clumps_at n t)

-- "3. list: in a RESERVED or ACTIVE clump .. a target that isn't .. ". W4: "Gaps are now sound in every state"; of an ACTIVATING clump
-- "marked ones wait, judged there by the rest of fault 3"
unfoldable pub list_bad : ℕ → Mem → Head → Bool
list_bad n m h = any (λ s. not (in_place n (target_at m s))) (slots_by (waiting h) m h.at)

-- the first of the faults 1 to 3 in a clump, 0 for none
unfoldable pub fault_of : ℕ → Mem → Head → ℕ
fault_of n m h = cond (size_bad n h) 1 (cond (state_bad h) 2 (cond (list_bad n m h) 3 0))

-- "Faults 1 to 3 are sought together, lowest clump first and in that order within it"
unfoldable pub clump_fault : ℕ → Mem → List Head → Option Fault
clump_fault n m hs = map (λ h. fault_at (fault_of n m h) h) (seek (λ h. not (eqb (fault_of n m h) 0)) hs)

-- "4. a second clump that is ACTIVATING or FREEING"
abbrev pub second : List Head → Option Fault
second [] = none
second (h ∷ []) = none
second (h ∷ k ∷ hs) = some (fault_at 4 k)

unfoldable pub second_fault : List Head → Option Fault
second_fault hs = second (those is_pending hs)

-- the word at t lies "wholly in one body whose clump isn't FREE"
abbrev pub holds_word : ℕ → Head → Bool
holds_word t h = is_live h && lies (body_of h) (end_of h) t

-- "A target is valid if divisible by 8 and its 8 bytes lie in the static area or wholly in one body whose clump isn't FREE."
unfoldable pub is_valid : List Head → ℕ → Bool
is_valid hs t = is_even t && (lies static_at static_end t || any (holds_word t) hs)

-- every target of the chosen entries of the clump is valid
unfoldable pub all_valid : Choice → Mem → List Head → Head → Bool
all_valid c m hs h = all (λ s. is_valid hs (target_at m s)) (slots_by c m h.at)

-- "5. in the one ACTIVATING or FREEING clump, a used target that isn't valid". W4: marked ones: "fault 5 looks at them only in a FREEING
-- clump"
abbrev pub invalid : Mem → List Head → Option Head → Option Fault
invalid m hs none = none
invalid m hs (some h) = cond (all_valid (due h) m hs h) none (some (fault_at 5 h))

unfoldable pub target_fault : Mem → List Head → Option Fault
target_fault m hs = invalid m hs (seek is_pending hs)

-- "Faults 1 to 3 are sought together ..; then 4, then 5."
abbrev pub or_else : Option Fault → Option Fault → Option Fault
or_else none g = g
or_else (some f) g = some f

unfoldable pub judge : ℕ → Mem → Option Fault
judge n m = let hs = walk n m in or_else (clump_fault n m hs) (or_else (second_fault hs) (target_fault m hs))

-- two FREE clumps touch: the walk has one behind the other
abbrev pub starts_free : List Head → Bool
starts_free [] = false
starts_free (h ∷ hs) = is_free h

unfoldable pub touching : List Head → Bool
touching [] = false
touching (h ∷ hs) = (is_free h && starts_free hs) || touching hs

-- "a clump is ACTIVATING or FREEING, or two FREE clumps touch"
unfoldable pub unsettled : List Head → Bool
unsettled hs = any is_pending hs || touching hs
