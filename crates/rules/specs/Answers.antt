-- What a request answers (01, "What a request answers"; 02, W1): the numbers, the verdict on a request, and the answer read off it.
-- A verdict is the one description of what a request does: everything else is a function of it. Assumes nothing.
use Rattle.std.specs.Prelude.{ℕ, ◌+◌, min, max, Bool, true, false, not, List, [], ◌∷◌, ltb, length, take}
use Rattle.std.proofs.Math.Option.{Option, some, none}
use Rattle.rules.specs.declared.Answer.{Answer}
use Rattle.rules.specs.declared.Totals.{Totals}
use Rattle.rules.specs.Lists.{those}
use Rattle.rules.specs.Words.{Mem, Store, word_bytes}
use Rattle.rules.specs.Pages.{is_pool}
use Rattle.rules.specs.Clumps.{Head, has_state, FREE, RESERVED, ACTIVATING, ACTIVE, FREEING, walk}
use Rattle.rules.specs.Sound.{Fault, judge, unsettled}

-- | 0 | done |
abbrev pub done : ℕ
done = 0

-- | 1 | not a pool: length, signature, total size or zero padding |
abbrev pub not_pool : ℕ
not_pool = 1

-- | 2 | not sound |
abbrev pub not_sound : ℕ
not_sound = 2

-- | 3 | sound, but a clump is ACTIVATING or FREEING, or two FREE clumps touch |
abbrev pub not_settled : ℕ
not_settled = 3

-- | 4 | size 0 |
abbrev pub size_zero : ℕ
size_zero = 4

-- | 5 | no room |
abbrev pub no_room : ℕ
no_room = 5

-- | 6 | no clump has its body at that offset |
abbrev pub no_clump : ℕ
no_clump = 6

-- | 7 | state doesn't allow it |
abbrev pub wrong_state : ℕ
wrong_state = 7

-- | 8 | list full |
abbrev pub list_full : ℕ
list_full = 8

-- | 9 | list empty (withdraw) |
abbrev pub list_empty : ℕ
list_empty = 9

-- | 10 | target not valid |
abbrev pub bad_target : ℕ
bad_target = 10

-- | 11 | cut |
abbrev pub cut_short : ℕ
cut_short = 11

-- the verdict on a request: refused with an answer, a place and a fault number, or granted with a place and its list of stores
pub data Verdict : Type 0 where
  refused : (answer place fault : ℕ) → Verdict
  granted : (place : ℕ) (stores : List Store) → Verdict

-- "Answers 1 to 10 make no store."
abbrev pub stores_of : Verdict → List Store
stores_of (refused a p f) = []
stores_of (granted p st) = st

-- "It carries a fuse, the number of stores that the power lasts for, and makes the first so many."
abbrev pub made : ℕ → Verdict → List Store
made fuse v = take fuse (stores_of v)

-- W1: "which bytes to flush": from the lowest offset up to the one just past the highest
pub record Flush : Type 0 where
  pub from : ℕ
  pub to : ℕ

-- with the word of one store more, and of stores made one after the other
abbrev pub wider : Flush → Store → Flush
wider r s = record { from = min r.from s.to; to = max r.to (s.to + word_bytes) }

unfoldable pub widened : Flush → List Store → Flush
widened r [] = r
widened r (s ∷ st) = widened (wider r s) st

-- W1: "the lowest offset stored to and the offset just past the highest. Both are 0 when nothing was stored. A store that keeps a
-- word's value still counts."
abbrev pub flush_of : List Store → Flush
flush_of [] = record { from = 0; to = 0 }
flush_of (s ∷ st) = widened (record { from = s.to; to = s.to + word_bytes }) st

-- "Answer, place, fault number, count of stores." W1: "Every answer should also carry" what to flush, "refusals included".
abbrev pub answer_by : ℕ → ℕ → ℕ → ℕ → Flush → Answer
answer_by a p f k r = record { answer = a; place = p; fault = f; stores = k; flush_from = r.from; flush_to = r.to }

-- "If the list is longer, the answer is 11; a fuse equal to its length is enough." The place is then 0.
abbrev pub answer_at : Bool → ℕ → ℕ → Flush → Answer
answer_at true p k r = answer_by cut_short 0 0 k r
answer_at false p k r = answer_by done p 0 k r

-- "The count is the number made, also where a word keeps its value." W1: "A cut answer covers only the stores made."
unfoldable pub answer_of : ℕ → Verdict → Answer
answer_of fuse (refused a p f) = answer_by a p f 0 (flush_of [])
answer_of fuse (granted p st) = let t = take fuse st in answer_at (ltb fuse (length st)) p (length t) (flush_of t)

-- "Fault is 0 except with answer 2." The place of every other refusal is 0.
abbrev pub refuse : ℕ → Verdict
refuse a = refused a 0 0

-- "Tests go by rising number; each answer is given exactly when its test is the first to hold": a test, and what comes after it
abbrev pub test : Bool → ℕ → Verdict → Verdict
test true a v = refuse a
test false a v = v

abbrev pub test_fault : Option Fault → Verdict → Verdict
test_fault none v = v
test_fault (some f) v = refused not_sound f.place f.number

-- the tests 1 and 2 of every request but create
unfoldable pub if_sound : ℕ → Mem → Verdict → Verdict
if_sound n m v = test (not (is_pool n m)) not_pool (test_fault (judge n m) v)

-- the tests 1, 2 and 3: "Check and recover never give 3."
unfoldable pub if_settled : ℕ → Mem → Verdict → Verdict
if_settled n m v = if_sound n m (test (unsettled (walk n m)) not_settled v)

-- the sum of nbytes over clumps
unfoldable pub bytes_of : List Head → ℕ
bytes_of [] = 0
bytes_of (h ∷ hs) = h.nbytes + bytes_of hs

-- "five byte totals, one for each state, each the sum of nbytes over the clumps in that state"
abbrev pub total_of : ℕ → List Head → ℕ
total_of s hs = bytes_of (those (has_state s) hs)

-- "With a refusal all five are 0."
abbrev pub totals_for : Verdict → List Head → Totals
totals_for (refused a p f) hs = record { free = 0; reserved = 0; activating = 0; active = 0; freeing = 0 }
totals_for (granted p st) hs =
    record {
      free = total_of FREE hs;
      reserved = total_of RESERVED hs;
      activating = total_of ACTIVATING hs;
      active = total_of ACTIVE hs;
      freeing = total_of FREEING hs;
    }
