-- The line that a case gets: its fields in decimal, parted by one space; or `bad` after its number. Assumes nothing.
use Rattle.std.specs.Prelude.{ℕ, zero, suc, Option, None, Some, List, [], ◌∷◌, ◌++◌, get_or}
use Rattle.text.specs.Texts.{space, newline, field}
use Rattle.outcome.specs.declared.Outcome.{Outcome}

-- a buffer of this many bytes holds every line: thirteen numbers
abbrev pub line_bytes : ℕ
line_bytes = 288

-- the first k numbers, each with a space after it
unfoldable pub spaced : List ℕ → ℕ → List ℕ
spaced ns zero = []
spaced ns (suc k) = spaced ns k ++ field (get_or ns k 0) space

-- N ANSWER PLACE FAULT STORES FROM TO FREE RESERVED ACTIVATING ACTIVE FREEING SUM
abbrev pub fields_of : ℕ → Outcome → List ℕ
fields_of n o =
    n
    ∷ o.answer.answer
    ∷ o.answer.place
    ∷ o.answer.fault
    ∷ o.answer.stores
    ∷ o.answer.flush_from
    ∷ o.answer.flush_to
    ∷ o.totals.free
    ∷ o.totals.reserved
    ∷ o.totals.activating
    ∷ o.totals.active
    ∷ o.totals.freeing
    ∷ o.sum
    ∷ []

-- `bad` and the line's end
abbrev pub bad : List ℕ
bad = 98 ∷ 97 ∷ 100 ∷ newline ∷ []

-- the line of a case, by its number and what it leads to
abbrev pub line_of : List ℕ → List ℕ
line_of ns = spaced ns 12 ++ field (get_or ns 12 0) newline

abbrev pub text_of : ℕ → Option Outcome → List ℕ
text_of n (Some o) = line_of (fields_of n o)
text_of n None = field n space ++ bad
