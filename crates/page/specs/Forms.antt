-- How the code's answers stand for the rules': each is a function of the rule's own answer, so that a contract is an equation.
-- Assumes nothing.
use Rattle.std.specs.Prelude.{ℕ, ◌+◌, ◌%◌, ◌<◌, ◌≤◌, ◌≡◌, Bool, true, cond, ◌&&◌, ◌||◌, List, [], ◌∷◌, map, eqb, get_or}
use Rattle.rules.specs.Words.{Mem, word_bytes}
use Rattle.rules.specs.Clumps.{Head, ACTIVATING, slots, value_at, Choice, bit_values, unmarked, target_of}
use Rattle.page.specs.declared.clump.Clump.{Clump}

-- a clump, as it was read
abbrev pub head_of : Clump → Head
head_of c = record { at = c.at; nbytes = c.nbytes; state = c.state }

-- the entry that stands at s, as it is read: its target word, with the mark, and its value
abbrev pub entry_at : Mem → ℕ → List ℕ
entry_at m s = m s ∷ m (value_at s) ∷ []

abbrev pub word_of : List ℕ → ℕ
word_of e = get_or e 0 0

abbrev pub value_of : List ℕ → ℕ
value_of e = get_or e 1 0

-- the on-list of the clump at a, entry by entry
abbrev pub list_at : Mem → ℕ → List (List ℕ)
list_at m a = map (entry_at m) (slots a)

-- the list with the entries that are not chosen made empty
abbrev pub only : Choice → List ℕ → List ℕ
only c e = cond (c (word_of e)) (word_of e) 0 ∷ value_of e ∷ []

abbrev pub only_in : Choice → List (List ℕ) → List (List ℕ)
only_in c l = map (only c) l

-- those with that bit 0; an empty one has a 0 there, and stays empty
abbrev pub has_bit : ℕ → Choice
has_bit b t = eqb (t % bit_values) b

-- the rules' `due` of a list that was read
abbrev pub due_in : ℕ → List (List ℕ) → List (List ℕ)
due_in state l = cond (eqb state ACTIVATING) (only_in unmarked l) l

-- the number of entries up to the last used one
abbrev pub reach_of : List (List ℕ) → ℕ
reach_of l = cond (eqb (word_of (get_or l 2 [])) 0) (cond (eqb (word_of (get_or l 1 [])) 0) (cond (eqb (word_of (get_or l 0 [])) 0) 0 1) 2) 3

-- the target of an entry passes the test, or the entry is empty
abbrev pub entry_passes : (ℕ → Bool) → List ℕ → Bool
entry_passes q e = eqb (word_of e) 0 || q (target_of (word_of e))

-- every used target of a list that was read passes the test
unfoldable pub list_passes : (ℕ → Bool) → List (List ℕ) → Bool
list_passes q [] = true
list_passes q (e ∷ es) = (eqb (word_of e) 0 || q (target_of (word_of e))) && list_passes q es

-- the used targets of a list lie in an image of n bytes, at offsets divisible by 8
abbrev pub InImage : ℕ → List (List ℕ) → Type 0
InImage n l =
    (i : ℕ)
    → i < 3
    → (word_of (get_or l i []) ≡ 0 → ⊥)
    → (target_of (word_of (get_or l i [])) % word_bytes ≡ 0) × (target_of (word_of (get_or l i [])) + word_bytes ≤ n)
