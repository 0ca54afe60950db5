-- What a line of the input means (01, "The program"). A line is the list of the bytes before its newline. Assumes nothing.
use Rattle.std.specs.Prelude.{ℕ, ◌+◌, ◌-◌, ◌*◌, Bool, true, false, cond, ◌&&◌, Option, Some, None, List, [], ◌∷◌, eqb, leb, ltb, length}
use Prim.Native.String.{String}
use Rattle.rules.specs.Words.{word_values}
use Rattle.rules.specs.Pages.{codes}
use Rattle.rules.specs.Cases.{longest}
use Rattle.rules.specs.declared.Request.TheVariants.{Reserve, ReserveUncleared, Grow, Onactive, Onfree, Withdraw, Activate, Free, Recover}
use Rattle.text.specs.Texts.{space, zero_digit}
use Rattle.line.specs.declared.Line.{Line}
use Rattle.line.specs.declared.Line.TheVariants.{Ask, Fuse, Walk, Bad}

-- "Fields are parted by one space." A byte before the fields that follow it: a space ends a field, any other byte belongs to the first
-- of them.
abbrev pub parted : Bool → ℕ → List (List ℕ) → List (List ℕ)
parted true b fs = [] ∷ fs
parted false b [] = (b ∷ []) ∷ []
parted false b (f ∷ fs) = (b ∷ f) ∷ fs

-- There is always a first field; a space at either end, or a second space, makes an empty one.
unfoldable pub fields : List ℕ → List (List ℕ)
fields [] = [] ∷ []
fields (b ∷ bs) = parted (eqb b space) b (fields bs)

-- "Numbers are digits only."
unfoldable pub is_digit : ℕ → Bool
is_digit b = leb zero_digit b && leb b 57

-- the value of the digits of n and those that follow, the most significant first
unfoldable pub value_from : ℕ → List ℕ → Option ℕ
value_from n [] = Some n
value_from n (b ∷ bs) = elim (is_digit b) [ true ↦ value_from (10 * n + (b - zero_digit)) bs | false ↦ None ]

-- "one with a number above 64 bits" is no line
abbrev pub in_word : Option ℕ → Option ℕ
in_word None = None
in_word (Some n) = cond (ltb n word_values) (Some n) None

-- the number of a field: one digit or more, judged by their value, so that zeros in front are fine
unfoldable pub number : List ℕ → Option ℕ
number [] = None
number (b ∷ bs) = in_word (value_from 0 (b ∷ bs))

-- the numbers of the fields after the name, if each is one
abbrev pub followed : Option ℕ → Option (List ℕ) → Option (List ℕ)
followed None ns = None
followed (Some n) None = None
followed (Some n) (Some ns) = Some (n ∷ ns)

unfoldable pub numbers : List (List ℕ) → Option (List ℕ)
numbers [] = Some []
numbers (f ∷ fs) = followed (number f) (numbers fs)

-- two texts are the same, byte for byte
unfoldable pub same : List ℕ → List ℕ → Bool
same [] [] = true
same [] (y ∷ ys) = false
same (x ∷ xs) [] = false
same (x ∷ xs) (y ∷ ys) = eqb x y && same xs ys

-- the line of the first entry of a table that has this name
unfoldable pub named : List ℕ → List (String × Line) → Line
named name [] = Bad
named name (e ∷ es) = elim (same name (codes e.0)) [ true ↦ e.1 | false ↦ named name es ]

-- "Each input line is a request name (not create or check) and decimal numbers: size; or offset; or offset, target, value; recover takes
-- none." Besides there are `fuse k` and `walk`, W5's "second form of the request", and W6's "new request: a live clump .., a new body size".
-- The names that take these numbers, each with its line:
unfoldable pub commands : List ℕ → List (String × Line)
commands [] = ("recover", Ask Recover) ∷ ("walk", Walk) ∷ []
commands (n ∷ []) =
    ("reserve", Ask (Reserve n))
    ∷ ("reserve_uncleared", Ask (ReserveUncleared n))
    ∷ ("withdraw", Ask (Withdraw n))
    ∷ ("activate", Ask (Activate n))
    ∷ ("free", Ask (Free n))
    ∷ ("fuse", Fuse n)
    ∷ []
commands (o ∷ n ∷ []) = ("grow", Ask (Grow o n)) ∷ []
commands (o ∷ t ∷ v ∷ []) = ("onactive", Ask (Onactive o t v)) ∷ ("onfree", Ask (Onfree o t v)) ∷ []
commands (o ∷ t ∷ v ∷ n ∷ ns) = []

-- the line of a name and its numbers. "Any other line .. prints `?`."
unfoldable pub command : List ℕ → Option (List ℕ) → Line
command name None = Bad
command name (Some ns) = named name (commands ns)

-- the line of its fields
unfoldable pub meaning : List (List ℕ) → Line
meaning [] = Bad
meaning (name ∷ fs) = command name (numbers fs)

-- "one longer than 200 bytes, prints `?`"
abbrev pub longest_line : ℕ
longest_line = 200

unfoldable pub line_of : List ℕ → Line
line_of line = cond (ltb longest_line (length line)) Bad (meaning (fields line))

-- "`fuse k` holds for the next request line ..; otherwise the fuse is the largest 64-bit number. `walk` and `?` lines use up no fuse;
-- of two fuse lines the later holds": the fuse that the next request has
unfoldable pub fuse_after : ℕ → Line → ℕ
fuse_after fuse (Ask q) = longest
fuse_after fuse (Fuse k) = k
fuse_after fuse Walk = fuse
fuse_after fuse Bad = fuse
