-- How a line of the cases is read, a byte at a time. Assumes nothing.
use Rattle.std.specs.Prelude.{ℕ, ◌+◌, ◌-◌, ◌*◌, cond, List, Option, None, Some, eqb, ltb, set, replicate}
use Rattle.rules.specs.Words.{word_values}
use Rattle.text.specs.Texts.{space, zero_digit}
use Rattle.case.specs.declared.line.Reading.{Reading}
use Rattle.case.specs.declared.line.Reading.TheVariants.{Nothing, Number, Malformed}
use Rattle.case.specs.declared.line.Numbers.{Numbers}
use Rattle.case.specs.declared.line.Line.{Line}

-- a line has this many numbers at most
abbrev pub most : ℕ
most = 256

-- one digit more: a number is below 2^64
abbrev pub with_next : ℕ → ℕ → Option ℕ
with_next n d = cond (ltb (n * 10 + d) word_values) (Some (n * 10 + d)) None

abbrev pub number_or_bad : Option ℕ → Reading
number_or_bad (Some n) = Number n
number_or_bad None = Malformed

abbrev pub with_digit : Reading → ℕ → Reading
with_digit Nothing d = Number d
with_digit (Number n) d = number_or_bad (with_next n d)
with_digit Malformed d = Malformed

-- a byte that ends no number: the digits are 48 to 57
abbrev pub read_byte : Reading → ℕ → Reading
read_byte r b = cond (ltb b zero_digit) Malformed (cond (ltb 57 b) Malformed (with_digit r (b - zero_digit)))

-- a line of which nothing is read, over what its room has
abbrev pub started : ℕ → List ℕ → Line
started c ns = record { case = c; numbers = record { items = ns; count = 0 }; reading = Nothing }

-- the first line, its room empty
abbrev pub begun : ℕ → Line
begun c = started c (replicate most 0)

-- the line with another number under way
abbrev pub reads : Line → Reading → Line
reads l r = record { case = l.case; numbers = l.numbers; reading = r }

-- a number put behind the others, where it has room
abbrev pub kept : Numbers → ℕ → Numbers
kept ns n = record { items = set ns.items ns.count n; count = ns.count + 1 }

abbrev pub counted : Line → ℕ → Line
counted l n = cond (ltb l.numbers.count most) (record { case = l.case; numbers = kept l.numbers n; reading = Nothing }) (reads l Malformed)

-- the end of a number: with no number there the line is malformed
abbrev pub line_ends : Line → Reading → Line
line_ends l Nothing = reads l Malformed
line_ends l (Number n) = counted l n
line_ends l Malformed = l

abbrev pub line_ended : Line → Line
line_ended l = line_ends l l.reading

-- a byte of the line that is not its end
abbrev pub line_taken : Line → ℕ → Line
line_taken l b = cond (eqb b space) (line_ended l) (reads l (read_byte l.reading b))

-- the number of the next case; no run comes to the last
abbrev pub last_case : ℕ
last_case = 18446744073709551615

abbrev pub next_case : ℕ → ℕ
next_case n = cond (eqb n last_case) n (n + 1)
