-- How a number is printed, as bytes. Assumes nothing.
use Rattle.std.specs.Prelude.{ℕ, zero, suc, ◌+◌, ◌/◌, ◌%◌, true, false, List, [], ◌∷◌, ◌++◌, ltb}

abbrev pub space : ℕ
space = 32

abbrev pub newline : ℕ
newline = 10

abbrev pub zero_digit : ℕ
zero_digit = 48

-- the decimal digits of n, the most significant first, where k is at least n: no zeros in front, and 0 is one digit
unfoldable pub digits : ℕ → ℕ → List ℕ
digits zero n = (zero_digit + n) ∷ []
digits (suc k) n =
    elim (ltb n 10) [ true ↦ (zero_digit + n) ∷ [] | false ↦ digits k (n / 10) ++ ((zero_digit + n % 10) ∷ []) ]

unfoldable pub decimal : ℕ → List ℕ
decimal n = digits n n

-- a number and the byte behind it
abbrev pub field : ℕ → ℕ → List ℕ
field n e = decimal n ++ (e ∷ [])

-- a word has 20 digits at most, and one byte more stands behind it
abbrev pub most_digits : ℕ
most_digits = 20

abbrev pub field_bytes : ℕ
field_bytes = 21
