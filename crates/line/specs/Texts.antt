-- How a reply is printed (01, "The program"), as bytes. Assumes nothing.
use Rattle.std.specs.Prelude.{ℕ, List, [], ◌∷◌, ◌++◌}
use Rattle.rules.specs.Pages.{codes}
use Rattle.text.specs.Texts.{space, newline, field}

-- "Fields are parted by one space": three numbers on a line
unfoldable pub three_text : ℕ → ℕ → ℕ → List ℕ
three_text a b c = field a space ++ (field b space ++ field c newline)

-- "A request prints answer, place and stores"
abbrev pub reply_text : ℕ → ℕ → ℕ → List ℕ
reply_text answer place stores = three_text answer place stores

-- "`walk` prints offset, nbytes and state of each clump"
abbrev pub clump_text : ℕ → ℕ → ℕ → List ℕ
clump_text at nbytes state = three_text at nbytes state

-- "Any other line .. prints `?`"
unfoldable pub bad_text : List ℕ
unfolding codes
bad_text = codes "?" ++ (newline ∷ [])

-- how long these can be: three words of 20 digits at most, with a byte behind each; and a byte and the line's end
abbrev pub three_bytes : ℕ
three_bytes = 63

abbrev pub bad_bytes : ℕ
bad_bytes = 2
