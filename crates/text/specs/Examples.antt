-- Numbers as text, worked out, and proved by computing. Assumes nothing.
use Rattle.std.specs.Prelude.{◌≡◌, refl, [], ◌∷◌, map}
use Rattle.rules.specs.Pages.{codes}
use Rattle.text.specs.Texts.{newline, digits, decimal, field}

abbrev pub Examples : Type 0
Examples =
    (map decimal (0 ∷ 9 ∷ 10 ∷ 16448 ∷ 18446744073709551615 ∷ [])
    ≡ codes "0" ∷ codes "9" ∷ codes "10" ∷ codes "16448" ∷ codes "18446744073709551615" ∷ [])
    × (field 100 newline ≡ codes "100\n")

examples : Examples
unfolding codes digits decimal
examples = (refl, refl)
