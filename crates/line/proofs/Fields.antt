-- Laws of spaces and fields: a text without a space is its own one field, the first space parts the first field from the others, and
-- a text with a space is no number. Each goes by induction on the text. Assumes nothing.
use Rattle.std.specs.Prelude.{ℕ, suc, ◌+◌, ◌-◌, ◌≡◌, refl, Bool, true, false, None, List, [], ◌∷◌, eqb, length, take, drop}
use Rattle.std.proofs.Common.{ap, ◌∙◌, arith, add-one, length-drop, take_all, eqb-true}
use Rattle.text.specs.Texts.{space}
use Rattle.line.specs.Lines.{fields, is_digit, value_from, number}
use Rattle.line.specs.Numbers.{value_stops, value_goes}

-- laws that no function's proof cites now; they stand as they were stated. Where the first space of a text stands, or the text's length
unfoldable pub space_at : List ℕ → ℕ
space_at [] = 0
space_at (b ∷ bs) = elim (eqb b space) [ true ↦ 0 | false ↦ suc (space_at bs) ]

-- the first space, byte by byte
module _ (b : ℕ) (bs : List ℕ) where
  pub space_hit : eqb b space ≡ true → space_at (b ∷ bs) ≡ 0
  unfolding space_at
  space_hit e = rw (e, space_at)

  pub space_pass : eqb b space ≡ false → space_at (b ∷ bs) ≡ suc (space_at bs)
  unfolding space_at
  space_pass e = rw (e, space_at)

-- a text has no space
abbrev pub Whole : List ℕ → Type 0
Whole s = space_at s ≡ length s

-- the empty text has none, nor has one that starts with another byte and goes on without
whole_nil : Whole []
unfolding space_at
whole_nil = refl

whole_tail : (b : ℕ) (bs : List ℕ) → eqb b space ≡ false → Whole bs → Whole (b ∷ bs)
whole_tail b bs e w = space_pass b bs e ∙ ap suc w

pub fields_one : (s : List ℕ) → Whole s → fields s ≡ s ∷ []
unfolding fields
fields_one [] w = refl
fields_one (b ∷ bs) w = go (eqb b space) refl (fields_one bs)
  where
    go : (t : Bool) → eqb b space ≡ t → (Whole bs → fields bs ≡ bs ∷ []) → fields (b ∷ bs) ≡ (b ∷ bs) ∷ []
    go true e ih = absurd (omega (arith, space_hit b bs e))
    go false e ih = rw (e, ih (omega (arith, space_pass b bs e)))

pub fields-more : (s : List ℕ) → (Whole s → ⊥) → fields s ≡ take (space_at s) s ∷ fields (drop (space_at s + 1) s)
unfolding fields
fields-more [] w = absurd (w whole_nil)
fields-more (b ∷ bs) w = go (eqb b space) refl (fields-more bs)
  where
    go :
        (t : Bool)
        → eqb b space ≡ t
        → ((Whole bs → ⊥) → fields bs ≡ take (space_at bs) bs ∷ fields (drop (space_at bs + 1) bs))
        → fields (b ∷ bs) ≡ take (space_at (b ∷ bs)) (b ∷ bs) ∷ fields (drop (space_at (b ∷ bs) + 1) (b ∷ bs))
    go true e ih = rw (space_hit b bs e, e)
    go false e ih = rw (space_pass b bs e, e, ih (λ h. w (whole_tail b bs e h)), add-one, add-one)

-- a space is no digit
value_space : (s : List ℕ) (n : ℕ) → (Whole s → ⊥) → value_from n s ≡ None
unfolding is_digit
value_space [] n w = absurd (w whole_nil)
value_space (b ∷ bs) n w = go (eqb b space) refl (is_digit b) refl (value_space bs)
  where
    go : (t : Bool) → eqb b space ≡ t → (u : Bool) → is_digit b ≡ u → ((m : ℕ) → (Whole bs → ⊥) → value_from m bs ≡ None) → value_from n (b ∷ bs) ≡ None
    go true e u d ih = value_stops n b bs (rw (eqb-true b space e))
    go false e true d ih = rw (value_goes n b bs d) (ih _ (λ h. w (whole_tail b bs e h)))
    go false e false d ih = value_stops n b bs d

pub number-space : (s : List ℕ) → (Whole s → ⊥) → number s ≡ None
unfolding number
number-space [] w = refl
number-space (b ∷ bs) w = rw (value_space (b ∷ bs) 0 w)

-- the bytes behind a space at e, as a part of the text up to its end
abbrev pub behind : List ℕ → ℕ → List ℕ
behind s e = take (length s - (e + 1)) (drop (e + 1) s)

pub behind_is : (s : List ℕ) (e : ℕ) → behind s e ≡ drop (e + 1) s
behind_is s e = take_all (length s - (e + 1)) (drop (e + 1) s) (omega (arith, length-drop (e + 1) s))
