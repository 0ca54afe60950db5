-- The line of a name and the text after it, by where the first space of the text stands, and by what is a number. Laws that no proof cites
-- now; they stand as they were stated (`Meanings` has them by the fields). Assumes nothing.
use Rattle.std.specs.Prelude.{ℕ, ◌+◌, ◌≤◌, refl, Bool, true, false, Option, Some, None, eqb, length, take, drop}
use Rattle.std.proofs.Math.Path.{◌≡◌}
use Rattle.std.proofs.Common.{sym, ◌∙◌, arith, eqb-true, le-ltb}
use mathlib.Core.List.{List, [], ◌∷◌}
use Rattle.std.proofs.Math.Seq.{take-length}
use Rattle.std.proofs.lemmas.Bool.{eqb-false}
use Rattle.line.specs.declared.Line.TheVariants.{Bad}
use Rattle.line.specs.Lines.{fields, number, followed, numbers, named, commands, command, meaning, longest_line, line_of}
use Rattle.line.proofs.Fields.{space_at, Whole, behind, fields_one, fields-more, number-space, behind_is}

-- a text has a space or not
whole_or_not {ℓ} : {A : Type ℓ} (s : List ℕ) → (Whole s → A) → ((Whole s → ⊥) → A) → A
whole_or_not {A = A} s f g = go (eqb (space_at s) (length s)) refl
  where
    go : (t : Bool) → eqb (space_at s) (length s) ≡ t → A
    go true e = f (eqb-true _ _ e)
    go false e = g (eqb-false _ _ e)

-- a fourth number is one too many
too_many : (name : List ℕ) (o t : ℕ) (f g : List ℕ) (gs : List (List ℕ)) → command name (followed (Some o) (followed (Some t) (numbers (f ∷ g ∷ gs)))) ≡ Bad
unfolding numbers command named commands
too_many name o t f g gs = go (number f) (number g) (numbers gs)
  where
    go : (n m : Option ℕ) (ns : Option (List ℕ)) → command name (followed (Some o) (followed (Some t) (followed n (followed m ns)))) ≡ Bad
    go None m ns = refl
    go (Some n) None ns = refl
    go (Some n) (Some m) None = refl
    go (Some n) (Some m) (Some ns) = refl

-- the third number is the whole of what is left
module _ (name : List ℕ) (o t : ℕ) (s : List ℕ) where
  third_not : number s ≡ None → command name (followed (Some o) (followed (Some t) (numbers (fields s)))) ≡ Bad
  unfolding numbers command
  third_not e = whole_or_not s (λ w. rw (fields_one s w, e)) (λ w. rw (fields-more s w) (another (drop (space_at s + 1) s)))
    where
      another : (r : List ℕ) → command name (followed (Some o) (followed (Some t) (numbers (take (space_at s) s ∷ fields r)))) ≡ Bad
      another r = whole_or_not r (λ w. rw (fields_one r w) (too_many name o t (take (space_at s) s) r [])) (λ w. rw (fields-more r w) (too_many name o t (take (space_at s) s) (take (space_at r) r) (fields (drop (space_at r + 1) r))))

  third_is : (v : ℕ) → number s ≡ Some v → command name (followed (Some o) (followed (Some t) (numbers (fields s)))) ≡ named name (commands (o ∷ t ∷ v ∷ []))
  unfolding numbers command
  third_is v e =
      whole_or_not s (λ w. rw (fields_one s w, e))
      (λ w. absurd (let n = number-space s w in let z : ◌≡◌ {A = ℕ} 0 1 = cc in omega arith))

-- a text whose first space stands at e, or that has none and e bytes
module _ (s : List ℕ) (e : ℕ) (at : e ≡ space_at s) where
  last-field : e ≡ length s → fields s ≡ take e s ∷ []
  last-field l = rw (l, take-length) (fields_one s (sym at ∙ l))

  next_field : (e ≡ length s → ⊥) → fields s ≡ take e s ∷ fields (behind s e)
  next_field n = rw (behind_is s e, at) (fields-more s (λ w. n (at ∙ w)))

module _ (name s : List ℕ) (e : ℕ) (at : e ≡ space_at s) where
  -- after the name
  pub first_not : number (take e s) ≡ None → Bad ≡ command name (numbers (fields s))
  unfolding numbers command
  first_not q = whole_or_not s (λ w. rw (last-field s e at (at ∙ w), q)) (λ w. rw (next_field s e at (λ l. w (sym at ∙ l)), q))

  module _ (n : ℕ) (q : number (take e s) ≡ Some n) where
    pub one_number : e ≡ length s → named name (commands (n ∷ [])) ≡ command name (numbers (fields s))
    unfolding numbers command
    one_number l = rw (last-field s e at l, q)

    pub more_numbers : (e ≡ length s → ⊥) → command name (followed (Some n) (numbers (fields (behind s e)))) ≡ command name (numbers (fields s))
    unfolding numbers
    more_numbers l = rw (next_field s e at l, q)

  -- after the name and an offset
  module _ (o : ℕ) where
    pub second_not : number (take e s) ≡ None → Bad ≡ command name (followed (Some o) (numbers (fields s)))
    unfolding numbers command
    second_not q = whole_or_not s (λ w. rw (last-field s e at (at ∙ w), q)) (λ w. rw (next_field s e at (λ l. w (sym at ∙ l)), q))

    module _ (t : ℕ) (q : number (take e s) ≡ Some t) where
      pub two_numbers : e ≡ length s → named name (commands (o ∷ t ∷ [])) ≡ command name (followed (Some o) (numbers (fields s)))
      unfolding numbers command
      two_numbers l = rw (last-field s e at l, q)

      module _ (l : e ≡ length s → ⊥) where
        pub value_not : number (behind s e) ≡ None → Bad ≡ command name (followed (Some o) (numbers (fields s)))
        unfolding numbers
        value_not z = rw (next_field s e at l, q) (sym (third_not name o t (behind s e) z))

        pub three_numbers :
            (v : ℕ)
            → number (behind s e) ≡ Some v
            → named name (commands (o ∷ t ∷ v ∷ [])) ≡ command name (followed (Some o) (numbers (fields s)))
        unfolding numbers
        three_numbers v z = rw (next_field s e at l, q) (sym (third_is name o t (behind s e) v z))

-- the whole line
module _ (s : List ℕ) (short : length s ≤ longest_line) (e : ℕ) (at : e ≡ space_at s) where
  pub line_name : e ≡ length s → named s (commands []) ≡ line_of s
  unfolding line_of meaning numbers command
  line_name l = rw (le-ltb longest_line (length s) short, fields_one s (sym at ∙ l))

  pub line_numbers : (e ≡ length s → ⊥) → command (take e s) (numbers (fields (behind s e))) ≡ line_of s
  unfolding line_of meaning
  line_numbers l = rw (le-ltb longest_line (length s) short, next_field s e at l)
