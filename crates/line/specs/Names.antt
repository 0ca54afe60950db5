-- Laws of the test whether two texts are the same, and of a table of names, each by computing. Assumes nothing.
use Rattle.std.specs.Prelude.{ℕ, suc, ◌+◌, ◌&&◌, ◌<◌, ◌≤◌, ◌≡◌, refl, true, false, List, [], ◌∷◌, eqb, length, get_or, drop}
use Prim.Native.String.{String}
use Rattle.std.specs.Str.{bytes_eq}
use Rattle.std.specs.List.{list_all, zip}
use Rattle.std.proofs.Common.{sym, ap, ◌∙◌, arith, drop_of_length-le}
use Rattle.std.proofs.Math.Bool.{and-false}
use borrow.Author.Tests.{eq-eqb, ne_eqb}
use Rattle.line.specs.declared.Line.{Line}
use Rattle.line.specs.declared.Line.TheVariants.{Bad}
use Rattle.rules.specs.Pages.{codes}
use Rattle.line.specs.Lines.{same, named}
use Rattle.line.specs.Scans.{drop_next}

-- what `==` answers of two slices (cited by the laws of an entry alone)
pub same_is : (xs ys : List ℕ) → same xs ys ≡ bytes_eq xs ys
unfolding same
same_is [] [] = refl
same_is [] (y ∷ ys) = refl
same_is (x ∷ xs) [] = refl
same_is (x ∷ xs) (y ∷ ys) = rw (same_is xs ys)

-- a table answers at the entry that has the name, and is passed by at one that has not
module _ (name : List ℕ) (t : String) (l : Line) (es : List (String × Line)) where
  pub named_hit : same name (codes t) ≡ true → named name ((t, l) ∷ es) ≡ l
  unfolding named
  named_hit e = rw (e, named)

  pub named_pass : same name (codes t) ≡ false → named name ((t, l) ∷ es) ≡ named name es
  unfolding named
  named_pass e = rw (e, named)

pub named_none : (name : List ℕ) → named name [] ≡ Bad
unfolding named
named_none name = refl

-- laws that no proof cites now; they stand as they were stated. The same by what `==` answered of s, which is the text of the name: the line
-- answered by a table is the entry's, or that of the table's rest
module _ (name : List ℕ) (t : String) (l : Line) (es : List (String × Line)) {s : List ℕ} (e : s ≡ codes t) where
  pub entry_hit : true ≡ bytes_eq name s → l ≡ named name ((t, l) ∷ es)
  entry_hit q = sym (named_hit name t l es (same_is name (codes t) ∙ sym (q ∙ ap (bytes_eq name) e)))

  pub entry_pass : (r : Line) → false ≡ bytes_eq name s → r ≡ named name es → r ≡ named name ((t, l) ∷ es)
  entry_pass r q f = f ∙ sym (named_pass name t l es (same_is name (codes t) ∙ sym (q ∙ ap (bytes_eq name) e)))

-- texts of different lengths differ, and texts of one length are the same where each two bytes are
pub same_length : (xs ys : List ℕ) → (length xs ≡ length ys → ⊥) → same xs ys ≡ false
unfolding same
same_length [] [] n = absurd (n refl)
same_length [] (y ∷ ys) n = refl
same_length (x ∷ xs) [] n = refl
same_length (x ∷ xs) (y ∷ ys) n = rw (same_length xs ys (λ e. n (ap suc e))) (and-false (eqb x y))

pub same_zip : (xs ys : List ℕ) → length xs ≡ length ys → list_all (λ p. eqb p.0 p.1) (zip xs ys) ≡ same xs ys
unfolding same
same_zip [] [] e = refl
same_zip [] (y ∷ ys) e = absurd (omega (arith, e))
same_zip (x ∷ xs) [] e = absurd (omega (arith, e))
same_zip (x ∷ xs) (y ∷ ys) e = ap (λ t. eqb x y && t) (same_zip xs ys (omega (arith, e)))

-- laws that no proof cites now; they stand as they were stated. A text held to another from its byte i on
module _ (ys : List ℕ) (i : ℕ) where
  pub same_end : length ys ≤ i → same [] (drop i ys) ≡ true
  unfolding same
  same_end l = rw (drop_of_length-le ys l)

  module _ (x : ℕ) (xs : List ℕ) (l : i < length ys) where
    pub same_differs : (x ≡ get_or ys i 0 → ⊥) → same (x ∷ xs) (drop i ys) ≡ false
    unfolding same
    same_differs n = rw (drop_next ys i l, ne_eqb x (get_or ys i 0) n)

    pub same_agrees : x ≡ get_or ys i 0 → same (x ∷ xs) (drop i ys) ≡ same xs (drop (i + 1) ys)
    unfolding same
    same_agrees e = rw (drop_next ys i l, eq-eqb x (get_or ys i 0) e)
