-- A line's fields, taken off it one by one by the library's `split` at spaces: what was taken, and what is still to come. Assumes nothing.
use Rattle.std.specs.Prelude.{ℕ, ◌≡◌, refl, Bool, true, false, cond, Some, None, Option, List, [], ◌∷◌, ◌++◌, eqb}
use Rattle.std.proofs.Common.{sym, ap, ◌∙◌, Bor, append_assoc, subst}
use Rattle.std.specs.List.{slice_split, onto_first}
use Rattle.std.proofs.lemmas.List.{append-nil}
use Rattle.std.proofs.lemmas.Iterator.{YieldsList}
use Rattle.std.proofs.lemmas.Iterator.Splits.{YieldsList-from_slice_split}
use Rattle.std.specs.Fn.{CalledAt}
use Rattle.std.specs.Slice.Iter.{split_rest, split_done, split_callee, split_steps}
use denote.Param.Members.{Mut}
use Rattle.text.specs.Texts.{space}
use Rattle.line.specs.Lines.{parted, fields}

-- the parts that `split` gives are the fields
split_fields : (s : List ℕ) → slice_split (λ b. eqb b space) s ≡ fields s
unfolding fields
split_fields [] = refl
split_fields (b ∷ bs) = rw (split_fields bs) (go (eqb b space) (fields bs))
  where
    go : (t : Bool) (fs : List (List ℕ)) → cond t ([] ∷ fs) (onto_first b fs) ≡ parted t b fs
    go true fs = refl
    go false [] = refl
    go false (f ∷ fs) = refl

-- the calls of `next` that s still takes give all fields of a line but the first ones
pub record Left {S : Type 0} (steps : S → Option (Bor (List ℕ)) → S → Type 0) (line : List ℕ) (front : List (List ℕ)) (s : S) : Type 0 where
  pub rest : List (List ℕ)
  pub parts : fields line ≡ front ++ rest
  pub gives : YieldsList steps (λ x. x.now) s rest

-- none is taken: what the call of `split` says, and that its closure knows a space
pub all_left :
    {F : Type 0} (g : Mut F (Bor ℕ × Unit {0}) Bool) {s : _} {f : F} (line : List ℕ)
    → split_rest s ≡ line
    → split_done s ≡ false
    → split_callee s ≡ f
    → ((x : ℕ) (b : Bool) (q : F) → CalledAt g f x b q → (q ≡ f) × (b ≡ eqb x space))
    → Left (split_steps g) line [] s
all_left g line e d c knows =
    record {
      rest = fields line;
      parts = refl;
      gives = subst (YieldsList (split_steps g) (λ x. x.now) _) (split_fields line) (YieldsList-from_slice_split g (λ b. eqb b space) line e d c knows);
    }

module _ {S : Type 0} {steps : S → Option (Bor (List ℕ)) → S → Type 0} {line : List ℕ} (s : S) where
  -- a call of `next` finds no field, or takes one
  module _ (front : List (List ℕ)) (t : S) (r : Option (Bor (List ℕ))) (k : steps s r t) where
    pub none_left : r ≡ None → Left steps line front s → fields line ≡ front
    none_left e w = go w.rest w.parts w.gives
      where
        go : (fs : List (List ℕ)) → fields line ≡ front ++ fs → YieldsList steps (λ x. x.now) s fs → fields line ≡ front
        go [] p y = p ∙ append-nil front
        go (f ∷ fs) p y = absurd (y.runs.0 t (subst (λ (o : Option (Bor (List ℕ))). steps s o t) e k))

    pub one_taken : (x : Bor (List ℕ)) → r ≡ Some x → Left steps line front s → Left steps line (front ++ (x.now ∷ [])) t
    one_taken x e w = go w.rest w.parts w.gives
      where
        j : steps s (Some x) t
        j = subst (λ (o : Option (Bor (List ℕ))). steps s o t) e k

        go : (fs : List (List ℕ)) → fields line ≡ front ++ fs → YieldsList steps (λ x. x.now) s fs → Left steps line (front ++ (x.now ∷ [])) t
        go [] p y = absurd (y.runs x t j)
        go (f ∷ fs) p y =
            let n = y.runs.1 x t j in
            record {
              rest = fs;
              parts = p ∙ ap (λ (g : List ℕ). front ++ (g ∷ fs)) (sym n.0) ∙ sym (append_assoc front (x.now ∷ []) fs);
              gives = record { runs = n.1 };
            }
