-- What a line means by its fields, a law for each way that the code takes. Assumes nothing.
use Rattle.std.specs.Prelude.{ℕ, ◌<◌, ◌≤◌, ◌≡◌, refl, Option, Some, None, List, [], ◌∷◌, length}
use Rattle.std.proofs.Common.{lt-ltb, le-ltb}
use Rattle.line.specs.declared.Line.{Line}
use Rattle.line.specs.declared.Line.TheVariants.{Bad}
use Rattle.line.specs.Lines.{fields, number, followed, numbers, named, commands, command, meaning, longest_line, line_of}

pub line_long : (s : List ℕ) → longest_line < length s → Bad ≡ line_of s
unfolding line_of
line_long s l = rw (lt-ltb longest_line (length s) l)

pub line_short : (s : List ℕ) (fs : List (List ℕ)) (l : Line) → length s ≤ longest_line → fields s ≡ fs → l ≡ meaning fs → l ≡ line_of s
unfolding line_of
line_short s fs l short e m = rw (le-ltb longest_line (length s) short, e) m

-- a name and n fields, each of which is a number, and behind them nothing, a field that is none, or a fourth field
module _ (name : List ℕ) where
  pub no_number : named name (commands []) ≡ meaning (name ∷ [])
  unfolding numbers command meaning
  no_number = refl

  pub first_not : (f : List ℕ) (fs : List (List ℕ)) → number f ≡ None → Bad ≡ meaning (name ∷ f ∷ fs)
  unfolding numbers command meaning
  first_not f fs e = rw e

  module _ (f : List ℕ) (a : ℕ) (p : number f ≡ Some a) where
    pub one_number : named name (commands (a ∷ [])) ≡ meaning (name ∷ f ∷ [])
    unfolding numbers command meaning
    one_number = rw p

    pub second_not : (g : List ℕ) (fs : List (List ℕ)) → number g ≡ None → Bad ≡ meaning (name ∷ f ∷ g ∷ fs)
    unfolding numbers command meaning
    second_not g fs e = rw (p, e)

    module _ (g : List ℕ) (b : ℕ) (q : number g ≡ Some b) where
      pub two_numbers : named name (commands (a ∷ b ∷ [])) ≡ meaning (name ∷ f ∷ g ∷ [])
      unfolding numbers command meaning
      two_numbers = rw (p, q)

      pub third_not : (h : List ℕ) (fs : List (List ℕ)) → number h ≡ None → Bad ≡ meaning (name ∷ f ∷ g ∷ h ∷ fs)
      unfolding numbers command meaning
      third_not h fs e = rw (p, q, e)

      module _ (h : List ℕ) (c : ℕ) (r : number h ≡ Some c) where
        pub three_numbers : named name (commands (a ∷ b ∷ c ∷ [])) ≡ meaning (name ∷ f ∷ g ∷ h ∷ [])
        unfolding numbers command meaning
        three_numbers = rw (p, q, r)

        pub too_many : (i : List ℕ) (fs : List (List ℕ)) → Bad ≡ meaning (name ∷ f ∷ g ∷ h ∷ i ∷ fs)
        unfolding numbers command meaning named commands
        too_many i fs = rw (p, q, r) (go (number i) (numbers fs))
          where
            go : (n : Option ℕ) (ns : Option (List ℕ)) → Bad ≡ command name (followed (Some a) (followed (Some b) (followed (Some c) (followed n ns))))
            go None ns = refl
            go (Some n) None = refl
            go (Some n) (Some ns) = refl
