-- The loops of stores, a step each: a run, and one store more or none. Assumes nothing.
use Rattle.std.specs.Prelude.{ℕ, ◌+◌, ◌*◌, ◌<◌, ◌≡◌, List, [], ◌∷◌, ◌++◌, length, get_or, take}
use Rattle.std.proofs.Common.{sym, ap, ◌∙◌, append-nil}
use Rattle.rules.specs.Words.{Image, Store, store, word_bytes, zeros}
use Rattle.word.specs.declared.Power.{Power}
use Rattle.word.specs.Runs.{Ran, ran_then, ran_as}
use Rattle.rules.specs.Clumps.{target_of}
use Rattle.page.specs.Forms.{word_of, value_of}
use Rattle.steps.specs.Lists.{assigns_of, empties_of, assigns_more, empties_more, assign_used, assign_empty, empty_one, empty_empty, zeros-more}

module _ {img x y : Image} {p q r : Power} where
  pub zeros_step :
      (i k at : ℕ) → at ≡ i + word_bytes * k → Ran img p (zeros i k) x q → Ran x q (store at 0 ∷ []) y r → Ran img p (zeros i (k + 1)) y r
  zeros_step i k at e a b =
      ran_as (zeros i k ++ (store at 0 ∷ [])) _ (zeros-more i k ∙ ap (λ (o : ℕ). zeros i k ++ (store o 0 ∷ [])) (sym e)) (ran_then a b)

  module _ (l : List (List ℕ)) (i : ℕ) (u : i < length l) where
    pub assign_step :
        (word_of (get_or l i []) ≡ 0 → ⊥)
        → Ran img p (assigns_of (take i l)) x q
        → Ran x q (store (target_of (word_of (get_or l i []))) (value_of (get_or l i [])) ∷ []) y r
        → Ran img p (assigns_of (take (i + 1) l)) y r
    assign_step h a b =
        ran_as _ _ (assigns_more l i u ∙ ap (λ (st : List Store). assigns_of (take i l) ++ st) (assign_used (get_or l i []) h)) (ran_then a b)

    pub empty_step :
        (s at : ℕ)
        → at ≡ s + 16 * i
        → (word_of (get_or l i []) ≡ 0 → ⊥)
        → Ran img p (empties_of s (take i l)) x q
        → Ran x q (store at 0 ∷ []) y r
        → Ran img p (empties_of s (take (i + 1) l)) y r
    empty_step s at e h a b =
        ran_as _ _
        (empties_more s l i u
        ∙ ap (λ (st : List Store). empties_of s (take i l) ++ st) (empty_one (s + 16 * i) (get_or l i []) h ∙ ap (λ (o : ℕ). store o 0 ∷ []) (sym e)))
        (ran_then a b)

module _ {img x : Image} {p q : Power} (l : List (List ℕ)) (i : ℕ) (u : i < length l) (h : word_of (get_or l i []) ≡ 0) where
  pub assign_pass : Ran img p (assigns_of (take i l)) x q → Ran img p (assigns_of (take (i + 1) l)) x q
  assign_pass a =
      ran_as _ _
      (assigns_more l i u ∙ ap (λ (st : List Store). assigns_of (take i l) ++ st) (assign_empty (get_or l i []) h) ∙ append-nil (assigns_of (take i l)))
      a

  pub empty_pass : (s : ℕ) → Ran img p (empties_of s (take i l)) x q → Ran img p (empties_of s (take (i + 1) l)) x q
  empty_pass s a =
      ran_as _ _
      (empties_more s l i u
      ∙ ap (λ (st : List Store). empties_of s (take i l) ++ st) (empty_empty (s + 16 * i) (get_or l i []) h)
      ∙ append-nil (empties_of s (take i l)))
      a
