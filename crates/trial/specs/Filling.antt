-- Laws of the image of a case: the loop that puts its words in, by the words that are in, and the fill that it starts from.
-- Assumes nothing.
use Prim.Native.Nat.{ℕ, zero, suc, ◌+◌, ◌*◌, ◌%◌, ◌≤◌, ◌<◌}
use Rattle.std.proofs.Math.Path.{◌≡◌, refl, sym, ap}
use Rattle.std.proofs.Common.{◌∙◌, arith, add-one}
use Rattle.std.specs.Prelude.{Bool, None, Some, List, [], ◌∷◌, length, take}
use Rattle.std.proofs.Math.Bool.{true, false}
use Rattle.std.proofs.lemmas.List.{length-replicate, take-replicate}
use Rattle.rules.specs.Words.{Image, store, word_bytes, carry}
use Rattle.word.specs.Memory.{carry-append}
use Rattle.case.specs.Cases.{at}
use Rattle.case.specs.declared.Case.{Case}
use Rattle.outcome.specs.declared.Outcome.{Outcome}
use Rattle.trial.specs.Outcomes.{lies, words, all_lie, outcome_of, filled, ran_of}

-- a word that lies in the image is aligned and inside
pub lies_in : (n o : ℕ) → lies n o ≡ true → (o % word_bytes ≡ 0) × (o + word_bytes ≤ n)
lies_in n o e = (grind arith, grind arith)

-- the loop: the first i words lie in the image, and are in it
pub record Putting (img : Image) (ns : List ℕ) (x : Image) (i : ℕ) : Type 0 where
  pub long : length x ≡ length img
  pub lie : all_lie (length img) ns i ≡ true
  pub put : x ≡ carry img (words ns i)

module _ (img : Image) (ns : List ℕ) where
  -- no word yet
  pub putting_start : Putting img ns img 0
  unfolding all_lie words carry
  putting_start = record { long = refl; lie = refl; put = refl }

  -- one word more
  pub putting_next :
      (x y : Image) (i : ℕ)
      → Putting img ns x i
      → lies (length x) (at ns (3 + 2 * i)) ≡ true
      → length y ≡ length x
      → y ≡ carry x (store (at ns (3 + 2 * i)) (at ns (4 + 2 * i)) ∷ [])
      → Putting img ns y (i + 1)
  unfolding all_lie words
  putting_next x y i f e l s =
      let d : lies (length img) (at ns (3 + 2 * i)) ≡ true = rw f.long at e in
      rw (add-one i)
      (record {
        long = l ∙ f.long;
        lie = rw (f.lie, d);
        put = s ∙ ap (λ (z : Image). carry z (store (at ns (3 + 2 * i)) (at ns (4 + 2 * i)) ∷ [])) f.put ∙ sym (carry-append img (words ns i) _);
      })

  -- one word that does not lie there
  none_lie : (i k : ℕ) → i < k → lies (length img) (at ns (3 + 2 * i)) ≡ false → all_lie (length img) ns k ≡ false
  unfolding all_lie
  none_lie i zero l e = absurd (omega arith)
  none_lie i (suc k) l e = grind (arith, none_lie i k)

  pub never_lie : (x : Image) (i k : ℕ) → Putting img ns x i → i < k → lies (length x) (at ns (3 + 2 * i)) ≡ false → all_lie (length img) ns k ≡ false
  never_lie x i k f l e = none_lie i k l (rw f.long at e)

-- the first bytes of a fill
pub filled_front : (x : Image) (b n m : ℕ) → x ≡ filled b m → n ≤ m → take n x ≡ filled b n
unfolding filled
filled_front x b n m e l = rw e (take-replicate n m b l)

length-filled : (b n : ℕ) → length (filled b n) ≡ n
unfolding filled
length-filled b n = length-replicate n b

pub filled_count : (x : Image) (b n m : ℕ) → x ≡ filled b m → n ≤ m → n ≡ length (take n x)
filled_count x b n m e l = rw (filled_front x b n m e l) (sym (length-filled b n))

-- a filled image with the words put in, or not
module _ (ns : List ℕ) (c : Case) (img : Image) (z : img ≡ filled c.fill c.length) (t : Bool) (e : t ≡ all_lie (length img) ns c.words) where
  fits : all_lie c.length ns c.words ≡ t
  fits = sym (rw (z, length-filled c.fill c.length) at e)

  pub ran_not : t ≡ false → None ≡ ran_of ns (Some c)
  ran_not f = rw (fits ∙ f)

  pub ran_done : t ≡ true → (x : Image) → x ≡ carry img (words ns c.words) → (o : Outcome) → o ≡ outcome_of x c.request c.fuse → Some o ≡ ran_of ns (Some c)
  ran_done f x k o d = rw (fits ∙ f, d, k, z)
