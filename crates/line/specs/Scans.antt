-- One law for a loop over the bytes of a text by index. At byte i a question f of the bytes that are left still has the answer g of the
-- whole text: a loop starts so, keeps it so at each byte, and reads its answer off it at the end or at a hit. Assumes nothing.
use Rattle.std.specs.Prelude.{ℕ, ◌+◌, ◌<◌, ◌≤◌, ◌≡◌, List, [], ◌∷◌, length, get_or, drop}
use Rattle.std.proofs.Common.{sym, ap, ◌∙◌, arith, add-one, drop_of_length-le, drop-cons}

-- laws that no function's proof cites now; they stand as they were stated
pub record Scan {A : Type 0} (f : List ℕ → A) (s : List ℕ) (i : ℕ) (g : A) : Type 0 where
  pub bound : i ≤ length s
  pub same : f (drop i s) ≡ g

-- the bytes from i on are byte i and those after it
pub drop_next : (s : List ℕ) (i : ℕ) → i < length s → drop i s ≡ get_or s i 0 ∷ drop (i + 1) s
drop_next s i l = rw add-one (drop-cons s i 0 l)

pub scan_start : {A : Type 0} (f : List ℕ → A) (s : List ℕ) (g : A) → f s ≡ g → Scan f s 0 g
scan_start f s g e = record { bound = omega arith; same = e }

module _ {A : Type 0} {f : List ℕ → A} {s : List ℕ} {i : ℕ} {g : A} (w : Scan f s i g) where
  -- at the end
  pub scan_end : length s ≤ i → f [] ≡ g
  scan_end l = ap f (sym (drop_of_length-le s l)) ∙ w.same

  -- at a byte that decides
  pub scan_hit : i < length s → (x : A) → ((bs : List ℕ) → f (get_or s i 0 ∷ bs) ≡ x) → x ≡ g
  scan_hit l x e = sym (e (drop (i + 1) s)) ∙ ap f (sym (drop_next s i l)) ∙ w.same

  -- past a byte: what is asked of the bytes after it may be another question
  pub scan_move : i < length s → (k : List ℕ → A) → ((bs : List ℕ) → f (get_or s i 0 ∷ bs) ≡ k bs) → Scan k s (i + 1) g
  scan_move l k e = record { bound = omega arith; same = sym (e (drop (i + 1) s)) ∙ ap f (sym (drop_next s i l)) ∙ w.same }
