-- What is written where in a buffer: the contracts of the code that prints, and their laws. Assumes nothing.
use Rattle.std.specs.Prelude.{ℕ, suc, ◌+◌, ◌<◌, ◌≤◌, ◌≡◌, refl, List, [], ◌∷◌, ◌++◌, length, take, drop, get_or, set}
use Rattle.std.proofs.Common.{sym, ap, ap₂, ◌∙◌, arith, zero-add, add-zero, add-suc, suc-add, add-one, length-append, take-append-drop, length-take-le, take-suc}
use Rattle.std.proofs.lemmas.List.Edits.{sets, sets-eq}
use Rattle.std.proofs.Math.Seq.{length-sets, take-append_seam, drop-append_seam}

-- a text stands from a place on, and nothing else changed; r is the place behind it
pub record Wrote (before : List ℕ) (at : ℕ) (text : List ℕ) (after : List ℕ) (r : ℕ) : Type 0 where
  pub stands : after ≡ sets before at text
  pub behind : r ≡ at + length text

-- one text behind another
sets_append : (l : List ℕ) (i : ℕ) (p q : List ℕ) → sets (sets l i p) (i + length p) q ≡ sets l i (p ++ q)
sets_append l i [] q = rw add-zero
sets_append l i (x ∷ p) q = rw (add-suc, ← suc-add) (sets_append (set l i x) (suc i) p q)

-- no byte, one byte, one text and then another
pub wrote_none : (l : List ℕ) (i : ℕ) → Wrote l i [] l i
wrote_none l i = record { stands = refl; behind = omega arith }

pub wrote_byte : (l : List ℕ) (i b : ℕ) → Wrote l i (b ∷ []) (set l i b) (i + 1)
wrote_byte l i b = record { stands = refl; behind = refl }

pub wrote_then : {x y z p q : List ℕ} {i j k : ℕ} → Wrote x i p y j → Wrote y j q z k → Wrote x i (p ++ q) z k
wrote_then {x = x} {p = p} {q = q} {i = i} v w =
    record {
      stands = w.stands ∙ rw (v.stands, v.behind) (sets_append x i p q);
      behind = w.behind ∙ omega (arith, v.behind, length-append p q);
    }

-- the buffer keeps its length
pub wrote_length : {x t y : List ℕ} {i r : ℕ} → Wrote x i t y r → length y ≡ length x
wrote_length {x = x} {t = t} {i = i} w = ap length w.stands ∙ length-sets x i t

-- a text from the start on is what the buffer begins with, and the rest is kept; `inside` and `front` are what lending it asks
pub record Begins (before : List ℕ) (text : List ℕ) (after : List ℕ) (r : ℕ) : Type 0 where
  pub inside : r ≤ length after
  pub front : r ≡ length (take r after)
  pub told : take r after ≡ text
  pub kept : drop r after ≡ drop r before

pub begins : {x t y : List ℕ} {r : ℕ} → length t ≤ length x → Wrote x 0 t y r → Begins x t y r
begins {x = x} {t = t} {y = y} {r = r} l w =
    let n : r ≡ length t = omega (arith, w.behind) in
    let e : y ≡ t ++ drop (length t) x = w.stands ∙ sets-eq t x 0 (omega arith) ∙ rw zero-add in
    let i : r ≤ length y = omega (arith, wrote_length w) in
    record {
      inside = i;
      front = sym (length-take-le r y i);
      told = rw (e, n) (take-append_seam t (drop (length t) x));
      kept = rw (e, n) (drop-append_seam t (drop (length t) x));
    }

-- a buffer is its first bytes and the rest
pub parts_same : (r : ℕ) (y z : List ℕ) → take r y ≡ take r z → drop r y ≡ drop r z → y ≡ z
parts_same r y z p q = sym (take-append-drop r y) ∙ ap₂ ◌++◌ p q ∙ take-append-drop r z

-- any two outcomes are equal
pub begins_determined : {x t y z : List ℕ} {r s : ℕ} → Begins x t y r → Begins x t z s → (y ≡ z) × (r ≡ s)
begins_determined {y = y} {z = z} {r = r} v w =
    let e = v.front ∙ ap length (v.told ∙ sym w.told) ∙ sym w.front in
    (parts_same r y z (v.told ∙ sym (rw e w.told)) (v.kept ∙ sym (rw e w.kept)), e)

pub wrote_determined : {x t y z : List ℕ} {i r s : ℕ} → Wrote x i t y r → Wrote x i t z s → (y ≡ z) × (r ≡ s)
wrote_determined v w = (v.stands ∙ sym w.stands, v.behind ∙ sym w.behind)

-- laws that no proof cites now; they stand as they were stated: one byte more of another list
pub wrote_next :
    {x y : List ℕ} {i k : ℕ} (ds : List ℕ) (j : ℕ)
    → j < length ds
    → Wrote x i (take j ds) y k
    → Wrote x i (take (j + 1) ds) (set y k (get_or ds j 0)) (k + 1)
wrote_next {y = y} {k = k} ds j l w = rw (add-one j, take-suc ds j 0 l) (wrote_then w (wrote_byte y k (get_or ds j 0)))
