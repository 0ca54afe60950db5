-- A line that is gathered byte by byte into a buffer of bounded length. Why the bytes kept tell as much as the whole line is in
-- proofs/Keeping.antt. Assumes nothing.
use Rattle.std.specs.Prelude.{ℕ, zero, suc, ◌+◌, ◌<◌, ◌≤◌, min, ◌≡◌, refl, List, [], ◌∷◌, ◌++◌, length, take, drop, set}
use Rattle.std.proofs.Common.{sym, ap, ◌∙◌, arith, add-one, length-append, length-set, take_all, take-suc-set, drop-set-lt, length-take-le}
use Rattle.std.proofs.Math.Seq.{take-nil, take-append_seam}
use Rattle.line.specs.Lines.{longest_line}

-- one byte more than the longest line has
abbrev pub kept : ℕ
kept = longest_line + 1

-- a buffer that holds count bytes takes another, and keeps the first k of them all; r is how many it holds then; `inside` and `front`
-- are what lending them asks
pub record Gathered (k : ℕ) (before : List ℕ) (count b : ℕ) (after : List ℕ) (r : ℕ) : Type 0 where
  pub room : r ≤ k
  pub inside : r ≤ length after
  pub front : r ≡ length (take r after)
  pub counted : r ≡ min k (count + 1)
  pub held : take r after ≡ take k (take count before ++ (b ∷ []))
  pub rest : drop r after ≡ drop r before

-- with room, and without
pub gathered_more : (l : List ℕ) (i b : ℕ) → i < length l → Gathered (length l) l i b (set l i b) (i + 1)
gathered_more l i b u =
    let j : i + 1 ≤ length (set l i b) = simp length-set (omega arith) in
    record {
      room = omega arith;
      inside = j;
      front = sym (length-take-le (i + 1) (set l i b) j);
      counted = omega arith;
      held =
          rw (add-one, take-suc-set l i b u)
          (sym (take_all (length l) (take i l ++ (b ∷ [])) (omega (arith, length-append (take i l) (b ∷ []), length-take-le i l (omega arith)))));
      rest = drop-set-lt (i + 1) l i b (omega arith);
    }

pub gathered_full : (l : List ℕ) (i b : ℕ) → length l ≤ i → Gathered (length l) l i b l (length l)
gathered_full l i b u =
    record {
      room = omega arith;
      inside = omega arith;
      front = sym (length-take-le (length l) l (omega arith));
      counted = omega arith;
      held = rw (take_all i l u, take-append_seam) (take_all (length l) l (omega arith));
      rest = refl;
    }

-- the buffer holds the first k bytes of a text, and says how many that is
pub record Holds (k : ℕ) (buf : List ℕ) (count : ℕ) (s : List ℕ) : Type 0 where
  pub counted : count ≡ min k (length s)
  pub held : take count buf ≡ take k s

pub holds_start : (k : ℕ) (buf : List ℕ) → Holds k buf 0 []
holds_start k buf = record { counted = omega arith; held = sym (take-nil k) }

take_more : (k : ℕ) (s t : List ℕ) → take k (take k s ++ t) ≡ take k (s ++ t)
take_more zero s t = refl
take_more (suc k) [] t = refl
take_more (suc k) (x ∷ s) t = ap (λ (l : List ℕ). x ∷ l) (take_more k s t)

pub holds_next :
    (k : ℕ) (buf : List ℕ) (count : ℕ) (s : List ℕ) (b : ℕ) (after : List ℕ) (r : ℕ)
    → Holds k buf count s
    → Gathered k buf count b after r
    → Holds k after r (s ++ (b ∷ []))
holds_next k buf count s b after r h g =
    record {
      counted = omega (arith, h.counted, g.counted, length-append s (b ∷ []));
      held = g.held ∙ rw h.held (take_more k s (b ∷ []));
    }
