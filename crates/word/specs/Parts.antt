-- The k bytes of a number in an image: what a store of them keeps and what is read after it. Each law is for any k, by induction on it.
-- Assumes nothing.
use Rattle.std.specs.Prelude.{ℕ, zero, suc, ◌+◌, ◌*◌, ◌/◌, ◌%◌, ◌^◌, ◌<◌, ◌≤◌, ◌≡◌, refl, Bool, true, false, ◌⊎◌, length, get_or, set, eqb, ltb}
use Rattle.std.proofs.Common.{ap, ◌∙◌, ⊎_elim, inl, inr, arith, add_assoc, add-zero, length-set, get_or-set_same, get_or-set_other, eqb-true, ltb-true, ltb-false}
use Rattle.std.proofs.Math.Nat.{pow-succ', div-div-eq-div-mul}
use Rattle.std.proofs.Math.Seq.{set_out}
use Rattle.std.proofs.lemmas.Bool.{eqb-false}
use Rattle.rules.specs.Words.{Image, Bytes, byte_values, le, puts, word_at, put}

-- by halves: laws that no function's proof cites now; they stand as they were stated
pub le4 : (s : Image) (i : ℕ) → le 4 s i ≡ le 2 s i + 65536 * le 2 s (i + 2)
unfolding le
le4 s i = simp add_assoc (omega arith)

pub le8 : (s : Image) (i : ℕ) → word_at s i ≡ le 4 s i + 4294967296 * le 4 s (i + 4)
unfolding le word_at
le8 s i = simp add_assoc (omega arith)

pub puts4 : (s : Image) (i w : ℕ) → puts 4 s i w ≡ puts 2 (puts 2 s i w) (i + 2) (w / 65536)
unfolding puts
puts4 s i w = simp (add_assoc, div-div-eq-div-mul)

pub puts8 : (s : Image) (i w : ℕ) → put s i w ≡ puts 4 (puts 4 s i w) (i + 4) (w / 4294967296)
unfolding puts put
puts8 s i w = simp (add_assoc, div-div-eq-div-mul)

-- a store keeps the length
pub length-puts : (k : ℕ) (s : Image) (i w : ℕ) → length (puts k s i w) ≡ length s
unfolding puts
length-puts zero s i w = refl
length-puts (suc k) s i w = length-puts k (set s i (w % byte_values)) (i + 1) (w / byte_values) ∙ length-set s i (w % byte_values)

-- a byte outside is kept
pub outside : (k : ℕ) (s : Image) (i w j : ℕ) → (j < i) ⊎ (i + k ≤ j) → get_or (puts k s i w) j 0 ≡ get_or s j 0
unfolding puts
outside zero s i w j h = refl
outside (suc k) s i w j h =
    outside k (set s i (w % byte_values)) (i + 1) (w / byte_values) j (⊎_elim (λ l. inl (omega arith)) (λ l. inr (omega arith)) h)
    ∙ get_or-set_other s i j (w % byte_values) 0 (⊎_elim (λ l. omega arith) (λ l. omega arith) h)

-- what is read depends on its k bytes alone
pub le_same : (k : ℕ) (s t : Image) (i : ℕ) → ((j : ℕ) → i ≤ j → j < i + k → get_or s j 0 ≡ get_or t j 0) → le k s i ≡ le k t i
unfolding le
le_same zero s t i h = refl
le_same (suc k) s t i h =
    let a : get_or s i 0 ≡ get_or t i 0 = h i (omega arith) (omega arith) in
    let b : le k s (i + 1) ≡ le k t (i + 1) = le_same k s t (i + 1) (λ j p q. h j (omega arith) (omega arith)) in
    omega arith

-- what was stored is read
pub le-puts : (k : ℕ) (s : Image) (i w : ℕ) → i + k ≤ length s → w < byte_values ^ k → le k (puts k s i w) i ≡ w
unfolding le puts
le-puts zero s i w h f = omega arith
le-puts (suc k) s i w h f =
    let s' : Image = set s i (w % byte_values) in
    let a : get_or (puts k s' (i + 1) (w / byte_values)) i 0 ≡ w % byte_values =
    outside k s' (i + 1) (w / byte_values) i (inl (omega arith)) ∙ get_or-set_same s i (w % byte_values) 0 (omega arith) in
    let g : w < byte_values * byte_values ^ k = rw pow-succ' at f in
    let b : le k (puts k s' (i + 1) (w / byte_values)) (i + 1) ≡ w / byte_values =
    le-puts k s' (i + 1) (w / byte_values) (simp length-set (omega arith)) (omega arith) in
    omega arith

-- a number of k bytes is below 256 ^ k
pub le_bound : (k : ℕ) (s : Image) (i : ℕ) → Bytes s → le k s i < byte_values ^ k
unfolding le
le_bound zero s i h = omega arith
le_bound (suc k) s i h =
    let a : get_or s i 0 < byte_values = h i in
    let b : le k s (i + 1) < byte_values ^ k = le_bound k s (i + 1) h in
    rw pow-succ' (omega arith)

-- a store leaves bytes
bytes_set : (s : Image) (i b : ℕ) → b < byte_values → Bytes s → Bytes (set s i b)
bytes_set s i b l h j = go (eqb j i) refl (ltb i (length s)) refl
  where
    go : (t : Bool) → eqb j i ≡ t → (u : Bool) → ltb i (length s) ≡ u → get_or (set s i b) j 0 < byte_values
    go true e true f = rw (eqb-true j i e, get_or-set_same s i b 0 (ltb-true i (length s) f)) l
    go true e false f = rw (set_out s i b (ltb-false i (length s) f)) (h j)
    go false e u f = rw (get_or-set_other s i j b 0 (eqb-false j i e)) (h j)

pub bytes_puts : (k : ℕ) (s : Image) (i w : ℕ) → Bytes s → Bytes (puts k s i w)
unfolding puts
bytes_puts zero s i w h = h
bytes_puts (suc k) s i w h =
    bytes_puts k (set s i (w % byte_values)) (i + 1) (w / byte_values) (bytes_set s i (w % byte_values) (omega arith) h)

-- byte j of a number
unfoldable pub byte_of : ℕ → ℕ → ℕ
byte_of zero w = w % byte_values
byte_of (suc j) w = byte_of j (w / byte_values)

-- each byte is told by the number that it is part of
pub byte_le : (k j : ℕ) (s : Image) (i : ℕ) → Bytes s → j < k → byte_of j (le k s i) ≡ get_or s (i + j) 0
unfolding byte_of le
byte_le zero j s i h l = absurd (omega arith)
byte_le (suc k) zero s i h l =
    let a : get_or s i 0 < byte_values = h i in
    rw add-zero (omega arith)
byte_le (suc k) (suc j) s i h l =
    let a : get_or s i 0 < byte_values = h i in
    let b : le (suc k) s i / byte_values ≡ le k s (i + 1) = omega arith in
    let c : i + 1 + j ≡ i + suc j = omega arith in
    ap (byte_of j) b ∙ byte_le k j s (i + 1) h (omega arith) ∙ ap (λ (o : ℕ). get_or s o 0) c
