-- A word and the 8 bytes that the library's conversions make it of: what is read of eight bytes of an image, and what an image is with eight
-- bytes in place of those that it had. The second goes by induction on the number of bytes. Assumes nothing.
use Rattle.std.specs.Prelude.{ℕ, zero, suc, ◌+◌, ◌/◌, ◌%◌, ◌<◌, ◌≤◌, ◌≡◌, List, [], ◌∷◌, ◌++◌, length, take, drop, set, get_or}
use Rattle.std.specs.Int.{w64, to_le_bytes, from_le_bytes}
use Rattle.std.proofs.Common.{ap, ◌∙◌, arith, add_assoc, add-zero, length-set}
use Rattle.std.proofs.Math.Nat.{div-div-eq-div-mul}
use Rattle.std.proofs.lemmas.List.{append_assoc, take-append-drop, get_or-take, get_or-drop, take_more_set, drop-set-lt}
use Rattle.rules.specs.Words.{Image, byte_values, le, puts, word_at}

-- the number that eight bytes make
pub word_bytes_le : (s : Image) (i : ℕ) → from_le_bytes w64 (take 8 (drop i s)) ≡ word_at s i
unfolding le word_at
word_bytes_le s i =
    let b0 = byte 0 (omega arith) ∙ ap (λ (n : ℕ). get_or s n 0) (add-zero i) in
    let b1 = byte 1 (omega arith) in
    let b2 = byte 2 (omega arith) in
    let b3 = byte 3 (omega arith) in
    let b4 = byte 4 (omega arith) in
    let b5 = byte 5 (omega arith) in
    let b6 = byte 6 (omega arith) in
    let b7 = byte 7 (omega arith) in
    rw (b0, b1, b2, b3, b4, b5, b6, b7) (simp add_assoc (omega arith))
  where
    byte : (k : ℕ) → k < 8 → get_or (take 8 (drop i s)) k 0 ≡ get_or s (i + k) 0
    byte k h = get_or-take 8 (drop i s) k 0 h ∙ get_or-drop i s k 0

-- the k low bytes of a number, the least significant first
unfoldable pub low_bytes : ℕ → ℕ → List ℕ
low_bytes zero w = []
low_bytes (suc k) w = w % byte_values ∷ low_bytes k (w / byte_values)

pub to_le_low : (w : ℕ) → to_le_bytes w64 w ≡ low_bytes 8 w
unfolding low_bytes
to_le_low w = simp div-div-eq-div-mul

-- k bytes put in the place of those that an image had
pub puts_low : (k : ℕ) (s : Image) (i w : ℕ) → i + k ≤ length s → take i s ++ (low_bytes k w ++ drop (i + k) s) ≡ puts k s i w
unfolding low_bytes puts
puts_low zero s i w h = rw add-zero (take-append-drop i s)
puts_low (suc k) s i w h =
    let b = w % byte_values in
    let t : Image = set s i b in
    let l : length t ≡ length s = length-set s i b in
    let front : take (i + 1) t ≡ take i s ++ b ∷ [] = take_more_set s i b (omega arith) in
    let rest : drop (i + 1 + k) t ≡ drop (i + suc k) s = drop-set-lt (i + 1 + k) s i b (omega arith) ∙ ap (λ (n : ℕ). drop n s) (omega arith) in
    let f = puts_low k t (i + 1) (w / byte_values) (omega arith) in
    rw (front, rest, append_assoc) at f
