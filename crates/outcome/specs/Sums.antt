-- The checksum of an image, and the laws of a loop over its bytes. Assumes nothing.
use Rattle.std.specs.Prelude.{ℕ, ◌+◌, ◌*◌, ◌%◌, ◌<◌, ◌≤◌, ◌≡◌, refl, List, length, get_or, drop}
use Rattle.std.proofs.Common.{arith, add-one, drop_of_length-le, drop-cons}
use Rattle.std.specs.List.{fold}

-- a prime below 2^32
abbrev pub modulus : ℕ
modulus = 4294967291

-- one byte more
abbrev pub sum_step : ℕ → ℕ → ℕ
sum_step s b = (s * 257 + b + 1) % modulus

abbrev pub sum_of : List ℕ → ℕ
sum_of bs = fold sum_step 0 bs

-- laws that no proof cites now; they stand as they were stated: the sum byte by byte, from a sum on
abbrev pub sum_from : ℕ → List ℕ → ℕ
sum_from s bs = fold sum_step s bs

-- the loop: s is the sum of what is passed, and the bytes from i on are left
pub record Summing (bs : List ℕ) (s i : ℕ) : Type 0 where
  pub inside : i ≤ length bs
  pub small : s < modulus
  pub same : sum_from s (drop i bs) ≡ sum_of bs

pub summing_start : (bs : List ℕ) → Summing bs 0 0
summing_start bs = record { inside = omega arith; small = omega arith; same = refl }

pub summing_next : (bs : List ℕ) (s i t : ℕ) → Summing bs s i → i < length bs → t ≡ sum_step s (get_or bs i 0) → Summing bs t (i + 1)
summing_next bs s i t h l e = record { inside = omega arith; small = rw e (omega arith); same = rw (e, add-one i) (rw (drop-cons bs i 0 l) at h.same) }

pub summing_end : (bs : List ℕ) (s i : ℕ) → Summing bs s i → length bs ≤ i → s ≡ sum_of bs
summing_end bs s i h l = rw (drop_of_length-le bs l) at h.same
