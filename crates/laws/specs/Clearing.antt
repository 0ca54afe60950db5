-- A run of zeros, and the words of a body that reserve clears: how many they are, and what holds of each store to them. By going along the
-- run, and by arithmetic on the sizes. Assumes nothing.
use Rattle.std.specs.Prelude.{ℕ, zero, suc, ◌+◌, ◌*◌, ◌%◌, ◌≤◌, ◌≡◌, refl, Bool, true, false, length}
use Rattle.std.proofs.Common.{ap, arith}
use Rattle.rules.specs.Lists.{Each}
use Rattle.rules.specs.Words.{Store, store, zeros, word_bytes}
use Rattle.rules.specs.Clumps.{header_bytes}
use Rattle.rules.specs.Stores.{cleared_words, clearing}

-- a run
pub zeros_each : (P : Store → Type 0) (i k : ℕ) → i % word_bytes ≡ 0 → ((o : ℕ) → i ≤ o → o + word_bytes ≤ i + word_bytes * k → o % word_bytes ≡ 0 → P (store o 0)) → Each P (zeros i k)
unfolding zeros
zeros_each P i zero e f = tt
zeros_each P i (suc k) e f = (f i (omega arith) (omega arith) e, zeros_each P (i + word_bytes) k (omega arith) (λ o l u d. f o (omega arith) (omega arith) d))

pub length-zeros : (i k : ℕ) → length (zeros i k) ≡ k
unfolding zeros
length-zeros i zero = refl
length-zeros i (suc k) = ap suc (length-zeros (i + word_bytes) k)

-- the words that are cleared lie in the body, in either form; in the first they are all of it
pub cleared_room : (clears : Bool) (size : ℕ) → header_bytes ≤ size → header_bytes + word_bytes * cleared_words clears size ≤ size
unfolding cleared_words
cleared_room true size l = omega arith
cleared_room false size l = omega arith

pub cleared_whole : (size : ℕ) → header_bytes ≤ size → size % word_bytes ≡ 0 → header_bytes + word_bytes * cleared_words true size ≡ size
unfolding cleared_words
cleared_whole size l e = omega arith

-- so what holds of a store to any word of the body holds of each of them
pub clearing_each :
    (P : Store → Type 0) (clears : Bool) (a size : ℕ)
    → a % word_bytes ≡ 0
    → header_bytes ≤ size
    → ((o : ℕ) → a + header_bytes ≤ o → o + word_bytes ≤ a + size → o % word_bytes ≡ 0 → P (store o 0))
    → Each P (clearing clears a size)
clearing_each P clears a size e l f =
    let r = cleared_room clears size l in
    zeros_each P (a + header_bytes) (cleared_words clears size) (omega arith) (λ o b u d. f o b (omega (arith, r)) d)
