-- Words that are 0 are bytes that are 0: by induction on the bytes of a word, then on the words. Assumes nothing.
use Rattle.std.specs.Prelude.{ℕ, zero, suc, ◌+◌, ◌*◌, ◌%◌, ◌<◌, ◌≤◌, ◌≡◌, refl, Bool, true, false, ◌&&◌, eqb, ltb, get_or}
use Rattle.std.proofs.Common.{sym, ◌∙◌, arith, eqb-true, ltb-true, ltb-false}
use Rattle.std.proofs.lemmas.Bool.{eqb-false}
use Rattle.rules.specs.Words.{Image, word_bytes, le, word_at, mem, all_zero}
use Rattle.word.specs.Memory.{mem-at}

-- the bytes from i up to e are 0
abbrev pub ZeroBytes : Image → ℕ → ℕ → Type 0
ZeroBytes img i e = (j : ℕ) → i ≤ j → j < e → get_or img j 0 ≡ 0

zero_le : (k : ℕ) (img : Image) (i : ℕ) → le k img i ≡ 0 → ZeroBytes img i (i + k)
unfolding le
zero_le zero img i e j l u = absurd (omega arith)
zero_le (suc k) img i e j l u =
    let b : le k img (i + 1) ≡ 0 = omega arith in
    go (eqb j i) refl (zero_le k img (i + 1) b j)
  where
    go : (t : Bool) → eqb j i ≡ t → (i + 1 ≤ j → j < i + 1 + k → get_or img j 0 ≡ 0) → get_or img j 0 ≡ 0
    go true p ih = rw (eqb-true j i p) (omega arith)
    go false p ih = ih (omega (arith, eqb-false j i p)) (omega arith)

-- words of 0 are bytes of 0
pub blank_bytes : (k i : ℕ) (img : Image) → i % word_bytes ≡ 0 → all_zero (mem img) i k ≡ true → ZeroBytes img i (i + word_bytes * k)
unfolding all_zero word_at
blank_bytes zero i img e h j l u = absurd (omega arith)
blank_bytes (suc k) i img e h j l u = go (eqb (mem img i) 0) refl h (ltb j (i + word_bytes)) refl (blank_bytes k (i + word_bytes) img (omega arith))
  where
    go :
        (t : Bool)
        → eqb (mem img i) 0 ≡ t
        → (t && all_zero (mem img) (i + word_bytes) k) ≡ true
        → (b : Bool)
        → ltb j (i + word_bytes) ≡ b
        → (all_zero (mem img) (i + word_bytes) k ≡ true → ZeroBytes img (i + word_bytes) (i + word_bytes + word_bytes * k))
        → get_or img j 0 ≡ 0
    go true p f true q ih = zero_le word_bytes img i (sym (mem-at img i e) ∙ eqb-true (mem img i) 0 p) j l (ltb-true j (i + word_bytes) q)
    go true p f false q ih = ih f j (ltb-false j (i + word_bytes) q) (omega arith)
    go false p f b q ih = absurd (let z : ◌≡◌ {A = ℕ} 0 1 = cc in omega arith)
