-- Memories under stores, and the bridge from images: an aligned store to an image is that store to its memory.
-- The bridge goes by the laws of parts, at eight bytes. Assumes nothing.
use Rattle.std.specs.Prelude.{ℕ, zero, suc, ◌+◌, ◌-◌, ◌%◌, ◌<◌, ◌≤◌, ◌≡◌, refl, Bool, true, false, List, [], ◌∷◌, ◌++◌, ◌⊎◌, length, get_or, take, eqb, ltb}
use Rattle.std.proofs.Common.{sym, ◌∙◌, ap, ⊎_elim, arith, eqb-true, ltb-true, ltb-false, eq-eqb, ne_eqb}
use Rattle.std.proofs.Math.Path.{fun_ext}
use Rattle.std.proofs.Math.Logic.{inl, inr}
use Rattle.std.proofs.lemmas.Bool.{eqb-false}
use Rattle.rules.specs.Lists.{Each}
use Rattle.rules.specs.Words.{Image, Bytes, Mem, Store, Aligned, word_bytes, word_values, word_at, put, mem, upd, after, carry}
use Rattle.word.specs.Parts.{length-puts, outside, le_same, le-puts, le_bound, bytes_puts, byte_of, byte_le}

-- a store changes the word at its own offset, and no other
pub upd_same : (m : Mem) (i w : ℕ) → upd m i w i ≡ w
unfolding upd
upd_same m i w = rw (eq-eqb i i refl)

pub upd_other : (m : Mem) (i w o : ℕ) → (o ≡ i → ⊥) → upd m i w o ≡ m o
unfolding upd
upd_other m i w o h = rw (ne_eqb o i h)

-- the stores of p ++ q are those of p, then those of q
pub after-append : (m : Mem) (p q : List Store) → after m (p ++ q) ≡ after (after m p) q
unfolding after
after-append m [] q = refl
after-append m (s ∷ p) q = after-append (upd m s.to s.word) p q

pub carry-append : (img : Image) (p q : List Store) → carry img (p ++ q) ≡ carry (carry img p) q
unfolding carry
carry-append img [] q = refl
carry-append img (s ∷ p) q = carry-append (put img s.to s.word) p q

-- the stores of a list go below b
abbrev pub Below : ℕ → List Store → Type 0
Below b st = Each (λ s. s.to < b) st

-- they keep every word from b on
pub below_after : (k : ℕ) (st : List Store) (m : Mem) (b o : ℕ) → Below b st → b ≤ o → after m (take k st) o ≡ m o
unfolding after
below_after zero st m b o f l = refl
below_after (suc k) [] m b o f l = refl
below_after (suc k) (s ∷ st) m b o f l = below_after k st (upd m s.to s.word) b o f.1 l ∙ upd_other m s.to s.word o (omega (arith, f.0))

-- the word of an image at an aligned offset
pub mem-at : (img : Image) (o : ℕ) → o % word_bytes ≡ 0 → mem img o ≡ word_at img o
unfolding mem
mem-at img o e = rw (eq-eqb (o % word_bytes) 0 e)

pub mem_bound : (img : Image) (o : ℕ) → Bytes img → mem img o < word_values
unfolding mem word_at
mem_bound img o h = go (eqb (o % word_bytes) 0) refl
  where
    go : (t : Bool) → eqb (o % word_bytes) 0 ≡ t → mem img o < word_values
    go true e = rw e (le_bound word_bytes img o h)
    go false e = rw e (omega arith)

-- a word depends on its eight bytes alone
pub mem-same : (x y : Image) (o : ℕ) → ((j : ℕ) → o ≤ j → j < o + word_bytes → get_or x j 0 ≡ get_or y j 0) → mem x o ≡ mem y o
unfolding mem word_at
mem-same x y o h = rw (le_same word_bytes x y o h)

-- a byte is told by the word that it is part of
pub byte_mem : (img : Image) (i : ℕ) → Bytes img → get_or img i 0 ≡ byte_of (i % word_bytes) (mem img (i - i % word_bytes))
unfolding word_at
byte_mem img i h =
    let o = i - i % word_bytes in
    let e : o + i % word_bytes ≡ i = omega arith in
    let b = byte_le word_bytes (i % word_bytes) img o h (omega arith) in
    sym (rw (mem-at img o (omega arith)) b ∙ ap (λ (j : ℕ). get_or img j 0) e)

-- a store keeps the length, the bytes and every byte outside its word
pub length-put : (img : Image) (i w : ℕ) → length (put img i w) ≡ length img
unfolding put
length-put img i w = length-puts word_bytes img i w

pub length-carry : (img : Image) (st : List Store) → length (carry img st) ≡ length img
unfolding carry
length-carry img [] = refl
length-carry img (s ∷ st) = length-carry (put img s.to s.word) st ∙ length-put img s.to s.word

pub bytes_carry : (img : Image) (st : List Store) → Bytes img → Bytes (carry img st)
unfolding carry put
bytes_carry img [] h = h
bytes_carry img (s ∷ st) h = bytes_carry (put img s.to s.word) st (bytes_puts word_bytes img s.to s.word h)

pub byte_put : (img : Image) (i w j : ℕ) → (j < i) ⊎ (i + word_bytes ≤ j) → get_or (put img i w) j 0 ≡ get_or img j 0
unfolding put
byte_put img i w j h = outside word_bytes img i w j h

-- two aligned offsets are equal or a word apart
apart : (i o : ℕ) → i % word_bytes ≡ 0 → o % word_bytes ≡ 0 → (o ≡ i → ⊥) → (o + word_bytes ≤ i) ⊎ (i + word_bytes ≤ o)
apart i o a b n = go (ltb o i) refl
  where
    go : (t : Bool) → ltb o i ≡ t → (o + word_bytes ≤ i) ⊎ (i + word_bytes ≤ o)
    go true e = inl (omega (arith, ltb-true))
    go false e = inr (omega (arith, ltb-false))

-- the bridge
pub mem-put : (img : Image) (s : Store) → Aligned (length img) s → mem (put img s.to s.word) ≡ upd (mem img) s.to s.word
unfolding mem
mem-put img s a = fun_ext (λ o. go o (eqb o s.to) refl (eqb (o % word_bytes) 0) refl)
  where
    stored : word_at (put img s.to s.word) s.to ≡ s.word
    stored = unfold word_at put in le-puts word_bytes img s.to s.word a.inside a.small

    kept : (o : ℕ) → (o + word_bytes ≤ s.to) ⊎ (s.to + word_bytes ≤ o) → word_at (put img s.to s.word) o ≡ word_at img o
    kept o d =
        unfold word_at in le_same word_bytes (put img s.to s.word) img o
        (λ j l g. byte_put img s.to s.word j (⊎_elim (λ x. inl (omega arith)) (λ x. inr (omega arith)) d))

    go : (o : ℕ) (t : Bool) → eqb o s.to ≡ t → (u : Bool) → eqb (o % word_bytes) 0 ≡ u
        → mem (put img s.to s.word) o ≡ upd (mem img) s.to s.word o
    go o true e u d = rw (eqb-true o s.to e, upd_same (mem img) s.to s.word, eq-eqb (s.to % word_bytes) 0 a.even) stored
    go o false e true d =
        rw (upd_other (mem img) s.to s.word o (eqb-false o s.to e), d)
        (kept o (apart s.to o a.even (eqb-true (o % word_bytes) 0 d) (eqb-false o s.to e)))
    go o false e false d = rw (upd_other (mem img) s.to s.word o (eqb-false o s.to e), d)

pub mem-carry : (img : Image) (st : List Store) → Each (Aligned (length img)) st → mem (carry img st) ≡ after (mem img) st
unfolding carry after
mem-carry img [] a = refl
mem-carry img (s ∷ st) a =
    mem-carry (put img s.to s.word) st (rw (length-put img s.to s.word) a.1)
    ∙ ap (λ (m : Mem). after m st) (mem-put img s a.0)
