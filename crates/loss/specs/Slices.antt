-- Equal words make equal parts of an image: a part that starts at an offset divisible by 8 is told by the words at its offsets.
-- Byte for byte, each told by the word that it is part of. Assumes nothing.
use Rattle.std.specs.Prelude.{ℕ, ◌+◌, ◌-◌, ◌%◌, ◌<◌, ◌≤◌, ◌≡◌, length, get_or, take}
use Rattle.std.proofs.Common.{sym, ap, ◌∙◌, arith, get_or-take, get_or-drop, ext_get_or}
use Rattle.std.proofs.Math.Seq.{slice, length-slice}
use Rattle.rules.specs.Words.{Image, Bytes, word_bytes, mem}
use Rattle.word.specs.Parts.{byte_of}
use Rattle.word.specs.Memory.{byte_mem}

-- a byte of a part
slice_byte : (a b i : ℕ) (img : Image) → a + i < b → get_or (slice a b img) i 0 ≡ get_or img (a + i) 0
slice_byte a b i img l = get_or-drop a (take b img) i 0 ∙ get_or-take b img (a + i) 0 l

-- equal bytes make equal parts
slice_same :
    (a b : ℕ) (x y : Image)
    → length y ≡ length x
    → b ≤ length x
    → ((i : ℕ) → a ≤ i → i < b → get_or x i 0 ≡ get_or y i 0)
    → slice a b x ≡ slice a b y
slice_same a b x y e l f =
    let p = length-slice a b x l in
    let q = length-slice a b y (omega arith) in
    ext_get_or 0 (slice a b x) (slice a b y) (p ∙ sym q)
    (λ i u. slice_byte a b i x (omega arith) ∙ f (a + i) (omega arith) (omega arith) ∙ sym (slice_byte a b i y (omega arith)))

-- and so do equal words
pub words_slice :
    (a b : ℕ) (x y : Image)
    → Bytes x
    → Bytes y
    → length y ≡ length x
    → a % word_bytes ≡ 0
    → b ≤ length x
    → ((o : ℕ) → a ≤ o → o < b → mem x o ≡ mem y o)
    → slice a b x ≡ slice a b y
words_slice a b x y bx by e v l f =
    slice_same a b x y e l
    (λ i u t. byte_mem x i bx ∙ ap (byte_of (i % word_bytes)) (f (i - i % word_bytes) (omega arith) (omega arith)) ∙ sym (byte_mem y i by))
