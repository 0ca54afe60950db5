-- Words, images, memories and stores (01, "What is built" and "Stores and the fuse").
-- An image is the list of its bytes. A memory is the function that gives the word at each offset: the rules speak of memories
-- alone, and of bytes only where document 01 does. Assumes nothing.
use Rattle.std.specs.Prelude.{ℕ, zero, suc, ◌+◌, ◌*◌, ◌/◌, ◌%◌, ◌^◌, ◌<◌, ◌≤◌, ◌≡◌, Bool, true, cond, ◌&&◌, List, [], ◌∷◌, get_or, set, eqb}

-- "All words are unsigned, 8 bytes, least significant byte first, at offsets divisible by 8."
abbrev pub word_bytes : ℕ
word_bytes = 8

abbrev pub byte_values : ℕ
byte_values = 256

abbrev pub word_values : ℕ
word_values = byte_values ^ word_bytes

abbrev pub Image : Type 0
Image = List ℕ

-- the image is of bytes, as every lent slice is
abbrev pub Bytes : Image → Type 0
Bytes img = (i : ℕ) → get_or img i 0 < byte_values

-- the number that k bytes from offset i make, the least significant first
unfoldable pub le : ℕ → Image → ℕ → ℕ
le zero img i = 0
le (suc k) img i = get_or img i 0 + byte_values * le k img (i + 1)

-- the image with the k low bytes of w from offset i on
unfoldable pub puts : ℕ → Image → ℕ → ℕ → Image
puts zero img i w = img
puts (suc k) img i w = puts k (set img i (w % byte_values)) (i + 1) (w / byte_values)

-- the word at an offset, and the image with a word stored there
unfoldable pub word_at : Image → ℕ → ℕ
word_at img i = le word_bytes img i

unfoldable pub put : Image → ℕ → ℕ → Image
put img i w = puts word_bytes img i w

abbrev pub Mem : Type 0
Mem = ℕ → ℕ

-- The memory of an image: the word at each offset divisible by 8. At any other offset it has 0: words there overlap,
-- so that one store would change several.
unfoldable pub mem : Image → Mem
mem img o = cond (eqb (o % word_bytes) 0) (word_at img o) 0

-- a store: one word to one offset
pub record Store : Type 0 where
  pub to : ℕ
  pub word : ℕ

abbrev pub store : ℕ → ℕ → Store
store i w = record { to = i; word = w }

-- the memory with the word w at i
unfoldable pub upd : Mem → ℕ → ℕ → Mem
upd m i w o = cond (eqb o i) w (m o)

-- the memory after a list of stores, made one after the other
unfoldable pub after : Mem → List Store → Mem
after m [] = m
after m (s ∷ st) = after (upd m s.to s.word) st

-- the image after a list of stores, made one after the other
unfoldable pub carry : Image → List Store → Image
carry img [] = img
carry img (s ∷ st) = carry (put img s.to s.word) st

-- "Each store changes at most one aligned word": the store lies in an image of n bytes, at an offset divisible by 8
pub record Aligned (n : ℕ) (s : Store) : Type 0 where
  pub even : s.to % word_bytes ≡ 0
  pub inside : s.to + word_bytes ≤ n
  pub small : s.word < word_values

-- k words from i on, upward, each 0
unfoldable pub zeros : ℕ → ℕ → List Store
zeros i zero = []
zeros i (suc k) = store i 0 ∷ zeros (i + word_bytes) k

-- the k words from i on are 0
unfoldable pub all_zero : Mem → ℕ → ℕ → Bool
all_zero m i zero = true
all_zero m i (suc k) = eqb (m i) 0 && all_zero m (i + word_bytes) k
