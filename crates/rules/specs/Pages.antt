-- The pages of an image, and what makes it a pool (01, "Pages"). Assumes nothing.
use Rattle.std.specs.Prelude.{ℕ, ◌+◌, ◌-◌, ◌/◌, ◌%◌, Bool, ◌&&◌, List, [], ◌∷◌, ◌++◌, eqb, leb}
use Prim.Native.Char.{code}
use Prim.Native.String.{String}
use Rattle.rules.specs.Words.{Mem, word_bytes, le, all_zero}

-- | 0 and 8192 | 4,096 bytes each, never read or written |
abbrev pub page_bytes : ℕ
page_bytes = 4096

-- | 4096 | static area, 4,096 bytes, the owner's |
abbrev pub static_at : ℕ
static_at = 4096

abbrev pub static_end : ℕ
static_end = static_at + page_bytes

-- | 12288 | signature `*PMEMALLOC_POOL` and one zero byte (16 bytes) |
abbrev pub header_at : ℕ
header_at = 12288

-- the bytes of a text
unfoldable pub codes : String → List ℕ
codes String.[] = []
codes (String.◌∷◌ c s) = code c ∷ codes s

unfoldable pub signature : List ℕ
unfolding codes
signature = codes "*PMEMALLOC_POOL" ++ (0 ∷ [])

-- its two words
unfoldable pub signature_low : ℕ
unfolding signature le codes
signature_low = le word_bytes signature 0

unfoldable pub signature_high : ℕ
unfolding signature le codes
signature_high = le word_bytes signature word_bytes

abbrev pub signature_high_at : ℕ
signature_high_at = header_at + word_bytes

-- | 12304 | total size, equal to the image's length |
abbrev pub total_at : ℕ
total_at = 12304

-- | 12312 to 16383 | zero |
abbrev pub padding_at : ℕ
padding_at = 12312

-- | 16384 to end | clumps |
abbrev pub clumps_at : ℕ
clumps_at = 16384

abbrev pub padding_words : ℕ
padding_words = (clumps_at - padding_at) / word_bytes

-- "Length: 16,512 to 1,073,741,824 bytes, divisible by 64."
abbrev pub least_length : ℕ
least_length = 16512

abbrev pub most_length : ℕ
most_length = 1073741824

abbrev pub unit : ℕ
unit = 64

unfoldable pub right_length : ℕ → Bool
right_length n = leb least_length n && leb n most_length && eqb (n % unit) 0

-- "not a pool: length, signature, total size or zero padding": n is the image's length and m its memory
unfoldable pub is_pool : ℕ → Mem → Bool
is_pool n m =
    right_length n
    && eqb (m header_at) signature_low
    && eqb (m signature_high_at) signature_high
    && eqb (m total_at) n
    && all_zero m padding_at padding_words
