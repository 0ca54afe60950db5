-- The pool's reading, byte for byte (01, "Stores and the fuse"; 02, W4), and the parts of an image that are the owner's.
-- Assumes nothing.
use Rattle.std.specs.Prelude.{ℕ, ◌+◌, Bool, ◌&&◌, ◌||◌, List, map, leb, ltb, length}
use Rattle.std.proofs.Math.Seq.{slice}
use Rattle.rules.specs.Lists.{those, any}
use Rattle.rules.specs.Words.{Image, Mem, Store, mem, word_bytes}
use Rattle.rules.specs.Pages.{static_at, static_end, header_at, clumps_at}
use Rattle.rules.specs.Clumps.{Head, Tiles, body_of, end_of, is_free, is_live, is_waiting, is_empty, list_start, slots, value_at, Choice, used, marked, slots_by, entry, walk}

-- the clumps of an image
abbrev pub clumps_of : Image → List Head
clumps_of img = walk (length img) (mem img)

-- the clumps tile from 16384 to the end
abbrev pub Tiled : Image → Type 0
Tiled img = Tiles clumps_at (clumps_of img) (length img)

-- A used entry as it is read: where it stands, since W4 has a new entry go after the last used one; whether it is marked; and what it
-- assigns.
pub record Listed : Type 0 where
  pub place : ℕ
  pub mark : Bool
  pub assigns : Store

abbrev pub listed_at : Mem → ℕ → Listed
listed_at m s = record { place = s; mark = marked (m s); assigns = entry m s }

-- the chosen entries of the clump at a
abbrev pub listing : Choice → Mem → ℕ → List Listed
listing c m a = map (listed_at m) (slots_by c m a)

-- "The pool's reading: sizes and states along the walk, used entries of RESERVED and ACTIVE clumps, the static area, bodies that
-- aren't FREE."
pub record Reading : Type 0 where
  pub clumps : List Head
  pub lists : List (List Listed)
  pub static : List ℕ
  pub bodies : List (List ℕ)

-- of the clumps hs, the memory m, and what stands from one offset up to another
abbrev pub reading_by : List Head → Mem → (ℕ → ℕ → List ℕ) → Reading
reading_by hs m part =
    record {
      clumps = hs;
      lists = map (λ h. listing used m h.at) (those is_waiting hs);
      static = part static_at static_end;
      bodies = map (λ h. part (body_of h) (end_of h)) (those is_live hs);
    }

-- of an image, byte for byte
unfoldable pub reading : Image → Reading
reading img = reading_by (clumps_of img) (mem img) (λ a b. slice a b img)

-- the byte at i lies in a up to b
abbrev pub within : ℕ → ℕ → ℕ → Bool
within a b i = leb a i && ltb i b

-- in the static area, or in the body of a clump that passes the test
unfoldable pub in_part : (Head → Bool) → List Head → ℕ → Bool
in_part p hs i = within static_at static_end i || any (λ h. p h && within (body_of h) (end_of h) i) hs

-- "the owner writing only where it may": in the static area and in RESERVED or ACTIVE bodies
abbrev pub may_write : List Head → ℕ → Bool
may_write = in_part is_waiting

-- "The list of a FREE clump and the value of an empty entry mean nothing."
abbrev pub in_free_list : Head → ℕ → Bool
in_free_list h i = is_free h && within (list_start h.at) (body_of h) i

abbrev pub in_empty_value : Mem → Head → ℕ → Bool
in_empty_value m h i = any (λ s. is_empty m s && within (value_at s) (value_at s + word_bytes) i) (slots h.at)

-- "a body byte, .. the static area or .. pages 0 and 8192": these three pages lie below the header. And what means nothing.
unfoldable pub hidden : Mem → List Head → ℕ → Bool
hidden m hs i =
    ltb i header_at || any (λ h. within (body_of h) (end_of h) i || in_free_list h i || in_empty_value m h i) hs

-- | 0 and 8192 | 4,096 bytes each, never read or written |: the page below the static area, and the one behind it
unfoldable pub in_spare_page : ℕ → Bool
in_spare_page i = within 0 static_at i || within static_end header_at i
