-- What `walk` prints: the lines of the clumps, and where the walk goes on behind one. On any bytes it gets on; over clumps that tile it
-- is the walk of the rules, so that each clump is printed once. By the parts of fault 1. Assumes nothing.
use Rattle.std.specs.Prelude.{ℕ, zero, suc, ◌+◌, ◌%◌, ◌<◌, ◌≤◌, ◌≡◌, refl, Bool, true, false, cond, List, [], ◌∷◌, ◌++◌, leb, ltb}
use Rattle.std.proofs.Common.{sym, ◌∙◌, arith, le-ltb, le-leb, leb-true, leb-false, eq-eqb}
use Rattle.std.proofs.lemmas.Bool.{lt-leb}
use Rattle.rules.specs.Words.{Mem, word_bytes}
use Rattle.rules.specs.Pages.{unit, clumps_at}
use Rattle.rules.specs.Clumps.{Head, Tiles, header_bytes, least_clump, end_of, head, heads_from, walk}
use Rattle.rules.specs.Sound.{size_bad}
use Rattle.laws.specs.Tilings.{tiles_le}
use Rattle.laws.specs.Walks.{size_good}
use Rattle.line.specs.Texts.{clump_text}

-- at its end, or at the image's where its size is at fault
unfoldable pub onward : ℕ → Head → ℕ
onward n h = cond (size_bad n h) n (end_of h)

-- "`walk` prints offset, nbytes and state of each clump"
abbrev pub head_text : Head → List ℕ
head_text h = clump_text h.at h.nbytes h.state

-- the lines of the clumps from a on, where k is at least what is left of the image: up to where no header is left, and not behind a
-- size at fault
unfoldable pub lines_in : ℕ → ℕ → Mem → ℕ → List ℕ
lines_in zero n m a = []
lines_in (suc k) n m a =
    elim (leb (a + header_bytes) n) [ true ↦ head_text (head m a) ++ lines_in k n m (onward n (head m a)) | false ↦ [] ]

unfoldable pub lines_from : ℕ → Mem → ℕ → List ℕ
lines_from n m a = lines_in n n m a

-- a buffer for them has this many bytes
abbrev pub room : ℕ
room = 4096

pub onward_stops : (n : ℕ) (h : Head) → true ≡ size_bad n h → n ≡ onward n h
unfolding onward
onward_stops n h e = rw (← e)

pub onward_goes : (n : ℕ) (h : Head) → size_bad n h ≡ false → end_of h ≡ onward n h
unfolding onward
onward_goes n h e = rw e

-- on any bytes: further on
pub onward_further : (n : ℕ) (h : Head) → h.at < n → h.at < onward n h
unfolding onward
onward_further n h l = go (size_bad n h) refl
  where
    go : (t : Bool) → size_bad n h ≡ t → h.at < cond t n (end_of h)
    go true p = l
    go false p = omega (arith, size_good n h p)

-- and to a word as long as the end is not reached
pub onward_even : (n : ℕ) (h : Head) → h.at % word_bytes ≡ 0 → onward n h < n → onward n h % word_bytes ≡ 0
unfolding onward
onward_even n h a = go (size_bad n h) refl
  where
    go : (t : Bool) → size_bad n h ≡ t → cond t n (end_of h) < n → cond t n (end_of h) % word_bytes ≡ 0
    go true p l = absurd (omega arith)
    go false p l = omega (arith, size_good n h p)

-- one line more, and none
lines_more :
    (k n : ℕ) (m : Mem) (a : ℕ)
    → a + header_bytes ≤ n
    → lines_in (suc k) n m a ≡ head_text (head m a) ++ lines_in k n m (onward n (head m a))
unfolding lines_in
lines_more k n m a l = rw (le-leb (a + header_bytes) n l, lines_in)

lines_none : (k n : ℕ) (m : Mem) (a : ℕ) → n < a + header_bytes → lines_in k n m a ≡ []
unfolding lines_in
lines_none zero n m a l = refl
lines_none (suc k) n m a l = rw (lt-leb (a + header_bytes) n l, lines_in)

-- steps to spare change nothing
lines_same : (k j n : ℕ) (m : Mem) (a : ℕ) → n ≤ k + a → n ≤ j + a → lines_in k n m a ≡ lines_in j n m a
lines_same zero j n m a p q = lines_none zero n m a (omega arith) ∙ sym (lines_none j n m a (omega arith))
lines_same (suc k) zero n m a p q = lines_none (suc k) n m a (omega arith) ∙ sym (lines_none zero n m a (omega arith))
lines_same (suc k) (suc j) n m a p q = go (leb (a + header_bytes) n) refl (lines_same k j n m (onward n (head m a)))
  where
    go :
        (t : Bool) → leb (a + header_bytes) n ≡ t
        → (n ≤ k + onward n (head m a) → n ≤ j + onward n (head m a) → lines_in k n m (onward n (head m a)) ≡ lines_in j n m (onward n (head m a)))
        → lines_in (suc k) n m a ≡ lines_in (suc j) n m a
    go true e ih =
        let l : a + header_bytes ≤ n = leb-true (a + header_bytes) n e in
        let f : a < onward n (head m a) = onward_further n (head m a) (omega arith) in
        rw (lines_more k n m a l, lines_more j n m a l, ih (omega arith) (omega arith))
    go false e ih =
        let l : n < a + header_bytes = leb-false (a + header_bytes) n e in
        lines_none (suc k) n m a l ∙ sym (lines_none (suc j) n m a l)

-- the lines from a on: that of its clump and those behind it
pub lines_next :
    (n : ℕ) (m : Mem) (a : ℕ)
    → a + header_bytes ≤ n
    → lines_from n m a ≡ head_text (head m a) ++ lines_from n m (onward n (head m a))
unfolding lines_from
lines_next zero m a l = absurd (omega arith)
lines_next (suc n) m a l =
    let f : a < onward (suc n) (head m a) = onward_further (suc n) (head m a) (omega arith) in
    rw (lines_more n (suc n) m a l, lines_same n (suc n) (suc n) m (onward (suc n) (head m a)) (omega arith) (omega arith))

-- the lines of the clumps of a walk
unfoldable pub walk_text : List Head → List ℕ
walk_text [] = []
walk_text (h ∷ hs) = head_text h ++ walk_text hs

-- over clumps that tile, those lines and no others are printed
tiled_lines : (k n : ℕ) (m : Mem) (a : ℕ) → Tiles a (heads_from k n m a) n → lines_in k n m a ≡ walk_text (heads_from k n m a)
unfolding size_bad heads_from walk_text
tiled_lines zero n m a t = lines_none zero n m a (omega arith)
tiled_lines (suc k) n m a t = go (ltb a n) refl t (tiled_lines k n m (a + m a))
  where
    go :
        (u : Bool) → ltb a n ≡ u
        → Tiles a (elim u [ true ↦ head m a ∷ heads_from k n m (a + m a) | false ↦ [] ]) n
        → (Tiles (a + m a) (heads_from k n m (a + m a)) n → lines_in k n m (a + m a) ≡ walk_text (heads_from k n m (a + m a)))
        → lines_in (suc k) n m a ≡ walk_text (heads_from (suc k) n m a)
    go true e t ih =
        let s = t.0 in
        let l = tiles_le (a + m a) n (heads_from k n m (a + m a)) t.1 in
        let even = eq-eqb (m a % unit) 0 s.whole in
        let good : size_bad n (head m a) ≡ false = rw (even, le-ltb (m a) least_clump s.least, le-ltb n (a + m a) (omega arith)) in
        rw (e, heads_from, walk_text, lines_more k n m a (omega (arith, s.least)), sym (onward_goes n (head m a) good), ih t.1)
    go false e t ih = rw (e, heads_from, walk_text) (lines_none (suc k) n m a (omega arith))

pub walk_lines : (n : ℕ) (m : Mem) → Tiles clumps_at (walk n m) n → lines_from n m clumps_at ≡ walk_text (walk n m)
unfolding lines_from walk
walk_lines n m t = tiled_lines n n m clumps_at t
