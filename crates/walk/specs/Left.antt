-- What is left of the walk at an offset, as a list: at its start the walk itself; where it tiles, the clump that stands there and what is
-- left behind it; and nothing at the end. By induction on the steps of the walk: any two numbers of steps that last give the same clumps.
-- Then a search over what is left, a law for each thing that can happen at a clump. Assumes nothing.
use Rattle.std.specs.Prelude.{ℕ, zero, suc, ◌+◌, ◌%◌, ◌<◌, ◌≤◌, ◌≡◌, refl, Bool, true, false, List, [], ◌∷◌, ◌||◌, ◌++◌, length, ltb}
use Rattle.std.specs.List.{list_any}
use Rattle.std.proofs.Common.{sym, ap, ◌∙◌, subst, append_assoc, arith, eq-eqb, ne_eqb}
use Rattle.std.proofs.Math.Option.{some, none}
use borrow.Author.Tests.{lt-ltb, le-ltb, ltb-true, ltb-false}
use Rattle.rules.specs.Lists.{any}
use Rattle.rules.specs.Words.{Image, Mem, mem}
use Rattle.rules.specs.Pages.{clumps_at, unit}
use Rattle.rules.specs.Clumps.{Head, head, body_of, least_clump, Tiles, heads_from, walk, before_of, offset_of}
use Rattle.rules.specs.Reading.{clumps_of, Tiled}
use Rattle.rules.specs.Requests.{finder, below_of}
use Rattle.laws.specs.Searches.{seek_nil, seek_hit, seek_pass}
use Rattle.laws.specs.Tilings.{tiles_le, tiles_split}
use Rattle.laws.specs.Neighbours.{last, last_more, before_is}

-- the clumps of an image from a on
abbrev pub clumps_left : Image → ℕ → List Head
clumps_left img a = heads_from (length img) (length img) (mem img) a

-- they tile to the image's end
pub record Tiling (img : Image) (a : ℕ) : Type 0 where
  pub even : a % unit ≡ 0
  pub tiles : Tiles a (clumps_left img a) (length img)

-- as all the clumps do
pub left_all : (img : Image) → clumps_left img clumps_at ≡ clumps_of img
unfolding walk
left_all img = refl

pub tiling_all : (img : Image) → Tiled img → Tiling img clumps_at
unfolding walk
tiling_all img t = record { even = refl; tiles = t }

module _ (n : ℕ) (m : Mem) where
  -- at the end
  none_from : (k a : ℕ) → n ≤ a → heads_from k n m a ≡ []
  unfolding heads_from
  none_from zero a l = refl
  none_from (suc k) a l = rw (le-ltb a n l, heads_from)

  -- and before it
  one_from : (k a : ℕ) → a < n → heads_from (suc k) n m a ≡ head m a ∷ heads_from k n m (a + m a)
  unfolding heads_from
  one_from k a l = rw (lt-ltb a n l, heads_from)

  -- steps that last
  steps_same : (k j a : ℕ) → n ≤ a + k → n ≤ a + j → Tiles a (heads_from k n m a) n → heads_from k n m a ≡ heads_from j n m a
  steps_same zero j a l u t = none_from zero a (omega arith) ∙ sym (none_from j a (omega arith))
  steps_same (suc k) zero a l u t = none_from (suc k) a (omega arith) ∙ sym (none_from zero a (omega arith))
  steps_same (suc k) (suc j) a l u t = go (ltb a n) refl (steps_same k j (a + m a))
    where
      go :
          (b : Bool)
          → ltb a n ≡ b
          → (n ≤ a + m a + k → n ≤ a + m a + j → Tiles (a + m a) (heads_from k n m (a + m a)) n → heads_from k n m (a + m a) ≡ heads_from j n m (a + m a))
          → heads_from (suc k) n m a ≡ heads_from (suc j) n m a
      go false e i = let f = ltb-false a n e in none_from (suc k) a f ∙ sym (none_from (suc j) a f)
      go true e i =
          let f = ltb-true a n e in
          let s = subst (λ (hs : List Head). Tiles a hs n) (one_from k a f) t in
          let p = s.0.least in
          one_from k a f ∙ ap (λ (hs : List Head). head m a ∷ hs) (i (omega arith) (omega arith) s.1) ∙ sym (one_from j a f)

-- the clump that stands at a, and what is left behind it
pub record Step (img : Image) (a : ℕ) : Type 0 where
  pub left : clumps_left img a ≡ head (mem img) a ∷ clumps_left img (a + mem img a)
  pub least : least_clump ≤ mem img a
  pub room : a + mem img a ≤ length img
  pub next : Tiling img (a + mem img a)

pub left_end : (img : Image) (a : ℕ) → length img ≤ a → clumps_left img a ≡ []
left_end img a l = none_from (length img) (mem img) (length img) a l

pub left_step : (img : Image) (a : ℕ) → Tiling img a → a < length img → Step img a
left_step img a t l = go (length img) refl
  where
    n : ℕ
    n = length img

    m : Mem
    m = mem img

    go : (k : ℕ) → n ≡ k → Step img a
    go zero e = absurd (omega arith)
    go (suc k) e =
        let w : heads_from n n m a ≡ head m a ∷ heads_from k n m (a + m a) = ap (λ (j : ℕ). heads_from j n m a) e ∙ one_from n m k a l in
        let s = subst (λ (hs : List Head). Tiles a hs n) w t.tiles in
        let p = s.0.least in
        let q = s.0.whole in
        let v = t.even in
        let f = steps_same n m k n (a + m a) (omega arith) (omega arith) s.1 in
        record {
          left = w ∙ ap (λ (hs : List Head). head m a ∷ hs) f;
          least = p;
          room = tiles_le (a + m a) n (heads_from k n m (a + m a)) s.1;
          next = record { even = omega arith; tiles = subst (λ (hs : List Head). Tiles (a + m a) hs n) f s.1 };
        }

-- a test of some clump, as the library says it
pub any_is : (p : Head → Bool) (hs : List Head) → list_any p hs ≡ any p hs
unfolding any
any_is p [] = refl
any_is p (h ∷ hs) = ap (λ (b : Bool). p h || b) (any_is p hs)

-- A search that has come to the clumps that are left: none that it passed is the one, and the last of these stands at b, which is 0 where
-- there is none.
pub record Sought (hs : List Head) (body b : ℕ) (left : List Head) : Type 0 where
  pub lower : List Head
  pub whole : hs ≡ lower ++ left
  pub same : finder left body ≡ finder hs body
  pub last_is : b ≡ offset_of 0 (last lower)

pub sought_start : (hs : List Head) (body : ℕ) → Sought hs body 0 hs
unfolding last
sought_start hs body = record { lower = []; whole = refl; same = refl; last_is = refl }

module _ {hs : List Head} {body b : ℕ} {left : List Head} (s : Sought hs body b left) where
  pub sought_end : left ≡ [] → none ≡ finder hs body
  sought_end e = sym (seek_nil _) ∙ ap (λ (k : List Head). finder k body) (sym e) ∙ s.same

  -- the clump that stands there
  module _ (h : Head) (q : List Head) (e : left ≡ h ∷ q) where
    whole_is : hs ≡ s.lower ++ (h ∷ q)
    whole_is = s.whole ∙ ap (λ (k : List Head). s.lower ++ k) e

    pub sought_hit : body_of h ≡ body → some h ≡ finder hs body
    sought_hit d = sym (seek_hit _ h q (eq-eqb _ _ d)) ∙ ap (λ (k : List Head). finder k body) (sym e) ∙ s.same

    pub sought_pass : (body_of h ≡ body → ⊥) → Sought hs body h.at q
    sought_pass d = record {
      lower = s.lower ++ (h ∷ []);
      whole = whole_is ∙ sym (append_assoc s.lower (h ∷ []) q);
      same = sym (seek_pass _ h q (ne_eqb _ _ d)) ∙ ap (λ (k : List Head). finder k body) (sym e) ∙ s.same;
      last_is = ap (offset_of 0) (sym (last_more s.lower h));
    }

    module _ (n : ℕ) (t : Tiles clumps_at hs n) where
      abbrev tiled : Tiles clumps_at (s.lower ++ (h ∷ q)) n
      tiled = subst (λ (k : List Head). Tiles clumps_at k n) whole_is t

      -- it lies in the image, and the last one passed is the one below it
      pub sought_room : h.at + least_clump ≤ n
      sought_room =
          let r = tiles_split clumps_at n s.lower (h ∷ q) tiled in
          let i = r.2.0.here in
          let l = r.2.0.least in
          let u = tiles_le (r.0 + h.nbytes) n q r.2.1 in
          omega arith

      pub sought_below : b ≡ below_of hs h
      sought_below =
          s.last_is ∙ ap (offset_of 0) (sym (ap (λ (k : List Head). before_of k h) whole_is ∙ before_is clumps_at n s.lower h q tiled))
