-- What grow asks of the clump that was found, and a law for each way out of it: by whether the clump behind is FREE and how large both are
-- together, as they are read. Assumes nothing.
use Rattle.std.specs.Prelude.{ℕ, ◌+◌, ◌-◌, ◌%◌, ◌<◌, ◌≤◌, ◌≡◌, refl, true, false, List, [], ◌∷◌, ◌++◌, length}
use Rattle.std.proofs.Common.{sym, ap, ap₂, ◌∙◌, arith}
use Rattle.std.proofs.Math.Option.{Option, some, none}
use borrow.Author.Tests.{eq-eqb, ne_eqb, le-leb, lt-leb, lt-ltb, le-ltb}
use Rattle.rules.specs.declared.Answer.{Answer}
use Rattle.rules.specs.Words.{Image, mem, store, word_bytes, word_values}
use Rattle.rules.specs.Clumps.{Head, head, header_bytes, is_waiting}
use Rattle.rules.specs.Answers.{granted, refuse, size_zero, no_room, wrong_state}
use Rattle.rules.specs.Stores.{need_of, is_split, rest_header, grow_stores, free_after}
use Rattle.rules.specs.Requests.{finder, found, enlarged, grown, grow}
use Rattle.rules.specs.Reading.{clumps_of, Tiled}
use Rattle.laws.specs.Pools.{answer_is}
use Rattle.laws.specs.Needs.{need_clump, need_body}
use Rattle.need.specs.Fits.{Fit}
use Rattle.walk.specs.Scans.{Finds}
use Rattle.walk.specs.Beside.{size_of, free_bytes, next_bytes, next_header, next_room}
use Rattle.steps.specs.Acts.{Acts, acts_same, acts_refused, acts_none, acts_ran}
use Rattle.word.specs.declared.Power.{Power}
use Rattle.word.specs.Runs.{full, Ran, told}

-- the clump at h has its body at the offset asked about, in clumps that tile, and the size is not 0
pub record Growing (img : Image) (offset size h : ℕ) : Type 0 where
  pub tiles : Tiled img
  pub below : ℕ
  pub finds : Finds (length img) (mem img) offset h below
  pub small : length img < word_values
  pub asked : size ≡ 0 → ⊥

-- grow, a law for each way out before a clump is found
module _ (hs : List Head) (offset size : ℕ) where
  pub grow_zero : size ≡ 0 → grow hs offset size ≡ refuse size_zero
  unfolding grow
  grow_zero e = rw (eq-eqb size 0 e)

  pub grow-asked : (size ≡ 0 → ⊥) → grow hs offset size ≡ found (finder hs offset) (grown hs offset size)
  unfolding grow
  grow-asked z = rw (ne_eqb size 0 z)

-- and one for each behind it
module _ (hs : List Head) (offset size : ℕ) (h : Head) where
  pub grown_state : is_waiting h ≡ false → grown hs offset size h ≡ refuse wrong_state
  unfolding grown
  grown_state e = rw e

  pub grown_enough : is_waiting h ≡ true → size ≤ h.nbytes - header_bytes → grown hs offset size h ≡ granted offset []
  unfolding grown
  grown_enough e l = rw (e, le-leb size (h.nbytes - header_bytes) l)

  grown-more : is_waiting h ≡ true → h.nbytes - header_bytes < size → grown hs offset size h ≡ enlarged offset (need_of size) h (free_after hs h)
  unfolding grown
  grown-more e l = rw (e, lt-leb size (h.nbytes - header_bytes) l)

  -- by the bytes of both, of which there are none of the next clump where none is FREE
  pub grown_none : is_waiting h ≡ true → h.nbytes - header_bytes < size → h.nbytes + size_of (free_after hs h) < need_of size → grown hs offset size h ≡ refuse no_room
  grown_none e l u = grown-more e l ∙ go (free_after hs h) u
    where
      go : (o : Option Head) → h.nbytes + size_of o < need_of size → enlarged offset (need_of size) h o ≡ refuse no_room
      go none u = refl
      go (some k) u = rw (lt-ltb (h.nbytes + k.nbytes) (need_of size) u)

  pub grown-takes :
      is_waiting h ≡ true
      → h.nbytes - header_bytes < size
      → need_of size ≤ h.nbytes + size_of (free_after hs h)
      → grown hs offset size h ≡ granted offset (grow_stores (need_of size) h.at (h.nbytes + size_of (free_after hs h)))
  grown-takes e l u = grown-more e l ∙ go (free_after hs h) u
    where
      go : (o : Option Head) → need_of size ≤ h.nbytes + size_of o → enlarged offset (need_of size) h o ≡ granted offset (grow_stores (need_of size) h.at (h.nbytes + size_of o))
      go none u = absurd (omega (arith, l, need_body size))
      go (some k) u = rw (le-ltb (h.nbytes + k.nbytes) (need_of size) u)

-- the clump at h that was found, with the nbytes n that the code has of it, and k of the clump behind, if that is FREE
module _ {img : Image} {offset size h : ℕ} (t : Growing img offset size h) (n : ℕ) (size_is : n ≡ mem img h) where
  abbrev this : Head
  this = head (mem img) h

  abbrev Behind : ℕ → Type 0
  Behind k = k ≡ free_bytes (length img) (mem img) (h + n)

  -- the header behind lies in the image where there is one, and both clumps do
  pub next_asked : (h + n ≡ 0 → ⊥) → h + n < length img → ((h + n) % word_bytes ≡ 0) × (h + n + header_bytes ≤ length img)
  next_asked = rw size_is (next_header (length img) (mem img) h t.tiles _ t.finds.found)

  pub both_room : (k : ℕ) → Behind k → h + (n + k) ≤ length img
  both_room k e =
      let r = next_room (length img) (mem img) h t.tiles _ t.finds.found t.small t.finds.inside.room in
      rw (e, size_is) (omega arith)

  next_is : (k : ℕ) → Behind k → k ≡ size_of (free_after (clumps_of img) this)
  next_is k e = e ∙ ap (λ (w : ℕ). free_bytes (length img) (mem img) (h + w)) size_is ∙ next_bytes (length img) (mem img) h t.tiles _ t.finds.found

  both_is : (k : ℕ) → Behind k → n + k ≡ this.nbytes + size_of (free_after (clumps_of img) this)
  both_is k e = ap₂ ◌+◌ size_is (next_is k e)

  -- what is left is a clump for the size
  pub both_fit : (k : ℕ) → Behind k → need_of size ≤ n + k → Fit (length img) (need_of size) h (n + k)
  both_fit k e l = record { even = t.finds.inside.even; least = need_clump size t.asked; enough = l; room = both_room k e; small = t.small }

  -- a law for each way out
  pub state_acts : (fuse : ℕ) → is_waiting this ≡ false → Acts img (grown (clumps_of img) offset size this) fuse img (answer_is 7 0 0)
  state_acts fuse e = acts_same _ _ (grown_state (clumps_of img) offset size this e) (acts_refused img 7 0 0 fuse)

  module _ (fuse : ℕ) (waits : is_waiting this ≡ true) where
    pub enough_acts : size ≤ n - header_bytes → Acts img (grown (clumps_of img) offset size this) fuse img (answer_is 0 offset 0)
    enough_acts l = acts_same _ _ (grown_enough (clumps_of img) offset size this waits (rw (← size_is) l)) (acts_none img offset fuse)

    module _ (short : n - header_bytes < size) (k : ℕ) (behind : Behind k) where
      pub none_acts : n + k < need_of size → Acts img (grown (clumps_of img) offset size this) fuse img (answer_is 5 0 0)
      none_acts l =
          acts_same _ _ (grown_none (clumps_of img) offset size this waits (rw (← size_is) short) (rw (← both_is k behind) l)) (acts_refused img 5 0 0 fuse)

      pub taken_acts : {x : Image} {r : Answer} → need_of size ≤ n + k → Acts img (granted offset (grow_stores (need_of size) h (n + k))) fuse x r → Acts img (grown (clumps_of img) offset size this) fuse x r
      taken_acts l a =
          acts_same _ _
          (grown-takes (clumps_of img) offset size this waits (rw (← size_is) short) (rw (← both_is k behind) l)
          ∙ ap (λ (b : ℕ). granted offset (grow_stores (need_of size) h b)) (sym (both_is k behind)))
          a

-- the stores, split or whole: with the need k that the code has, and the power p that it starts from
module _ (img : Image) (h both size offset fuse k : ℕ) (p : Power) (fresh : p ≡ full fuse) (need-eq : k ≡ need_of size) where
  pub split_acts :
      {x : Image} {q : Power} {r : Answer}
      → is_split k both ≡ true
      → Ran img p (rest_header (h + k) (both - k) ++ (store h k ∷ [])) x q
      → r ≡ told q offset
      → Acts img (granted offset (grow_stores (need_of size) h both)) fuse x r
  unfolding grow_stores
  split_acts l s e = rw (← need-eq, l) (acts_ran fuse offset (rw fresh at s) e)

  pub whole_acts :
      {x : Image} {q : Power} {r : Answer}
      → is_split k both ≡ false
      → Ran img p (store h both ∷ []) x q
      → r ≡ told q offset
      → Acts img (granted offset (grow_stores (need_of size) h both)) fuse x r
  unfolding grow_stores
  whole_acts l s e = rw (← need-eq, l) (acts_ran fuse offset (rw fresh at s) e)
