-- A law for each way out of reserve, and what it asks of the clump that was found. Assumes nothing.
use Rattle.std.specs.Prelude.{ℕ, ◌+◌, ◌-◌, ◌<◌, ◌≡◌, Bool, true, false, List, ◌∷◌, ◌++◌}
use Rattle.std.proofs.Math.Option.{some, none}
use Rattle.std.proofs.Common.{arith, eq-eqb, ne_eqb, leb-true}
use Rattle.rules.specs.declared.Answer.{Answer}
use Rattle.rules.specs.Lists.{seek}
use Rattle.rules.specs.Words.{Image, Mem, mem, store, word_values}
use Rattle.rules.specs.Pages.{clumps_at}
use Rattle.rules.specs.Clumps.{Head, head, is_free, header_bytes, slots, Tiles, walk, offset_of}
use Rattle.rules.specs.Answers.{granted, refuse, size_zero, no_room}
use Rattle.rules.specs.Stores.{need_of, fits, emptying, is_split, rest_header, taking, reserve_stores}
use Rattle.rules.specs.Requests.{reserve}
use Rattle.laws.specs.Searches.{and_both, seek_split}
use Rattle.laws.specs.Needs.{need_clump}
use Rattle.need.specs.Fits.{Fit}
use Rattle.walk.specs.Scans.{offset_some, offset_inside}
use Rattle.steps.specs.Acts.{Acts, acts_ran}
use Rattle.word.specs.declared.Power.{Power}
use Rattle.word.specs.Runs.{full, Ran, told}

-- reserve, a law for each way out
module _ (clears : Bool) (hs : List Head) (size : ℕ) where
  pub reserve_zero : size ≡ 0 → reserve clears hs size ≡ refuse size_zero
  unfolding reserve
  reserve_zero e = rw (eq-eqb size 0 e)

  pub reserve_none : (size ≡ 0 → ⊥) → seek (fits (need_of size)) hs ≡ none → reserve clears hs size ≡ refuse no_room
  unfolding reserve
  reserve_none h e = rw (ne_eqb size 0 h, e)

  pub reserve_some : (size ≡ 0 → ⊥) → (h : Head) → seek (fits (need_of size)) hs ≡ some h → reserve clears hs size ≡ granted (h.at + header_bytes) (reserve_stores clears (need_of size) h)
  unfolding reserve
  reserve_some n h e = rw (ne_eqb size 0 n, e)

-- the clump that first fit finds
pub fit_found :
    (n : ℕ) (m : Mem) (size r : ℕ)
    → (size ≡ 0 → ⊥) → n < word_values → Tiles clumps_at (walk n m) n → r ≡ offset_of n (seek (fits (need_of size)) (walk n m)) → r < n → Fit n (need_of size) r (m r)
fit_found n m size r z s t e l =
    let i = offset_inside n m (fits (need_of size)) t n r e (λ q. omega arith) in
    let p = (seek_split (fits (need_of size)) (walk n m) (head m r) (offset_some n m (fits (need_of size)) t n r e (λ q. omega arith))).passes in
    record { even = i.even; least = need_clump size z; enough = leb-true (need_of size) (m r) (and_both (is_free (head m r)) _ p).1; room = i.room; small = s }

-- the stores of reserve, split or whole
pub stores_split :
    (clears : Bool) (need : ℕ) (h : Head)
    → is_split need h.nbytes ≡ true
    → reserve_stores clears need h
    ≡ rest_header (h.at + need) (h.nbytes - need) ++ (emptying (slots h.at) ++ (store h.at need ∷ taking clears h.at need))
unfolding reserve_stores
stores_split clears need h e = rw e

pub stores_whole : (clears : Bool) (need : ℕ) (h : Head) → is_split need h.nbytes ≡ false → reserve_stores clears need h ≡ emptying (slots h.at) ++ taking clears h.at h.nbytes
unfolding reserve_stores
stores_whole clears need h e = rw e

-- reserve in the clump that was found: with the nbytes n and the need k that the code has, and the power p that it starts from
module _ (img : Image) (clears : Bool) (h size fuse n k : ℕ) (p : Power) (fresh : p ≡ full fuse) (size_is : n ≡ mem img h) (need-eq : k ≡ need_of size) where
  pub split_acts :
      {x : Image} {q : Power} {r : Answer}
      → is_split k n ≡ true
      → Ran img p (rest_header (h + k) (n - k) ++ (emptying (slots h) ++ (store h k ∷ taking clears h k))) x q
      → r ≡ told q (h + header_bytes)
      → Acts img (granted (h + header_bytes) (reserve_stores clears (need_of size) (head (mem img) h))) fuse x r
  split_acts l s e =
      rw (stores_split clears (need_of size) (head (mem img) h) (rw (← size_is, ← need-eq) l), ← size_is, ← need-eq)
      (acts_ran fuse (h + header_bytes) (rw fresh at s) e)

  pub whole_acts :
      {x : Image} {q : Power} {r : Answer}
      → is_split k n ≡ false
      → Ran img p (emptying (slots h) ++ taking clears h n) x q
      → r ≡ told q (h + header_bytes)
      → Acts img (granted (h + header_bytes) (reserve_stores clears (need_of size) (head (mem img) h))) fuse x r
  whole_acts l s e =
      rw (stores_whole clears (need_of size) (head (mem img) h) (rw (← size_is, ← need-eq) l), ← size_is) (acts_ran fuse (h + header_bytes) (rw fresh at s) e)
