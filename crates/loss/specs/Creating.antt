-- Creation: its stores but the last leave no pool, and all of them a pool of one FREE clump. The first signature word is the first to
-- be stored, as 0, and the last; every other word of the page is told by the last store that goes there. Assumes nothing.
use Rattle.std.specs.Prelude.{ℕ, zero, suc, ◌+◌, ◌-◌, ◌/◌, ◌<◌, ◌≡◌, refl, true, false, List, [], ◌∷◌, ◌++◌, length, take}
use Rattle.std.proofs.Common.{ap, ◌∙◌, inl, inr, append_assoc, length-append}
use native.Mathlib.Omega.{arith}
use borrow.Author.Tests.{eq-eqb, ne_eqb}
use Rattle.rules.specs.declared.Request.TheVariants.{Create}
use Rattle.rules.specs.Lists.{any}
use Rattle.rules.specs.Words.{Image, Mem, Store, Aligned, store, mem, upd, after, carry, zeros, all_zero, le, word_bytes}
use Rattle.rules.specs.Pages.{page_bytes, static_at, header_at, signature, signature_low, signature_high, signature_high_at, total_at, padding_at, padding_words, clumps_at, right_length, is_pool}
use Rattle.rules.specs.Clumps.{Head, header_bytes, state_at, FREE}
use Rattle.rules.specs.Sound.{touching, unsettled}
use Rattle.rules.specs.Stores.{create_stores, create_count}
use Rattle.rules.specs.Requests.{verdict, stores_for}
use Rattle.rules.specs.PowerLoss.{CreateCut, Created}
use Rattle.word.specs.Memory.{upd_same, mem-carry, length-carry}
use Rattle.word.specs.Blank.{blank_bytes}
use Rattle.laws.specs.Searches.{each_append, each_take}
use Rattle.laws.specs.OneWord.{create_aligned}
use Rattle.laws.specs.Founding.{create_length}
use Rattle.laws.specs.Pools.{right_length_lem}
use Rattle.loss.specs.Entries.{unjudged}
use Rattle.loss.specs.Held.{Held, held_walk, idle_sound}
use Rattle.loss.specs.Redo.{Other, Spares}
use Rattle.loss.specs.Blanked.{Leaves, At, leaves_last, leaves_behind, late_one, late_behind, zeros_other, zeros-first, zeros_blank, zero_slice}

-- the stores of a create on n bytes from the clump's state on, from its nbytes on, from the padding on, from the page on and from the
-- static area on; e is what comes last
abbrev listing : List Store → List Store
listing e = zeros (clumps_at + word_bytes) (header_bytes / word_bytes - 1) ++ e

module _ (n : ℕ) (e : List Store) where
  abbrev clumping : List Store
  clumping = store clumps_at (n - clumps_at) ∷ listing e

  abbrev padding : List Store
  padding = zeros padding_at padding_words ++ clumping

  abbrev paging : List Store
  paging = store signature_high_at signature_high ∷ store total_at n ∷ padding

  abbrev blanking : List Store
  blanking = zeros static_at (page_bytes / word_bytes) ++ paging

-- the last store
abbrev sealing : List Store
sealing = store header_at signature_low ∷ []

-- on an image of a right length they are all made
stores_are : (img : Image) → right_length (length img) ≡ true → stores_for img Create ≡ create_stores (length img)
unfolding verdict
stores_are img r = rw r

-- what comes last comes behind the others
blanking_seals : (n : ℕ) (e : List Store) → blanking n e ≡ blanking n [] ++ e
blanking_seals n e = rw (append_assoc, append_assoc, append_assoc)

-- where they do not go
listing_other : (o : ℕ) (e : List Store) → Spares o e → o < clumps_at + word_bytes → Spares o (listing e)
listing_other o e f l = each_append (Other o) (zeros (clumps_at + word_bytes) (header_bytes / word_bytes - 1)) e (zeros_other o (clumps_at + word_bytes) (header_bytes / word_bytes - 1) (inl l)) f

module _ (n o : ℕ) (e : List Store) (f : Spares o e) where
  clumping_other : o < clumps_at → Spares o (clumping n e)
  clumping_other l = (omega arith, listing_other o e f (omega arith))

  padding_other : o < padding_at → Spares o (padding n e)
  padding_other l = each_append (Other o) (zeros padding_at padding_words) (clumping n e) (zeros_other o padding_at padding_words (inl l)) (clumping_other (omega arith))

  paging_other : o < signature_high_at → Spares o (paging n e)
  paging_other l = (omega arith, (omega arith, padding_other (omega arith)))

blanking_other : (n : ℕ) → Spares header_at (blanking n [])
blanking_other n =
    each_append (Other header_at) (zeros static_at (page_bytes / word_bytes)) (paging n [])
    (zeros_other header_at static_at (page_bytes / word_bytes) (inr (omega arith))) (paging_other n header_at [] tt (omega arith))

-- how many there are between the first and the last
blanking_length : (n : ℕ) → length (blanking n []) ≡ create_count - 2
unfolding create_stores
blanking_length n = omega (arith, create_length n, ap length (blanking_seals n sealing), length-append (blanking n []) sealing)

-- 0 in the first word of the signature makes no pool
low_not_zero : 0 ≡ signature_low → ⊥
unfolding signature_low le signature
low_not_zero = omega arith

no_pool : (n : ℕ) (m : Mem) → right_length n ≡ true → m header_at ≡ 0 → is_pool n m ≡ false
unfolding is_pool
no_pool n m r e = rw (r, e, ne_eqb 0 signature_low low_not_zero)

-- the first store leaves 0 there, and until the last none goes there
cut_low : (n k : ℕ) (m : Mem) → 0 < k → k < create_count → after m (take k (create_stores n)) header_at ≡ 0
unfolding after create_stores
cut_low n zero m p l = absurd (omega arith)
cut_low n (suc k) m p l =
    rw (blanking_seals n sealing)
    (late_behind header_at (blanking n []) sealing (blanking_other n) (late_one header_at (store header_at signature_low)) (upd m header_at 0) k (omega (arith, blanking_length n, length-append (blanking n []) sealing))
    ∙ upd_same m header_at 0)

-- "Cut after 1 to 1,032, the image is no pool"
pub create_cut_lem : CreateCut
create_cut_lem img k r =
    let n = length img in
    let st = take k (create_stores n) in
    let a = each_take (Aligned n) k (create_stores n) (create_aligned n (right_length_lem n r)) in
    rw (stores_are img r)
    (create_length n, λ p l. rw (length-carry img st, mem-carry img st a) (no_pool n (after (mem img) st) r (cut_low n k (mem img) p l)))

-- finished, they leave in each word what the last part of them that goes there stores
module _ (n : ℕ) where
  by_page : (P : Mem → Type 0) → Leaves P (paging n sealing) → Leaves P (create_stores n)
  unfolding create_stores
  by_page P = leaves_behind P (store header_at 0 ∷ zeros static_at (page_bytes / word_bytes)) (paging n sealing)

  by_padding : (P : Mem → Type 0) → Leaves P (padding n sealing) → Leaves P (create_stores n)
  by_padding P f = by_page P (leaves_behind P (store signature_high_at signature_high ∷ store total_at n ∷ []) (padding n sealing) f)

  by_clump : (P : Mem → Type 0) → Leaves P (clumping n sealing) → Leaves P (create_stores n)
  by_clump P f = by_padding P (leaves_behind P (zeros padding_at padding_words) (clumping n sealing) f)

  by_seal : (P : Mem → Type 0) → Leaves P sealing → Leaves P (create_stores n)
  by_seal P f = by_clump P (leaves_behind P (store clumps_at (n - clumps_at) ∷ zeros (clumps_at + word_bytes) (header_bytes / word_bytes - 1)) sealing f)

  -- the static area
  static_left : Leaves (λ m. all_zero m static_at (page_bytes / word_bytes) ≡ true) (create_stores n)
  unfolding create_stores
  static_left =
      leaves_behind (λ m. all_zero m static_at (page_bytes / word_bytes) ≡ true) (store header_at 0 ∷ []) (blanking n sealing)
      (zeros_blank (page_bytes / word_bytes) static_at (paging n sealing) (λ o l u. paging_other n o sealing (omega arith, tt) (omega arith)))

  -- the header page
  low_left : Leaves (At header_at signature_low) (create_stores n)
  low_left = by_seal (At header_at signature_low) (leaves_last (store header_at signature_low) [] tt)

  high_left : Leaves (At signature_high_at signature_high) (create_stores n)
  high_left =
      by_page (At signature_high_at signature_high)
      (leaves_last (store signature_high_at signature_high) (store total_at n ∷ padding n sealing) (omega arith, padding_other n signature_high_at sealing (omega arith, tt) (omega arith)))

  total_left : Leaves (At total_at n) (create_stores n)
  total_left =
      by_page (At total_at n)
      (leaves_behind (At total_at n) (store signature_high_at signature_high ∷ []) (store total_at n ∷ padding n sealing)
      (leaves_last (store total_at n) (padding n sealing) (padding_other n total_at sealing (omega arith, tt) (omega arith))))

  padding_left : Leaves (λ m. all_zero m padding_at padding_words ≡ true) (create_stores n)
  padding_left =
      by_padding (λ m. all_zero m padding_at padding_words ≡ true)
      (zeros_blank padding_words padding_at (clumping n sealing) (λ o l u. clumping_other n o sealing (omega arith, tt) (omega arith)))

  -- the clump's header
  nbytes_left : Leaves (At clumps_at (n - clumps_at)) (create_stores n)
  nbytes_left =
      by_clump (At clumps_at (n - clumps_at))
      (leaves_last (store clumps_at (n - clumps_at)) (listing sealing) (listing_other clumps_at sealing (omega arith, tt) (omega arith)))

  state_left : Leaves (At (state_at clumps_at) FREE) (create_stores n)
  state_left =
      by_clump (At (state_at clumps_at) FREE)
      (leaves_behind (At (state_at clumps_at) FREE) (store clumps_at (n - clumps_at) ∷ []) (listing sealing)
      (zeros-first (state_at clumps_at) (header_bytes / word_bytes - 2) sealing (omega arith, tt)))

  -- the one clump
  abbrev whole : Head
  whole = record { at = clumps_at; nbytes = n - clumps_at; state = FREE }

  -- so the page is a pool's, and the pool has that clump
  page_left : right_length n ≡ true → Leaves (λ m. is_pool n m ≡ true) (create_stores n)
  unfolding is_pool
  page_left r m =
      rw (r, eq-eqb _ signature_low (low_left m), eq-eqb _ signature_high (high_left m), eq-eqb _ n (total_left m), padding_left m)

  whole_held : right_length n ≡ true → Leaves (λ m. Held n m (whole ∷ [])) (create_stores n)
  whole_held r m =
      let l = right_length_lem n r in
      record {
        page = page_left r m;
        tiles = (record { here = refl; least = omega (arith, l.least); whole = omega (arith, l.least, l.whole); known = omega arith }, omega (arith, l.least));
        reads = (nbytes_left m, state_left m, tt);
        lists = (unjudged n (after m (create_stores n)) whole refl refl, tt);
      }

-- finished, it is a settled pool of one FREE clump, and its static area is zeros
pub creation : Created
unfolding unsettled any touching
creation img r =
    let n = length img in
    let st = create_stores n in
    let h = whole_held n r (mem img) in
    let s = idle_sound n (after (mem img) st) (whole n ∷ []) h (refl, tt) in
    let e = mem-carry img st (create_aligned n (right_length_lem n r)) in
    let w = held_walk n (after (mem img) st) (whole n ∷ []) h in
    rw (stores_are img r) (
      record { pool = rw (length-carry img st, e) s.pool; sound = rw (length-carry img st, e) s.sound; calm = rw (length-carry img st, e, w) },
      rw (length-carry img st, e) w,
      zero_slice static_at page_bytes (carry img st) (rw (length-carry img st) (omega (arith, (right_length_lem n r).least)))
          (blank_bytes (page_bytes / word_bytes) static_at (carry img st) refl (rw e (static_left n (mem img)))),
    )
