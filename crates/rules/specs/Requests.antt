-- The verdict on each of the eleven requests: its tests by rising number (of grow 5 comes last), then its stores (01, "What a request
-- answers" and "Stores and the fuse"; 02, W4 to W6); what the finder answers (02, W7); and what a request makes of an image. Total on any
-- length, any words and any numbers. Assumes nothing.
use Rattle.std.specs.Prelude.{ℕ, ◌+◌, ◌-◌, ◌<◌, ◌≡◌, Bool, true, false, cond, not, List, [], ◌∷◌, eqb, leb, ltb, length, take}
use Rattle.std.proofs.Math.Option.{Option, some, none, map}
use Rattle.rules.specs.declared.Answer.{Answer}
use Rattle.rules.specs.declared.Totals.{Totals}
use Rattle.rules.specs.declared.Request.{Request}
use Rattle.rules.specs.declared.Request.TheVariants.{Create, Reserve, ReserveUncleared, Grow, Onactive, Onfree, Withdraw, Activate, Free, Check, Recover}
use Rattle.rules.specs.Lists.{seek, any}
use Rattle.rules.specs.Words.{Image, Mem, Store, mem, carry, word_values}
use Rattle.rules.specs.Pages.{right_length}
use Rattle.rules.specs.Clumps.{Head, header_bytes, body_of, RESERVED, has_state, is_waiting, is_used, slots, used, unmarked, freed, with_mark, slots_by, walk, before_of, offset_of}
use Rattle.rules.specs.Sound.{is_valid, all_valid}
use Rattle.rules.specs.Answers.{Verdict, granted, refuse, test, if_sound, if_settled, not_pool, size_zero, no_room, no_clump, wrong_state, list_full, list_empty, bad_target, stores_of, answer_of, totals_for}
use Rattle.rules.specs.Stores.{create_stores, need_of, fits, reserve_stores, grow_stores, free_after, list_stores, withdraw_stores, activate_stores, free_stores, recover_stores}

-- reserve, in both forms (W5): 4 for size 0, 5 where "the scan stops" at no clump; the place is "the body's offset"
abbrev pub placed : Bool → ℕ → Option Head → Verdict
placed clears need none = refuse no_room
placed clears need (some h) = granted (body_of h) (reserve_stores clears need h)

unfoldable pub reserve : Bool → List Head → ℕ → Verdict
reserve clears hs size = test (eqb size 0) size_zero (placed clears (need_of size) (seek (fits (need_of size)) hs))

-- the form that clears the body, and the one that "keeps the old rule"
abbrev pub reserving : Bool → ℕ → Request
reserving true size = Reserve size
reserving false size = ReserveUncleared size

-- the clump that has its body at an offset, and 6 where none has
abbrev pub finder : List Head → ℕ → Option Head
finder hs offset = seek (λ h. eqb (body_of h) offset) hs

abbrev pub found : Option Head → (Head → Verdict) → Verdict
found none go = refuse no_clump
found (some h) go = go h

-- W7: "The finder shall answer the header offset and that of the clump before it, or 0 for the first clump."
abbrev pub below_of : List Head → Head → ℕ
below_of hs h = offset_of 0 (before_of hs h)

abbrev pub finding : List Head → ℕ → Option (ℕ × ℕ)
finding hs offset = map (λ h. (h.at, below_of hs h)) (finder hs offset)

-- grow (W6): "If the present body is enough, done with no store. Otherwise, if the next clump is FREE and both together reach the need, take
-- it .. Else answer 5, exactly then."
abbrev pub enlarged : ℕ → ℕ → Head → Option Head → Verdict
enlarged offset need h none = refuse no_room
enlarged offset need h (some next) =
    let both = h.nbytes + next.nbytes in
    test (ltb both need) no_room (granted offset (grow_stores need h.at both))

-- on a clump: 7 unless it is "RESERVED or ACTIVE"
unfoldable pub grown : List Head → ℕ → ℕ → Head → Verdict
grown hs offset size h =
    test (not (is_waiting h)) wrong_state
    (cond (leb size (h.nbytes - header_bytes)) (granted offset []) (enlarged offset (need_of size) h (free_after hs h)))

-- "Size 0 is 4; here 6 and 7 are tested before 5."
unfoldable pub grow : List Head → ℕ → ℕ → Verdict
grow hs offset size = test (eqb size 0) size_zero (found (finder hs offset) (grown hs offset size))

-- W4: "A new entry goes after the last used one, answer 8 if that is the third": the first entry from which on none is used
unfoldable pub open_slot : Mem → List ℕ → Option ℕ
open_slot m [] = none
open_slot m (s ∷ sl) = cond (any (is_used m) (s ∷ sl)) (open_slot m sl) (some s)

-- onactive and onfree on a clump: 7 unless its state is one that is allowed, 8, 10. The word is the target as it is stored.
abbrev pub listed : Bool → Option ℕ → ℕ → ℕ → ℕ → Verdict
listed valid none offset word value = refuse list_full
listed valid (some s) offset word value = test (not valid) bad_target (granted offset (list_stores s word value))

unfoldable pub enlist : Mem → List Head → (Head → Bool) → ℕ → ℕ → ℕ → ℕ → Head → Verdict
enlist m hs allowed offset target word value h =
    test (not (allowed h)) wrong_state
    (listed (is_valid hs target) (open_slot m (slots h.at)) offset word value)

-- withdraw from a clump: 7, 9
abbrev pub withdrawn : List ℕ → ℕ → Verdict
withdrawn [] offset = refuse list_empty
withdrawn (s ∷ sl) offset = granted offset (withdraw_stores s sl)

unfoldable pub withdraw : Mem → ℕ → Head → Verdict
withdraw m offset h = test (not (is_waiting h)) wrong_state (withdrawn (slots_by used m h.at) offset)

-- activate a clump: 7; "every used target must be valid now, else 10"; W4: it judges "the unmarked entries"
unfoldable pub activate : Mem → List Head → ℕ → Head → Verdict
activate m hs offset h =
    test (not (has_state RESERVED h)) wrong_state
    (test (not (all_valid unmarked m hs h)) bad_target (granted offset (activate_stores m h)))

-- free a clump: 7; of an ACTIVE one "every used target must be valid now, else 10"; W4: of a RESERVED one it judges the marked ones, of
-- which there may be none
unfoldable pub free : Mem → List Head → ℕ → Head → Verdict
free m hs offset h =
    test (not (is_waiting h)) wrong_state
    (test (not (all_valid (freed h) m hs h)) bad_target (granted offset (free_stores m hs h)))

-- the verdict on a request, over an image's length and memory. "Create gives 1 only for length." W4: "Onfree always writes" the mark "and
-- now takes RESERVED too."
unfoldable pub verdict : ℕ → Mem → Request → Verdict
verdict n m Create = test (not (right_length n)) not_pool (granted 0 (create_stores n))
verdict n m (Reserve size) = if_settled n m (reserve true (walk n m) size)
verdict n m (ReserveUncleared size) = if_settled n m (reserve false (walk n m) size)
verdict n m (Grow o size) = if_settled n m (grow (walk n m) o size)
verdict n m (Onactive o t v) = let hs = walk n m in if_settled n m (found (finder hs o) (enlist m hs (has_state RESERVED) o t t v))
verdict n m (Onfree o t v) = let hs = walk n m in if_settled n m (found (finder hs o) (enlist m hs is_waiting o t (with_mark t) v))
verdict n m (Withdraw o) = if_settled n m (found (finder (walk n m) o) (withdraw m o))
verdict n m (Activate o) = let hs = walk n m in if_settled n m (found (finder hs o) (activate m hs o))
verdict n m (Free o) = let hs = walk n m in if_settled n m (found (finder hs o) (free m hs o))
verdict n m Check = if_sound n m (granted 0 [])
verdict n m Recover = if_sound n m (granted 0 (recover_stores m (walk n m)))

-- the numbers of a request are words
abbrev pub Numbers : Request → Type 0
Numbers Create = Unit {0}
Numbers (Reserve size) = size < word_values
Numbers (ReserveUncleared size) = size < word_values
Numbers (Grow o size) = (o < word_values) × (size < word_values)
Numbers (Onactive o t v) = (o < word_values) × (t < word_values) × (v < word_values)
Numbers (Onfree o t v) = (o < word_values) × (t < word_values) × (v < word_values)
Numbers (Withdraw o) = o < word_values
Numbers (Activate o) = o < word_values
Numbers (Free o) = o < word_values
Numbers Check = Unit {0}
Numbers Recover = Unit {0}

-- the answer of a request under a fuse
abbrev pub answer_for : ℕ → Mem → Request → ℕ → Answer
answer_for n m q fuse = answer_of fuse (verdict n m q)

-- the same over an image
abbrev pub verdict_on : Image → Request → Verdict
verdict_on img q = verdict (length img) (mem img) q

abbrev pub stores_for : Image → Request → List Store
stores_for img q = stores_of (verdict_on img q)

-- the image after a request under a fuse, and after a finished one
abbrev pub cut : Image → Request → ℕ → Image
cut img q fuse = carry img (take fuse (stores_for img q))

abbrev pub finished : Image → Request → Image
finished img q = carry img (stores_for img q)

-- the answer of a request under a fuse, and check's totals
abbrev pub answer_on : Image → Request → ℕ → Answer
answer_on img q fuse = answer_for (length img) (mem img) q fuse

abbrev pub totals_on : Image → Totals
totals_on img = totals_for (verdict_on img Check) (walk (length img) (mem img))

-- what a request does, answer and whole image: the contract of every entry point
pub record Does (before : Image) (q : Request) (fuse : ℕ) (after : Image) (r : Answer) : Type 0 where
  pub answered : r ≡ answer_on before q fuse
  pub stored : after ≡ cut before q fuse
