-- What is promised of a request, as named statements: the first two demands, and the sentences of 01 and 02 that speak of all requests
-- at once. PowerLoss has the third demand.
-- Nothing is proved here: the crate that proves a statement has a value of that very type. Assumes nothing.
use Rattle.std.specs.Prelude.{ℕ, ◌+◌, ◌-◌, ◌*◌, ◌%◌, ◌<◌, ◌≤◌, ◌≡◌, Bool, true, false, cond, ◌↔◌, ◌⊎◌, List, [], ◌∷◌, ◌++◌, eqb, length, get_or, take}
use Rattle.std.proofs.Math.Option.{Option, some, none}
use Rattle.rules.specs.declared.Answer.{Answer}
use Rattle.rules.specs.declared.Request.{Request}
use Rattle.rules.specs.declared.Request.TheVariants.{Create, Reserve, ReserveUncleared, Grow, Onactive, Onfree, Withdraw, Activate, Free, Check, Recover}
use Rattle.rules.specs.Lists.{seek, any, Each}
use Rattle.rules.specs.Words.{Image, Mem, Store, Bytes, Aligned, mem, word_bytes}
use Rattle.rules.specs.Pages.{is_pool, static_at, clumps_at}
use Rattle.rules.specs.Clumps.{Head, header_bytes, body_of, end_of, FREE, RESERVED, ACTIVE, has_state, is_live, is_waiting, is_pending, Choice, used, unmarked, due, freed, entries_by, next_of}
use Rattle.rules.specs.Sound.{judge, unsettled}
use Rattle.rules.specs.Answers.{done, not_sound, no_room, cut_short}
use Rattle.rules.specs.Stores.{create_count, need_of, least_rest, cleared_words, split_count, whole_count, free_after, split_grow_count, whole_grow_count, most_activate_count, most_free_count}
use Rattle.rules.specs.Requests.{Numbers, Does, reserving, cut, finished, finder, stores_for, answer_on, totals_on}
use Rattle.rules.specs.Reading.{clumps_of, listing, within, in_part, hidden, in_spare_page}
use Rattle.rules.specs.Traces.{is_create}

-- "Prove that any two outcomes it allows are equal"
abbrev pub Determined : Type 0
Determined = (img : Image) (q : Request) (fuse : ℕ) (x y : Image) (r s : Answer) → Does img q fuse x r → Does img q fuse y s → (x ≡ y) × (r ≡ s)

-- Demand 1: "a refusal gives the answer that 01 names and changes no byte". "Answers 1 to 10 make no store." "Fault is 0 except with
-- answer 2."
abbrev pub Refusals : Type 0
Refusals =
    (img : Image) (q : Request) (fuse : ℕ)
    → let r = answer_on img q fuse in
    (r.answer ≤ cut_short)
    × (done < r.answer → r.answer < cut_short → (r.stores ≡ 0) × (cut img q fuse ≡ img))
    × ((r.answer ≡ not_sound → ⊥) → r.fault ≡ 0)

-- "If the list is longer, the answer is 11; a fuse equal to its length is enough." "The count is the number made"
abbrev pub Fuses : Type 0
Fuses =
    (img : Image) (q : Request) (fuse : ℕ)
    → let r = answer_on img q fuse in
    ((r.answer ≡ cut_short) ↔ (fuse < length (stores_for img q))) × (r.stores ≡ length (take fuse (stores_for img q)))

-- "Each store changes at most one aligned word."
abbrev pub OneWord : Type 0
OneWord = (img : Image) (q : Request) → Bytes img → Numbers q → Each (Aligned (length img)) (stores_for img q)

-- an image in which requests are served: a pool, sound, nothing unfinished, no two FREE touching
pub record Settled (img : Image) : Type 0 where
  pub pool : is_pool (length img) (mem img) ≡ true
  pub sound : judge (length img) (mem img) ≡ none
  pub calm : unsettled (clumps_of img) ≡ false

-- a request that is granted: its answer is 0 once the fuse lasts
abbrev pub Accepted : Image → Request → Type 0
Accepted img q = (answer_on img q (length (stores_for img q))).answer ≡ done

-- Demand 2: "'no room' exactly if no FREE clump is large enough", of both forms of reserve (W5)
abbrev pub NoRoom : Type 0
NoRoom =
    (img : Image) (clears : Bool) (size fuse : ℕ)
    → Settled img
    → 0 < size
    → ((answer_on img (reserving clears size) fuse).answer ≡ no_room)
    ↔ Each (λ h. h.state ≡ FREE → h.nbytes < need_of size) (clumps_of img)

-- Demand 2: "first fit". "The scan stops at the first FREE clump with nbytes at least need": a reserve that is done answers with the
-- body of a clump of the walk that is FREE and large enough, and no FREE one before it is
abbrev pub FirstFit : Type 0
FirstFit =
    (img : Image) (clears : Bool) (size fuse : ℕ)
    → let r = answer_on img (reserving clears size) fuse in
    r.answer ≡ done
    → (lower : List Head)
    × (h : Head)
    × (higher : List Head)
    × (clumps_of img ≡ lower ++ (h ∷ higher))
    × (r.place ≡ body_of h)
    × (h.state ≡ FREE)
    × (need_of size ≤ h.nbytes)
    × Each (λ k. k.state ≡ FREE → k.nbytes < need_of size) lower

-- two clumps share no byte
abbrev pub Apart : Head → Head → Type 0
Apart h k = (end_of h ≤ k.at) ⊎ (end_of k ≤ h.at)

-- a body that was reserved is as large as was asked, and its clump shares no byte with a clump that was live before
abbrev pub Fresh : Type 0
Fresh =
    (img : Image) (clears : Bool) (size fuse : ℕ)
    → let r = answer_on img (reserving clears size) fuse in
    Bytes img
    → r.answer ≡ done
    → (h : Head)
    × (finder (clumps_of (finished img (reserving clears size))) r.place ≡ some h)
    × (h.state ≡ RESERVED)
    × (body_of h + size ≤ end_of h)
    × Each (λ k. is_live k ≡ true → Apart h k) (clumps_of img)

-- W5, of the first form: after a finished reserve every byte of the new body is 0; and in no image that a cut of it leaves is the new
-- clump RESERVED while a byte of its body is not 0 ("A technician read an old valve position out of a fresh record", and reads images that
-- nobody has recovered)
abbrev pub Cleared : Type 0
Cleared =
    (img : Image) (size fuse i : ℕ) (h : Head)
    → let q = Reserve size in
    let x = cut img q fuse in
    Bytes img
    → Accepted img q
    → finder (clumps_of x) (answer_on img q (length (stores_for img q))).place ≡ some h
    → within (body_of h) (end_of h) i ≡ true
    → ((answer_on img q fuse).answer ≡ done → get_or x i 0 ≡ 0) × (h.state ≡ RESERVED → get_or x i 0 ≡ 0)

-- "The body isn't cleared." W5: of the form that "keeps the old rule" every byte of a body that was reserved is what it was
abbrev pub NotCleared : Type 0
NotCleared =
    (img : Image) (size fuse i : ℕ) (h : Head)
    → let r = answer_on img (ReserveUncleared size) fuse in
    let x = finished img (ReserveUncleared size) in
    Bytes img
    → r.answer ≡ done
    → finder (clumps_of x) r.place ≡ some h
    → within (body_of h) (end_of h) i ≡ true
    → get_or x i 0 ≡ get_or img i 0

-- W6, grow: the next clump is missing, or is not FREE, or both together do not reach the need
abbrev pub NoneToTake : ℕ → Head → Option Head → Type 0
NoneToTake need h none = Unit {0}
NoneToTake need h (some next) = (next.state ≡ FREE → ⊥) ⊎ (h.nbytes + next.nbytes < need)

-- the earlier tests pass, "the present body" is not enough, and there is none to take
pub record NoGrowth (img : Image) (offset size : ℕ) : Type 0 where
  pub settled : Settled img
  pub asked : 0 < size
  pub clump : Head
  pub found : finder (clumps_of img) offset ≡ some clump
  pub state : (clump.state ≡ RESERVED) ⊎ (clump.state ≡ ACTIVE)
  pub less : end_of clump < body_of clump + size
  pub none_left : NoneToTake (need_of size) clump (next_of (clumps_of img) clump)

-- W6: "Else answer 5, exactly then"
abbrev pub GrowRoom : Type 0
GrowRoom = (img : Image) (offset size fuse : ℕ) → ((answer_on img (Grow offset size) fuse).answer ≡ no_room) ↔ NoGrowth img offset size

-- the clump of img that has its body at an offset stands in x with the same state, the same list and a body of at least the size. "The old
-- body bytes stay; the added ones aren't cleared": each byte of the body is what it was. It shares no byte with another clump that was live
pub record Grew (img x : Image) (offset size : ℕ) : Type 0 where
  pub old : Head
  pub new : Head
  pub found : finder (clumps_of img) offset ≡ some old
  pub stands : finder (clumps_of x) offset ≡ some new
  pub state : new.state ≡ old.state
  pub list : listing used (mem x) new.at ≡ listing used (mem img) old.at
  pub enough : body_of new + size ≤ end_of new
  pub longer : old.nbytes ≤ new.nbytes
  pub bytes : (i : ℕ) → within (body_of new) (end_of new) i ≡ true → get_or x i 0 ≡ get_or img i 0
  pub apart : Each (λ k. is_live k ≡ true → (k.at ≡ old.at → ⊥) → Apart new k) (clumps_of img)

-- W6, after a grow that is done
abbrev pub Grown : Type 0
Grown =
    (img : Image) (offset size fuse : ℕ)
    → let r = answer_on img (Grow offset size) fuse in
    Bytes img
    → r.answer ≡ done
    → (r.place ≡ offset) × Grew img (finished img (Grow offset size)) offset size

-- the entries that a request carries out in the clump that it finds, if that passes the test, and it is granted
abbrev pub entries_of : (Head → Bool) → (Head → Choice) → Mem → Option Head → List Store
entries_of t c m none = []
entries_of t c m (some h) = cond (t h) (entries_by (c h) m h.at) []

abbrev pub carried_out : Mem → List Head → Request → List Store
carried_out m hs Create = []
carried_out m hs (Reserve size) = []
carried_out m hs (ReserveUncleared size) = []
carried_out m hs (Grow o size) = []
carried_out m hs (Onactive o t v) = []
carried_out m hs (Onfree o t v) = []
carried_out m hs (Withdraw o) = []
carried_out m hs (Activate o) = entries_of (has_state RESERVED) (λ h. unmarked) m (finder hs o)
carried_out m hs (Free o) = entries_of is_waiting freed m (finder hs o)
carried_out m hs Check = []
carried_out m hs Recover = entries_of is_pending due m (seek is_pending hs)

-- Reserve: "With a rest of 128 or more .. 7 stores. With a smaller rest .. 4 stores." W5: these "grow by body bytes divided by 8"
abbrev pub CountedReserve : Bool → Image → ℕ → Answer → Type 0
CountedReserve clears img size r =
    (h : Head)
    × (finder (clumps_of img) r.place ≡ some h)
    × (need_of size + least_rest ≤ h.nbytes → r.stores ≡ split_count + cleared_words clears (need_of size))
    × (h.nbytes < need_of size + least_rest → r.stores ≡ whole_count + cleared_words clears h.nbytes)

-- Grow (W6): "If the present body is enough, done with no store. Otherwise .. the rest's header first, then one store"; without a rest the one
abbrev pub CountedGrow : Image → ℕ → ℕ → Answer → Type 0
CountedGrow img offset size r =
    (h : Head)
    × (finder (clumps_of img) offset ≡ some h)
    × (body_of h + size ≤ end_of h → r.stores ≡ 0)
    × (end_of h < body_of h + size
    → (next : Head)
    × (free_after (clumps_of img) h ≡ some next)
    × (need_of size + least_rest ≤ h.nbytes + next.nbytes → r.stores ≡ split_grow_count)
    × (h.nbytes + next.nbytes < need_of size + least_rest → r.stores ≡ whole_grow_count))

-- How many stores a request makes that is done. Create: "1,033 stores." Reserve and grow: as above. Onactive and onfree: "value, then target".
-- Withdraw: "0 to the last used target". Activate: "With e entries this makes 2 + 2e stores, 8 at most", of the unmarked entries (W4).
-- Free: "At most 7 stores." Of recover no number is given.
abbrev pub Counted : Image → Request → Answer → Type 0
Counted img Create r = r.stores ≡ create_count
Counted img (Reserve size) r = CountedReserve true img size r
Counted img (ReserveUncleared size) r = CountedReserve false img size r
Counted img (Grow o size) r = CountedGrow img o size r
Counted img (Onactive o t v) r = r.stores ≡ 2
Counted img (Onfree o t v) r = r.stores ≡ 2
Counted img (Withdraw o) r = r.stores ≡ 1
Counted img (Activate o) r = (r.stores ≡ 2 + 2 * length (carried_out (mem img) (clumps_of img) (Activate o))) × (r.stores ≤ most_activate_count)
Counted img (Free o) r = r.stores ≤ most_free_count
Counted img Check r = r.stores ≡ 0
Counted img Recover r = Unit {0}

abbrev pub Counts : Type 0
Counts = (img : Image) (q : Request) (fuse : ℕ) → let r = answer_on img q fuse in r.answer ≡ done → Counted img q r

-- the tightest range around stores: one is made where it begins, one ends where it ends, and none reaches beyond
abbrev pub Tightest : ℕ → ℕ → List Store → Type 0
Tightest from to st =
    (any (λ s. eqb s.to from) st ≡ true)
    × (any (λ s. eqb (s.to + word_bytes) to) st ≡ true)
    × Each (λ s. (from ≤ s.to) × (s.to + word_bytes ≤ to)) st

-- W1: "Every answer should also carry the lowest offset stored to and the offset just past the highest. Both are 0 when nothing was
-- stored. .. A cut answer covers only the stores made." And every byte outside is what it was.
abbrev pub Flushes : Type 0
Flushes =
    (img : Image) (q : Request) (fuse : ℕ)
    → let r = answer_on img q fuse in
    let from = r.flush_from in
    let to = r.flush_to in
    ((r.stores ≡ 0) ↔ ((from ≡ 0) × (to ≡ 0)))
    × (0 < r.stores → Tightest from to (take fuse (stores_for img q)))
    × ((i : ℕ) → within from to i ≡ false → get_or (cut img q fuse) i 0 ≡ get_or img i 0)

-- so what the driver is told to flush are whole words of the image
abbrev pub FlushesInside : Type 0
FlushesInside =
    (img : Image) (q : Request) (fuse : ℕ)
    → let r = answer_on img q fuse in
    Bytes img
    → Numbers q
    → (r.flush_from % word_bytes ≡ 0)
    × (r.flush_to % word_bytes ≡ 0)
    × (r.flush_to ≤ length img)

-- W1: "A finished create gives 4096 and 16448."
abbrev pub CreateFlushes : Type 0
CreateFlushes =
    (img : Image) (fuse : ℕ)
    → let r = answer_on img Create fuse in
    r.answer ≡ done
    → (r.flush_from ≡ static_at) × (r.flush_to ≡ clumps_at + header_bytes)

-- Demand 2: "bodies and static area change only at the words named in the list being carried out"
abbrev pub OnlyNamed : Type 0
OnlyNamed =
    (img : Image) (q : Request) (fuse i : ℕ)
    → let hs = clumps_of img in
    is_create q ≡ false
    → in_part is_live hs i ≡ true
    → any (λ s. within s.to (s.to + word_bytes) i) (carried_out (mem img) hs q) ≡ false
    → get_or (cut img q fuse) i 0 ≡ get_or img i 0

-- | 0 and 8192 | 4,096 bytes each, never read or written |: no request, finished or cut, changes a byte there. (That none reads there is
-- a part of Independent.)
abbrev pub NeverWritten : Type 0
NeverWritten = (img : Image) (q : Request) (fuse i : ℕ) → in_spare_page i ≡ true → get_or (cut img q fuse) i 0 ≡ get_or img i 0

-- "they add up to length minus 16384"
abbrev pub TotalsAdd : Type 0
TotalsAdd =
    (img : Image) (fuse : ℕ)
    → let t = totals_on img in
    (answer_on img Check fuse).answer ≡ done
    → t.free + t.reserved + t.activating + t.active + t.freeing ≡ length img - clumps_at

-- two images that differ only in bodies, in the static area, in pages 0 and 8192, in the lists of FREE clumps and in the values of
-- empty entries
pub record Alike (img x : Image) : Type 0 where
  pub long : length x ≡ length img
  pub same : (i : ℕ) → hidden (mem img) (clumps_of img) i ≡ false → get_or x i 0 ≡ get_or img i 0

-- "No answer depends on a body byte, on the static area or on pages 0 and 8192. Two images that differ only there get equal
-- answers, places and counts." "The list of a FREE clump and the value of an empty entry mean nothing."
abbrev pub Independent : Type 0
Independent =
    (img x : Image) (q : Request) (fuse : ℕ)
    → Alike img x
    → (answer_on x q fuse ≡ answer_on img q fuse) × (totals_on x ≡ totals_on img)
