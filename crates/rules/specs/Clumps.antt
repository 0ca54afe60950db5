-- Clumps: the header, the on-list, and the walk from clump to clump (01, "Clump header, 64 bytes" and "A sound pool"); the mark of an
-- onfree entry (02, W4). Assumes nothing.
use Rattle.std.specs.Prelude.{ℕ, zero, suc, ◌+◌, ◌-◌, ◌%◌, ◌≤◌, ◌≡◌, Bool, true, false, cond, not, ◌&&◌, ◌||◌, List, [], ◌∷◌, map, eqb, ltb}
use Rattle.std.proofs.Math.Option.{Option, some, none}
use Rattle.rules.specs.Lists.{seek, those}
use Rattle.rules.specs.Words.{Mem, Store, store, word_bytes}
use Rattle.rules.specs.Pages.{clumps_at, unit}

-- "Clump header, 64 bytes"
abbrev pub header_bytes : ℕ
header_bytes = 64

-- the least clump: "nbytes .. below 128" is a fault
abbrev pub least_clump : ℕ
least_clump = 128

-- "the state: 0 FREE, 1 RESERVED, 2 ACTIVATING, 3 ACTIVE, 4 FREEING"
abbrev pub FREE : ℕ
FREE = 0

abbrev pub RESERVED : ℕ
RESERVED = 1

abbrev pub ACTIVATING : ℕ
ACTIVATING = 2

abbrev pub ACTIVE : ℕ
ACTIVE = 3

abbrev pub FREEING : ℕ
FREEING = 4

-- a clump on the walk: where its header stands, its nbytes and its state
pub record Head : Type 0 where
  pub at : ℕ
  pub nbytes : ℕ
  pub state : ℕ

-- "Word 0 is nbytes, header included. Word 8 is the state"
abbrev pub state_at : ℕ → ℕ
state_at a = a + 8

abbrev pub head : Mem → ℕ → Head
head m a = record { at = a; nbytes = m a; state = m (state_at a) }

-- "The body is what follows the header."
abbrev pub body_of : Head → ℕ
body_of h = h.at + header_bytes

abbrev pub end_of : Head → ℕ
end_of h = h.at + h.nbytes

abbrev pub has_state : ℕ → Head → Bool
has_state s h = eqb h.state s

abbrev pub is_free : Head → Bool
is_free = has_state FREE

-- "A clump that isn't FREE is live."
abbrev pub is_live : Head → Bool
is_live h = not (is_free h)

-- RESERVED or ACTIVE: the list waits
abbrev pub is_waiting : Head → Bool
is_waiting h = has_state RESERVED h || has_state ACTIVE h

-- ACTIVATING or FREEING: the list is being carried out
abbrev pub is_pending : Head → Bool
is_pending h = has_state ACTIVATING h || has_state FREEING h

-- "Offsets 16, 32 and 48 hold the three entries of the on-list, each a target word and then a value word"
abbrev pub list_start : ℕ → ℕ
list_start a = a + 16

abbrev pub slots : ℕ → List ℕ
slots a = list_start a ∷ (a + 32) ∷ (a + 48) ∷ []

abbrev pub value_at : ℕ → ℕ
value_at s = s + word_bytes

-- "target 0 means empty"; W4: "only a stored 0 is empty"
abbrev pub is_empty : Mem → ℕ → Bool
is_empty m s = eqb (m s) 0

-- a test of the target word that is stored, by which entries are chosen
abbrev pub Choice : Type 0
Choice = ℕ → Bool

abbrev pub used : Choice
used t = not (eqb t 0)

abbrev pub is_used : Mem → ℕ → Bool
is_used m s = used (m s)

-- W4: "Bit 0 of a stored target marks an onfree entry"
abbrev pub mark : ℕ
mark = 1

abbrev pub bit_values : ℕ
bit_values = 2

unfoldable pub marked : Choice
marked t = eqb (t % bit_values) mark

unfoldable pub unmarked : Choice
unmarked t = used t && not (marked t)

-- no entry at all
abbrev pub nothing : Choice
nothing t = false

-- "the target is the number without it", and the number with it
unfoldable pub target_of : ℕ → ℕ
target_of t = t - t % bit_values

abbrev pub with_mark : ℕ → ℕ
with_mark t = t + mark

-- where the chosen entries of the clump at a stand, first to last
abbrev pub slots_by : Choice → Mem → ℕ → List ℕ
slots_by c m a = those (λ s. c (m s)) (slots a)

-- the target of the entry that stands at s
abbrev pub target_at : Mem → ℕ → ℕ
target_at m s = target_of (m s)

-- the entry that stands at s, as the store that it asks for
abbrev pub entry : Mem → ℕ → Store
entry m s = store (target_at m s) (m (value_at s))

-- the chosen entries of the clump at a, in list order
abbrev pub entries_by : Choice → Mem → ℕ → List Store
entries_by c m a = map (entry m) (slots_by c m a)

-- W4, the entries that are carried out in an unfinished clump: "Activate, and recovery of an ACTIVATING clump, .. the unmarked entries";
-- "An unmarked entry of an ACTIVE or FREEING clump is an old onfree and counts as one."
abbrev pub due : Head → Choice
due h = cond (has_state ACTIVATING h) unmarked used

-- the entries that wait: those of a RESERVED or ACTIVE clump, and W4: of an ACTIVATING one "marked ones wait"
abbrev pub waiting : Head → Choice
waiting h = cond (is_waiting h) used (cond (has_state ACTIVATING h) marked nothing)

-- the entries that free carries out: W4: of a RESERVED clump the marked ones
abbrev pub freed : Head → Choice
freed h = cond (has_state ACTIVE h) used marked

-- "The walk starts at 16384; each clump is followed by the one at its offset plus nbytes." It ends at n, the image's length.
-- A clump without fault has a byte or more, so that n steps last wherever no fault stands before.
unfoldable pub heads_from : ℕ → ℕ → Mem → ℕ → List Head
heads_from zero n m a = []
heads_from (suc k) n m a = elim (ltb a n) [ true ↦ head m a ∷ heads_from k n m (a + m a) | false ↦ [] ]

unfoldable pub walk : ℕ → Mem → List Head
walk n m = heads_from n n m clumps_at

-- the clump that follows h on the walk, "the one at its offset plus nbytes", and the one that h follows
abbrev pub next_of : List Head → Head → Option Head
next_of hs h = seek (λ k. eqb k.at (end_of h)) hs

abbrev pub before_of : List Head → Head → Option Head
before_of hs h = seek (λ k. eqb (end_of k) h.at) hs

-- the header offset of a clump, or a mark where there is none: 01's "the header offset found or an end mark"
abbrev pub offset_of : ℕ → Option Head → ℕ
offset_of mark none = mark
offset_of mark (some h) = h.at

-- the clumps hs tile from a to b: each stands where the one before ends, and is a multiple of 64 and at least 128
pub record Sits (a : ℕ) (h : Head) : Type 0 where
  pub here : h.at ≡ a
  pub least : least_clump ≤ h.nbytes
  pub whole : h.nbytes % unit ≡ 0
  pub known : h.state ≤ FREEING

abbrev pub Tiles : ℕ → List Head → ℕ → Type 0
Tiles a [] b = a ≡ b
Tiles a (h ∷ hs) b = Sits a h × Tiles (a + h.nbytes) hs b
