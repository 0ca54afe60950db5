-- The list of stores of each request (01, "Stores and the fuse"; 02, W4 to W6). A list reads the memory before the request alone.
-- Assumes nothing.
use Rattle.std.specs.Prelude.{ℕ, ◌+◌, ◌-◌, ◌*◌, ◌/◌, Bool, cond, ◌&&◌, ◌||◌, List, [], ◌∷◌, ◌++◌, map, leb}
use Rattle.std.proofs.Math.Option.{Option, some, none}
use Rattle.rules.specs.Lists.{seek, those, any}
use Rattle.rules.specs.Words.{Mem, Store, store, word_bytes, zeros}
use Rattle.rules.specs.Pages.{page_bytes, static_at, header_at, signature_low, signature_high, signature_high_at, total_at, padding_at, padding_words, clumps_at, unit}
use Rattle.rules.specs.Clumps.{Head, header_bytes, state_at, FREE, RESERVED, ACTIVATING, ACTIVE, FREEING, has_state, is_free, is_pending, slots, value_at, Choice, used, marked, unmarked, slots_by, entries_by, next_of, before_of}
use Rattle.rules.specs.Answers.{bytes_of}

-- 0 to each of the target words
abbrev pub emptying : List ℕ → List Store
emptying sl = map (λ s. store s 0) sl

abbrev pub set_state : Head → ℕ → Store
set_state h s = store (state_at h.at) s

-- "Create: 0 to 12288; 0 to each static word, upward; the words 12296 to 16376 upward as the header wants them; the eight words
-- at 16384 (nbytes = length - 16384, then zeros); last the first signature word at 12288."
unfoldable pub create_stores : ℕ → List Store
create_stores n =
    store header_at 0
    ∷ (zeros static_at (page_bytes / word_bytes)
    ++ (store signature_high_at signature_high
    ∷ store total_at n
    ∷ (zeros padding_at padding_words
    ++ (store clumps_at (n - clumps_at)
    ∷ (zeros (clumps_at + word_bytes) (header_bytes / word_bytes - 1) ++ (store header_at signature_low ∷ []))))))

-- "1,033 stores."
abbrev pub create_count : ℕ
create_count = 1033

-- "need = 64 + the size rounded up to a multiple of 64, in whole numbers, never wrapped"
unfoldable pub need_of : ℕ → ℕ
need_of size = header_bytes + (size + (unit - 1)) / unit * unit

-- "the first FREE clump with nbytes at least need"
abbrev pub fits : ℕ → Head → Bool
fits need h = is_free h && leb need h.nbytes

-- "With a rest of 128 or more" so many bytes are split for a need
abbrev pub least_rest : ℕ
least_rest = 128

abbrev pub is_split : ℕ → ℕ → Bool
is_split need size = leb least_rest (size - need)

-- "nbytes and state FREE of the rest's header"
abbrev pub rest_header : ℕ → ℕ → List Store
rest_header b rest = store b rest ∷ store (state_at b) FREE ∷ []

-- W5: "Reserve stores 0 to every word of the body, upward"; "a second form of the request keeps the old rule" and clears none. So many
-- words of a clump of size bytes it clears
unfoldable pub cleared_words : Bool → ℕ → ℕ
cleared_words clears size = cond clears ((size - header_bytes) / word_bytes) 0

-- and these are its stores at the clump at a
abbrev pub clearing : Bool → ℕ → ℕ → List Store
clearing clears a size = zeros (a + header_bytes) (cleared_words clears size)

-- it clears them "after the sizes are right and before the state becomes RESERVED": so it ends, in a clump of size bytes at a
abbrev pub taking : Bool → ℕ → ℕ → List Store
taking clears a size = clearing clears a size ++ (store (state_at a) RESERVED ∷ [])

-- "nbytes and state FREE of the rest's header; then 0 to the three targets of the chosen clump; nbytes = need; state RESERVED.
-- .. With a smaller rest the whole clump is used: targets, state"
unfoldable pub reserve_stores : Bool → ℕ → Head → List Store
reserve_stores clears need h =
    let a = h.at in
    cond (is_split need h.nbytes)
    (rest_header (a + need) (h.nbytes - need) ++ (emptying (slots a) ++ (store a need ∷ taking clears a need)))
    (emptying (slots a) ++ taking clears a h.nbytes)

-- "7 stores. With a smaller rest .. 4 stores." W5: "The store counts of 01 grow by body bytes divided by 8", which `cleared_words` is
abbrev pub split_count : ℕ
split_count = 7

abbrev pub whole_count : ℕ
whole_count = 4

-- "value, then target"
abbrev pub list_stores : ℕ → ℕ → ℕ → List Store
list_stores s target value = store (value_at s) value ∷ store s target ∷ []

-- "0 to the last used target"
abbrev pub last_of : ℕ → List ℕ → ℕ
last_of s [] = s
last_of s (t ∷ sl) = last_of t sl

abbrev pub withdraw_stores : ℕ → List ℕ → List Store
withdraw_stores s sl = store (last_of s sl) 0 ∷ []

-- "each value to its target, in list order; 0 to each used target word of the list, first to last; state ACTIVE". W4: of the unmarked
-- entries; "marked ones wait"
unfoldable pub finish_activating : Mem → Head → List Store
finish_activating m h = entries_by unmarked m h.at ++ (emptying (slots_by unmarked m h.at) ++ (set_state h ACTIVE ∷ []))

-- "the assignments in order; state FREE", of the chosen entries
unfoldable pub finish_freeing : Choice → Mem → Head → List Store
finish_freeing c m h = entries_by c m h.at ++ (set_state h FREE ∷ [])

-- "State ACTIVATING; each value to its target .. "
unfoldable pub activate_stores : Mem → Head → List Store
activate_stores m h = set_state h ACTIVATING ∷ finish_activating m h

-- "8 at most"
abbrev pub most_activate_count : ℕ
most_activate_count = 8

-- "RESERVED: state FREE, list dropped. ACTIVE: .. state FREEING; the assignments in order; state FREE." W4: "Free of a RESERVED clump with
-- no marked entry stays as in 01; otherwise it .. empties the unmarked ones first to last and goes by FREEING."
abbrev pub has_marked : Mem → Head → Bool
has_marked m h = any (λ s. marked (m s)) (slots h.at)

unfoldable pub drop_stores : Mem → Head → List Store
drop_stores m h =
    cond (has_state ACTIVE h)
    (set_state h FREEING ∷ finish_freeing used m h)
    (cond (has_marked m h) (emptying (slots_by unmarked m h.at) ++ (set_state h FREEING ∷ finish_freeing marked m h)) (set_state h FREE ∷ []))

-- the next clump, if it is FREE, and the one before, if it is
abbrev pub if_free : Option Head → Option Head
if_free none = none
if_free (some k) = cond (is_free k) (some k) none

abbrev pub free_after : List Head → Head → Option Head
free_after hs h = if_free (next_of hs h)

abbrev pub free_before : List Head → Head → Option Head
free_before hs h = if_free (before_of hs h)

-- W6, the clump at a grows into the next one, and both together have so many bytes: "splitting off a rest by reserve's rule: the rest's header
-- first, then one store of the grown nbytes"; without a rest that of both
unfoldable pub grow_stores : ℕ → ℕ → ℕ → List Store
grow_stores need a both =
    cond (is_split need both) (rest_header (a + need) (both - need) ++ (store a need ∷ [])) (store a both ∷ [])

-- "the rest's header first, then one store": three stores, or the one
abbrev pub split_grow_count : ℕ
split_grow_count = 3

abbrev pub whole_grow_count : ℕ
whole_grow_count = 1

-- "Then, if the next clump is FREE, nbytes = both; then, if the one before is FREE, its nbytes = all."
abbrev pub join_before : Option Head → ℕ → List Store
join_before none size = []
join_before (some k) size = store k.at (k.nbytes + size) ∷ []

abbrev pub join_both : Option Head → Option Head → Head → List Store
join_both none before h = join_before before h.nbytes
join_both (some k) before h = store h.at (h.nbytes + k.nbytes) ∷ join_before before (h.nbytes + k.nbytes)

unfoldable pub free_stores : Mem → List Head → Head → List Store
free_stores m hs h = drop_stores m h ++ join_both (free_after hs h) (free_before hs h) h

-- "At most 7 stores."
abbrev pub most_free_count : ℕ
most_free_count = 7

-- "finish the ACTIVATING clump (assign, empty the list, ACTIVE) or the FREEING one (assign, FREE)"
abbrev pub finishing : Mem → Option Head → List Store
finishing m none = []
finishing m (some h) = cond (has_state ACTIVATING h) (finish_activating m h) (finish_freeing used m h)

-- "then each RESERVED to FREE, upward"
unfoldable pub releasing : List Head → List Store
releasing hs = map (λ h. set_state h FREE) (those (has_state RESERVED) hs)

-- the clump as it then is
abbrev pub released : Head → Head
released h =
    record {
      at = h.at;
      nbytes = h.nbytes;
      state = cond (has_state RESERVED h || has_state FREEING h) FREE (cond (has_state ACTIVATING h) ACTIVE h.state);
    }

-- the clumps in runs: touching FREE clumps make one, and any other clump is one by itself
pub record Run : Type 0 where
  pub first : Head
  pub more : List Head

abbrev pub in_front : Head → List Run → List Run
in_front h [] = record { first = h; more = [] } ∷ []
in_front h (r ∷ rs) =
    cond (is_free h && is_free r.first)
    (record { first = h; more = r.first ∷ r.more } ∷ rs)
    (record { first = h; more = [] } ∷ r ∷ rs)

unfoldable pub runs : List Head → List Run
runs [] = []
runs (h ∷ hs) = in_front h (runs hs)

-- "then, upward, one store for each run of touching FREE clumps, their sum to the nbytes of its first"
abbrev pub join_run : Head → List Head → List Store → List Store
join_run h [] st = st
join_run h (k ∷ hs) st = store h.at (bytes_of (h ∷ k ∷ hs)) ∷ st

unfoldable pub joining : List Run → List Store
joining [] = []
joining (r ∷ rs) = join_run r.first r.more (joining rs)

unfoldable pub recover_stores : Mem → List Head → List Store
recover_stores m hs = finishing m (seek is_pending hs) ++ (releasing hs ++ joining (runs (map released hs)))
