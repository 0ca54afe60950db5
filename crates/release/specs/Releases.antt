-- The stores of free as the code makes them, that they are the rules', and a law for each way out of free: by the state and whether an entry
-- is marked, and by where the clumps beside stand. Assumes nothing.
use Rattle.std.specs.Prelude.{ℕ, ◌+◌, ◌%◌, ◌<◌, ◌≤◌, ◌≡◌, refl, Bool, true, false, cond, not, ◌||◌, eqb, length}
use Rattle.std.proofs.Common.{sym, ap, ap₂, ◌∙◌, arith, ne_eqb, eqb-true}
use Rattle.std.proofs.Math.Option.{Option, some, none}
use mathlib.Core.List.{List, [], ◌∷◌, ◌++◌}
use Rattle.rules.specs.Lists.{any}
use Rattle.rules.specs.Words.{Image, Mem, Store, mem, store, word_bytes, word_values}
use Rattle.rules.specs.Clumps.{Head, head, end_of, is_waiting, has_state, state_at, header_bytes, ACTIVE, FREEING, FREE, used, marked, unmarked, freed, before_of, offset_of}
use Rattle.rules.specs.Sound.{all_valid}
use Rattle.rules.specs.Answers.{granted, refuse, wrong_state, bad_target}
use Rattle.rules.specs.Stores.{finish_freeing, has_marked, drop_stores, if_free, free_after, free_before, join_before, join_both, free_stores}
use Rattle.rules.specs.Requests.{free}
use Rattle.rules.specs.Reading.{clumps_of, Tiled}
use Rattle.laws.specs.Searches.{seek_split}
use Rattle.laws.specs.Walking.{seek_placed}
use Rattle.laws.specs.Neighbours.{if_free_lem, clump_at, stands_header, before_at}
use Rattle.laws.specs.Lying.{Lies, placed-lies}
use Rattle.laws.specs.Choices.{chooses_marked, chooses_unmarked, chooses_freed}
use Rattle.page.specs.Forms.{list_at, only_in, reach_of}
use Rattle.page.specs.Slots.{only_word, only-used}
use Rattle.page.specs.declared.clump.Clump.{Clump}
use Rattle.walk.specs.Forms.{list_valid}
use Rattle.walk.specs.Scans.{Finds, list_valid_lem}
use Rattle.walk.specs.Beside.{size_of, free_bytes, free_stands, size_room}
use Rattle.walk.specs.Beside as beside
use Rattle.rules.specs.declared.Answer.{Answer}
use Rattle.word.specs.declared.Power.{Power}
use Rattle.word.specs.Runs.{full, Ran, told, ran_then, ran_as}
use Rattle.steps.specs.Acts.{Acts, acts_ran}
use Rattle.steps.specs.Lists.{assigns_of, empties_of, assigns_are, assigns_all, empties_are}

-- the rules' `freed` of a list that was read
abbrev pub freed_in : ℕ → List (List ℕ) → List (List ℕ)
freed_in state l = cond (eqb state ACTIVE) l (only_in marked l)

-- the stores to the clump itself, by its state and the list that was read
abbrev pub carry_of : ℕ → List (List ℕ) → List Store
carry_of h l = store (state_at h) FREEING ∷ (assigns_of l ++ (store (state_at h) FREE ∷ []))

abbrev pub drop_of : ℕ → ℕ → List (List ℕ) → List Store
drop_of h state l =
    cond (eqb state ACTIVE) (carry_of h l)
    (cond (eqb (reach_of (only_in marked l)) 0) (store (state_at h) FREE ∷ []) (empties_of (h + 16) (only_in unmarked l) ++ carry_of h (only_in marked l)))

-- one store where there is a clump to join, which has bytes
abbrev pub store_if : ℕ → ℕ → ℕ → List Store
store_if bytes at w = cond (eqb bytes 0) [] (store at w ∷ [])

-- the clump c, which has its body at the offset asked about, as the code has it before it is freed
pub record Releasing (img : Image) (offset below : ℕ) (c : Clump) (l : List (List ℕ)) : Type 0 where
  pub tiles : Tiled img
  pub finds : Finds (length img) (mem img) offset c.at below
  pub size : c.nbytes ≡ mem img c.at
  pub is : c.state ≡ mem img (state_at c.at)
  pub list : l ≡ list_at (mem img) c.at
  pub small : length img < word_values
  pub valid : list_valid (clumps_of img) (freed_in c.state l) ≡ true

-- free, a law for each way out
module _ (m : Mem) (hs : List Head) (o : ℕ) (h : Head) where
  pub free_state : is_waiting h ≡ false → free m hs o h ≡ refuse wrong_state
  unfolding free
  free_state e = rw e

  pub free-bad : is_waiting h ≡ true → all_valid (freed h) m hs h ≡ false → free m hs o h ≡ refuse bad_target
  unfolding free
  free-bad e f = rw (e, f)

  pub free-done : is_waiting h ≡ true → all_valid (freed h) m hs h ≡ true → free m hs o h ≡ granted o (free_stores m hs h)
  unfolding free
  free-done e f = rw (e, f)

-- whether a list may be dropped, by the state and the list that were read
pub may_drop :
    (m : Mem) (hs : List Head) (h state : ℕ) (l : List (List ℕ)) → state ≡ m (state_at h) → l ≡ list_at m h → list_valid hs (freed_in state l) ≡ all_valid (freed (head m h)) m hs (head m h)
may_drop m hs h state l e f =
    list_valid_lem (freed (head m h)) (chooses_freed (head m h)) m hs h _ (ap₂ (λ (s : ℕ) (k : List (List ℕ)). freed_in s k) e f ∙ go (has_state ACTIVE (head m h)))
  where
    go : (b : Bool) → cond b (list_at m h) (only_in marked (list_at m h)) ≡ only_in (cond b used marked) (list_at m h)
    go true = sym (only-used m h)
    go false = refl

-- whether an entry is marked, by how far the marked ones reach
marked_any : (m : Mem) (h : Head) → eqb (reach_of (only_in marked (list_at m h.at))) 0 ≡ not (has_marked m h)
unfolding any
marked_any m h =
    let w = only_word marked chooses_marked in
    rw (w (m (h.at + 16)), w (m (h.at + 32)), w (m (h.at + 48))) (go (marked (m (h.at + 16))) (marked (m (h.at + 32))) (marked (m (h.at + 48))))
  where
    go : (t u v : Bool) → eqb (cond (not v) (cond (not u) (cond (not t) 0 1) 2) 3) 0 ≡ not (t || (u || (v || false)))
    go true true true = refl
    go true true false = refl
    go true false true = refl
    go true false false = refl
    go false true true = refl
    go false true false = refl
    go false false true = refl
    go false false false = refl

-- the stores to the clump itself are the rules'
drops_as : (m : Mem) (h : Head) → drop_of h.at h.state (list_at m h.at) ≡ drop_stores m h
unfolding drop_stores finish_freeing
drops_as m h =
    rw (
      marked_any m h,
      assigns_all m h.at,
      assigns_are marked chooses_marked m h.at,
      empties_are unmarked chooses_unmarked m h.at,
    )
    (go (has_state ACTIVE h) (has_marked m h) _ _ _)
  where
    go : (a b : Bool) (x y z : List Store) → cond a x (cond (not b) y z) ≡ cond a x (cond b z y)
    go true b x y z = refl
    go false true x y z = refl
    go false false x y z = refl

-- the clumps beside, joined, by their bytes: where there is none there are 0, and every clump has some
before_are : (y : Option Head) (at w : ℕ) → ((k : Head) → y ≡ some k → (k.at ≡ at) × (0 < k.nbytes)) → join_before y w ≡ store_if (size_of y) at (size_of y + w)
before_are none at w f = refl
before_are (some k) at w f =
    let x = f k refl in
    rw (ne_eqb k.nbytes 0 (omega (arith, x.1))) (ap (λ (a : ℕ). store a (k.nbytes + w) ∷ []) x.0)

joins_are :
    (x y : Option Head) (h : Head) (at : ℕ)
    → ((k : Head) → x ≡ some k → 0 < k.nbytes)
    → ((k : Head) → y ≡ some k → (k.at ≡ at) × (0 < k.nbytes))
    → join_both x y h ≡ store_if (size_of x) h.at (h.nbytes + size_of x) ++ store_if (size_of y) at (size_of y + (h.nbytes + size_of x))
joins_are none y h at f g = before_are y at h.nbytes g ∙ ap (λ (w : ℕ). store_if (size_of y) at (size_of y + w)) (omega arith)
joins_are (some k) y h at f g =
    rw (ne_eqb k.nbytes 0 (omega (arith, f k refl)))
    (ap (λ (st : List Store). store h.at (h.nbytes + k.nbytes) ∷ st) (before_are y at (h.nbytes + k.nbytes) g))

-- the clump c, which is freed: the next one is read at its end, the one before at `below`
module _ {img : Image} {offset below : ℕ} {c : Clump} {l : List (List ℕ)} (t : Releasing img offset below c l) where
  abbrev this : Head
  this = head (mem img) c.at

  abbrev next : ℕ
  next = size_of (free_after (clumps_of img) this)

  abbrev under : ℕ
  under = size_of (free_before (clumps_of img) this)

  -- what was read are their bytes, if they are FREE
  next_bytes : free_bytes (length img) (mem img) (c.at + c.nbytes) ≡ next
  next_bytes = rw t.size (beside.next_bytes (length img) (mem img) c.at t.tiles _ t.finds.found)

  abbrev below_stands : before_of (clumps_of img) this ≡ clump_at (length img) (mem img) below
  below_stands = before_at (length img) (mem img) t.tiles this ∙ ap (clump_at (length img) (mem img)) (sym t.finds.under)

  below_bytes : free_bytes (length img) (mem img) below ≡ under
  below_bytes = ap (λ (o : Option Head). size_of (if_free o)) (sym below_stands)

  -- a clump that stands there has its header in the image
  pub next_header : (c.at + c.nbytes ≡ 0 → ⊥) → c.at + c.nbytes < length img → ((c.at + c.nbytes) % word_bytes ≡ 0) × (c.at + c.nbytes + header_bytes ≤ length img)
  next_header = rw t.size (beside.next_header (length img) (mem img) c.at t.tiles _ t.finds.found)

  pub below_header : (below ≡ 0 → ⊥) → below < length img → (below % word_bytes ≡ 0) × (below + header_bytes ≤ length img)
  below_header = stands_header (length img) (mem img) t.tiles _ below below_stands

  pub below_word : (free_bytes (length img) (mem img) below ≡ 0 → ⊥) → (below % word_bytes ≡ 0) × (below + word_bytes ≤ length img)
  below_word z =
      let s = free_stands (length img) (mem img) below z in
      let i = below_header s.0 s.1 in
      (i.0, omega (arith, i.1))

  -- the FREE ones, by where they stand
  below_free : (k : Head) → free_before (clumps_of img) this ≡ some k → Lies (length img) k × (end_of k ≡ c.at) × (k.at ≡ below)
  below_free k e =
      let x = (if_free_lem (before_of (clumps_of img) this) k e).0 in (
        placed-lies (length img) (mem img) k t.small (seek_placed (length img) (mem img) _ k t.tiles x),
        eqb-true (end_of k) c.at (seek_split _ (clumps_of img) k x).passes,
        sym (t.finds.under ∙ ap (offset_of 0) x),
      )

  -- the sum of all three stays within the image
  next_room : c.at + c.nbytes + free_bytes (length img) (mem img) (c.at + c.nbytes) ≤ length img
  next_room = rw t.size (beside.next_room (length img) (mem img) c.at t.tiles _ t.finds.found t.small t.finds.inside.room)

  below_room : free_bytes (length img) (mem img) below ≤ c.at
  below_room =
      rw below_bytes
      (let r = size_room (free_before (clumps_of img) this) 0 c.at (omega arith) (λ k q. let x = below_free k q in omega (arith, x.1)) in
      omega arith)

  pub sum_room : (n k : ℕ) → n ≡ free_bytes (length img) (mem img) (c.at + c.nbytes) → k ≡ free_bytes (length img) (mem img) below → k + (c.nbytes + n) ≤ length img
  sum_room n k e f = omega (arith, next_room, below_room)

  drops_are : drop_of c.at c.state l ≡ drop_stores (mem img) this
  drops_are = rw (t.is, t.list) (drops_as (mem img) this)

  free_stores_lem :
      drop_of c.at c.state l ++ (store_if next c.at (c.nbytes + next) ++ store_if under below (under + (c.nbytes + next)))
      ≡ free_stores (mem img) (clumps_of img) this
  unfolding free_stores
  free_stores_lem =
      rw t.size
      (ap₂ ◌++◌ drops_are
      (sym (joins_are (free_after (clumps_of img) this) (free_before (clumps_of img) this) this below
      (λ k q. let x = beside.next_free_lem (length img) (mem img) c.at t.tiles _ t.finds.found t.small k q in omega (arith, x.0.least))
      (λ k q. let x = below_free k q in (x.2, omega (arith, x.0.least))))))

  pub release_acts :
      {x y z : Image} {p q r u : Power} {w : Answer} (n k fuse : ℕ)
      → n ≡ free_bytes (length img) (mem img) (c.at + c.nbytes)
      → k ≡ free_bytes (length img) (mem img) below
      → p ≡ full fuse
      → Ran img p (drop_of c.at c.state l) x q
      → Ran x q (store_if n c.at (c.nbytes + n)) y r
      → Ran y r (store_if k below (k + (c.nbytes + n))) z u
      → w ≡ told u offset
      → Acts img (granted offset (free_stores (mem img) (clumps_of img) (head (mem img) c.at))) fuse z w
  release_acts {u = u} n k fuse e f g a b d i =
      let e' = e ∙ next_bytes in
      let f' = f ∙ below_bytes in
      acts_ran {q = u} fuse offset (ran_as _ _ (sym free_stores_lem) (ran_then (rw g at a) (ran_then (rw e' at b) (rw (f', e') at d)))) i
