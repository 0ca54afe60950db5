-- The choices of entries by their stored target word: an empty one is in none; the used ones are the unmarked and the marked ones, and no
-- entry is both; the target of an unmarked one is its word, and a mark on a target divisible by 8 leaves the target. By arithmetic on bit 0.
-- Assumes nothing.
use Rattle.std.specs.Prelude.{ℕ, ◌%◌, ◌<◌, ◌≡◌, refl, Bool, true, false, cond, not, ◌&&◌, ◌||◌, List, [], ◌∷◌, eqb}
use Rattle.std.proofs.Common.{sym, subst, arith, eqb-true}
use Rattle.std.proofs.Math.Option.{some}
use Rattle.std.proofs.lemmas.Bool.{eqb-false, not-false}
use Rattle.rules.specs.Lists.{those, any, Each}
use Rattle.rules.specs.Words.{Mem, word_bytes, word_values}
use Rattle.rules.specs.Clumps.{Head, is_empty, is_used, Choice, used, marked, unmarked, target_of, with_mark, bit_values, mark, nothing, has_state, is_waiting, RESERVED, ACTIVE, ACTIVATING, due, waiting, freed}
use Rattle.rules.specs.Requests.{open_slot}
use Rattle.laws.specs.Searches.{differ, some-none, or_neither}

-- an empty entry is not chosen
abbrev pub Chooses : Choice → Type 0
Chooses c = c 0 ≡ false

pub chooses_unmarked : Chooses unmarked
unfolding unmarked
chooses_unmarked = refl

pub chooses_marked : Chooses marked
unfolding marked
chooses_marked = refl

pub chooses_due : (h : Head) → Chooses (due h)
chooses_due h = go (has_state ACTIVATING h)
  where
    go : (b : Bool) → Chooses (cond b unmarked used)
    go true = chooses_unmarked
    go false = refl

pub chooses_freed : (h : Head) → Chooses (freed h)
chooses_freed h = go (has_state ACTIVE h)
  where
    go : (b : Bool) → Chooses (cond b used marked)
    go true = refl
    go false = chooses_marked

pub chooses_waiting : (h : Head) → Chooses (waiting h)
chooses_waiting h = go (is_waiting h) (has_state ACTIVATING h)
  where
    go : (a b : Bool) → Chooses (cond a used (cond b marked nothing))
    go true b = refl
    go false true = chooses_marked
    go false false = refl

-- so a chosen one is used
pub chosen_used : (c : Choice) (t : ℕ) → Chooses c → c t ≡ true → used t ≡ true
chosen_used c t z e = go (eqb t 0) refl
  where
    go : (b : Bool) → eqb t 0 ≡ b → not b ≡ true
    go true q = differ (subst (λ (o : ℕ). c o ≡ true) (eqb-true t 0 q) e) z
    go false q = refl

-- an entry is not chosen by two choices
abbrev pub Apart : Choice → Choice → Type 0
Apart c d = (t : ℕ) → d t ≡ true → c t ≡ false

pub marked_apart : Apart unmarked marked
unfolding unmarked
marked_apart t e = rw e (go (used t))
  where
    go : (b : Bool) → (b && false) ≡ false
    go true = refl
    go false = refl

-- in an ACTIVATING clump no entry both waits and is due
pub due_apart : (h : Head) → h.state ≡ ACTIVATING → Apart (due h) (waiting h)
due_apart h z =
    subst (λ (s : ℕ). Apart (cond (eqb s ACTIVATING) unmarked used) (cond (eqb s RESERVED || eqb s ACTIVE) used (cond (eqb s ACTIVATING) marked nothing))) (sym z)
    marked_apart

-- a used entry that is not unmarked is marked
pub used-marked : (t : ℕ) → unmarked t ≡ false → used t ≡ marked t
unfolding unmarked marked
used-marked t e = go (eqb t 0) refl (eqb (t % bit_values) mark) refl e
  where
    go : (b : Bool) → eqb t 0 ≡ b → (c : Bool) → eqb (t % bit_values) mark ≡ c → (not b && not c) ≡ false → not b ≡ c
    go true q true r f =
        let z = eqb-true t 0 q in
        let y = eqb-true (t % bit_values) mark r in
        absurd (omega arith)
    go true q false r f = refl
    go false q true r f = refl
    go false q false r f = differ refl f

-- where none is unmarked, the used ones are the marked ones
pub those_marked : (m : Mem) (sl : List ℕ) → Each (λ s. unmarked (m s) ≡ false) sl → those (λ s. used (m s)) sl ≡ those (λ s. marked (m s)) sl
unfolding those
those_marked m [] e = refl
those_marked m (s ∷ sl) e = rw (used-marked (m s) e.0, those_marked m sl e.1)

-- targets
pub target_plain : (t : ℕ) → marked t ≡ false → target_of t ≡ t
unfolding marked target_of
target_plain t e = let z = eqb-false (t % bit_values) mark e in omega arith

pub target_marked : (t : ℕ) → t % word_bytes ≡ 0 → target_of (with_mark t) ≡ t
unfolding target_of
target_marked t e = omega arith

pub target_even : (t : ℕ) → t % word_bytes ≡ 0 → target_of t ≡ t
unfolding target_of
target_even t e = omega arith

-- a target with a mark is a word where the target is one
pub mark_word : (t : ℕ) → t % word_bytes ≡ 0 → t < word_values → with_mark t < word_values
mark_word t e l = omega arith

-- the entry that a new one goes to is one of the list, and empty
pub open_each : (m : Mem) (P : ℕ → Type 0) (sl : List ℕ) (s : ℕ) → open_slot m sl ≡ some s → Each P sl → P s
unfolding open_slot
open_each m P [] s e f = some-none e refl
open_each m P (t ∷ sl) s e f = go (any (is_used m) (t ∷ sl)) e (open_each m P sl s)
  where
    go : (b : Bool) → cond b (open_slot m sl) (some t) ≡ some s → (open_slot m sl ≡ some s → Each P sl → P s) → P s
    go true e ih = ih e f.1
    go false e ih = subst P (let z : t ≡ s = cc in z) f.0

pub open_empty : (m : Mem) (sl : List ℕ) (s : ℕ) → open_slot m sl ≡ some s → is_empty m s ≡ true
unfolding open_slot any
open_empty m [] s e = some-none e refl
open_empty m (t ∷ sl) s e = go (is_used m t || any (is_used m) sl) refl e (open_empty m sl s)
  where
    go : (b : Bool) → (is_used m t || any (is_used m) sl) ≡ b → cond b (open_slot m sl) (some t) ≡ some s → (open_slot m sl ≡ some s → is_empty m s ≡ true) → is_empty m s ≡ true
    go true q e ih = ih e
    go false q e ih = subst (λ (o : ℕ). is_empty m o ≡ true) (let z : t ≡ s = cc in z) (not-false _ (or_neither (is_used m t) _ q).0)
