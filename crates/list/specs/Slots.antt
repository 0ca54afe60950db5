-- The entry behind the last used one of a list that was read, and a law for each way out of onactive and onfree: by cases on which entries
-- are used. Assumes nothing.
use Rattle.std.specs.Prelude.{ℕ, ◌+◌, ◌*◌, ◌≡◌, refl, Bool, true, false, cond, not, ◌||◌, List, eqb}
use Rattle.std.proofs.Math.Option.{Option, some, none}
use Rattle.std.proofs.Common.{arith}
use borrow.Author.Tests.{eq-eqb, ne_eqb}
use Rattle.rules.specs.Lists.{any}
use Rattle.rules.specs.Words.{Mem}
use Rattle.rules.specs.Clumps.{Head, is_empty, slots}
use Rattle.rules.specs.Sound.{is_valid}
use Rattle.rules.specs.Answers.{granted, refuse, wrong_state, list_full, bad_target}
use Rattle.rules.specs.Stores.{list_stores}
use Rattle.rules.specs.Requests.{open_slot, enlist}
use Rattle.page.specs.Forms.{list_at, reach_of}

-- where the k-th entry stands in the clump at h, from 0 on
abbrev pub slot_at : ℕ → ℕ → ℕ
slot_at h k = h + 16 + 16 * k

-- a new entry goes behind the first k entries, of which the last is used, and nowhere behind three
pub open_is : (m : Mem) (h k : ℕ) (l : List (List ℕ)) → l ≡ list_at m h → k ≡ reach_of l → open_slot m (slots h) ≡ cond (eqb k 3) none (some (slot_at h k))
unfolding open_slot any
open_is m h k l e f = go (is_empty m (h + 16)) (is_empty m (h + 32)) (is_empty m (h + 48)) (rw e at f)
  where
    at : (i x : ℕ) → k ≡ i → x ≡ slot_at h i → eqb i 3 ≡ false → some x ≡ cond (eqb k 3) none (some (slot_at h k))
    at i x p q r = rw (p, q, r)

    go :
        (t u v : Bool)
        → k ≡ cond v (cond u (cond t 0 1) 2) 3
        → ◌≡◌ {A = Option ℕ}
        (cond (not t || (not u || (not v || false))) (cond (not u || (not v || false)) (cond (not v || false) none (some (h + 48))) (some (h + 32))) (some (h + 16)))
        (cond (eqb k 3) none (some (slot_at h k)))
    go true true true p = at 0 _ p (omega arith) refl
    go false true true p = at 1 _ p (omega arith) refl
    go true false true p = at 2 _ p (omega arith) refl
    go false false true p = at 2 _ p (omega arith) refl
    go true true false p = rw p
    go true false false p = rw p
    go false true false p = rw p
    go false false false p = rw p

-- onactive and onfree on a clump whose state allows them or not, a law for each way out; w is the word to store
module _ (m : Mem) (hs : List Head) (b : Bool) (o t w v : ℕ) (h : Head) where
  pub enlist_by : (allowed : Head → Bool) (u : ℕ) → b ≡ allowed h → u ≡ w → enlist m hs allowed o t u v h ≡ enlist m hs (λ k. b) o t w v h
  unfolding enlist
  enlist_by allowed u e f = rw (e, f)

  pub enlist_state : b ≡ false → enlist m hs (λ k. b) o t w v h ≡ refuse wrong_state
  unfolding enlist
  enlist_state e = rw e

  -- k is the number of entries up to the last used one
  module _ (state : b ≡ true) (k : ℕ) (e : open_slot m (slots h.at) ≡ cond (eqb k 3) none (some (slot_at h.at k))) where
    pub enlist-full : k ≡ 3 → enlist m hs (λ i. b) o t w v h ≡ refuse list_full
    unfolding enlist
    enlist-full z = rw (state, e, eq-eqb k 3 z)

    pub enlist-bad : (k ≡ 3 → ⊥) → is_valid hs t ≡ false → enlist m hs (λ i. b) o t w v h ≡ refuse bad_target
    unfolding enlist
    enlist-bad z f = rw (state, e, ne_eqb k 3 z, f)

    pub enlist-done : (k ≡ 3 → ⊥) → is_valid hs t ≡ true → enlist m hs (λ i. b) o t w v h ≡ granted o (list_stores (slot_at h.at k) w v)
    unfolding enlist
    enlist-done z f = rw (state, e, ne_eqb k 3 z, f)
