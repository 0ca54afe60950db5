-- The last used entry of a list that was read, and a law for each way out of withdraw: by cases on which entries are used.
-- Assumes nothing.
use Rattle.std.specs.Prelude.{ℕ, ◌+◌, ◌*◌, ◌≡◌, refl, Bool, true, false, cond, not, List, [], ◌∷◌, eqb}
use Rattle.std.proofs.Common.{arith}
use borrow.Author.Tests.{eq-eqb, ne_eqb}
use Rattle.rules.specs.Lists.{those}
use Rattle.rules.specs.Words.{Mem, store}
use Rattle.rules.specs.Clumps.{Head, is_waiting, is_empty, used, slots_by}
use Rattle.rules.specs.Answers.{Verdict, granted, refuse, wrong_state, list_empty}
use Rattle.rules.specs.Requests.{withdrawn, withdraw}
use Rattle.page.specs.Forms.{list_at, reach_of}

-- what is withdrawn from the clump at h, of whose entries the k-th is the last used one
abbrev pub withdrawn_at : ℕ → ℕ → ℕ → Verdict
withdrawn_at h o k = cond (eqb k 0) (refuse list_empty) (granted o (store (h + 16 * k) 0 ∷ []))

pub withdrawn_is : (m : Mem) (h k o : ℕ) (l : List (List ℕ)) → l ≡ list_at m h → k ≡ reach_of l → withdrawn (slots_by used m h) o ≡ withdrawn_at h o k
unfolding those
withdrawn_is m h k o l e f = go (is_empty m (h + 16)) (is_empty m (h + 32)) (is_empty m (h + 48)) (rw e at f)
  where
    to : (i x : ℕ) → k ≡ i → x ≡ h + 16 * i → eqb i 0 ≡ false → granted o (store x 0 ∷ []) ≡ withdrawn_at h o k
    to i x p q r = rw (p, q, r)

    go :
        (t u v : Bool)
        → k ≡ cond v (cond u (cond t 0 1) 2) 3
        → let z = cond (not v) ((h + 48) ∷ []) [] in
        let y = cond (not u) ((h + 32) ∷ z) z in
        withdrawn (cond (not t) ((h + 16) ∷ y) y) o ≡ withdrawn_at h o k
    go true true true p = rw p
    go false true true p = to 1 _ p (omega arith) refl
    go true false true p = to 2 _ p (omega arith) refl
    go false false true p = to 2 _ p (omega arith) refl
    go true true false p = to 3 _ p (omega arith) refl
    go true false false p = to 3 _ p (omega arith) refl
    go false true false p = to 3 _ p (omega arith) refl
    go false false false p = to 3 _ p (omega arith) refl

-- withdraw from a clump
module _ (m : Mem) (o : ℕ) (h : Head) where
  pub withdraw_state : is_waiting h ≡ false → withdraw m o h ≡ refuse wrong_state
  unfolding withdraw
  withdraw_state e = rw e

  -- k is the number of entries up to the last used one
  module _ (state : is_waiting h ≡ true) (k : ℕ) (e : withdrawn (slots_by used m h.at) o ≡ withdrawn_at h.at o k) where
    pub withdraw_empty : k ≡ 0 → withdraw m o h ≡ refuse list_empty
    unfolding withdraw
    withdraw_empty z = rw (state, e, eq-eqb k 0 z)

    pub withdraw-done : (k ≡ 0 → ⊥) → withdraw m o h ≡ granted o (store (h.at + 16 * k) 0 ∷ [])
    unfolding withdraw
    withdraw-done z = rw (state, e, ne_eqb k 0 z)
