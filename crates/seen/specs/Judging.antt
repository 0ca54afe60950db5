-- Laws of the faults 1 to 3 of one clump: the size's tests as the code makes them, what a clump without fault is, and the header's words
-- stand for the memory that holds them. Assumes nothing.
use Rattle.std.specs.Prelude.{ℕ, ◌+◌, ◌-◌, ◌%◌, ◌<◌, ◌≤◌, Bool, cond, not, ◌&&◌, ◌||◌, List, [], ◌∷◌, eqb}
use Rattle.std.proofs.Math.Path.{◌≡◌, refl}
use Rattle.std.proofs.Common.{sym, ap, ◌∙◌, arith}
use Rattle.std.proofs.Math.Bool.{true, false, or-true}
use Rattle.std.proofs.Math.Decide.{dec_lt}
use Rattle.std.proofs.Math.Dec.{ltb}
use borrow.Author.Tests.{lt-ltb, le-ltb, ltb-false, eq-eqb, ne_eqb}
use Rattle.rules.specs.Lists.{those, any, all}
use Rattle.rules.specs.Words.{Mem}
use Rattle.rules.specs.Pages.{unit}
use Rattle.rules.specs.Clumps.{Head, has_state, end_of, least_clump, RESERVED, ACTIVATING, ACTIVE, FREEING, is_waiting, slots, Choice, used, marked, nothing, slots_by, target_at}
use Rattle.rules.specs.Sound.{size_bad, state_bad, in_place, list_bad, fault_of}
use Rattle.word.specs.Tests.{ltb_same}
use Rattle.laws.specs.Walks.{size_good}
use Rattle.laws.specs.Choices.{Chooses, chooses_marked}
use Rattle.page.specs.Forms.{list_at, only_in, list_passes}
use Rattle.page.specs.Slots.{only-used, passes_by}
use Rattle.seen.specs.Forms.{list_bad_in, fault_in}

-- fault 1
module _ (n : ℕ) (h : Head) where
  -- of a header that does not lie in the image, whatever its words
  pub size_short : n < h.at + least_clump → size_bad n h ≡ true
  unfolding size_bad
  size_short l =
      elim (dec_lt h.nbytes least_clump) [
        | yes p ↦ rw (lt-ltb h.nbytes least_clump p, or-true)
        | no p ↦ rw (lt-ltb n (h.at + h.nbytes) (omega arith), or-true)
      ]

  -- of one that does, the tests as the code makes them
  pub size_tests : h.at ≤ n → size_bad n h ≡ (not (eqb (h.nbytes % unit) 0) || ltb h.nbytes least_clump || ltb (n - h.at) h.nbytes)
  unfolding size_bad
  size_tests u = rw (ltb_same (n - h.at) h.nbytes n (h.at + h.nbytes) (λ k. omega arith) (λ k. omega arith))

-- a clump without one of the faults 1 to 3 ends in the image, and its state is one of the five
pub fault_none : (n : ℕ) (l : List (List ℕ)) (h : Head) → fault_in n l h ≡ 0 → (end_of h ≤ n) × (h.state ≤ FREEING)
unfolding fault_in state_bad
fault_none n l h e = go (size_bad n h) refl (ltb FREEING h.state) refl e
  where
    go :
        (b : Bool)
        → size_bad n h ≡ b
        → (c : Bool)
        → ltb FREEING h.state ≡ c
        → ◌≡◌ {A = ℕ} (cond b 1 (cond c 2 (cond (list_bad_in n h.state l) 3 0))) 0
        → (end_of h ≤ n) × (h.state ≤ FREEING)
    go true f c g x = absurd (omega arith)
    go false f true g x = absurd (omega arith)
    go false f false g x = ((size_good n h f).2, ltb-false FREEING h.state g)

-- some fails exactly where not all pass
some_fails : (q : ℕ → Bool) (sl : List ℕ) → any (λ s. not (q s)) sl ≡ not (all q sl)
unfolding any all
some_fails q [] = refl
some_fails q (s ∷ sl) = go (q s) (some_fails q sl)
  where
    go : (b : Bool) → any (λ r. not (q r)) sl ≡ not (all q sl) → (not b || any (λ r. not (q r)) sl) ≡ not (b && all q sl)
    go true e = e
    go false e = refl

-- the chosen entries of the memory that holds the list are in place exactly where those of the list are
list_held : (n : ℕ) (m : Mem) (a : ℕ) (c : Choice) → Chooses c → not (list_passes (in_place n) (only_in c (list_at m a))) ≡ any (λ s. not (in_place n (target_at m s))) (slots_by c m a)
list_held n m a c z = ap not (passes_by (in_place n) c z m (slots a)) ∙ sym (some_fails (λ s. in_place n (target_at m s)) (slots_by c m a))

-- the entries that wait, by the state
bad_held : (n : ℕ) (m : Mem) (h : Head) → list_bad_in n h.state (list_at m h.at) ≡ list_bad n m h
unfolding list_bad those any
bad_held n m h = go (is_waiting h) (has_state ACTIVATING h)
  where
    go :
        (a b : Bool)
        → cond a (not (list_passes (in_place n) (list_at m h.at))) (cond b (not (list_passes (in_place n) (only_in marked (list_at m h.at)))) false)
        ≡ any (λ s. not (in_place n (target_at m s))) (slots_by (cond a used (cond b marked nothing)) m h.at)
    go true b = ap (λ (l : List (List ℕ)). not (list_passes (in_place n) l)) (sym (only-used m h.at)) ∙ list_held n m h.at used refl
    go false true = list_held n m h.at marked chooses_marked
    go false false = refl

-- the memory that holds the list has the same faults
pub fault_held : (n : ℕ) (m : Mem) (h : Head) (l : List (List ℕ)) → l ≡ list_at m h.at → fault_in n l h ≡ fault_of n m h
unfolding fault_in fault_of
fault_held n m h l e = rw (e, bad_held n m h)

-- whether the list of a clump waits, by the state that was read
pub waits_is : (state s : ℕ) (w : Bool) → s ≡ state → w ≡ (eqb s RESERVED || eqb s ACTIVE) → (eqb state RESERVED || eqb state ACTIVE) ≡ w
waits_is state s w e f = rw (← e) (sym f)

-- laws that no proof cites now; they stand as they were stated. A state that is one of two
module _ (s a b : ℕ) where
  pub state_first : s ≡ a → true ≡ (eqb s a || eqb s b)
  state_first e = rw (eq-eqb s a e)

  pub state_second : (s ≡ a → ⊥) → eqb s b ≡ (eqb s a || eqb s b)
  state_second f = rw (ne_eqb s a f)

-- fault 1, a law for each way out of its tests
module _ (n : ℕ) (h : Head) where
  pub size_odd : (h.nbytes % unit ≡ 0 → ⊥) → true ≡ size_bad n h
  unfolding size_bad
  size_odd f = rw (ne_eqb (h.nbytes % unit) 0 f)

  pub size_small : h.nbytes < least_clump → true ≡ size_bad n h
  unfolding size_bad
  size_small l = rw (lt-ltb h.nbytes least_clump l, or-true)

  pub size_room : h.nbytes % unit ≡ 0 → least_clump ≤ h.nbytes → h.at ≤ n → ltb (n - h.at) h.nbytes ≡ size_bad n h
  unfolding size_bad
  size_room f l u =
      rw (eq-eqb (h.nbytes % unit) 0 f, le-ltb h.nbytes least_clump l)
      (ltb_same (n - h.at) h.nbytes n (h.at + h.nbytes) (λ k. omega arith) (λ k. omega arith))

-- the faults 1 to 3 of a clump, a law for each way out
module _ (n : ℕ) (l : List (List ℕ)) (h : Head) where
  pub fault_size : size_bad n h ≡ true → 1 ≡ fault_in n l h
  unfolding fault_in
  fault_size e = rw e

  module _ (size : size_bad n h ≡ false) where
    pub fault_state : FREEING < h.state → 2 ≡ fault_in n l h
    unfolding fault_in state_bad
    fault_state u = rw (size, lt-ltb FREEING h.state u)

    module _ (state : h.state ≤ FREEING) where
      pub fault_list : (b : Bool) → b ≡ list_bad_in n h.state l → cond b 3 0 ≡ fault_in n l h
      unfolding fault_in state_bad
      fault_list b f = rw (size, le-ltb FREEING h.state state, ← f)
