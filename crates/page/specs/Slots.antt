-- Laws of the three entries of an on-list: the six words that are read make the list; of the entries that a choice leaves, a test of their
-- targets is the rules' test of the chosen slots, and is made of one entry after the other. By induction on the entries, and by bit 0.
-- Assumes nothing.
use Rattle.std.specs.Prelude.{ℕ, ◌+◌, ◌%◌, ◌<◌, ◌≤◌, ◌≡◌, Bool, cond, not, ◌&&◌, ◌||◌, eqb, length, get_or, drop}
use Rattle.std.proofs.Math.Path.{refl, ap}
use Rattle.std.proofs.Common.{sym, ap₂, ◌∙◌, arith, add-one, drop_of_length-le, eqb-true}
use Rattle.std.proofs.Math.Bool.{true, false}
use mathlib.Core.List.{List, [], ◌∷◌, map}
use Rattle.std.proofs.Math.Seq.{drop-cons}
use Rattle.std.proofs.lemmas.Bool.{eqb-false, not-true}
use Rattle.std.specs.List.{list_all}
use Rattle.rules.specs.Lists.{those, all}
use Rattle.rules.specs.Words.{Mem}
use Rattle.rules.specs.Clumps.{Head, has_state, ACTIVATING, Choice, used, marked, unmarked, bit_values, mark, due, target_of, target_at}
use Rattle.laws.specs.Choices.{Chooses, chosen_used}
use Rattle.page.specs.Forms.{entry_at, word_of, value_of, list_at, only_in, has_bit, due_in, reach_of, entry_passes, list_passes}

-- the six words that are read, each at its own offset in the header
pub list_is :
    (m : Mem) (a t v t' v' t'' v'' : ℕ)
    → t ≡ m (a + 16) → v ≡ m (a + 24) → t' ≡ m (a + 32) → v' ≡ m (a + 40) → t'' ≡ m (a + 48) → v'' ≡ m (a + 56)
    → (t ∷ v ∷ []) ∷ (t' ∷ v' ∷ []) ∷ (t'' ∷ v'' ∷ []) ∷ [] ≡ list_at m a
list_is m a t v t' v' t'' v'' e f e' f' e'' f'' =
    let x : a + 16 + 8 ≡ a + 24 = omega arith in
    let y : a + 32 + 8 ≡ a + 40 = omega arith in
    let z : a + 48 + 8 ≡ a + 56 = omega arith in
    rw (e, f, e', f', e'', f'', x, y, z)

-- the word of an entry that may not be chosen is 0 exactly where it is not
pub only_word : (c : Choice) → Chooses c → (t : ℕ) → eqb (cond (c t) t 0) 0 ≡ not (c t)
only_word c z t = go (c t) refl
  where
    go : (b : Bool) → c t ≡ b → eqb (cond b t 0) 0 ≡ not b
    go true e = not-true _ (chosen_used c t z e)
    go false e = refl

-- of all that are used nothing is left out
used_word : (t : ℕ) → cond (used t) t 0 ≡ t
used_word t = go (eqb t 0) refl
  where
    go : (b : Bool) → eqb t 0 ≡ b → cond (not b) t 0 ≡ t
    go true e = sym (eqb-true t 0 e)
    go false e = refl

pub only-used : (m : Mem) (a : ℕ) → only_in used (list_at m a) ≡ list_at m a
only-used m a = rw (used_word (m (a + 16)), used_word (m (a + 32)), used_word (m (a + 48)))

-- the three entries, each as it is left
pub only_three :
    (c : Choice) (l : List (List ℕ)) (t t' t'' : ℕ)
    → length l ≡ 3
    → t ≡ cond (c (word_of (get_or l 0 []))) (word_of (get_or l 0 [])) 0
    → t' ≡ cond (c (word_of (get_or l 1 []))) (word_of (get_or l 1 [])) 0
    → t'' ≡ cond (c (word_of (get_or l 2 []))) (word_of (get_or l 2 [])) 0
    → (t ∷ value_of (get_or l 0 []) ∷ []) ∷ (t' ∷ value_of (get_or l 1 []) ∷ []) ∷ (t'' ∷ value_of (get_or l 2 []) ∷ []) ∷ [] ≡ only_in c l
only_three c [] t t' t'' n e e' e'' = absurd (omega arith)
only_three c (x ∷ []) t t' t'' n e e' e'' = absurd (omega arith)
only_three c (x ∷ y ∷ []) t t' t'' n e e' e'' = absurd (omega arith)
only_three c (x ∷ y ∷ z ∷ []) t t' t'' n e e' e'' = rw (e, e', e'')
only_three c (x ∷ y ∷ z ∷ w ∷ l) t t' t'' n e e' e'' = absurd (omega arith)

-- the entries by their bit: an empty one is unmarked to the code, and stays empty
pub only_same : (c d : Choice) (l : List (List ℕ)) → ((t : ℕ) → cond (c t) t 0 ≡ cond (d t) t 0) → only_in c l ≡ only_in d l
only_same c d [] e = refl
only_same c d (x ∷ l) e = ap₂ (λ (w : ℕ) (k : List (List ℕ)). (w ∷ value_of x ∷ []) ∷ k) (e (word_of x)) (only_same c d l e)

pub bit_unmarked : (t : ℕ) → cond (has_bit 0 t) t 0 ≡ cond (unmarked t) t 0
unfolding unmarked marked
bit_unmarked t = go (eqb t 0) refl (eqb (t % bit_values) 0) refl (eqb (t % bit_values) mark) refl
  where
    go : (a : Bool) → eqb t 0 ≡ a → (b : Bool) → eqb (t % bit_values) 0 ≡ b → (c : Bool) → eqb (t % bit_values) mark ≡ c → cond b t 0 ≡ cond (not a && not c) t 0
    go true p true q c r = eqb-true t 0 p
    go true p false q c r = refl
    go false p true q true r = absurd (omega (arith, eqb-true (t % bit_values) 0 q, eqb-true (t % bit_values) mark r))
    go false p true q false r = refl
    go false p false q true r = refl
    go false p false q false r = absurd (omega (arith, eqb-false (t % bit_values) 0 q, eqb-false (t % bit_values) mark r))

-- the entries of an unfinished clump that are carried out
pub due_is : (m : Mem) (h : Head) (l : List (List ℕ)) → l ≡ list_at m h.at → due_in h.state l ≡ only_in (due h) (list_at m h.at)
due_is m h l e = rw e (go (has_state ACTIVATING h))
  where
    go : (b : Bool) → cond b (only_in unmarked (list_at m h.at)) (list_at m h.at) ≡ only_in (cond b unmarked used) (list_at m h.at)
    go true = refl
    go false = sym (only-used m h.at)

-- there are three entries
pub reach-most : (l : List (List ℕ)) → reach_of l ≤ 3
reach-most l = go (eqb (word_of (get_or l 2 [])) 0) (eqb (word_of (get_or l 1 [])) 0) (eqb (word_of (get_or l 0 [])) 0)
  where
    go : (t u v : Bool) → cond t (cond u (cond v 0 1) 2) 3 ≤ 3
    go false u v = omega arith
    go true false v = omega arith
    go true true false = omega arith
    go true true true = omega arith

module _ (q : ℕ → Bool) where
  -- the chosen entries of some slots
  pub passes_by : (c : Choice) → Chooses c → (m : Mem) (sl : List ℕ) → list_passes q (only_in c (map (entry_at m) sl)) ≡ all (λ s. q (target_at m s)) (those (λ s. c (m s)) sl)
  unfolding list_passes those all
  passes_by c z m [] = refl
  passes_by c z m (s ∷ sl) = rw (only_word c z (m s)) (go (c (m s)) (passes_by c z m sl))
    where
      go :
          (b : Bool)
          → list_passes q (only_in c (map (entry_at m) sl)) ≡ all (λ r. q (target_at m r)) (those (λ r. c (m r)) sl)
          → ((not b || q (target_of (cond b (m s) 0))) && list_passes q (only_in c (map (entry_at m) sl)))
          ≡ all (λ r. q (target_at m r)) (cond b (s ∷ those (λ r. c (m r)) sl) (those (λ r. c (m r)) sl))
      go true e = ap (λ (x : Bool). q (target_at m s) && x) e
      go false e = e

  -- the entries one after the other
  pub passes_all : (l : List (List ℕ)) → list_all (entry_passes q) l ≡ list_passes q l
  unfolding list_passes
  passes_all [] = refl
  passes_all (e ∷ l) = ap (λ (x : Bool). entry_passes q e && x) (passes_all l)

  -- a loop over the list: what is left of it still has the answer of the whole. No proof cites these laws now; they stand as they were
  -- stated
  module _ (l : List (List ℕ)) (i : ℕ) (u : i < length l) (w : list_passes q (drop i l) ≡ list_passes q l) where
    here : list_passes q (drop i l) ≡ ((eqb (word_of (get_or l i [])) 0 || q (target_of (word_of (get_or l i [])))) && list_passes q (drop (i + 1) l))
    unfolding list_passes
    here = rw (add-one, drop-cons l i [] u)

    pub passes_stop : (eqb (word_of (get_or l i [])) 0 || q (target_of (word_of (get_or l i [])))) ≡ false → false ≡ list_passes q l
    passes_stop f = sym (sym w ∙ here ∙ rw f)

    pub passes_go : (eqb (word_of (get_or l i [])) 0 || q (target_of (word_of (get_or l i [])))) ≡ true → list_passes q (drop (i + 1) l) ≡ list_passes q l
    passes_go f = sym (here ∙ rw f) ∙ w

  pub passes_end : (l : List (List ℕ)) (i : ℕ) → length l ≤ i → list_passes q (drop i l) ≡ list_passes q l → true ≡ list_passes q l
  unfolding list_passes
  passes_end l i u w = rw (drop_of_length-le l u) at w
