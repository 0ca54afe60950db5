-- The stores of an on-list: those that carry it out and those that empty it, and that they are the rules' where its entries are the chosen
-- ones of a list that was read. By induction on the entries.
-- Assumes nothing.
use Rattle.std.specs.Prelude.{ℕ, zero, suc, ◌+◌, ◌*◌, ◌<◌, ◌≡◌, Bool, not, eqb, length, get_or, take}
use Rattle.std.proofs.Math.Path.{refl, ap, ap₂}
use Rattle.std.proofs.Common.{sym, ◌∙◌, arith, add-one, eq-eqb, ne_eqb}
use Rattle.std.proofs.Math.Bool.{true, false, cond}
use mathlib.Core.List.{List, [], ◌∷◌, ◌++◌, map}
use Rattle.rules.specs.Lists.{those}
use Rattle.rules.specs.Words.{Mem, Store, store, word_bytes, zeros}
use Rattle.rules.specs.Clumps.{slots, value_at, Choice, used, target_of, slots_by, entry, entries_by}
use Rattle.rules.specs.Stores.{emptying}
use Rattle.laws.specs.Choices.{Chooses}
use Rattle.page.specs.Forms.{entry_at, word_of, value_of, list_at, only_in}
use Rattle.page.specs.Slots.{only_word, only-used}

-- the stores that carry a list out
unfoldable pub assigns_of : List (List ℕ) → List Store
assigns_of [] = []
assigns_of (e ∷ es) = cond (eqb (word_of e) 0) (assigns_of es) (store (target_of (word_of e)) (value_of e) ∷ assigns_of es)

-- the stores that empty it, where its first target word stands at s
unfoldable pub empties_of : ℕ → List (List ℕ) → List Store
empties_of s [] = []
empties_of s (e ∷ es) = cond (eqb (word_of e) 0) (empties_of (s + 16) es) (store s 0 ∷ empties_of (s + 16) es)

-- they are the rules' stores, of the chosen entries of the clump whose list was read: one entry after the other
module _ (c : Choice) (z : Chooses c) (m : Mem) where
  assigns_from : (sl : List ℕ) → assigns_of (only_in c (map (entry_at m) sl)) ≡ map (entry m) (those (λ s. c (m s)) sl)
  unfolding assigns_of those
  assigns_from [] = refl
  assigns_from (s ∷ sl) = rw (only_word c z (m s)) (go (c (m s)) (assigns_from sl))
    where
      go :
          (b : Bool)
          → assigns_of (only_in c (map (entry_at m) sl)) ≡ map (entry m) (those (λ r. c (m r)) sl)
          → cond (not b) (assigns_of (only_in c (map (entry_at m) sl))) (store (target_of (cond b (m s) 0)) (m (value_at s)) ∷ assigns_of (only_in c (map (entry_at m) sl)))
          ≡ map (entry m) (cond b (s ∷ those (λ r. c (m r)) sl) (those (λ r. c (m r)) sl))
      go true h = ap (λ (st : List Store). entry m s ∷ st) h
      go false h = h

  pub assigns_are : (a : ℕ) → assigns_of (only_in c (list_at m a)) ≡ entries_by c m a
  assigns_are a = assigns_from (slots a)

  -- entries that stand 16 bytes apart, from r on
  abbrev Spaced : ℕ → List ℕ → Type 0
  Spaced r [] = Unit {0}
  Spaced r (s ∷ sl) = (r ≡ s) × Spaced (r + 16) sl

  empties_from : (r : ℕ) (sl : List ℕ) → Spaced r sl → empties_of r (only_in c (map (entry_at m) sl)) ≡ emptying (those (λ s. c (m s)) sl)
  unfolding empties_of those
  empties_from r [] f = refl
  empties_from r (s ∷ sl) f = rw (only_word c z (m s)) (go (c (m s)) (empties_from (r + 16) sl f.1))
    where
      go :
          (b : Bool)
          → empties_of (r + 16) (only_in c (map (entry_at m) sl)) ≡ emptying (those (λ s. c (m s)) sl)
          → cond (not b) (empties_of (r + 16) (only_in c (map (entry_at m) sl))) (store r 0 ∷ empties_of (r + 16) (only_in c (map (entry_at m) sl)))
          ≡ emptying (cond b (s ∷ those (λ s. c (m s)) sl) (those (λ s. c (m s)) sl))
      go true h = ap₂ (λ (x : ℕ) (st : List Store). store x 0 ∷ st) f.0 h
      go false h = h

  pub empties_are : (a : ℕ) → empties_of (a + 16) (only_in c (list_at m a)) ≡ emptying (slots_by c m a)
  empties_are a = empties_from (a + 16) (slots a) (refl, (omega arith, (omega arith, tt)))

-- of all that are used
pub assigns_all : (m : Mem) (a : ℕ) → assigns_of (list_at m a) ≡ entries_by used m a
assigns_all m a = ap assigns_of (sym (only-used m a)) ∙ assigns_are used refl m a

-- one entry more
assigns_suc : (l : List (List ℕ)) (i : ℕ) → i < length l → assigns_of (take (suc i) l) ≡ assigns_of (take i l) ++ assigns_of (get_or l i [] ∷ [])
unfolding assigns_of
assigns_suc [] i h = absurd (omega arith)
assigns_suc (e ∷ es) zero h = refl
assigns_suc (e ∷ es) (suc i) h = go (eqb (word_of e) 0) (assigns_suc es i (omega arith))
  where
    go :
        (b : Bool)
        → assigns_of (take (suc i) es) ≡ assigns_of (take i es) ++ assigns_of (get_or es i [] ∷ [])
        → cond b (assigns_of (take (suc i) es)) (store (target_of (word_of e)) (value_of e) ∷ assigns_of (take (suc i) es))
        ≡ cond b (assigns_of (take i es)) (store (target_of (word_of e)) (value_of e) ∷ assigns_of (take i es)) ++ assigns_of (get_or es i [] ∷ [])
    go true h = h
    go false h = ap (λ (st : List Store). store (target_of (word_of e)) (value_of e) ∷ st) h

pub assigns_more : (l : List (List ℕ)) (i : ℕ) → i < length l → assigns_of (take (i + 1) l) ≡ assigns_of (take i l) ++ assigns_of (get_or l i [] ∷ [])
assigns_more l i h = rw add-one (assigns_suc l i h)

empties_suc : (l : List (List ℕ)) (s i : ℕ) → i < length l → empties_of s (take (suc i) l) ≡ empties_of s (take i l) ++ empties_of (s + 16 * i) (get_or l i [] ∷ [])
unfolding empties_of
empties_suc [] s i h = absurd (omega arith)
empties_suc (e ∷ es) s zero h = let z : s + 16 * 0 ≡ s = omega arith in rw z
empties_suc (e ∷ es) s (suc i) h = go (eqb (word_of e) 0) (empties_suc es (s + 16) i (omega arith))
  where
    shift : s + 16 + 16 * i ≡ s + 16 * suc i
    shift = omega arith

    go :
        (b : Bool)
        → empties_of (s + 16) (take (suc i) es) ≡ empties_of (s + 16) (take i es) ++ empties_of (s + 16 + 16 * i) (get_or es i [] ∷ [])
        → cond b (empties_of (s + 16) (take (suc i) es)) (store s 0 ∷ empties_of (s + 16) (take (suc i) es))
        ≡ cond b (empties_of (s + 16) (take i es)) (store s 0 ∷ empties_of (s + 16) (take i es)) ++ empties_of (s + 16 * suc i) (get_or es i [] ∷ [])
    go true h = rw shift at h
    go false h = ap (λ (st : List Store). store s 0 ∷ st) (rw shift at h)

pub empties_more : (s : ℕ) (l : List (List ℕ)) (i : ℕ) → i < length l → empties_of s (take (i + 1) l) ≡ empties_of s (take i l) ++ empties_of (s + 16 * i) (get_or l i [] ∷ [])
empties_more s l i h = rw add-one (empties_suc l s i h)

-- an entry alone
pub assign_empty : (e : List ℕ) → word_of e ≡ 0 → assigns_of (e ∷ []) ≡ []
unfolding assigns_of
assign_empty e h = rw (eq-eqb (word_of e) 0 h)

pub assign_used : (e : List ℕ) → (word_of e ≡ 0 → ⊥) → assigns_of (e ∷ []) ≡ store (target_of (word_of e)) (value_of e) ∷ []
unfolding assigns_of
assign_used e h = rw (ne_eqb (word_of e) 0 h)

pub empty_empty : (s : ℕ) (e : List ℕ) → word_of e ≡ 0 → empties_of s (e ∷ []) ≡ []
unfolding empties_of
empty_empty s e h = rw (eq-eqb (word_of e) 0 h)

pub empty_one : (s : ℕ) (e : List ℕ) → (word_of e ≡ 0 → ⊥) → empties_of s (e ∷ []) ≡ store s 0 ∷ []
unfolding empties_of
empty_one s e h = rw (ne_eqb (word_of e) 0 h)

-- one word more
zeros_suc : (k i : ℕ) → zeros i (suc k) ≡ zeros i k ++ (store (i + word_bytes * k) 0 ∷ [])
unfolding zeros
zeros_suc zero i = let z : i + word_bytes * 0 ≡ i = omega arith in rw z
zeros_suc (suc k) i =
    let z : i + word_bytes + word_bytes * k ≡ i + word_bytes * suc k = omega arith in
    ap (λ (st : List Store). store i 0 ∷ st) (rw z at (zeros_suc k (i + word_bytes)))

pub zeros-more : (i k : ℕ) → zeros i (k + 1) ≡ zeros i k ++ (store (i + word_bytes * k) 0 ∷ [])
zeros-more i k = rw add-one (zeros_suc k i)
