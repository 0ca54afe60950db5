-- A list that is being emptied of chosen entries, first to last: what is left of those is an end of them, by induction on the places of the
-- entries, which lie sixteen bytes apart; and every entry that is not chosen is as it was, since a word of the list changes only to 0, and
-- only where it was chosen. Assumes nothing.
use Prim.Native.Nat.{ℕ, zero, suc, ◌+◌, ◌-◌, ◌%◌, ◌≤◌}
use Rattle.std.specs.Prelude.{◌≡◌, Bool, cond, ◌⊎◌, eqb, length, take}
use Rattle.std.proofs.Math.Path.{refl, ap}
use Rattle.std.proofs.Common.{sym, ap₂, subst, ◌∙◌, inl, inr, arith, drop_of_length-le, eqb-true}
use Rattle.std.proofs.Math.Bool.{true, false}
use mathlib.Core.List.{List, [], ◌∷◌, map}
use Rattle.std.proofs.Math.ListN.{drop}
use Rattle.std.proofs.lemmas.List.{length-map}
use Rattle.std.proofs.Math.Seq.{take-length}
use Rattle.std.proofs.lemmas.Bool.{eqb-false}
use Rattle.rules.specs.Lists.{those, Each}
use Rattle.rules.specs.Words.{Mem, Store, upd, after}
use Rattle.rules.specs.Clumps.{slots, value_at, Choice, slots_by, entry, entries_by}
use Rattle.rules.specs.Stores.{emptying}
use Rattle.rules.specs.Reading.{listed_at}
use Rattle.word.specs.Memory.{upd_same, upd_other}
use Rattle.laws.specs.Searches.{differ, those_each, those_pass, nil_those, each_map, each_take}
use Rattle.laws.specs.Choices.{Chooses, Apart}
use Rattle.laws.specs.Headers.{SameSlots, targets_same, chosen_same, entries_same}
use Rattle.loss.specs.Redo.{Spares, after_spared}

-- each entry lies sixteen bytes or more above those before it
abbrev Spaced : List ℕ → Type 0
Spaced [] = Unit {0}
Spaced (s ∷ sl) = Each (λ t. s + 16 ≤ t) sl × Spaced sl

slots-spaced : (a : ℕ) → Spaced (slots a)
slots-spaced a = ((omega arith, (omega arith, tt)), ((omega arith, tt), (tt, tt)))

-- where an entry of the list at a stands
pub record InList (a s : ℕ) : Type 0 where
  pub low : a + 16 ≤ s
  pub high : s ≤ a + 48
  pub step : (s - a) % 16 ≡ 0

pub slots_in : (a : ℕ) → Each (InList a) (slots a)
slots_in a =
    let at : (i : ℕ) → 16 ≤ i → i ≤ 48 → i % 16 ≡ 0 → InList a (a + i) = (λ i l u e. record { low = omega arith; high = omega arith; step = omega arith }) in
    (at 16 (omega arith) (omega arith) refl, (at 32 (omega arith) (omega arith) refl, (at 48 (omega arith) (omega arith) refl, tt)))

-- emptying entries elsewhere
pub emptying_spared : (o : ℕ) (sl : List ℕ) → Each (λ s. o ≡ s → ⊥) sl → Spares o (emptying sl)
emptying_spared o [] f = tt
emptying_spared o (s ∷ sl) f = (f.0, emptying_spared o sl f.1)

-- and further up
emptying_spares : (s : ℕ) (sl : List ℕ) → Each (λ t. s + 16 ≤ t) sl → Spares s (emptying sl)
emptying_spares s sl f = emptying_spared s sl (each_map (λ t. s + 16 ≤ t) (λ t. s ≡ t → ⊥) sl (λ t l. omega arith) f)

same_above : (m : Mem) (s : ℕ) (sl : List ℕ) → Each (λ t. s + 16 ≤ t) sl → SameSlots m (upd m s 0) sl
same_above m s [] f = tt
same_above m s (t ∷ sl) f =
    let l = f.0 in
    ((upd_other m s 0 t (omega arith), λ w. upd_other m s 0 (value_at t) (omega arith)), same_above m s sl f.1)

module _ (c : Choice) (none : Chooses c) where
  -- the chosen entries, and what is left of them after the first j
  abbrev chosen : Mem → List ℕ → List ℕ
  chosen m sl = those (λ s. c (m s)) sl

  abbrev left : Mem → List ℕ → List Store
  left m sl = map (entry m) (chosen m sl)

  spared_above : (m : Mem) (s j : ℕ) (sl : List ℕ) → Each (λ t. s + 16 ≤ t) sl → (x : Mem) → after x (emptying (take j (chosen m sl))) s ≡ x s
  spared_above m s j sl f x =
      after_spared x (emptying (take j (chosen m sl))) s
      (emptying_spares s (take j (chosen m sl)) (each_take (λ t. s + 16 ≤ t) j (chosen m sl) (those_each (λ t. s + 16 ≤ t) (λ t. c (m t)) sl f)))

  emptied_from : (sl : List ℕ) (m : Mem) (j : ℕ) → Spaced sl → left (after m (emptying (take j (chosen m sl)))) sl ≡ drop j (left m sl)
  unfolding those after
  emptied_from [] m zero f = refl
  emptied_from [] m (suc j) f = refl
  emptied_from (s ∷ sl) m j f = go (c (m s)) refl j (λ x i. emptied_from sl x i f.1)
    where
      go :
          (b : Bool)
          → c (m s) ≡ b
          → (j : ℕ)
          → ((x : Mem) (i : ℕ) → left (after x (emptying (take i (chosen x sl)))) sl ≡ drop i (left x sl))
          → left (after m (emptying (take j (cond b (s ∷ chosen m sl) (chosen m sl))))) (s ∷ sl)
          ≡ drop j (map (entry m) (cond b (s ∷ chosen m sl) (chosen m sl)))
      go true e zero ih = rw e
      go true e (suc j) ih =
          let x = upd m s 0 in
          let g = same_above m s sl f.0 in
          let y = after x (emptying (take j (chosen m sl))) in
          let z : y s ≡ 0 = spared_above m s j sl f.0 x ∙ upd_same m s 0 in
          let u : c (y s) ≡ false = ap c z ∙ none in
          rw u
          (ap (λ (l : List ℕ). left (after x (emptying (take j l))) sl) (sym (chosen_same c m x sl (targets_same c none m x sl g)))
          ∙ ih x j
          ∙ ap (drop j) (entries_same c none m x sl g))
      go false e j ih =
          let y = after m (emptying (take j (chosen m sl))) in
          let u : c (y s) ≡ false = ap c (spared_above m s j sl f.0 m) ∙ e in
          rw u (ih m j)

  pub emptied : (m : Mem) (a j : ℕ) → entries_by c (after m (emptying (take j (slots_by c m a)))) a ≡ drop j (entries_by c m a)
  emptied m a j = emptied_from (slots a) m j (slots-spaced a)

  -- of all of them none is left
  map_nil : (m : Mem) (sl : List ℕ) → map (entry m) sl ≡ [] → sl ≡ []
  map_nil m [] e = refl
  map_nil m (s ∷ sl) e = absurd (let z : ◌≡◌ {A = ℕ} 0 1 = cc in omega arith)

  pub all_emptied : (m : Mem) (a : ℕ) → Each (λ s. c (after m (emptying (slots_by c m a)) s) ≡ false) (slots a)
  all_emptied m a =
      let u = slots_by c m a in
      let y = after m (emptying u) in
      let l = length-map u (entry m) in
      nil_those (λ s. c (y s)) (slots a)
      (map_nil y (slots_by c y a)
      (ap (λ (sl : List ℕ). entries_by c (after m (emptying sl)) a) (sym (take-length u))
      ∙ emptied m a (length u)
      ∙ drop_of_length-le (entries_by c m a) {i = length u} (omega arith)))

-- the entry at s of m in y: as it was, or emptied where it was chosen, with its value
pub record Fades (c : Choice) (m y : Mem) (s : ℕ) : Type 0 where
  pub target : (y s ≡ m s) ⊎ ((y s ≡ 0) × (c (m s) ≡ true))
  pub value : y (value_at s) ≡ m (value_at s)

-- a word after emptying is as it was, or 0 and one of those emptied
emptied_word : (P : ℕ → Type 0) (m : Mem) (sl : List ℕ) (o : ℕ) → Each P sl → (after m (emptying sl) o ≡ m o) ⊎ ((after m (emptying sl) o ≡ 0) × P o)
unfolding after
emptied_word P m [] o f = inl refl
emptied_word P m (s ∷ sl) o f = go (eqb o s) refl (emptied_word P (upd m s 0) sl o f.1)
  where
    go :
        (b : Bool)
        → eqb o s ≡ b
        → (after (upd m s 0) (emptying sl) o ≡ upd m s 0 o) ⊎ ((after (upd m s 0) (emptying sl) o ≡ 0) × P o)
        → (after (upd m s 0) (emptying sl) o ≡ m o) ⊎ ((after (upd m s 0) (emptying sl) o ≡ 0) × P o)
    go b q (inr x) = inr x
    go true q (inl x) =
        let e = eqb-true o s q in
        inr (x ∙ ap (upd m s 0) e ∙ upd_same m s 0, subst P (sym e) f.0)
    go false q (inl x) = inl (x ∙ upd_other m s 0 o (eqb-false o s q))

pub fades : (c : Choice) (m : Mem) (a j : ℕ) → Each (Fades c m (after m (emptying (take j (slots_by c m a))))) (slots a)
fades c m a j =
    let u = slots_by c m a in
    each_map (InList a) (Fades c m (after m (emptying (take j u)))) (slots a)
    (λ s i.
    record {
      target = emptied_word (λ o. c (m o) ≡ true) m (take j u) s (each_take (λ o. c (m o) ≡ true) j u (those_pass (λ o. c (m o)) (slots a)));
      value =
          after_spared m (emptying (take j u)) (value_at s)
          (emptying_spared (value_at s) (take j u)
          (each_map (InList a) (λ t. value_at s ≡ t → ⊥) (take j u)
          (λ t y z. let b = i.step in let d = y.step in let e = i.low in let g = y.low in absurd (omega arith))
          (each_take (InList a) j u (those_each (InList a) (λ o. c (m o)) (slots a) (slots_in a)))));
    })
    (slots_in a)

-- entries that are not chosen stay as they were
module _ (c d : Choice) (apart : Apart c d) (none : Chooses d) (m y : Mem) where
  pub faded_listing : (sl : List ℕ) → Each (Fades c m y) sl → map (listed_at y) (those (λ s. d (y s)) sl) ≡ map (listed_at m) (those (λ s. d (m s)) sl)
  unfolding those
  faded_listing [] f = refl
  faded_listing (s ∷ sl) f = go f.0.target (faded_listing sl f.1)
    where
      go :
          (y s ≡ m s) ⊎ ((y s ≡ 0) × (c (m s) ≡ true))
          → map (listed_at y) (those (λ t. d (y t)) sl) ≡ map (listed_at m) (those (λ t. d (m t)) sl)
          → map (listed_at y) (those (λ t. d (y t)) (s ∷ sl)) ≡ map (listed_at m) (those (λ t. d (m t)) (s ∷ sl))
      go (inl e) ih = same (d (m s)) refl
        where
          same : (b : Bool) → d (m s) ≡ b → map (listed_at y) (those (λ t. d (y t)) (s ∷ sl)) ≡ map (listed_at m) (those (λ t. d (m t)) (s ∷ sl))
          same true q =
              let v = f.0.value in
              let i : listed_at y s ≡ listed_at m s = rw (e, v) in
              rw (ap d e ∙ q, q) (ap₂ ◌∷◌ i ih)
          same false q = rw (ap d e ∙ q, q) ih
      go (inr x) ih = rw (ap d x.0 ∙ none, other (d (m s)) refl) ih
        where
          other : (b : Bool) → d (m s) ≡ b → b ≡ false
          other true q = differ x.1 (apart (m s) q)
          other false q = refl
