-- A list in order: each chosen target lies in place. One store to a word of the list leaves it so if what is stored does, or is not chosen;
-- so does emptying. By induction on the places of the entries. Assumes nothing.
use Rattle.std.specs.Prelude.{ℕ, ◌+◌, ◌<◌, ◌≡◌, Bool, cond, ◌⊎◌, eqb}
use Rattle.std.proofs.Math.Path.{refl}
use Rattle.std.proofs.Common.{sym, ap, ◌∙◌, inl, inr, arith}
use Rattle.std.proofs.Math.Bool.{true, false, not}
use mathlib.Core.List.{List, [], ◌∷◌}
use borrow.Author.Tests.{eqb-true, eqb-false, not-false}
use Rattle.rules.specs.Lists.{those, any, Each}
use Rattle.rules.specs.Words.{Mem, upd}
use Rattle.rules.specs.Clumps.{Head, has_state, is_waiting, slots, ACTIVATING, Choice, target_of, target_at, waiting}
use Rattle.rules.specs.Sound.{in_place, list_bad}
use Rattle.word.specs.Memory.{upd_same, upd_other}
use Rattle.laws.specs.Searches.{differ, or_neither, each_map}
use Rattle.laws.specs.Choices.{Chooses, chooses_waiting}
use Rattle.loss.specs.Emptied.{Fades}

module _ (c : Choice) (n : ℕ) where
  -- the entry at u, if it is chosen, has its target in place
  abbrev pub InOrder : Mem → ℕ → Type 0
  InOrder m u = c (m u) ≡ true → in_place n (target_at m u) ≡ true

  abbrev pub Good : Mem → List ℕ → Type 0
  Good m sl = Each (InOrder m) sl

  abbrev bad : Mem → List ℕ → Bool
  bad m sl = any (λ u. not (in_place n (target_at m u))) (those (λ u. c (m u)) sl)

  good_bad : (m : Mem) (sl : List ℕ) → Good m sl → bad m sl ≡ false
  unfolding any those
  good_bad m [] e = refl
  good_bad m (u ∷ sl) e = go (c (m u)) refl (good_bad m sl e.1)
    where
      go :
          (b : Bool)
          → c (m u) ≡ b
          → bad m sl ≡ false
          → any (λ t. not (in_place n (target_at m t))) (cond b (u ∷ those (λ t. c (m t)) sl) (those (λ t. c (m t)) sl)) ≡ false
      go true q ih = rw (e.0 q) ih
      go false q ih = ih

  bad_good : (m : Mem) (sl : List ℕ) → bad m sl ≡ false → Good m sl
  unfolding any those
  bad_good m [] e = tt
  bad_good m (u ∷ sl) e = go (c (m u)) refl e (bad_good m sl)
    where
      go :
          (b : Bool)
          → c (m u) ≡ b
          → any (λ t. not (in_place n (target_at m t))) (cond b (u ∷ those (λ t. c (m t)) sl) (those (λ t. c (m t)) sl)) ≡ false
          → (bad m sl ≡ false → Good m sl)
          → Good m (u ∷ sl)
      go true q f ih = let x = or_neither (not (in_place n (target_at m u))) _ f in ((λ z. not-false _ x.0), ih x.1)
      go false q f ih = ((λ z. differ z q), ih f)

  -- an entry as it was
  order_same : (m y : Mem) (u : ℕ) → y u ≡ m u → InOrder m u → InOrder y u
  order_same m y u e f z = ap (λ (t : ℕ). in_place n (target_of t)) e ∙ f (ap c (sym e) ∙ z)

  -- one word of a list changes
  pub good_with : (m : Mem) (s t : ℕ) (sl : List ℕ) → (c t ≡ true → in_place n (target_of t) ≡ true) → Good m sl → Good (upd m s t) sl
  good_with m s t [] i f = tt
  good_with m s t (u ∷ sl) i f = (go (eqb u s) refl, good_with m s t sl i f.1)
    where
      go : (b : Bool) → eqb u s ≡ b → InOrder (upd m s t) u
      go true e z =
          let v : upd m s t u ≡ t = ap (upd m s t) (eqb-true u s e) ∙ upd_same m s t in
          ap (λ (o : ℕ). in_place n (target_of o)) v ∙ i (ap c (sym v) ∙ z)
      go false e z = order_same m (upd m s t) u (upd_other m s t u (eqb-false u s e)) f.0 z

  -- the same targets
  pub good_alike : (m x : Mem) (sl : List ℕ) → Each (λ u. x u ≡ m u) sl → Good m sl → Good x sl
  good_alike m x [] e f = tt
  good_alike m x (u ∷ sl) e f = (order_same m x u e.0 f.0, good_alike m x sl e.1 f.1)

  -- a list that is emptied, whatever is
  pub good_faded : (d : Choice) (m y : Mem) (sl : List ℕ) → Chooses c → Each (Fades d m y) sl → Good m sl → Good y sl
  good_faded d m y [] k e f = tt
  good_faded d m y (u ∷ sl) k e f = (go e.0.target, good_faded d m y sl k e.1 f.1)
    where
      go : (y u ≡ m u) ⊎ ((y u ≡ 0) × (d (m u) ≡ true)) → InOrder y u
      go (inl x) = order_same m y u x f.0
      go (inr x) = λ z. differ z (ap c x.0 ∙ k)

-- the list of a clump
pub list_good : (n : ℕ) (m : Mem) (h : Head) → list_bad n m h ≡ false → Good (waiting h) n m (slots h.at)
unfolding list_bad
list_good n m h e = bad_good (waiting h) n m (slots h.at) e

pub good_list : (n : ℕ) (m : Mem) (h : Head) → Good (waiting h) n m (slots h.at) → list_bad n m h ≡ false
unfolding list_bad
good_list n m h g = good_bad (waiting h) n m (slots h.at) g

-- a clump of which no entry waits
pub unjudged : (n : ℕ) (m : Mem) (h : Head) → is_waiting h ≡ false → has_state ACTIVATING h ≡ false → list_bad n m h ≡ false
unfolding list_bad those any
unjudged n m h e f = rw (e, f)

-- a list without entries; a store to the size or to the state leaves it so
abbrev pub Bare : Mem → ℕ → Type 0
Bare m a = Each (λ s. m s ≡ 0) (slots a)

pub bare_good : (n : ℕ) (m : Mem) (h : Head) → Bare m h.at → list_bad n m h ≡ false
bare_good n m h e =
    good_list n m h
    (each_map (λ s. m s ≡ 0) (InOrder (waiting h) n m) (slots h.at) (λ s z u. differ u (ap (waiting h) z ∙ chooses_waiting h)) e)

pub bare_front : (m : Mem) (a i w : ℕ) → i < a + 16 → Bare m a → Bare (upd m i w) a
bare_front m a i w l e = (upd_other m i w _ (omega arith) ∙ e.0, (upd_other m i w _ (omega arith) ∙ e.1.0, (upd_other m i w _ (omega arith) ∙ e.1.1.0, tt)))
