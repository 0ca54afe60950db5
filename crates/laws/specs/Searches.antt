-- Laws of the rules' searches, choices and tests on lists, each by induction on the list. Assumes nothing.
use Rattle.std.proofs.Math.Path.{◌≡◌, refl, ap}
use Rattle.std.proofs.Common.{sym, ◌∙◌, subst}
use Rattle.std.specs.Prelude.{Bool, ◌&&◌, ◌||◌, ℕ, zero, suc, ◌≤◌, take, drop}
use Rattle.std.proofs.Math.Bool.{true, false, cond}
use Rattle.std.proofs.Math.Option.{Option, some, none}
use mathlib.Core.List.{List, [], ◌∷◌, ◌++◌, map}
use native.Mathlib.Omega.{arith}
use Rattle.std.proofs.Math.ListN.{length}
use Rattle.rules.specs.Lists.{seek, those, any, all, Each}
use Rattle.rules.specs.Stores.{last_of}

-- a Bool is not both
pub differ {ℓ} : {A : Type ℓ} {b : Bool} → b ≡ true → b ≡ false → A
differ p q = absurd (let z : ◌≡◌ {A = ℕ} 0 1 = cc in omega arith)

pub some-none {ℓ} : {A : Type 0} {B : Type ℓ} {x : A} {o : Option A} → o ≡ some x → o ≡ none → B
some-none p q = absurd (let z : ◌≡◌ {A = ℕ} 0 1 = cc in omega arith)

-- of a test that is or is not passed
pub or_neither : (a b : Bool) → (a || b) ≡ false → (a ≡ false) × (b ≡ false)
or_neither true b e = (e, cc)
or_neither false b e = (refl, e)

pub and_both : (a b : Bool) → (a && b) ≡ true → (a ≡ true) × (b ≡ true)
and_both true b e = (refl, e)
and_both false b e = (e, cc)

module _ {A : Type 0} where
  -- a search stops at an element that passes, and passes over one that does not
  pub seek_hit : (p : A → Bool) (x : A) (xs : List A) → p x ≡ true → seek p (x ∷ xs) ≡ some x
  unfolding seek
  seek_hit p x xs e = rw (e, seek)

  pub seek_pass : (p : A → Bool) (x : A) (xs : List A) → p x ≡ false → seek p (x ∷ xs) ≡ seek p xs
  unfolding seek
  seek_pass p x xs e = rw (e, seek)

  pub seek_nil : (p : A → Bool) → seek p [] ≡ none
  unfolding seek
  seek_nil p = refl

  -- what is found passes, and nothing before it does
  pub record Split (p : A → Bool) (xs : List A) (x : A) : Type 0 where
    pub lower : List A
    pub higher : List A
    pub whole : xs ≡ lower ++ (x ∷ higher)
    pub before : Each (λ y. p y ≡ false) lower
    pub passes : p x ≡ true

  pub seek_split : (p : A → Bool) (xs : List A) (x : A) → seek p xs ≡ some x → Split p xs x
  seek_split p [] x e = some-none e (seek_nil p)
  seek_split p (y ∷ xs) x e = go (p y) refl (seek_split p xs x)
    where
      go : (t : Bool) → p y ≡ t → (seek p xs ≡ some x → Split p xs x) → Split p (y ∷ xs) x
      go true q ih =
          let i : y ≡ x = (let z = seek_hit p y xs q in cc) in
          record { lower = []; higher = xs; whole = ap (λ (w : A). w ∷ xs) i; before = tt; passes = rw (← i) q }
      go false q ih =
          let r = ih (sym (seek_pass p y xs q) ∙ e) in
          record { lower = y ∷ r.lower; higher = r.higher; whole = ap (λ (w : List A). y ∷ w) r.whole; before = (q, r.before); passes = r.passes }

  -- nothing is found exactly where nothing passes
  pub seek_none : (p : A → Bool) (xs : List A) → seek p xs ≡ none → Each (λ y. p y ≡ false) xs
  seek_none p [] e = tt
  seek_none p (y ∷ xs) e = go (p y) refl (seek_none p xs)
    where
      go : (t : Bool) → p y ≡ t → (seek p xs ≡ none → Each (λ z. p z ≡ false) xs) → Each (λ z. p z ≡ false) (y ∷ xs)
      go true q ih = some-none (seek_hit p y xs q) e
      go false q ih = (q, ih (sym (seek_pass p y xs q) ∙ e))

  pub none_seek : (p : A → Bool) (xs : List A) → Each (λ y. p y ≡ false) xs → seek p xs ≡ none
  none_seek p [] e = seek_nil p
  none_seek p (y ∷ xs) e = seek_pass p y xs e.0 ∙ none_seek p xs e.1

  -- the first that passes, behind some that do not
  pub seek_at : (p : A → Bool) (lower : List A) (x : A) (higher : List A) → Each (λ y. p y ≡ false) lower → p x ≡ true → seek p (lower ++ (x ∷ higher)) ≡ some x
  seek_at p [] x higher e f = seek_hit p x higher f
  seek_at p (y ∷ lower) x higher e f = seek_pass p y (lower ++ (x ∷ higher)) e.0 ∙ seek_at p lower x higher e.1 f

  -- what holds of each element holds of the one that is found
  pub seek_each : (P : A → Type 0) (p : A → Bool) (xs : List A) (x : A) → seek p xs ≡ some x → Each P xs → P x
  seek_each P p [] x e f = some-none e (seek_nil p)
  seek_each P p (y ∷ xs) x e f = go (p y) refl (seek_each P p xs x)
    where
      go : (t : Bool) → p y ≡ t → (seek p xs ≡ some x → Each P xs → P x) → P x
      go true q ih = let i : y ≡ x = (let z = seek_hit p y xs q in cc) in subst P i f.0
      go false q ih = ih (sym (seek_pass p y xs q) ∙ e) f.1

  -- each of two parts
  pub each_append : (P : A → Type 0) (xs ys : List A) → Each P xs → Each P ys → Each P (xs ++ ys)
  each_append P [] ys f g = g
  each_append P (x ∷ xs) ys f g = (f.0, each_append P xs ys f.1 g)

  pub each_left : (P : A → Type 0) (xs ys : List A) → Each P (xs ++ ys) → Each P xs
  each_left P [] ys f = tt
  each_left P (x ∷ xs) ys f = (f.0, each_left P xs ys f.1)

  pub each_right : (P : A → Type 0) (xs ys : List A) → Each P (xs ++ ys) → Each P ys
  each_right P [] ys f = f
  each_right P (x ∷ xs) ys f = each_right P xs ys f.1

  pub each_drop : (P : A → Type 0) (k : ℕ) (xs : List A) → Each P xs → Each P (drop k xs)
  each_drop P zero xs f = f
  each_drop P (suc k) [] f = tt
  each_drop P (suc k) (x ∷ xs) f = each_drop P k xs f.1

  pub each_both : (P Q : A → Type 0) (xs : List A) → Each P xs → Each Q xs → Each (λ x. P x × Q x) xs
  each_both P Q [] f g = tt
  each_both P Q (x ∷ xs) f g = ((f.0, g.0), each_both P Q xs f.1 g.1)

  pub each_map : (P Q : A → Type 0) (xs : List A) → ((x : A) → P x → Q x) → Each P xs → Each Q xs
  each_map P Q [] h f = tt
  each_map P Q (x ∷ xs) h f = (h x f.0, each_map P Q xs h f.1)

  pub map_each : {B : Type 0} (Q : B → Type 0) (f : A → B) (xs : List A) → Each (λ x. Q (f x)) xs → Each Q (map f xs)
  map_each Q f [] e = tt
  map_each Q f (x ∷ xs) e = (e.0, map_each Q f xs e.1)

  -- each of the first k
  pub each_take : (P : A → Type 0) (k : ℕ) (xs : List A) → Each P xs → Each P (take k xs)
  each_take P zero xs f = tt
  each_take P (suc k) [] f = tt
  each_take P (suc k) (x ∷ xs) f = (f.0, each_take P k xs f.1)

  -- some element passes exactly where a search finds one (no proof cites the first two of these now; they stand as they were stated)
  pub any_hit : (p : A → Bool) (x : A) (xs : List A) → p x ≡ true → any p (x ∷ xs) ≡ true
  unfolding any
  any_hit p x xs e = rw e

  pub any_pass : (p : A → Bool) (x : A) (xs : List A) → p x ≡ false → any p (x ∷ xs) ≡ any p xs
  unfolding any
  any_pass p x xs e = rw e

  pub any_none : (p : A → Bool) (xs : List A) → any p xs ≡ false → Each (λ y. p y ≡ false) xs
  unfolding any
  any_none p [] e = tt
  any_none p (x ∷ xs) e = let r = or_neither (p x) (any p xs) e in (r.0, any_none p xs r.1)

  pub none_any : (p : A → Bool) (xs : List A) → Each (λ y. p y ≡ false) xs → any p xs ≡ false
  unfolding any
  none_any p [] e = refl
  none_any p (x ∷ xs) e = rw e.0 (none_any p xs e.1)

  pub any_same : (p q : A → Bool) (xs : List A) → Each (λ x. p x ≡ q x) xs → any p xs ≡ any q xs
  unfolding any
  any_same p q [] e = refl
  any_same p q (x ∷ xs) e = rw (e.0, any_same p q xs e.1)

  pub all_same : (p q : A → Bool) (xs : List A) → Each (λ x. p x ≡ q x) xs → all p xs ≡ all q xs
  unfolding all
  all_same p q [] e = refl
  all_same p q (x ∷ xs) e = rw (e.0, all_same p q xs e.1)

  -- all pass
  pub all_each : (p : A → Bool) (xs : List A) → all p xs ≡ true → Each (λ x. p x ≡ true) xs
  unfolding all
  all_each p [] e = tt
  all_each p (x ∷ xs) e = let r = and_both (p x) (all p xs) e in (r.0, all_each p xs r.1)

  -- what passes, with what holds of each
  pub any_each : (P : A → Type 0) (p : A → Bool) (hs : List A) → any p hs ≡ true → Each P hs → (h : A) × (p h ≡ true) × P h
  unfolding any
  any_each P p [] e f = differ e refl
  any_each P p (h ∷ hs) e f = go (p h) refl e (any_each P p hs)
    where
      go : (t : Bool) → p h ≡ t → (t || any p hs) ≡ true → (any p hs ≡ true → Each P hs → (k : A) × (p k ≡ true) × P k) → (k : A) × (p k ≡ true) × P k
      go true q e ih = (h, q, f.0)
      go false q e ih = ih e f.1

  -- those that pass: each of them has what each had, and what follows from that and from passing
  pub those_map : (P Q : A → Type 0) (p : A → Bool) (xs : List A) → ((x : A) → p x ≡ true → P x → Q x) → Each P xs → Each Q (those p xs)
  unfolding those
  those_map P Q p [] h f = tt
  those_map P Q p (x ∷ xs) h f = go (p x) refl (those_map P Q p xs h f.1)
    where
      go : (b : Bool) → p x ≡ b → Each Q (those p xs) → Each Q (cond b (x ∷ those p xs) (those p xs))
      go true e r = (h x e f.0, r)
      go false e r = r

  pub those_each : (P : A → Type 0) (p : A → Bool) (xs : List A) → Each P xs → Each P (those p xs)
  those_each P p xs f = those_map P P p xs (λ x e y. y) f

  -- two tests that say the same
  pub those_alike : (p q : A → Bool) (xs : List A) → Each (λ x. p x ≡ q x) xs → those p xs ≡ those q xs
  unfolding those
  those_alike p q [] e = refl
  those_alike p q (x ∷ xs) e = let f = e.0 in rw (f, those_alike p q xs e.1)

  -- each passes the test
  pub those_pass : (p : A → Bool) (xs : List A) → Each (λ x. p x ≡ true) (those p xs)
  unfolding those
  those_pass p [] = tt
  those_pass p (x ∷ xs) = go (p x) refl (those_pass p xs)
    where
      go : (b : Bool) → p x ≡ b → Each (λ y. p y ≡ true) (those p xs) → Each (λ y. p y ≡ true) (cond b (x ∷ those p xs) (those p xs))
      go true q f = (q, f)
      go false q f = f

  pub those_few : (p : A → Bool) (xs : List A) → length (those p xs) ≤ length xs
  unfolding those
  those_few p [] = omega arith
  those_few p (x ∷ xs) = go (p x) (those_few p xs)
    where
      go : (b : Bool) → length (those p xs) ≤ length xs → length (cond b (x ∷ those p xs) (those p xs)) ≤ length (x ∷ xs)
      go true r = omega arith
      go false r = omega arith

  pub those_nil : (p : A → Bool) (xs : List A) → Each (λ y. p y ≡ false) xs → those p xs ≡ []
  unfolding those
  those_nil p [] e = refl
  those_nil p (x ∷ xs) e = rw e.0 (those_nil p xs e.1)

  pub nil_those : (p : A → Bool) (xs : List A) → those p xs ≡ [] → Each (λ y. p y ≡ false) xs
  unfolding those
  nil_those p [] e = tt
  nil_those p (x ∷ xs) e = go (p x) refl e (nil_those p xs)
    where
      go : (b : Bool) → p x ≡ b → cond b (x ∷ those p xs) (those p xs) ≡ [] → (those p xs ≡ [] → Each (λ y. p y ≡ false) xs) → Each (λ y. p y ≡ false) (x ∷ xs)
      go true q f ih = absurd (let z : ◌≡◌ {A = ℕ} 0 1 = cc in omega arith)
      go false q f ih = (q, ih f)

  pub those_append : (p : A → Bool) (xs ys : List A) → those p (xs ++ ys) ≡ those p xs ++ those p ys
  unfolding those
  those_append p [] ys = refl
  those_append p (x ∷ xs) ys = go (p x) (those_append p xs ys)
    where
      go :
          (b : Bool)
          → those p (xs ++ ys) ≡ those p xs ++ those p ys
          → cond b (x ∷ those p (xs ++ ys)) (those p (xs ++ ys)) ≡ cond b (x ∷ those p xs) (those p xs) ++ those p ys
      go true r = ap (λ (l : List A). x ∷ l) r
      go false r = r

-- what holds of each holds of the last
pub last_each : (P : ℕ → Type 0) (s : ℕ) (sl : List ℕ) → P s → Each P sl → P (last_of s sl)
last_each P s [] e f = e
last_each P s (t ∷ sl) e f = last_each P t sl f.0 f.1
