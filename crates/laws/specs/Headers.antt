-- What a rule reads of the header page and of a clump's header: each definition that a verdict is made of is the same of two memories that
-- agree on so much. It reads the targets of a list, and the values of its used entries. By the definitions, one law each. Assumes nothing.
use Rattle.std.specs.Prelude.{ℕ, zero, suc, ◌+◌, ◌*◌, ◌≤◌, ◌≡◌, Bool, true, false, cond, not, ◌&&◌, eqb}
use Rattle.std.proofs.Math.Path.{refl, ap, ap₂}
use Rattle.std.proofs.Common.{◌∙◌, arith}
use Rattle.std.proofs.Math.Option.{Option}
use mathlib.Core.List.{List, [], ◌∷◌, ◌++◌, map}
use Rattle.rules.specs.Lists.{those, any, all, Each}
use Rattle.rules.specs.Words.{Mem, Store, word_bytes, all_zero}
use Rattle.rules.specs.Pages.{header_at, signature_high_at, total_at, padding_at, padding_words, clumps_at, is_pool}
use Rattle.rules.specs.Clumps.{Head, FREE, RESERVED, ACTIVATING, ACTIVE, has_state, header_bytes, is_waiting, is_used, slots, value_at, Choice, used, marked, unmarked, target_of, nothing, freed, slots_by, target_at, entry}
use Rattle.rules.specs.Sound.{in_place, list_bad, is_valid, all_valid}
use Rattle.rules.specs.Answers.{Verdict, granted, test, wrong_state, bad_target}
use Rattle.rules.specs.Stores.{set_state, free_after, free_before, join_both, emptying, finish_activating, finish_freeing, activate_stores, drop_stores, free_stores}
use Rattle.rules.specs.Requests.{open_slot, listed, enlist, withdrawn, withdraw, activate, free}
use Rattle.rules.specs.Reading.{listed_at}
use Rattle.laws.specs.Searches.{those_map, any_same, all_same, each_map}
use Rattle.laws.specs.Choices.{Chooses, chosen_used, chooses_unmarked, chooses_marked, chooses_freed}

-- x agrees with m on the header of the clump at a, and on the headers of hs
abbrev pub AgreeAt : Mem → Mem → ℕ → Type 0
AgreeAt m x a = (o : ℕ) → a ≤ o → o + word_bytes ≤ a + header_bytes → x o ≡ m o

abbrev pub Agree : Mem → Mem → List Head → Type 0
Agree m x hs = Each (λ h. AgreeAt m x h.at) hs

-- x agrees with m on the header page
abbrev pub AgreePage : Mem → Mem → Type 0
AgreePage m x = (o : ℕ) → header_at ≤ o → o + word_bytes ≤ clumps_at → x o ≡ m o

-- x agrees with m on the entry that stands at s: on its target, and on its value if it is used
abbrev pub SameSlot : Mem → Mem → ℕ → Type 0
SameSlot m x s = (x s ≡ m s) × (is_used m s ≡ true → x (value_at s) ≡ m (value_at s))

-- and on those that stand at these offsets
abbrev pub SameSlots : Mem → Mem → List ℕ → Type 0
SameSlots m x sl = Each (SameSlot m x) sl

-- what holds of the first, second and third entry holds of each
pub each_slot : (P : ℕ → Type 0) (a : ℕ) → ((k : ℕ) → 1 ≤ k → k ≤ 3 → P (a + 16 * k)) → Each P (slots a)
each_slot P a f = (f 1 (omega arith) (omega arith), (f 2 (omega arith) (omega arith), (f 3 (omega arith) (omega arith), tt)))

pub slots_same : (m x : Mem) (a : ℕ) → AgreeAt m x a → SameSlots m x (slots a)
slots_same m x a g = each_slot (SameSlot m x) a (λ k l u. (g _ (omega arith) (omega arith), λ w. g _ (omega arith) (omega arith)))

pub map_same : {A B : Type 0} (f g : A → B) (xs : List A) → Each (λ x. f x ≡ g x) xs → map f xs ≡ map g xs
map_same f g [] e = refl
map_same f g (x ∷ xs) e = ap₂ ◌∷◌ e.0 (map_same f g xs e.1)

-- what depends on the stored target alone, over entries with the same targets: a choice, a search for one that is marked, the entry that
-- a new one goes to
abbrev SameTargets : Mem → Mem → List ℕ → Type 0
SameTargets m x sl = Each (λ s. x s ≡ m s) sl

pub chosen_same : (c : Choice) (m x : Mem) (sl : List ℕ) → SameTargets m x sl → those (λ s. c (x s)) sl ≡ those (λ s. c (m s)) sl
unfolding those
chosen_same c m x [] e = refl
chosen_same c m x (s ∷ sl) e = let f = e.0 in rw (f, chosen_same c m x sl e.1)

any_chosen_same : (c : Choice) (m x : Mem) (sl : List ℕ) → SameTargets m x sl → any (λ s. c (x s)) sl ≡ any (λ s. c (m s)) sl
any_chosen_same c m x sl e = any_same (λ s. c (x s)) (λ s. c (m s)) sl (each_map (λ s. x s ≡ m s) (λ s. c (x s) ≡ c (m s)) sl (λ s f. ap c f) e)

open_same : (m x : Mem) (sl : List ℕ) → SameTargets m x sl → open_slot x sl ≡ open_slot m sl
unfolding open_slot
open_same m x [] e = refl
open_same m x (s ∷ sl) e = rw (any_chosen_same used m x (s ∷ sl) e, open_same m x sl e.1)

-- the chosen ones among them, with their values
module _ (c : Choice) (z : Chooses c) (m x : Mem) (sl : List ℕ) (g : SameSlots m x sl) where
  pub targets_same : SameTargets m x sl
  targets_same = each_map (SameSlot m x) (λ s. x s ≡ m s) sl (λ s e. e.0) g

  -- whatever is made of where an entry stands, its stored target and its value
  made-same : {A : Type 0} (f : ℕ → ℕ → ℕ → A) → map (λ s. f s (x s) (x (value_at s))) (those (λ s. c (x s)) sl) ≡ map (λ s. f s (m s) (m (value_at s))) (those (λ s. c (m s)) sl)
  made-same f =
      ap (map (λ s. f s (x s) (x (value_at s)))) (chosen_same c m x sl targets_same)
      ∙ map_same (λ s. f s (x s) (x (value_at s))) (λ s. f s (m s) (m (value_at s))) (those (λ s. c (m s)) sl)
      (those_map (SameSlot m x) (λ s. f s (x s) (x (value_at s)) ≡ f s (m s) (m (value_at s))) (λ s. c (m s)) sl
      (λ s u e. ap₂ (f s) e.0 (e.1 (chosen_used c (m s) z u))) g)

  pub entries_same : map (entry x) (those (λ s. c (x s)) sl) ≡ map (entry m) (those (λ s. c (m s)) sl)
  entries_same = made-same (λ s t v. record { to = target_of t; word = v })

  pub listing-same : map (listed_at x) (those (λ s. c (x s)) sl) ≡ map (listed_at m) (those (λ s. c (m s)) sl)
  listing-same = made-same (λ s t v. record { place = s; mark = marked t; assigns = record { to = target_of t; word = v } })

-- a test of each chosen target
module _ (c : Choice) (m x : Mem) (sl : List ℕ) (e : SameTargets m x sl) (p : ℕ → Bool) where
  tested : Each (λ s. p (target_at x s) ≡ p (target_at m s)) (those (λ s. c (m s)) sl)
  tested = those_map (λ s. x s ≡ m s) (λ s. p (target_at x s) ≡ p (target_at m s)) (λ s. c (m s)) sl (λ s u f. ap (λ (w : ℕ). p (target_of w)) f) e

  any_test : any (λ s. p (target_at x s)) (those (λ s. c (x s)) sl) ≡ any (λ s. p (target_at m s)) (those (λ s. c (m s)) sl)
  any_test =
      ap (any (λ s. p (target_at x s))) (chosen_same c m x sl e)
      ∙ any_same (λ s. p (target_at x s)) (λ s. p (target_at m s)) (those (λ s. c (m s)) sl) tested

  all_test : all (λ s. p (target_at x s)) (those (λ s. c (x s)) sl) ≡ all (λ s. p (target_at m s)) (those (λ s. c (m s)) sl)
  all_test =
      ap (all (λ s. p (target_at x s))) (chosen_same c m x sl e)
      ∙ all_same (λ s. p (target_at x s)) (λ s. p (target_at m s)) (those (λ s. c (m s)) sl) tested

-- what stands behind a test need only be the same where the test lets it pass
behind : {A B : Type 0} (f : Bool → A → B) (b : Bool) (c d : A) → ((y z : A) → f false y ≡ f false z) → (b ≡ true → c ≡ d) → f b c ≡ f b d
behind f true c d z e = ap (f true) (e refl)
behind f false c d z e = z c d

allowed_same : (b : Bool) (v w : Verdict) → (b ≡ true → v ≡ w) → test (not b) wrong_state v ≡ test (not b) wrong_state w
allowed_same b v w e = behind (λ c. test (not c) wrong_state) b v w (λ y z. refl) e

-- a list of which no entry waits is not judged
pub list_same :
    (n : ℕ) (m x : Mem) (h : Head)
    → (is_waiting h ≡ true → SameSlots m x (slots h.at))
    → (has_state ACTIVATING h ≡ true → SameSlots m x (slots h.at))
    → list_bad n x h ≡ list_bad n m h
unfolding list_bad those any
list_same n m x h f g = go (is_waiting h) refl (has_state ACTIVATING h) refl
  where
    bad : Choice → Mem → Bool
    bad c y = any (λ s. not (in_place n (target_at y s))) (slots_by c y h.at)

    judged : (c : Choice) → Chooses c → SameSlots m x (slots h.at) → bad c x ≡ bad c m
    judged c z e = any_test c m x (slots h.at) (targets_same c z m x (slots h.at) e) (λ t. not (in_place n t))

    go : (a : Bool) → is_waiting h ≡ a → (b : Bool) → has_state ACTIVATING h ≡ b → bad (cond a used (cond b marked nothing)) x ≡ bad (cond a used (cond b marked nothing)) m
    go true p b q = judged used refl (f p)
    go false p true q = judged marked chooses_marked (g q)
    go false p false q = refl

module _ (n : ℕ) (m x : Mem) (hs : List Head) where
  pub valid_same : (c : Choice) → Chooses c → (h : Head) → SameSlots m x (slots h.at) → all_valid c x hs h ≡ all_valid c m hs h
  unfolding all_valid
  valid_same c z h g = all_test c m x (slots h.at) (targets_same c z m x (slots h.at) g) (is_valid hs)

  -- the stores of a clump's list
  pub finish_activating_same : (h : Head) → SameSlots m x (slots h.at) → finish_activating x h ≡ finish_activating m h
  unfolding finish_activating
  finish_activating_same h g =
      ap₂ (λ (st : List Store) (sl : List ℕ). st ++ (emptying sl ++ (set_state h ACTIVE ∷ [])))
      (entries_same unmarked chooses_unmarked m x (slots h.at) g)
      (chosen_same unmarked m x (slots h.at) (targets_same unmarked chooses_unmarked m x (slots h.at) g))

  pub finish_freeing_same : (c : Choice) → Chooses c → (h : Head) → SameSlots m x (slots h.at) → finish_freeing c x h ≡ finish_freeing c m h
  unfolding finish_freeing
  finish_freeing_same c z h g = ap (λ (st : List Store). st ++ (set_state h FREE ∷ [])) (entries_same c z m x (slots h.at) g)

  drop_same : (h : Head) → SameSlots m x (slots h.at) → drop_stores x h ≡ drop_stores m h
  unfolding drop_stores
  drop_same h g =
      let t = targets_same used refl m x (slots h.at) g in
      rw (
        finish_freeing_same used refl h g,
        finish_freeing_same marked chooses_marked h g,
        any_chosen_same marked m x (slots h.at) t,
        chosen_same unmarked m x (slots h.at) t,
      )

  -- the verdicts on a clump: in a state that is not allowed its list is not read
  pub enlist-same :
      (allowed : Head → Bool) (o t u v : ℕ) (h : Head)
      → (allowed h ≡ true → SameSlots m x (slots h.at))
      → enlist x hs allowed o t u v h ≡ enlist m hs allowed o t u v h
  unfolding enlist
  enlist-same allowed o t u v h g =
      allowed_same (allowed h) _ _
      (λ w. ap (λ (e : Option ℕ). listed (is_valid hs t) e o u v) (open_same m x (slots h.at) (targets_same used refl m x (slots h.at) (g w))))

  pub withdraw-same : (o : ℕ) (h : Head) → (is_waiting h ≡ true → SameSlots m x (slots h.at)) → withdraw x o h ≡ withdraw m o h
  unfolding withdraw
  withdraw-same o h g =
      allowed_same (is_waiting h) _ _
      (λ w. ap (λ (sl : List ℕ). withdrawn sl o) (chosen_same used m x (slots h.at) (targets_same used refl m x (slots h.at) (g w))))

  pub activate-same :
      (o : ℕ) (h : Head)
      → (has_state RESERVED h ≡ true → SameSlots m x (slots h.at))
      → activate x hs o h ≡ activate m hs o h
  unfolding activate activate_stores
  activate-same o h g =
      allowed_same (has_state RESERVED h) _ _
      (λ w. ap₂ (λ (b : Bool) (st : List Store). test (not b) bad_target (granted o (set_state h ACTIVATING ∷ st)))
      (valid_same unmarked chooses_unmarked h (g w)) (finish_activating_same h (g w)))

  pub free-same : (o : ℕ) (h : Head) → (is_waiting h ≡ true → SameSlots m x (slots h.at)) → free x hs o h ≡ free m hs o h
  unfolding free free_stores
  free-same o h g =
      allowed_same (is_waiting h) _ _
      (λ w. ap₂ (λ (b : Bool) (st : List Store). test (not b) bad_target (granted o (st ++ join_both (free_after hs h) (free_before hs h) h)))
      (valid_same (freed h) (chooses_freed h) h (g w)) (drop_same h (g w)))

zero_same : (k i : ℕ) (m x : Mem) → AgreePage m x → header_at ≤ i → i + word_bytes * k ≤ clumps_at → all_zero x i k ≡ all_zero m i k
unfolding all_zero
zero_same zero i m x g l u = refl
zero_same (suc k) i m x g l u =
    ap₂ ◌&&◌ (ap (λ (w : ℕ). eqb w 0) (g i l (omega arith))) (zero_same k (i + word_bytes) m x g (omega arith) (omega arith))

pub pool_same : (n : ℕ) (m x : Mem) → AgreePage m x → is_pool n x ≡ is_pool n m
unfolding is_pool
pool_same n m x g =
    rw (
      g header_at (omega arith) (omega arith),
      g signature_high_at (omega arith) (omega arith),
      g total_at (omega arith) (omega arith),
      zero_same padding_words padding_at m x g (omega arith) (omega arith),
    )
