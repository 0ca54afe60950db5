-- A verdict stands behind its tests: what holds of every refusal, and of what comes once every test has failed, holds of the verdict; so with
-- the stores of a request, of which a refusal has none. By cases on each test. Assumes nothing.
use Rattle.std.specs.Prelude.{ℕ, ◌≡◌, refl, Bool, true, false, not, List, []}
use Rattle.std.proofs.Math.Option.{Option, some, none}
use borrow.Author.Tests.{not-false}
use Rattle.rules.specs.Words.{Mem, Store}
use Rattle.rules.specs.Pages.{is_pool}
use Rattle.rules.specs.Clumps.{Head, walk}
use Rattle.rules.specs.Sound.{Fault, judge, unsettled}
use Rattle.rules.specs.Answers.{Verdict, refused, refuse, test, test_fault, stores_of, if_sound, if_settled, not_pool, not_sound, not_settled, no_clump}
use Rattle.rules.specs.Requests.{found}
use Rattle.laws.specs.Pools.{Sound}

-- a verdict: what holds of a refusal at each test, and of what comes once the test has failed, holds of the whole
module _ (Q : Verdict → Type 0) where
  pub through-test : (b : Bool) (a : ℕ) (v : Verdict) → Q (refuse a) → (b ≡ false → Q v) → Q (test b a v)
  through-test true a v r f = r
  through-test false a v r f = f refl

  through_fault : (o : Option Fault) (v : Verdict) → ((k : Fault) → Q (refused not_sound k.place k.number)) → (o ≡ none → Q v) → Q (test_fault o v)
  through_fault none v r f = f refl
  through_fault (some k) v r f = r k

  pub through_sound : (n : ℕ) (m : Mem) (v : Verdict) → Q (refuse not_pool) → ((k : Fault) → Q (refused not_sound k.place k.number)) → (Sound n m → Q v) → Q (if_sound n m v)
  unfolding if_sound
  through_sound n m v p r f =
      through-test (not (is_pool n m)) not_pool _ p (λ e. through_fault (judge n m) v r (λ j. f (record { pool = not-false _ e; sound = j })))

  pub through-settled :
      (n : ℕ) (m : Mem) (v : Verdict)
      → Q (refuse not_pool)
      → ((k : Fault) → Q (refused not_sound k.place k.number))
      → Q (refuse not_settled)
      → (Sound n m → unsettled (walk n m) ≡ false → Q v)
      → Q (if_settled n m v)
  unfolding if_settled
  through-settled n m v p r c f = through_sound n m _ p r (λ s. through-test (unsettled (walk n m)) not_settled v c (f s))

  pub through-found : (o : Option Head) (go : Head → Verdict) → Q (refuse no_clump) → ((h : Head) → o ≡ some h → Q (go h)) → Q (found o go)
  through-found none go r f = r
  through-found (some h) go r f = f h refl

-- the stores of a request: a refusal has none
module _ (Q : List Store → Type 0) (none_made : Q []) where
  abbrev Made : Verdict → Type 0
  Made v = Q (stores_of v)

  pub behind_test : (b : Bool) (a : ℕ) (v : Verdict) → (b ≡ false → Q (stores_of v)) → Q (stores_of (test b a v))
  behind_test b a v f = through-test Made b a v none_made f

  pub behind_sound : (n : ℕ) (m : Mem) (v : Verdict) → (Sound n m → Q (stores_of v)) → Q (stores_of (if_sound n m v))
  behind_sound n m v f = through_sound Made n m v none_made (λ k. none_made) f

  pub behind-settled : (n : ℕ) (m : Mem) (v : Verdict) → (Sound n m → unsettled (walk n m) ≡ false → Q (stores_of v)) → Q (stores_of (if_settled n m v))
  behind-settled n m v f = through-settled Made n m v none_made (λ k. none_made) none_made f

  pub behind-found : (o : Option Head) (go : Head → Verdict) → ((h : Head) → o ≡ some h → Q (stores_of (go h))) → Q (stores_of (found o go))
  behind-found o go f = through-found Made o go none_made f
