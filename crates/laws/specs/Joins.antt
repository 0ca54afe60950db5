-- The runs of touching FREE clumps, joined in one walk upward. The walk keeps the run that it is in: where it starts, the nbytes of its
-- first clump and the sum so far, all 0 outside a run (where the code has no run, and `mend` reads its numbers as 0). It stores at the end
-- of a run that has more than its first clump.
-- By induction on the clumps, inside a run and outside one together. Assumes nothing.
use Rattle.std.specs.Prelude.{ℕ, ◌+◌, ◌<◌, ◌≤◌, ◌≡◌, refl, Bool, true, false, cond, List, [], ◌∷◌, ◌++◌, eqb}
use Rattle.std.proofs.Common.{ap, ◌∙◌, arith, eq-eqb, ne_eqb}
use Rattle.rules.specs.Words.{Store, store}
use Rattle.rules.specs.Clumps.{Head, Tiles, is_free}
use Rattle.rules.specs.Answers.{bytes_of}
use Rattle.rules.specs.Stores.{Run, in_front, runs, joining}

-- the run after a clump
abbrev pub next_first : ℕ → ℕ → Head → ℕ
next_first f o h = cond (is_free h) (cond (eqb o 0) h.at f) 0

abbrev pub next_own : ℕ → Head → ℕ
next_own o h = cond (is_free h) (cond (eqb o 0) h.nbytes o) 0

abbrev pub next_sum : ℕ → ℕ → Head → ℕ
next_sum o s h = cond (is_free h) (cond (eqb o 0) h.nbytes (s + h.nbytes)) 0

-- the store at the end of a run
abbrev pub run_store : ℕ → ℕ → ℕ → List Store
run_store f o s = cond (eqb o s) [] (store f s ∷ [])

unfoldable pub joins : ℕ → ℕ → ℕ → List Head → List Store
joins f o s [] = run_store f o s
joins f o s (h ∷ hs) = cond (is_free h) [] (run_store f o s) ++ joins (next_first f o h) (next_own o h) (next_sum o s h) hs

-- the rest of the runs, from inside one
abbrev join_open : ℕ → ℕ → ℕ → List Run → List Store
join_open f o s [] = run_store f o s
join_open f o s (r ∷ rs) = cond (is_free r.first) (store f (s + bytes_of (r.first ∷ r.more)) ∷ joining rs) (run_store f o s ++ joining (r ∷ rs))

record Both (hs : List Head) : Type 0 where
  inside : (f o s : ℕ) → 0 < o → o ≤ s → joins f o s hs ≡ join_open f o s (runs hs)
  outside : joins 0 0 0 hs ≡ joining (runs hs)

-- a FREE clump in front, inside a run and outside one
grow : (f o s : ℕ) (h : Head) (rs : List Run) → o ≤ s → 0 < h.nbytes → is_free h ≡ true → join_open f o (s + h.nbytes) rs ≡ join_open f o s (in_front h rs)
unfolding joining bytes_of
grow f o s h [] l p e =
    let x : s + (h.nbytes + 0) ≡ s + h.nbytes = omega arith in
    rw (ne_eqb o (s + h.nbytes) (omega arith), e, x)
grow f o s h (r ∷ rs) l p e = go (is_free r.first) refl
  where
    x : s + (h.nbytes + 0) ≡ s + h.nbytes
    x = omega arith

    y : s + (h.nbytes + (r.first.nbytes + bytes_of r.more)) ≡ s + h.nbytes + (r.first.nbytes + bytes_of r.more)
    y = omega arith

    go : (b : Bool) → is_free r.first ≡ b → join_open f o (s + h.nbytes) (r ∷ rs) ≡ join_open f o s (in_front h (r ∷ rs))
    go true q = rw (q, e, y, e)
    go false q = rw (q, e, ne_eqb o (s + h.nbytes) (omega arith), x, e)

open_one : (h : Head) (rs : List Run) → 0 < h.nbytes → is_free h ≡ true → join_open h.at h.nbytes h.nbytes rs ≡ joining (in_front h rs)
unfolding joining bytes_of
open_one h [] p e = rw (eq-eqb h.nbytes h.nbytes refl)
open_one h (r ∷ rs) p e = go (is_free r.first) refl
  where
    go : (b : Bool) → is_free r.first ≡ b → join_open h.at h.nbytes h.nbytes (r ∷ rs) ≡ joining (in_front h (r ∷ rs))
    go true q = rw (q, e)
    go false q = rw (q, e, eq-eqb h.nbytes h.nbytes refl)

alone : (h : Head) (rs : List Run) → is_free h ≡ false → in_front h rs ≡ record { first = h; more = [] } ∷ rs
alone h [] e = refl
alone h (r ∷ rs) e = rw e

both : (a b : ℕ) (hs : List Head) → Tiles a hs b → Both hs
unfolding joins runs joining
both a b [] t = record { inside = λ f o s p l. refl; outside = refl }
both a b (h ∷ hs) t = go (is_free h) refl (both (a + h.nbytes) b hs t.1)
  where
    go : (c : Bool) → is_free h ≡ c → Both hs → Both (h ∷ hs)
    go true q ih =
        record {
          inside = λ f o s p l. rw (q, ne_eqb o 0 (omega arith)) (ih.inside f o (s + h.nbytes) p (omega arith) ∙ grow f o s h (runs hs) l (omega (arith, t.0.least)) q);
          outside = rw q (ih.inside h.at h.nbytes h.nbytes (omega (arith, t.0.least)) (omega arith) ∙ open_one h (runs hs) (omega (arith, t.0.least)) q);
        }
    go false q ih =
        record {
          inside = λ f o s p l. rw (q, alone h (runs hs) q, q) (ap (λ (st : List Store). run_store f o s ++ st) ih.outside);
          outside = rw (q, alone h (runs hs) q) ih.outside;
        }

pub joins_are : (a b : ℕ) (hs : List Head) → Tiles a hs b → joins 0 0 0 hs ≡ joining (runs hs)
joins_are a b hs t = (both a b hs t).outside
