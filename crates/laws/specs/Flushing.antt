-- What an answer says to flush is the tightest range around the stores that were made: by induction on them, from the first on. What lies
-- outside is what it was, since no store reaches it. Assumes nothing.
use Rattle.std.specs.Prelude.{ℕ, ◌+◌, ◌%◌, ◌<◌, ◌≤◌, min, max, ◌≡◌, refl, Bool, true, false, ◌||◌, ◌↔◌, ◌⊎◌, List, [], ◌∷◌, eqb, ltb, length, get_or, take}
use Rattle.std.proofs.Common.{ap, ◌∙◌, inl, inr, ⊎_elim, arith, eq-eqb, eqb-true}
use Rattle.std.proofs.Math.Decide.{dec_le}
use Rattle.std.proofs.Math.Seq.{take-nil}
use Rattle.rules.specs.declared.Answer.{Answer}
use Rattle.rules.specs.declared.Request.TheVariants.{Create}
use Rattle.rules.specs.Lists.{any, Each}
use Rattle.rules.specs.Words.{Image, Store, Aligned, word_bytes, carry, zeros}
use Rattle.rules.specs.Pages.{static_at, clumps_at}
use Rattle.rules.specs.Clumps.{header_bytes}
use Rattle.rules.specs.Answers.{Verdict, refused, granted, Flush, wider, widened, flush_of, answer_at, answer_of, stores_of}
use Rattle.rules.specs.Stores.{create_stores}
use Rattle.rules.specs.Requests.{verdict_on, stores_for}
use Rattle.rules.specs.Reading.{within}
use Rattle.rules.specs.Demands.{Tightest, Flushes, FlushesInside, CreateFlushes}
use Rattle.laws.specs.Searches.{each_map, each_take, any_each}
use Rattle.laws.specs.Granted.{done_granted}
use Rattle.laws.specs.OneWord.{one_word}
use Rattle.laws.specs.Named.{Miss, carry_miss, outside}

-- a range that is widened holds what it was and each store
holds :
    (r : Flush) (st : List Store)
    → let w = widened r st in
    (w.from ≤ r.from) × (r.to ≤ w.to) × Each (λ s. (w.from ≤ s.to) × (s.to + word_bytes ≤ w.to)) st
unfolding widened
holds r [] = (omega arith, omega arith, tt)
holds r (s ∷ st) =
    let h = holds (wider r s) st in
    (omega (arith, h.0), omega (arith, h.1), ((omega (arith, h.0), omega (arith, h.1)), h.2))

-- a number that is one of two, and is met, is met in one of them
either : (a b m w : ℕ) (c : Bool) → (m ≡ a) ⊎ (m ≡ b) → (eqb m w || c) ≡ true → (eqb a w || (eqb b w || c)) ≡ true
either a b m w c o e = ⊎_elim (λ p. first (eqb a w) (eqb b w) (rw p at e)) (λ p. second (eqb a w) (rw p at e)) o
  where
    first : (x y : Bool) → (x || c) ≡ true → (x || (y || c)) ≡ true
    first true y e = refl
    first false true e = refl
    first false false e = e

    second : (x : Bool) → (eqb b w || c) ≡ true → (x || (eqb b w || c)) ≡ true
    second true e = refl
    second false e = e

-- it begins where it began or with a store, and ends so
meets :
    (r : Flush) (st : List Store)
    → let w = widened r st in
    ((eqb r.from w.from || any (λ s. eqb s.to w.from) st) ≡ true)
    × ((eqb r.to w.to || any (λ s. eqb (s.to + word_bytes) w.to) st) ≡ true)
unfolding widened any
meets r [] = (rw (eq-eqb r.from r.from refl), rw (eq-eqb r.to r.to refl))
meets r (s ∷ st) =
    let h = meets (wider r s) st in
    (either r.from s.to _ _ _ lower h.0, either r.to (s.to + word_bytes) _ _ _ upper h.1)
  where
    lower : (min r.from s.to ≡ r.from) ⊎ (min r.from s.to ≡ s.to)
    lower = elim (dec_le r.from s.to) [ yes l ↦ inl (omega arith) | no l ↦ inr (omega arith) ]

    upper : (max r.to (s.to + word_bytes) ≡ r.to) ⊎ (max r.to (s.to + word_bytes) ≡ s.to + word_bytes)
    upper = elim (dec_le (s.to + word_bytes) r.to) [ yes l ↦ inl (omega arith) | no l ↦ inr (omega arith) ]

tightest : (s : Store) (st : List Store) → let w = flush_of (s ∷ st) in Tightest w.from w.to (s ∷ st)
unfolding any
tightest s st =
    let r : Flush = record { from = s.to; to = s.to + word_bytes } in
    let h = holds r st in
    let m = meets r st in
    (m.0, m.1, ((h.0, h.1), h.2))

-- what holds of all stores, of their count and of what to flush of them, holds of those made and of what the answer says
answers :
    (P : List Store → ℕ → ℕ → ℕ → Type 0)
    → ((st : List Store) → P st (length st) (flush_of st).from (flush_of st).to)
    → (fuse : ℕ) (v : Verdict)
    → let r = answer_of fuse v in
    P (take fuse (stores_of v)) r.stores r.flush_from r.flush_to
unfolding answer_of
answers P h fuse (refused a p f) = rw (take-nil {A = Store} fuse) (h [])
answers P h fuse (granted p st) = go (ltb fuse (length st))
  where
    go : (b : Bool) → let r = answer_at b p (length (take fuse st)) (flush_of (take fuse st)) in P (take fuse st) r.stores r.flush_from r.flush_to
    go true = h (take fuse st)
    go false = h (take fuse st)

-- the sentences, of stores, their count and the two numbers
abbrev Flushed : Image → List Store → ℕ → ℕ → ℕ → Type 0
Flushed img st k from to =
    ((k ≡ 0) ↔ ((from ≡ 0) × (to ≡ 0)))
    × (0 < k → Tightest from to st)
    × ((i : ℕ) → within from to i ≡ false → get_or (carry img st) i 0 ≡ get_or img i 0)

flushed : (img : Image) (st : List Store) → Flushed img st (length st) (flush_of st).from (flush_of st).to
unfolding carry
flushed img [] = (((λ e. (refl, refl)), (λ e. refl)), (λ l. absurd (omega arith)), (λ i e. refl))
flushed img (s ∷ st) =
    let w = flush_of (s ∷ st) in
    let t = tightest s st in (
      ((λ e. absurd (omega arith)), (λ e. absurd (omega (arith, t.2.0.1, e.1)))),
      (λ l. t),
      (λ i e. carry_miss img (s ∷ st) i
          (each_map (λ x. (w.from ≤ x.to) × (x.to + word_bytes ≤ w.to)) (Miss i) (s ∷ st)
          (λ x h. ⊎_elim (λ l. inl (omega (arith, h.0))) (λ l. inr (omega (arith, h.1))) (outside w.from w.to i e)) t.2)),
    )

pub flushes : Flushes
flushes img q fuse = answers (Flushed img) (flushed img) fuse (verdict_on img q)

-- and where each store is an aligned word of the image
abbrev Inside : ℕ → List Store → ℕ → ℕ → ℕ → Type 0
Inside n st k from to = Each (Aligned n) st → (from % word_bytes ≡ 0) × (to % word_bytes ≡ 0) × (to ≤ n)

inside : (n : ℕ) (st : List Store) → Inside n st (length st) (flush_of st).from (flush_of st).to
inside n [] f = (refl, refl, omega arith)
inside n (s ∷ st) f =
    let t = tightest s st in
    let a = any_each (Aligned n) _ (s ∷ st) t.0 f in
    let b = any_each (Aligned n) _ (s ∷ st) t.1 f in
    let x = eqb-true a.0.to (flush_of (s ∷ st)).from a.1 in
    let y = eqb-true (b.0.to + word_bytes) (flush_of (s ∷ st)).to b.1 in
    (omega (arith, a.2.even), omega (arith, b.2.even), omega (arith, b.2.inside))

pub flushes_inside : FlushesInside
flushes_inside img q fuse b k =
    answers (Inside (length img)) (inside (length img)) fuse (verdict_on img q)
    (each_take (Aligned (length img)) fuse (stores_for img q) (one_word img q b k))

-- create's list is spelled out
create_flush : (n : ℕ) → flush_of (create_stores n) ≡ record { from = static_at; to = clumps_at + header_bytes }
unfolding create_stores zeros widened
create_flush n = refl

pub create_flushes : CreateFlushes
create_flushes img fuse d =
    let g = done_granted img Create fuse d in
    let e = ap flush_of g.grants ∙ create_flush (length img) in
    (ap (λ (a : Answer). a.flush_from) g.answer_is_lem ∙ ap (λ (r : Flush). r.from) e, ap (λ (a : Answer). a.flush_to) g.answer_is_lem ∙ ap (λ (r : Flush). r.to) e)
