-- Runs of stores under a fuse: `Ran` says what a run leaves, of the image and of the power. A run is joined to the next by
-- `ran_then`, so that a request's stores are one chain of calls. Assumes nothing.
use Rattle.std.specs.Prelude.{ℕ, zero, suc, ◌+◌, ◌-◌, ◌<◌, min, ◌≡◌, Bool, true, cond, List, [], ◌∷◌, ◌++◌, eqb, ltb, length, take}
use Rattle.std.proofs.Math.Path.{refl}
use Rattle.std.proofs.Common.{sym, ap, ◌∙◌, arith, add-zero, zero-add, not-suc-le-zero, length-append, length-take, take_all}
use Rattle.std.proofs.Math.Bool.{false}
use Rattle.std.proofs.Math.Nat.{suc-sub-suc, zero-sub, sub-zero, min-zero, zero-max, min-eq_right}
use Rattle.std.proofs.Math.Decide.{dec_lt}
use Rattle.std.proofs.Math.Seq.{take-nil}
use Rattle.std.proofs.lemmas.List.{take-append-le}
use borrow.Author.Tests.{ne_eqb, lt-ltb, le-ltb, ltb-true, ltb-false}
use Rattle.rules.specs.Words.{Image, Mem, Store, Aligned, put, mem, upd, after, carry}
use Rattle.rules.specs.declared.Answer.{Answer}
use Rattle.rules.specs.Answers.{Flush, wider, widened, flush_of, granted, answer_at, answer_of}
use Rattle.word.specs.Tests.{ltb_same}
use Rattle.word.specs.Memory.{mem-put, length-put}
use Rattle.word.specs.declared.Power.{Power}

-- the power at the start of a request
abbrev pub full : ℕ → Power
full fuse = record { left = fuse; made = 0; cut = false; from = 0; to = 0 }

-- what it says to flush, and that with the stores made after it: one that ends at 0 is of no store yet
abbrev pub range : Power → Flush
range p = record { from = p.from; to = p.to }

abbrev pub reach : Flush → Store → Flush
reach r s = record { from = cond (eqb r.to 0) s.to (wider r s).from; to = (wider r s).to }

unfoldable pub reached : Flush → List Store → Flush
reached r [] = r
reached r (s ∷ st) = reached (reach r s) st

-- whether the power ends within k stores
unfoldable pub cut_by : Bool → ℕ → ℕ → Bool
cut_by true f k = true
cut_by false f k = ltb f k

-- the power after stores were asked for
unfoldable pub spent : Power → List Store → Power
spent p st =
    let k = length st in
    let r = reached (range p) (take p.left st) in
    record { left = p.left - k; made = p.made + min p.left k; cut = cut_by p.cut p.left k; from = r.from; to = r.to }

-- from the image img and the power p the stores st lead to the image x and the power q
pub record Ran (img : Image) (p : Power) (st : List Store) (x : Image) (q : Power) : Type 0 where
  pub image : x ≡ carry img (take p.left st)
  pub memory : mem x ≡ after (mem img) (take p.left st)
  pub long : length x ≡ length img
  pub power : q ≡ spent p st
  pub sum : q.made + q.left ≡ p.made + p.left

-- two parts of a list under one fuse, for whatever carries stores out one after the other
module _ {S : Type 0} (go : S → List Store → S) (step : S → Store → S) (nil : (s : S) → go s [] ≡ s) (cons : (s : S) (x : Store) (st : List Store) → go s (x ∷ st) ≡ go (step s x) st) where
  go_then : (f : ℕ) (s : S) (p q : List Store) → go (go s (take f p)) (take (f - length p) q) ≡ go s (take f (p ++ q))
  go_then zero s p q = simp (zero-sub, nil)
  go_then (suc f) s [] q = simp (sub-zero, nil)
  go_then (suc f) s (x ∷ p) q = rw suc-sub-suc (simp cons (go_then f (step s x) p q))

carry_then : (f : ℕ) (img : Image) (p q : List Store) → carry (carry img (take f p)) (take (f - length p) q) ≡ carry img (take f (p ++ q))
unfolding carry
carry_then = go_then carry (λ s x. put s x.to x.word) (λ s. refl) (λ s x st. refl)

after_then : (f : ℕ) (m : Mem) (p q : List Store) → after (after m (take f p)) (take (f - length p) q) ≡ after m (take f (p ++ q))
unfolding after
after_then = go_then after (λ m x. upd m x.to x.word) (λ m. refl) (λ m x st. refl)

reached_then : (f : ℕ) (r : Flush) (p q : List Store) → reached (reached r (take f p)) (take (f - length p) q) ≡ reached r (take f (p ++ q))
unfolding reached
reached_then = go_then reached reach (λ r. refl) (λ r x st. refl)

-- the power of one run and then another
cut_then : (b : Bool) (f k l : ℕ) → cut_by (cut_by b f k) (f - k) l ≡ cut_by b f (k + l)
unfolding cut_by
cut_then true f k l = refl
cut_then false f k l =
    elim (dec_lt f k) [
      | yes h ↦ simp (lt-ltb f k h, lt-ltb f (k + l) (omega arith))
      | no h ↦ simp (le-ltb f k (omega arith), cut_by) (ltb_same (f - k) l f (k + l) (λ x. omega arith) (λ x. omega arith))
    ]

spent_then : (p : Power) (st ts : List Store) → spent (spent p st) ts ≡ spent p (st ++ ts)
unfolding spent
spent_then p st ts =
    let k = length st in
    let l = length ts in
    let x : p.left - k - l ≡ p.left - (k + l) = omega arith in
    let y : p.made + min p.left k + min (p.left - k) l ≡ p.made + min p.left (k + l) = omega arith in
    rw (length-append, x, y, cut_then p.cut p.left k l, reached_then p.left (range p) st ts)

spent_left : (p : Power) (st : List Store) → (spent p st).left ≡ p.left - length st
unfolding spent
spent_left p st = refl

-- one run and then another
pub ran_then :
    {img x y : Image} {p q r : Power} {st ts : List Store}
    → Ran img p st x q → Ran x q ts y r → Ran img p (st ++ ts) y r
ran_then {img} {x} {y} {p} {q} {r} {st} {ts} a b =
    record {
      image = rw (b.image, a.image, a.power, spent_left) (carry_then p.left img st ts);
      memory = rw (b.memory, a.memory, a.power, spent_left) (after_then p.left (mem img) st ts);
      long = b.long ∙ a.long;
      power = rw (b.power, a.power) (spent_then p st ts);
      sum = omega (arith, a.sum, b.sum);
    }

-- the same run under another name
pub ran_as : {img x : Image} {p q : Power} (st ts : List Store) → ts ≡ st → Ran img p st x q → Ran img p ts x q
ran_as st ts e r = rw e r

-- no store
pub ran_none : (img : Image) (p : Power) → Ran img p [] img p
unfolding carry after spent reached
ran_none img p =
    record {
      image = ap (carry img) (sym (take-nil p.left));
      memory = ap (after (mem img)) (sym (take-nil p.left));
      long = refl;
      power = rw (sub-zero, min-zero, add-zero, take-nil {A = Store} p.left, cut_none p.cut p.left);
      sum = refl;
    }
  where
    cut_none : (b : Bool) (f : ℕ) → cut_by b f 0 ≡ b
    cut_none true f = unfold cut_by in refl
    cut_none false f = unfold cut_by in le-ltb f 0 (omega arith)

-- one store that the power no longer lasts for: nothing is written, and it is cut
pub ran_out : (img : Image) (p : Power) (s : Store) → p.left ≡ 0 → Ran img p (s ∷ []) img (record { left = 0; made = p.made; cut = true; from = p.from; to = p.to })
unfolding carry after spent reached
ran_out img p s e =
    record {
      image = rw e;
      memory = rw e;
      long = refl;
      power = rw (e, add-zero, cut_out p.cut);
      sum = omega arith;
    }
  where
    cut_out : (b : Bool) → cut_by b 0 1 ≡ true
    cut_out true = unfold cut_by in refl
    cut_out false = unfold cut_by in refl

-- one store while it lasts
pub ran_one :
    (img : Image) (p : Power) (s : Store)
    → 0 < p.left → Aligned (length img) s
    → let r = reach (range p) s in
    Ran img p (s ∷ []) (put img s.to s.word) (record { left = p.left - 1; made = p.made + 1; cut = p.cut; from = r.from; to = r.to })
unfolding carry after spent reached
ran_one img p s l a =
    record {
      image = rw (take_one p.left l);
      memory = rw (take_one p.left l) (mem-put img s a);
      long = length-put img s.to s.word;
      power = rw (take_one p.left l, cut_one p.cut p.left l, min-eq_right l);
      sum = omega arith;
    }
  where
    take_one : (f : ℕ) → 0 < f → take f (s ∷ []) ≡ s ∷ []
    take_one zero h = absurd (not-suc-le-zero h)
    take_one (suc f) h = ap (λ (t : List Store). s ∷ t) (take-nil f)

    cut_one : (b : Bool) (f : ℕ) → 0 < f → cut_by b f 1 ≡ b
    cut_one true f h = unfold cut_by in refl
    cut_one false f h = unfold cut_by in le-ltb f 1 h

-- a run that was not cut made all its stores
pub ran_whole : {img x : Image} {p q : Power} {st : List Store} → Ran img p st x q → p.cut ≡ false → q.cut ≡ false → mem x ≡ after (mem img) st
unfolding spent cut_by
ran_whole {img} {x} {p} {q} {st} r e f =
    let g : ltb p.left (length st) ≡ false = rw e at (sym (ap (λ (k : Power). k.cut) r.power) ∙ f) in
    r.memory ∙ ap (after (mem img)) (take_all p.left st (ltb-false p.left (length st) g))

-- a run that was cut is cut whatever comes after it
pub ran_cut : {img x : Image} {q : Power} (fuse : ℕ) (st ts : List Store) → Ran img (full fuse) st x q → q.cut ≡ true → Ran img (full fuse) (st ++ ts) x q
unfolding spent cut_by
ran_cut {img} {x} {q} fuse st ts r e =
    let g : ltb fuse (length st) ≡ true = sym (ap (λ (k : Power). k.cut) r.power) ∙ e in
    let l = ltb-true fuse (length st) g in
    let t : take fuse (st ++ ts) ≡ take fuse st = take-append-le fuse st ts (omega arith) in
    let a : fuse - (length st + length ts) ≡ fuse - length st = omega arith in
    let b : 0 + min fuse (length st + length ts) ≡ 0 + min fuse (length st) = omega arith in
    record {
      image = rw t r.image;
      memory = rw t r.memory;
      long = r.long;
      power = rw (t, length-append, a, b, lt-ltb fuse (length st + length ts) (omega arith)) (r.power ∙ rw g);
      sum = r.sum;
    }

-- what the power tells at the end of a request that stores: done with its place, or cut
abbrev pub told : Power → ℕ → Answer
told q place = answer_at q.cut place q.made (range q)

-- from nothing on, what was reached is what the rules say to flush
reached-widened : (r : Flush) (st : List Store) → 0 < r.to → reached r st ≡ widened r st
unfolding reached widened
reached-widened r [] l = refl
reached-widened r (s ∷ st) l = rw (ne_eqb r.to 0 (λ e. omega arith)) (reached-widened (wider r s) st (omega arith))

reached_flush : (st : List Store) → reached (range (full 0)) st ≡ flush_of st
unfolding reached
reached_flush [] = refl
reached_flush (s ∷ st) = rw zero-max (reached-widened _ st (omega arith))

-- after all of a request's stores that is the answer that the list and the fuse give
pub ran_answer :
    {img x : Image} {q : Power} {st : List Store} (fuse place : ℕ)
    → Ran img (full fuse) st x q → told q place ≡ answer_of fuse (granted place st)
unfolding answer_of spent cut_by
ran_answer {st = st} fuse place r = rw (r.power, zero-add, reached_flush (take fuse st), length-take fuse st)
