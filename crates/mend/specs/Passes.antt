-- A walk that stores behind itself. At the offset h of the walk over the image x, the stores done have led to the image img, the clumps
-- from h on still stand there as in x, and the stores done with those still to do are the whole list. Assumes nothing.
use Rattle.std.specs.Prelude.{ℕ, Option, Some, None, ◌+◌, ◌%◌, ◌<◌, ◌≤◌, ◌≡◌, Bool, true, false, cond, eqb, length}
use Rattle.std.proofs.Math.Path.{refl, ap₂}
use Rattle.std.proofs.Common.{sym, ap, ◌∙◌, subst, arith, ne_eqb}
use mathlib.Core.List.{List, [], ◌∷◌, ◌++◌, append_assoc}
use Rattle.std.proofs.lemmas.Option.{none-some, same_Some}
use Rattle.rules.specs.Words.{Image, Mem, Store, mem, store, word_bytes}
use Rattle.rules.specs.Pages.{clumps_at, unit}
use Rattle.rules.specs.Clumps.{Head, head, is_free, state_at, least_clump, RESERVED, FREE, Tiles}
use Rattle.rules.specs.Stores.{releasing}
use Rattle.rules.specs.Reading.{clumps_of, Tiled}
use Rattle.word.specs.declared.Power.{Power}
use Rattle.word.specs.Memory.{Below, below_after}
use Rattle.word.specs.Runs.{Ran, ran_none, ran_then}
use Rattle.laws.specs.Tilings.{tiles_le}
use Rattle.laws.specs.Walks.{Rest, rest_start, rest_end, rest_step}
use Rattle.laws.specs.Joins.{next_first, next_own, next_sum, run_store, joins}
use Rattle.laws.specs.Mending.{releasing_cons}
use Rattle.mend.specs.declared.Open.{Open}

pub record Passing (to-do : List Head → List Store) (x : Image) (p : Power) (img : Image) (q : Power) (h : ℕ) (whole : List Store) : Type 0 where
  pub rest : List Head
  pub from : Rest (length x) (mem x) h rest
  pub even : h % unit ≡ 0
  pub tiles : Tiles h rest (length x)
  pub done : List Store
  pub ran : Ran x p done img q
  pub split : done ++ to-do rest ≡ whole
  pub agree : (o : ℕ) → h ≤ o → mem img o ≡ mem x o

pub passing_start : (to-do : List Head → List Store) (x : Image) (p : Power) → Tiled x → Passing to-do x p x p clumps_at (to-do (clumps_of x))
passing_start to-do x p t =
    record { rest = clumps_of x; from = rest_start (length x) (mem x); even = refl; tiles = t; done = []; ran = ran_none x p; split = refl; agree = λ o l. refl }

module _ {to-do : List Head → List Store} {x img : Image} {p q : Power} {h : ℕ} {whole : List Store} (w : Passing to-do x p img q h whole) where
  -- the clump at h
  pub record Here : Type 0 where
    pub least : least_clump ≤ mem img h
    pub whole64 : mem img h % unit ≡ 0
    pub room : h + mem img h ≤ length img
    pub even : h % unit ≡ 0
    pub size : mem img h ≡ mem x h
    pub state : mem img (state_at h) ≡ mem x (state_at h)

  pub passing_here : h < length img → Here
  passing_here l =
      let e = w.ran.long in
      let r = rest_step w.from (omega arith) in
      let s = subst (λ (hs : List Head). Tiles h hs (length x)) r.1 w.tiles in
      let a = w.agree h (omega arith) in
      let z = tiles_le (h + mem x h) (length x) r.0 s.1 in
      record {
        least = rw a s.0.least;
        whole64 = rw a s.0.whole;
        room = rw (a, e) z;
        even = w.even;
        size = a;
        state = w.agree (state_at h) (omega arith);
      }

  pub passing_end : length img ≤ h → (st : List Store) → to-do [] ≡ st → {y : Image} {r : Power} → Ran img q st y r → Ran x p whole y r
  passing_end l st e s =
      let f = rest_end w.from (omega (arith, w.ran.long)) in
      let g : w.done ++ st ≡ whole = ap (λ (k : List Store). w.done ++ k) (sym e ∙ ap to-do (sym f)) ∙ w.split in
      rw (← g) (ran_then w.ran s)

  -- one clump on: the stores now, which go below the next clump, and those then
  pub passing_next :
      h < length img
      → (now : List Store) (then : List Head → List Store)
      → ((t : List Head) → to-do (head (mem x) h ∷ t) ≡ now ++ then t)
      → Below (h + mem x h) now
      → {y : Image} {r : Power}
      → Ran img q now y r
      → Passing then x p y r (h + mem x h) whole
  passing_next l now then e b s =
      let c = passing_here l in
      let n = w.ran.long in
      let r = rest_step w.from (omega arith) in
      let t = subst (λ (hs : List Head). Tiles h hs (length x)) r.1 w.tiles in
      record {
        rest = r.0;
        from = r.2 (omega (arith, c.least, c.size));
        even = omega (arith, w.even, t.0.whole);
        tiles = t.1;
        done = w.done ++ now;
        ran = ran_then w.ran s;
        split = append_assoc w.done now (then r.0) ∙ ap (λ (k : List Store). w.done ++ k) (sym (e r.0) ∙ ap to-do (sym r.1)) ∙ w.split;
        agree = λ o k. ap (λ (m : Mem). m o) s.memory ∙ below_after q.left now (mem img) (h + mem x h) o b k ∙ w.agree o (omega arith);
      }

-- the run that the walk is in, by its three numbers: outside one they are 0
abbrev pub first_of : Option Open → ℕ
first_of None = 0
first_of (Some r) = r.first

abbrev pub own_of : Option Open → ℕ
own_of None = 0
own_of (Some r) = r.own

abbrev pub sum_of : Option Open → ℕ
sum_of None = 0
sum_of (Some r) = r.sum

abbrev pub joins_of : Option Open → List Head → List Store
joins_of o = joins (first_of o) (own_of o) (sum_of o)

-- the run after a FREE clump, and after any
abbrev pub open_with : Option Open → Head → Open
open_with None h = record { first = h.at; own = h.nbytes; sum = h.nbytes }
open_with (Some r) h = record { first = r.first; own = r.own; sum = r.sum + h.nbytes }

abbrev pub open_next : Option Open → Head → Option Open
open_next o h = cond (is_free h) (Some (open_with o h)) None

-- the store at its end
abbrev pub open_store : Option Open → List Store
open_store None = []
open_store (Some r) = run_store r.first r.own r.sum

pub open_store_is : (o : Option Open) → open_store o ≡ run_store (first_of o) (own_of o) (sum_of o)
open_store_is None = refl
open_store_is (Some r) = refl

-- where it is stored, the first clump lies in an image of n bytes
abbrev pub OpenRun : ℕ → Option Open → Type 0
OpenRun n o = (r : Open) → o ≡ Some r → (r.own ≡ r.sum → ⊥) → (r.first % word_bytes ≡ 0) × (r.first + word_bytes ≤ n)

-- what is known of the run at the offset h: it reaches from its first clump to h
abbrev Reaches : ℕ → Open → Type 0
Reaches h r = (r.first + r.sum ≡ h) × (r.first % unit ≡ 0) × (least_clump ≤ r.own) × (r.own ≤ r.sum)

pub record Runs (h : ℕ) (o : Option Open) : Type 0 where
  pub reach : (r : Open) → o ≡ Some r → Reaches h r

pub runs_start : (h : ℕ) → Runs h None
runs_start h = record { reach = λ r e. absurd (none-some r e) }

pub runs_sum : (h : ℕ) (o : Option Open) → Runs h o → sum_of o ≤ h
runs_sum h None w = omega arith
runs_sum h (Some r) w = let e = w.reach r refl in omega arith

pub runs_in : (h n : ℕ) (o : Option Open) → Runs h o → h ≤ n → OpenRun n o
runs_in h n o w l = λ r z d. let e = w.reach r z in omega arith

pub runs_below : (h b : ℕ) (o : Option Open) (t : Bool) → Runs h o → h ≤ b → Below b (cond t [] (open_store o))
runs_below h b o true w l = tt
runs_below h b None false w l = tt
runs_below h b (Some r) false w l = go (eqb r.own r.sum)
  where
    go : (c : Bool) → Below b (cond c [] (store r.first r.sum ∷ []))
    go true = tt
    go false = let e = w.reach r refl in (omega arith, tt)

pub runs_next : (h : ℕ) (o : Option Open) (k : Head) → k.at ≡ h → h % unit ≡ 0 → least_clump ≤ k.nbytes → Runs h o → Runs (h + k.nbytes) (open_next o k)
runs_next h o k e u l w = go (is_free k) o w
  where
    go : (c : Bool) (i : Option Open) → Runs h i → Runs (h + k.nbytes) (cond c (Some (open_with i k)) None)
    go false i v = runs_start (h + k.nbytes)
    go true None v = record { reach = λ r z. subst (Reaches (h + k.nbytes)) (same_Some (open_with None k) r z) (omega arith) }
    go true (Some s) v =
        let x = v.reach s refl in
        record { reach = λ r z. subst (Reaches (h + k.nbytes)) (same_Some (open_with (Some s) k) r z) (omega arith) }

-- the numbers go on as the rule's do
joins_next :
    (h : ℕ) (o : Option Open) (k : Head)
    → Runs h o
    → joins (next_first (first_of o) (own_of o) k) (next_own (own_of o) k) (next_sum (own_of o) (sum_of o) k) ≡ joins_of (open_next o k)
joins_next h o k w = go (is_free k) o w
  where
    go :
        (c : Bool) (i : Option Open)
        → Runs h i
        → joins (cond c (cond (eqb (own_of i) 0) k.at (first_of i)) 0) (cond c (cond (eqb (own_of i) 0) k.nbytes (own_of i)) 0) (cond c (cond (eqb (own_of i) 0) k.nbytes (sum_of i + k.nbytes)) 0)
        ≡ joins_of (cond c (Some (open_with i k)) None)
    go false i v = refl
    go true None v = refl
    go true (Some s) v = let x = v.reach s refl in rw (ne_eqb s.own 0 (omega arith)) refl

-- one state store, which goes below the next clump
pub state_below : (h b : ℕ) (t : Bool) → h + 8 < b → Below b (cond t (store (state_at h) 0 ∷ []) [])
state_below h b true l = (l, tt)
state_below h b false l = tt

-- a step of each of the two passes, with the nbytes n and the state s that were read at h
module _ {x img y : Image} {p q u : Power} {h : ℕ} {whole : List Store} (n s : ℕ) (size : n ≡ mem img h) (state : s ≡ mem img (state_at h)) (l : h < length img) where
  pub release_next :
      Passing releasing x p img q h whole
      → Ran img q (cond (eqb s RESERVED) (store (state_at h) FREE ∷ []) []) y u
      → Passing releasing x p y u (h + n) whole
  release_next w r =
      let k = passing_here w l in
      let e : n ≡ mem x h = size ∙ k.size in
      let f : s ≡ mem x (state_at h) = state ∙ k.state in
      rw e
      (passing_next w l (cond (eqb (mem x (state_at h)) RESERVED) (store (state_at h) FREE ∷ []) []) releasing (λ t. releasing_cons (head (mem x) h) t)
      (state_below h (h + mem x h) (eqb (mem x (state_at h)) RESERVED) (omega (arith, k.least, k.size))) (rw f at r))

  pub join_next :
      (o t : Option Open)
      → Passing (joins_of o) x p img q h whole
      → Runs h o
      → Ran img q (cond (eqb s FREE) [] (open_store o)) y u
      → t ≡ open_next o (record { at = h; nbytes = n; state = s })
      → Passing (joins_of t) x p y u (h + n) whole × Runs (h + n) t × (h + n ≤ length x)
  unfolding joins
  join_next o t w v a e =
      let k = passing_here w l in
      let f : n ≡ mem x h = size ∙ k.size in
      let g : s ≡ mem x (state_at h) = state ∙ k.state in
      let c = head (mem x) h in
      let d : t ≡ open_next o c = e ∙ ap₂ (λ (i j : ℕ). open_next o (record { at = h; nbytes = i; state = j })) f g in
      let then = joins (next_first (first_of o) (own_of o) c) (next_own (own_of o) c) (next_sum (own_of o) (sum_of o) c) in
      rw (d, f) (
        subst (λ (to-do : List Head → List Store). Passing to-do x p y u (h + mem x h) whole) (joins_next h o c v)
            (passing_next w l (cond (is_free c) [] (open_store o)) then
            (λ m. ap (λ (st : List Store). cond (is_free c) [] st ++ then m) (sym (open_store_is o)))
            (runs_below h (h + mem x h) o (is_free c) v (omega arith)) (rw g at a)),
        runs_next h o c refl k.even (rw k.size at k.least) v,
        omega (arith, k.room, k.size, w.ran.long),
      )
