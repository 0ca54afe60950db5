-- The clump that follows another and the one that it follows. In a tiling these are the one right behind it and the one right before it,
-- since no other begins where it ends or ends where it begins: by induction on the clumps. So the one before is the last that a walk has
-- passed, and is read where the finder says; and the next one is read at the clump's end. Assumes nothing.
use Rattle.std.specs.Prelude.{ℕ, ◌+◌, ◌%◌, ◌<◌, ◌≤◌, ◌≡◌, refl, Bool, true, false, cond, List, [], ◌∷◌, ◌++◌, eqb, ltb}
use Rattle.std.proofs.Common.{sym, ap, subst, ◌∙◌, append_assoc, arith, eq-eqb, ne_eqb, eqb-true, lt-ltb, le-ltb}
use Rattle.std.proofs.Math.Option.{Option, some, none}
use Rattle.rules.specs.Lists.{seek, Each}
use Rattle.rules.specs.Words.{Mem, word_bytes}
use Rattle.rules.specs.Pages.{clumps_at}
use Rattle.rules.specs.Clumps.{Head, head, header_bytes, end_of, is_free, Tiles, walk, next_of, before_of, offset_of}
use Rattle.rules.specs.Stores.{if_free}
use Rattle.rules.specs.Requests.{below_of}
use Rattle.laws.specs.Searches.{some-none, seek_hit, seek_pass, seek_nil, seek_split}
use Rattle.laws.specs.Tilings.{tiles_le, tiles_split}
use Rattle.laws.specs.Walks.{Rest, rest_start, rest_step}
use Rattle.laws.specs.Walking.{seek_placed}

-- a clump that is FREE is the one that it is asked of
pub if_free_lem : (o : Option Head) (k : Head) → if_free o ≡ some k → (o ≡ some k) × (is_free k ≡ true)
if_free_lem none k e = some-none e refl
if_free_lem (some h) k e = go (is_free h) refl e
  where
    go : (b : Bool) → is_free h ≡ b → cond b (some h) none ≡ some k → (some h ≡ some k) × (is_free k ≡ true)
    go true f e = let i : h ≡ k = cc in (e, rw (← i) f)
    go false f e = some-none e refl

-- the first of the clumps and the last
abbrev pub first : List Head → Option Head
first [] = none
first (k ∷ q) = some k

unfoldable pub last : List Head → Option Head
last [] = none
last (k ∷ []) = some k
last (k ∷ j ∷ p) = last (j ∷ p)

pub last_more : (p : List Head) (k : Head) → last (p ++ (k ∷ [])) ≡ some k
unfolding last
last_more [] k = refl
last_more (j ∷ []) k = refl
last_more (j ∷ i ∷ p) k = last_more (i ∷ p) k

-- a search for the clump whose place is o
module _ (place : Head → ℕ) (o : ℕ) where
  abbrev is_at : Head → Bool
  is_at k = eqb (place k) o

  -- it passes over a clump of another place, and so finds none where all are of another
  elsewhere : (k : Head) (q : List Head) → (place k ≡ o → ⊥) → seek is_at (k ∷ q) ≡ seek is_at q
  elsewhere k q d = seek_pass is_at k q (ne_eqb (place k) o d)

  nowhere : (q : List Head) → Each (λ k. place k ≡ o → ⊥) q → seek is_at q ≡ none
  nowhere [] d = seek_nil is_at
  nowhere (k ∷ q) d = elsewhere k q d.0 ∙ nowhere q d.1

  there : (k : Head) (q : List Head) → place k ≡ o → seek is_at (k ∷ q) ≡ some k
  there k q e = seek_hit is_at k q (eq-eqb (place k) o e)

-- the clumps of a tiling from a on end behind it
ends : (a b o : ℕ) (hs : List Head) → Tiles a hs b → o ≤ a → Each (λ k. end_of k ≡ o → ⊥) hs
ends a b o [] t l = tt
ends a b o (k ∷ hs) t l =
    let e = t.0.here in
    let s = t.0.least in
    (omega arith, ends (a + k.nbytes) b o hs t.1 (omega arith))

-- the next clump
after_first : (a b o : ℕ) (q : List Head) → Tiles a q b → a ≡ o → seek (λ k. eqb k.at o) q ≡ first q
after_first a b o [] t e = nowhere (λ k. k.at) o [] tt
after_first a b o (k ∷ q) t e = let i = t.0.here in there (λ x. x.at) o k q (omega arith)

pub next_is : (a b : ℕ) (p : List Head) (h : Head) (q : List Head) → Tiles a (p ++ (h ∷ q)) b → next_of (p ++ (h ∷ q)) h ≡ first q
next_is a b [] h q t =
    let i = t.0.here in
    let s = t.0.least in
    elsewhere (λ k. k.at) (end_of h) h q (omega arith) ∙ after_first (a + h.nbytes) b (end_of h) q t.1 (omega arith)
next_is a b (k ∷ p) h q t =
    let i = t.0.here in
    let s = t.0.least in
    let r = tiles_split (a + k.nbytes) b p (h ∷ q) t.1 in
    let l = tiles_le (a + k.nbytes) r.0 p r.1 in
    let j = r.2.0.here in
    elsewhere (λ x. x.at) (end_of h) k (p ++ (h ∷ q)) (omega arith) ∙ next_is (a + k.nbytes) b p h q t.1

-- the one before
pub before_is : (a b : ℕ) (p : List Head) (h : Head) (q : List Head) → Tiles a (p ++ (h ∷ q)) b → before_of (p ++ (h ∷ q)) h ≡ last p
unfolding last
before_is a b [] h q t = let i = t.0.here in nowhere end_of h.at (h ∷ q) (ends a b h.at (h ∷ q) t (omega arith))
before_is a b (k ∷ []) h q t =
    let i = t.0.here in
    let j = t.1.0.here in
    there end_of h.at k (h ∷ q) (omega arith)
before_is a b (k ∷ j ∷ p) h q t =
    let i = t.0.here in
    let s = t.1.0.least in
    let r = tiles_split (a + k.nbytes + j.nbytes) b p (h ∷ q) t.1.1 in
    let l = tiles_le (a + k.nbytes + j.nbytes) r.0 p r.1 in
    let w = r.2.0.here in
    elsewhere end_of h.at k (j ∷ (p ++ (h ∷ q))) (omega arith) ∙ before_is (a + k.nbytes) b (j ∷ p) h q t.1

-- a walk that has come to h: the last clump that it has passed stands at b, which is 0 where it has passed none. No function's proof cites
-- these laws now; they stand as they were stated
pub record Passed (n : ℕ) (m : Mem) (h b : ℕ) : Type 0 where
  pub lower : List Head
  pub higher : List Head
  pub whole : walk n m ≡ lower ++ higher
  pub from : Rest n m h higher
  pub last_is : b ≡ offset_of 0 (last lower)

pub passed_start : (n : ℕ) (m : Mem) → Passed n m clumps_at 0
unfolding last
passed_start n m = record { lower = []; higher = walk n m; whole = refl; from = rest_start n m; last_is = refl }

module _ {n : ℕ} {m : Mem} {h b : ℕ} (w : Passed n m h b) (l : h < n) where
  at-clump : (t : List Head) × (walk n m ≡ w.lower ++ (head m h ∷ t)) × (0 < m h → Rest n m (h + m h) t)
  at-clump = let r = rest_step w.from l in (r.0, w.whole ∙ ap (λ (hs : List Head). w.lower ++ hs) r.1, r.2)

  pub passed_move : 0 < m h → Passed n m (h + m h) h
  passed_move p =
      let r = at-clump in
      record {
        lower = w.lower ++ (head m h ∷ []);
        higher = r.0;
        whole = r.1 ∙ sym (append_assoc w.lower (head m h ∷ []) r.0);
        from = r.2 p;
        last_is = ap (offset_of 0) (sym (last_more w.lower (head m h)));
      }

  -- it is the one below the clump at h
  pub passed_below : Tiles clumps_at (walk n m) n → b ≡ below_of (walk n m) (head m h)
  passed_below t =
      let r = at-clump in
      let e = before_is clumps_at n w.lower (head m h) r.0 (subst (λ (hs : List Head). Tiles clumps_at hs n) r.1 t) in
      w.last_is ∙ ap (offset_of 0) (sym (ap (λ (hs : List Head). before_of hs (head m h)) r.1 ∙ e))

-- the clump that stands at an offset: none at 0, the mark below the first, and none at the end or behind it
abbrev pub clump_at : ℕ → Mem → ℕ → Option Head
clump_at n m a = cond (eqb a 0) none (cond (ltb a n) (some (head m a)) none)

clump-at : (n : ℕ) (m : Mem) (a : ℕ) → (a ≡ 0 → ⊥) → a < n → clump_at n m a ≡ some (head m a)
clump-at n m a z u = rw (ne_eqb a 0 z, lt-ltb a n u)

module _ (n : ℕ) (m : Mem) (tiles : Tiles clumps_at (walk n m) n) where
  -- a clump that was found stands where it says
  found_at : (p : Head → Bool) (k : Head) → seek p (walk n m) ≡ some k → some k ≡ clump_at n m k.at
  found_at p k e =
      let x = seek_placed n m p k tiles e in
      let z = x.inside in
      ap {B = Option Head} some x.head_is ∙ sym (clump-at n m k.at (omega (arith, x.low)) (omega (arith, z.least, z.room)))

  -- and one that is found where one may stand has its header in the image
  pub stands_header : (p : Head → Bool) (a : ℕ) → seek p (walk n m) ≡ clump_at n m a → (a ≡ 0 → ⊥) → a < n → (a % word_bytes ≡ 0) × (a + header_bytes ≤ n)
  stands_header p a e z u =
      let i = (seek_placed n m p (head m a) tiles (e ∙ clump-at n m a z u)).inside in
      omega (arith, i.even, i.least, i.room)

  -- the one before a clump, by what the finder says
  pub before_at : (h : Head) → before_of (walk n m) h ≡ clump_at n m (below_of (walk n m) h)
  before_at h = go (before_of (walk n m) h) refl
    where
      go : (o : Option Head) → before_of (walk n m) h ≡ o → o ≡ clump_at n m (offset_of 0 o)
      go none e = refl
      go (some k) e = found_at (λ j. eqb (end_of j) h.at) k e

  -- the next one of a clump that was found, at its end
  pub next_at : (p : Head → Bool) (h : Head) → seek p (walk n m) ≡ some h → next_of (walk n m) h ≡ clump_at n m (end_of h)
  next_at p h f = go (next_of (walk n m) h) refl
    where
      at_end : (c : ℕ) (q : List Head) → first q ≡ none → Tiles c q n → c ≡ n
      at_end c [] e t = t
      at_end c (k ∷ q) e t = some-none refl e

      go : (o : Option Head) → next_of (walk n m) h ≡ o → o ≡ clump_at n m (end_of h)
      go none e =
          let s = seek_split p (walk n m) h f in
          let t = subst (λ (hs : List Head). Tiles clumps_at hs n) s.whole tiles in
          let u = tiles_split clumps_at n s.lower (h ∷ s.higher) t in
          let i = u.2.0.here in
          let l = u.2.0.least in
          let z = at_end _ s.higher (sym (next_is clumps_at n s.lower h s.higher t) ∙ ap (λ (hs : List Head). next_of hs h) (sym s.whole) ∙ e) u.2.1 in
          rw (ne_eqb (end_of h) 0 (omega arith), le-ltb (end_of h) n (omega arith)) refl
      go (some k) e =
          found_at (λ j. eqb j.at (end_of h)) k e
          ∙ ap (clump_at n m) (eqb-true k.at (end_of h) (seek_split (λ j. eqb j.at (end_of h)) (walk n m) k e).passes)
