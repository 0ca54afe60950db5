-- Two recovered images that keep the same clumps and the same words have the same reading: at rest, with nothing reserved, each clump is
-- FREE or ACTIVE, so that those kept give the sizes and the states, the lists and the places of the bodies, and the words give the bytes.
-- By induction on the clumps, and by the laws of gaps and of slices. Assumes nothing.
use Rattle.std.specs.Prelude.{ℕ, ◌+◌, ◌<◌, ◌≤◌, ◌≡◌, refl, true, false, List, [], ◌∷◌, map, length}
use Rattle.std.proofs.Common.{sym, ap, ap₂, subst, ◌∙◌, arith, le-leb, lt-ltb}
use Rattle.std.proofs.Math.Bool.{or-true}
use Rattle.std.proofs.Math.Seq.{slice}
use Rattle.rules.specs.Lists.{those, any, Each}
use Rattle.rules.specs.Words.{Image, Bytes, Mem, mem}
use Rattle.rules.specs.Pages.{clumps_at, static_at, static_end}
use Rattle.rules.specs.Clumps.{Head, body_of, end_of, has_state, RESERVED, ACTIVE, is_pending, is_live, is_waiting, used, Tiles, walk}
use Rattle.rules.specs.Sound.{touching}
use Rattle.rules.specs.Reading.{Listed, listing, clumps_of, reading, within}
use Rattle.laws.specs.Searches.{differ, those_each, each_map}
use Rattle.laws.specs.Totals.{five}
use Rattle.laws.specs.Walking.{Placed, all_placed}
use Rattle.laws.specs.Pools.{pool_length}
use Rattle.laws.specs.Stored.{with_state}
use Rattle.laws.specs.Lying.{Lies, placed-lies}
use Rattle.loss.specs.Held.{Idle, held_walk}
use Rattle.loss.specs.Fates.{Kept, fates, Owned, Rests}
use Rattle.loss.specs.Gaps.{gaps, calm_gaps}
use Rattle.loss.specs.Slices.{words_slice}

-- nothing reserved, no two FREE clumps touch
pub record Calm (hs : List Head) : Type 0 where
  pub apart : touching hs ≡ false
  pub unreserved : Each (λ h. has_state RESERVED h ≡ false) hs

-- the clumps of those kept
abbrev clumps : List Kept → List Head
clumps k = map (λ c. c.clump) k

-- the live clumps of hs are those kept, and the lists that wait are theirs
record Tells (m : Mem) (hs : List Head) (k : List Kept) : Type 0 where
  live : those is_live hs ≡ clumps k
  lists : map (λ h. listing used m h.at) (those is_waiting hs) ≡ map (λ c. c.list) k

-- at rest with nothing reserved: a FREE clump is not kept, an ACTIVE one is kept as it stands
tells : (m : Mem) (a b : ℕ) (hs : List Head) → Tiles a hs b → Each Idle hs → Each (λ h. has_state RESERVED h ≡ false) hs → Tells m hs (fates m hs)
unfolding fates those
tells m a b [] t i u = record { live = refl; lists = refl }
tells m a b (h ∷ hs) t i u =
    let r = tells m (a + h.nbytes) b hs t.1 i.1 u.1 in
    five (λ s. is_pending (with_state h s) ≡ false → has_state RESERVED (with_state h s) ≡ false → Tells m (with_state h s ∷ hs) (fates m (with_state h s ∷ hs)))
    (λ p q. record { live = r.live; lists = r.lists })
    (λ p q. differ refl q)
    (λ p q. differ refl p)
    (λ p q.
    record {
      live = ap (λ (ks : List Head). with_state h ACTIVE ∷ ks) r.live;
      lists = ap (λ (ls : List (List Listed)). listing used m h.at ∷ ls) r.lists;
    })
    (λ p q. differ refl p)
    h.state
    t.0.known
    i.0
    u.0

-- what the clumps of a recovered image are
record Shows (n : ℕ) (k : List Kept) (img : Image) : Type 0 where
  sizes : clumps_of img ≡ gaps clumps_at (clumps k) n
  told : Tells (mem img) (clumps_of img) k

module _ (n : ℕ) (D : ℕ → Type 0) (k : List Kept) (w : Mem) (hs : List Head) where
  -- a recovered memory
  told_by : (m : Mem) → Rests n D k w m hs → Calm hs → Tells m hs k
  told_by m r c = subst (λ (j : List Kept). Tells m hs j) r.kept (tells m clumps_at n hs r.held.tiles r.idle c.unreserved)

  -- a recovered image
  shows : (img : Image) → length img ≡ n → Rests n D k w (mem img) hs → Calm hs → Shows n k img
  shows img e r c =
      let i : clumps_of img ≡ hs = ap (λ (l : ℕ). walk l (mem img)) e ∙ held_walk n (mem img) hs r.held in
      let t = told_by (mem img) r c in
      record {
        sizes = i ∙ calm_gaps clumps_at n hs r.held.tiles c.apart ∙ ap (λ (ks : List Head). gaps clumps_at ks n) t.live;
        told = subst (λ (ks : List Head). Tells (mem img) ks k) (sym i) t;
      }

  -- the clumps that are kept lie in the image
  kept_lie : (m : Mem) → Rests n D k w m hs → Calm hs → Each (Lies n) (clumps k)
  kept_lie m r c =
      let i = held_walk n m hs r.held in
      let l = pool_length n m r.held.page in
      let t = subst (λ (ks : List Head). Tiles clumps_at ks n) (sym i) r.held.tiles in
      let f = each_map (Placed n m) (Lies n) (walk n m) (λ h. placed-lies n m h (omega (arith, l.most))) (all_placed n m t) in
      subst (λ (ks : List Head). Each (Lies n) ks) (told_by m r c).live
      (those_each (Lies n) is_live hs (subst (λ (ks : List Head). Each (Lies n) ks) i f))

-- a byte within two bounds passes the test
within_in : (a b o : ℕ) → a ≤ o → o < b → within a b o ≡ true
within_in a b o l u = rw (le-leb a o l, lt-ltb o b u)

-- equal words in the bodies that are kept
bodies_same :
    (x y : Image) (k : List Kept)
    → Bytes x
    → Bytes y
    → length y ≡ length x
    → Each (Lies (length x)) (clumps k)
    → ((o : ℕ) → any (λ c. within (body_of c.clump) (end_of c.clump) o) k ≡ true → mem x o ≡ mem y o)
    → map (λ h. slice (body_of h) (end_of h) x) (clumps k) ≡ map (λ h. slice (body_of h) (end_of h) y) (clumps k)
unfolding any
bodies_same x y [] bx by e l f = refl
bodies_same x y (c ∷ k) bx by e l f =
    let v = l.0.even in
    ap₂ ◌∷◌
    (words_slice (body_of c.clump) (end_of c.clump) x y bx by e (omega arith) l.0.room
    (λ o p q. f o (rw (within_in (body_of c.clump) (end_of c.clump) o p q))))
    (bodies_same x y k bx by e l.1 (λ o q. f o (rw (q, or-true))))

-- the same clumps kept, and the same words: the same reading
pub reads_same :
    (img x : Image) (k : List Kept) (w : Mem) (hs ks : List Head)
    → Bytes img
    → Bytes x
    → length x ≡ length img
    → Rests (length img) (Owned k) k w (mem img) hs
    → Rests (length img) (Owned k) k w (mem x) ks
    → Calm hs
    → Calm ks
    → reading img ≡ reading x
unfolding reading
reads_same img x k w hs ks bi bx e r s c d =
    let n = length img in
    let p = shows n (Owned k) k w hs img refl r c in
    let q = shows n (Owned k) k w ks x e s d in
    let l = pool_length n (mem img) r.held.page in
    let same : (o : ℕ) → Owned k o → mem img o ≡ mem x o = (λ o g. r.words o g ∙ sym (s.words o g)) in
    let z : clumps_of img ≡ clumps_of x = p.sizes ∙ sym q.sizes in
    let li = p.told.lists ∙ sym q.told.lists in
    let st = words_slice static_at static_end img x bi bx e refl (omega (arith, l.least)) (λ o g u. same o (rw (within_in static_at static_end o g u))) in
    let bo =
    ap (map (λ h. slice (body_of h) (end_of h) img)) p.told.live
    ∙ bodies_same img x k bi bx e (kept_lie n (Owned k) k w hs (mem img) r c) (λ o g. same o (rw (g, or-true)))
    ∙ ap (map (λ h. slice (body_of h) (end_of h) x)) (sym q.told.live) in
    λ j. record { clumps = z j; lists = li j; static = st j; bodies = bo j }
