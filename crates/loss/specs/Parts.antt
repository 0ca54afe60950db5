-- One part of the clumps is replaced by another that tiles as much and keeps as much, and nothing else of the pool changes: every
-- store to a header is such a step. The clumps below and above the part are as they were because their headers are. Assumes nothing.
use Rattle.std.specs.Prelude.{ℕ, ◌+◌, ◌<◌, ◌≤◌, ◌≡◌, refl, false, ◌⊎◌, List, [], ◌∷◌, ◌++◌}
use Rattle.std.proofs.Common.{ap₂, ◌∙◌, sym, inl, inr, ⊎_elim, arith}
use Rattle.rules.specs.Lists.{Each}
use Rattle.rules.specs.Words.{Mem, upd}
use Rattle.rules.specs.Pages.{clumps_at}
use Rattle.rules.specs.Clumps.{Head, end_of, state_at, slots, FREEING, Tiles}
use Rattle.rules.specs.Sound.{list_bad}
use Rattle.word.specs.Memory.{upd_same, upd_other}
use Rattle.laws.specs.Searches.{each_append, each_left, each_right}
use Rattle.laws.specs.Tilings.{tiles_le, tiles_split, tiles_join}
use Rattle.laws.specs.Walks.{Reads}
use Rattle.laws.specs.Headers.{Agree, AgreePage, SameSlot, SameSlots, each_slot, slots_same, list_same, pool_same}
use Rattle.laws.specs.Stored.{with_state, reads-append, reads_left, reads_right}
use Rattle.loss.specs.Held.{Held, Idle}
use Rattle.loss.specs.Fates.{Kept, fates, fates-append, fates_agree, Beyond, Rests}

-- x is m but from c up to d
abbrev pub Elsewhere : ℕ → ℕ → Mem → Mem → Type 0
Elsewhere c d m x = (o : ℕ) → (o < c) ⊎ (d ≤ o) → x o ≡ m o

pub one_store : (m : Mem) (c d i w : ℕ) → c ≤ i → i < d → Elsewhere c d m (upd m i w)
one_store m c d i w l u o e = upd_other m i w o (λ z. ⊎_elim (λ x. absurd (omega arith)) (λ x. absurd (omega arith)) e)

-- a store to the size or to the state leaves the list
pub front_slots : (m : Mem) (a i s : ℕ) → i < a + 16 → SameSlots m (upd m i s) (slots a)
front_slots m a i s l =
    each_slot (SameSlot m (upd m i s)) a (λ k y z. (upd_other m i s _ (omega arith), λ w. upd_other m i s _ (omega arith)))

agree_below : (a c d : ℕ) (m x : Mem) (p : List Head) → Tiles a p c → Elsewhere c d m x → Agree m x p
agree_below a c d m x [] t e = tt
agree_below a c d m x (h ∷ p) t e =
    let l = tiles_le (a + h.nbytes) c p t.1 in
    let i = t.0.here in
    let k = t.0.least in
    ((λ o u v. e o (inl (omega arith))), agree_below (a + h.nbytes) c d m x p t.1 e)

agree_above : (c d b : ℕ) (m x : Mem) (q : List Head) → Tiles d q b → Elsewhere c d m x → Agree m x q
agree_above c d b m x q t e = go d q t (omega arith)
  where
    go : (a : ℕ) (q : List Head) → Tiles a q b → d ≤ a → Agree m x q
    go a [] t l = tt
    go a (h ∷ q) t l =
        let i = t.0.here in
        ((λ o u v. e o (inr (omega arith))), go (a + h.nbytes) q t.1 (omega arith))

-- headers that agree hold the same clumps, with lists as good
pub reads_agree : (m x : Mem) (hs : List Head) → Agree m x hs → Reads m hs → Reads x hs
reads_agree m x [] g r = tt
reads_agree m x (h ∷ hs) g r =
    let at : (o : ℕ) → h.at ≤ o → o + 8 ≤ h.at + 64 → x o ≡ m o = g.0 in
    (at h.at (omega arith) (omega arith) ∙ r.0, at (state_at h.at) (omega arith) (omega arith) ∙ r.1, reads_agree m x hs g.1 r.2)

pub lists_agree : (n : ℕ) (m x : Mem) (hs : List Head) → Agree m x hs → Each (λ h. list_bad n m h ≡ false) hs → Each (λ h. list_bad n x h ≡ false) hs
lists_agree n m x [] g e = tt
lists_agree n m x (h ∷ hs) g e = (list_same n m x h (λ w. slots_same m x h.at g.0) (λ w. slots_same m x h.at g.0) ∙ e.0, lists_agree n m x hs g.1 e.1)

-- a part of the clumps, from c up to d, between p and q
pub record Parted (n : ℕ) (p : List Head) (c : ℕ) (mid : List Head) (d : ℕ) (q : List Head) : Type 0 where
  pub lower : Tiles clumps_at p c
  pub part : Tiles c mid d
  pub upper : Tiles d q n

pub parted : (n : ℕ) (p mid q : List Head) → Tiles clumps_at (p ++ (mid ++ q)) n → (c d : ℕ) × Parted n p c mid d q
parted n p mid q t =
    let x = tiles_split clumps_at n p (mid ++ q) t in
    let y = tiles_split x.0 n mid q x.2 in
    (x.0, y.0, record { lower = x.1; part = y.1; upper = y.2 })

pub parted_one : (n : ℕ) (p : List Head) (h : Head) (q : List Head) → Tiles clumps_at (p ++ (h ∷ q)) n → Parted n p h.at (h ∷ []) (end_of h) q
parted_one n p h q t =
    let x = tiles_split clumps_at n p (h ∷ q) t in
    let i : h.at ≡ x.0 = x.2.0.here in
    record { lower = rw i x.1; part = (record { here = refl; least = x.2.0.least; whole = x.2.0.whole; known = x.2.0.known }, refl); upper = rw i x.2.1 }

-- what stands there afterwards
pub record Segment (n : ℕ) (x : Mem) (c : ℕ) (mid : List Head) (d : ℕ) : Type 0 where
  pub tiles : Tiles c mid d
  pub reads : Reads x mid
  pub lists : Each (λ h. list_bad n x h ≡ false) mid

module _ (n : ℕ) (m x : Mem) (p : List Head) (c : ℕ) (mid new : List Head) (d : ℕ) (q : List Head) (t : Parted n p c mid d q) (e : Elsewhere c d m x) where
  below_agree : Agree m x p
  below_agree = agree_below clumps_at c d m x p t.lower e

  above_agree : Agree m x q
  above_agree = agree_above c d n m x q t.upper e

  pub page_kept : AgreePage m x
  page_kept o l u = let z = tiles_le clumps_at c p t.lower in e o (inl (omega arith))

  pub held_replaced : Held n m (p ++ (mid ++ q)) → Segment n x c new d → Held n x (p ++ (new ++ q))
  held_replaced f s =
      let rq = reads_right m mid q (reads_right m p (mid ++ q) f.reads) in
      let lp = each_left (λ h. list_bad n m h ≡ false) p (mid ++ q) f.lists in
      let lq = each_right (λ h. list_bad n m h ≡ false) mid q (each_right (λ h. list_bad n m h ≡ false) p (mid ++ q) f.lists) in
      record {
        page = pool_same n m x page_kept ∙ f.page;
        tiles = tiles_join clumps_at c n p (new ++ q) t.lower (tiles_join c d n new q s.tiles t.upper);
        reads = reads-append x p (new ++ q) (reads_agree m x p below_agree (reads_left m p (mid ++ q) f.reads)) (reads-append x new q s.reads (reads_agree m x q above_agree rq));
        lists = each_append (λ h. list_bad n x h ≡ false) p (new ++ q) (lists_agree n m x p below_agree lp) (each_append (λ h. list_bad n x h ≡ false) new q s.lists (lists_agree n m x q above_agree lq));
      }

  pub fates_replaced : fates x new ≡ fates m mid → fates x (p ++ (new ++ q)) ≡ fates m (p ++ (mid ++ q))
  fates_replaced f =
      fates-append x p (new ++ q)
      ∙ ap₂ ◌++◌ (fates_agree m x p below_agree) (fates-append x new q ∙ ap₂ ◌++◌ f (fates_agree m x q above_agree) ∙ sym (fates-append m mid q))
      ∙ sym (fates-append m p (mid ++ q))

  -- at rest before and after
  pub replaced :
      (D : ℕ → Type 0) (k : List Kept) (w : Mem)
      → Rests n D k w m (p ++ (mid ++ q))
      → Segment n x c new d
      → Each Idle new
      → fates x new ≡ fates m mid
      → ((o : ℕ) → D o → x o ≡ m o)
      → ((o : ℕ) → D o → Each (Beyond o) new)
      → Rests n D k w x (p ++ (new ++ q))
  replaced D k w f s i g u v =
      record {
        held = held_replaced f.held s;
        idle = each_append Idle p (new ++ q) (each_left Idle p (mid ++ q) f.idle) (each_append Idle new q i (each_right Idle mid q (each_right Idle p (mid ++ q) f.idle)));
        kept = fates_replaced g ∙ f.kept;
        words = λ o y. u o y ∙ f.words o y;
        off =
            λ o y. each_append (Beyond o) p (new ++ q) (each_left (Beyond o) p (mid ++ q) (f.off o y))
            (each_append (Beyond o) new q (v o y) (each_right (Beyond o) mid q (each_right (Beyond o) p (mid ++ q) (f.off o y))));
      }

-- a store of a state
module _ (n : ℕ) (m : Mem) (p : List Head) (h : Head) (q : List Head) (s : ℕ) (f : Held n m (p ++ (h ∷ q))) where
  state_parted : Parted n p h.at (h ∷ []) (end_of h) q
  state_parted = parted_one n p h q f.tiles

  state_elsewhere : Elsewhere h.at (end_of h) m (upd m (state_at h.at) s)
  state_elsewhere = let l = state_parted.part.0.least in one_store m h.at (end_of h) (state_at h.at) s (omega arith) (omega arith)

  pub held_state : s ≤ FREEING → list_bad n (upd m (state_at h.at) s) (with_state h s) ≡ false → Held n (upd m (state_at h.at) s) (p ++ (with_state h s ∷ q))
  held_state l b =
      let i = state_at h.at in
      let t = state_parted.part.0 in
      let v = reads_right m p (h ∷ q) f.reads in
      held_replaced n m (upd m i s) p h.at (h ∷ []) (with_state h s ∷ []) (end_of h) q state_parted state_elsewhere f
      (record {
        tiles = (record { here = refl; least = t.least; whole = t.whole; known = l }, refl);
        reads = (upd_other m i s h.at (omega arith) ∙ v.0, upd_same m i s, tt);
        lists = (b, tt);
      })

  pub fates_state :
      fates (upd m (state_at h.at) s) (with_state h s ∷ []) ≡ fates m (h ∷ [])
      → fates (upd m (state_at h.at) s) (p ++ (with_state h s ∷ q)) ≡ fates m (p ++ (h ∷ q))
  fates_state g = fates_replaced n m (upd m (state_at h.at) s) p h.at (h ∷ []) (with_state h s ∷ []) (end_of h) q state_parted state_elsewhere g

  pub state_word : (o : ℕ) → Each (Beyond o) (p ++ (h ∷ q)) → upd m (state_at h.at) s o ≡ m o
  state_word o e =
      upd_other m (state_at h.at) s o (λ z. ⊎_elim (λ x. absurd (omega arith)) (λ x. absurd (omega arith)) (each_right (Beyond o) p (h ∷ q) e).0)

-- one clump for another at the same place
pub each_other : (P : Head → Type 0) (p : List Head) (h j : Head) (q : List Head) → (P h → P j) → Each P (p ++ (h ∷ q)) → Each P (p ++ (j ∷ q))
each_other P p h j q f e = let r = each_right P p (h ∷ q) e in each_append P p (j ∷ q) (each_left P p (h ∷ q) e) (f r.0, r.1)
