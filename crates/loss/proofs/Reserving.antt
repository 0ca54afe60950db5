-- Reserve in either form, cut after any store: what it stores lies in one FREE clump, which recovery does not keep. The rest's header, the
-- emptied targets and the cleared body are words that nobody reads; the smaller nbytes splits the clump in two; the state comes last.
-- Assumes nothing.
use Prim.Native.Nat.{ℕ, zero, suc, ◌+◌, ◌-◌, ◌*◌, ◌%◌, ◌<◌, ◌≤◌}
use Rattle.std.specs.Prelude.{◌≡◌, Bool, ◌⊎◌}
use Rattle.std.proofs.Math.Path.{refl}
use Rattle.std.proofs.Common.{sym, ◌∙◌, arith}
use Rattle.std.proofs.Math.Bool.{true, false}
use Rattle.std.proofs.Math.Logic.{inl, inr, ⊎_elim}
use mathlib.Core.List.{List, [], ◌∷◌, ◌++◌}
use borrow.Author.Tests.{eqb-true, leb-true}
use Rattle.rules.specs.Words.{Mem, Store, store, upd, after, zeros, word_bytes}
use Rattle.rules.specs.Pages.{unit}
use Rattle.rules.specs.Clumps.{Head, header_bytes, end_of, state_at, is_free, slots, least_clump, FREE, RESERVED}
use Rattle.rules.specs.Sound.{touching}
use Rattle.rules.specs.Stores.{emptying, least_rest, is_split, cleared_words, reserve_stores}
use Rattle.word.specs.Memory.{upd_same, upd_other}
use Rattle.laws.specs.Searches.{each_right}
use Rattle.laws.specs.Stored.{with_state, reads_right}
use Rattle.laws.specs.Clearing.{cleared_room}
use Rattle.loss.proofs.Ending.{part_of}
use Rattle.loss.specs.Orders.{reserve_order, end_order}
use Rattle.loss.specs.Fates.{Kept, fates_none, Beyond, Rests}
use Rattle.loss.specs.Parts.{one_store, parted_one, replaced}
use Rattle.loss.specs.Redo.{after_spared}
use Rattle.loss.specs.Blanked.{zeros_other}
use Rattle.loss.specs.Entries.{unjudged, Bare, bare_good, bare_front}
use Rattle.loss.specs.Turning.{state_rests}
use Rattle.loss.specs.Merging.{free_loose}
use Rattle.loss.specs.Calm.{touching_taken, touching_split}
use Rattle.loss.proofs.Recovering.{Comes, comes_none, comes_store}

-- what reserve leaves of the FREE clump h, between p and q
pub record Reserved (clears : Bool) (n : ℕ) (D : ℕ → Type 0) (k : List Kept) (w m : Mem) (p : List Head) (h : Head) (q : List Head) (need : ℕ) : Type 0 where
  pub clump : Head
  pub above : List Head
  pub place : clump.at ≡ h.at
  pub room : need ≤ clump.nbytes
  pub less : clump.nbytes ≤ h.nbytes
  pub size : clump.nbytes ≡ part_of need h.nbytes
  pub whole : clump.nbytes % unit ≡ 0
  pub state : clump.state ≡ RESERVED
  pub comes : Comes n D k w m (reserve_order clears need h) (p ++ (clump ∷ above))
  pub calm : touching (p ++ (h ∷ q)) ≡ false → touching (p ++ (clump ∷ above)) ≡ false

-- a FREE clump h, which no place of D lies in
module _ (n : ℕ) (D : ℕ → Type 0) (k : List Kept) (w : Mem) (p : List Head) (h : Head) (q : List Head) (free : is_free h ≡ true) (clear : (o : ℕ) → D o → (o < h.at) ⊎ (end_of h ≤ o)) where
  abbrev a : ℕ
  a = h.at

  apart : (i o : ℕ) → D o → a ≤ i → i < end_of h → o ≡ i → ⊥
  apart i o d l u e = ⊎_elim (λ x. absurd (omega arith)) (λ x. absurd (omega arith)) (clear o d)

  -- a word past its size and state
  pub inner : (m : Mem) (i v : ℕ) → a + 16 ≤ i → i < end_of h → Rests n D k w m (p ++ (h ∷ q)) → Rests n D k w (upd m i v) (p ++ (h ∷ q))
  inner m i v l u f =
      let x = upd m i v in
      let t = parted_one n p h q f.held.tiles in
      let r = reads_right m p (h ∷ q) f.held.reads in
      let loose = free_loose n x h free in
      replaced n m x p a (h ∷ []) (h ∷ []) (end_of h) q t (one_store m a (end_of h) i v (omega arith) u) D k w f
      (record { tiles = t.part; reads = (upd_other m i v a (omega arith) ∙ r.0, upd_other m i v (state_at a) (omega arith) ∙ r.1, tt); lists = (loose.list, tt) })
      (loose.idle, tt)
      (fates_none x (h ∷ []) (loose.lost, tt) ∙ sym (fates_none m (h ∷ []) (loose.lost, tt)))
      (λ o d. upd_other m i v o (apart i o d (omega arith) u))
      (λ o d. ((each_right (Beyond o) p (h ∷ q) (f.off o d)).0, tt))

  -- a run of zeros there
  zeroed :
      (c : ℕ) (m : Mem) (i : ℕ) (st : List Store) (hs : List Head)
      → a + 16 ≤ i
      → i + word_bytes * c ≤ end_of h
      → Rests n D k w m (p ++ (h ∷ q))
      → (Rests n D k w (after m (zeros i c)) (p ++ (h ∷ q)) → Comes n D k w (after m (zeros i c)) st hs)
      → Comes n D k w m (zeros i c ++ st) hs
  unfolding after zeros
  zeroed zero m i st hs l u f go = go f
  zeroed (suc c) m i st hs l u f go =
      comes_store n D k w m _ _ (p ++ (h ∷ q)) hs f (zeroed c (upd m i 0) (i + word_bytes) st hs (omega arith) (omega arith) (inner m i 0 l (omega arith) f) go)

  -- the targets are emptied
  emptied : (m : Mem) (st : List Store) (hs : List Head) → Rests n D k w m (p ++ (h ∷ q)) → (Rests n D k w (after m (emptying (slots a))) (p ++ (h ∷ q)) → Comes n D k w (after m (emptying (slots a))) st hs) → Comes n D k w m (emptying (slots a) ++ st) hs
  unfolding after
  emptied m st hs f go =
      let gs = p ++ (h ∷ q) in
      let l = (parted_one n p h q f.held.tiles).part.0.least in
      let f1 = inner m (a + 16) 0 (omega arith) (omega arith) f in
      let f2 = inner (upd m (a + 16) 0) (a + 32) 0 (omega arith) (omega arith) f1 in
      let f3 = inner (upd (upd m (a + 16) 0) (a + 32) 0) (a + 48) 0 (omega arith) (omega arith) f2 in
      comes_store n D k w m _ _ gs hs f (comes_store n D k w _ _ _ gs hs f1 (comes_store n D k w _ _ st gs hs f2 (go f3)))

  -- the body of a clump without entries, and the state, last
  taken : (clears : Bool) (m : Mem) → Bare m a → Rests n D k w m (p ++ (h ∷ q)) → Comes n D k w m (end_order clears a h.nbytes) (p ++ (with_state h RESERVED ∷ q))
  unfolding end_order
  taken clears m e f =
      let c = cleared_words clears h.nbytes in
      let l = (parted_one n p h q f.held.tiles).part.0.least in
      let u = cleared_room clears h.nbytes (omega arith) in
      let hs = p ++ (with_state h RESERVED ∷ q) in
      let y = after m (zeros (a + header_bytes) c) in
      let same : (o : ℕ) → o < a + header_bytes → y o ≡ m o = (λ o b. after_spared m (zeros (a + header_bytes) c) o (zeros_other o (a + header_bytes) c (inl b))) in
      let d : Bare y a = (same (a + 16) (omega arith) ∙ e.0, (same (a + 32) (omega arith) ∙ e.1.0, (same (a + 48) (omega arith) ∙ e.1.1.0, tt))) in
      let x = upd y (state_at a) RESERVED in
      zeroed c m (a + header_bytes) _ hs (omega arith) (omega arith) f
      (λ g. comes_store n D k w y _ [] (p ++ (h ∷ q)) hs g
      (comes_none n D k w x hs
      (state_rests n D k w y p h q RESERVED g (omega arith) refl (free_loose n y h free).lost refl (bare_good n x (with_state h RESERVED) (bare_front y a (state_at a) RESERVED (omega arith) d)))))

-- the same clump, in both ways
module _ (n : ℕ) (D : ℕ → Type 0) (k : List Kept) (w : Mem) (p : List Head) (h : Head) (q : List Head) (free : is_free h ≡ true) (clear : (o : ℕ) → D o → (o < h.at) ⊎ (end_of h ≤ o)) where
  abbrev b : ℕ
  b = h.at

  -- the clump and its rest
  abbrev fore : ℕ → Head
  fore need = record { at = b; nbytes = need; state = FREE }

  abbrev rest : ℕ → Head
  rest need = record { at = b + need; nbytes = h.nbytes - need; state = FREE }

  -- the smaller nbytes, once the rest has its header
  splits :
      (m : Mem) (need : ℕ)
      → need % unit ≡ 0
      → least_clump ≤ need
      → need + least_rest ≤ h.nbytes
      → m (b + need) ≡ h.nbytes - need
      → m (state_at (b + need)) ≡ FREE
      → Rests n D k w m (p ++ (h ∷ q))
      → Rests n D k w (upd m b need) (p ++ (fore need ∷ rest need ∷ q))
  splits m need e l u size state f =
      let x = upd m b need in
      let t = parted_one n p h q f.held.tiles in
      let s = t.part.0 in
      let v = s.whole in
      let r = reads_right m p (h ∷ q) f.held.reads in
      let z : h.state ≡ FREE = eqb-true h.state FREE free in
      replaced n m x p b (h ∷ []) (fore need ∷ rest need ∷ []) (end_of h) q t (one_store m b (end_of h) b need (omega arith) (omega arith)) D k w f
      (record {
        tiles = (
          record { here = refl; least = l; whole = e; known = omega arith },
          (record { here = refl; least = omega arith; whole = omega arith; known = omega arith }, omega arith),
        );
        reads = (
          upd_same m b need,
          upd_other m b need (state_at b) (omega arith) ∙ r.1 ∙ z,
          (upd_other m b need (b + need) (omega arith) ∙ size, upd_other m b need (state_at (b + need)) (omega arith) ∙ state, tt),
        );
        lists = (unjudged n x (fore need) refl refl, (unjudged n x (rest need) refl refl, tt));
      })
      (refl, (refl, tt))
      (fates_none x (fore need ∷ rest need ∷ []) (refl, (refl, tt)) ∙ sym (fates_none m (h ∷ []) ((free_loose n m h free).lost, tt)))
      (λ o d. upd_other m b need o (apart n D k w p h q free clear b o d (omega arith) (omega arith)))
      (λ o d. ⊎_elim (λ j. (inl j, (inl (omega arith), tt))) (λ j. (inr (omega arith), (inr (omega arith), tt))) (clear o d))

  bare : (m : Mem) → Bare (after m (emptying (slots b))) b
  unfolding after
  bare m =
      let x = upd m (b + 16) 0 in
      let y = upd x (b + 32) 0 in (
        upd_other y (b + 48) 0 (b + 16) (omega arith) ∙ upd_other x (b + 32) 0 (b + 16) (omega arith) ∙ upd_same m (b + 16) 0,
        (upd_other y (b + 48) 0 (b + 32) (omega arith) ∙ upd_same x (b + 32) 0, (upd_same y (b + 48) 0, tt)),
      )

  whole_taken : (clears : Bool) (m : Mem) → Rests n D k w m (p ++ (h ∷ q)) → Comes n D k w m (emptying (slots b) ++ end_order clears b h.nbytes) (p ++ (with_state h RESERVED ∷ q))
  whole_taken clears m f =
      emptied n D k w p h q free clear m _ (p ++ (with_state h RESERVED ∷ q)) f (taken n D k w p h q free clear clears _ (bare m))

  part_taken :
      (clears : Bool) (m : Mem) (need : ℕ)
      → need % unit ≡ 0
      → least_clump ≤ need
      → need + least_rest ≤ h.nbytes
      → Rests n D k w m (p ++ (h ∷ q))
      → Comes n D k w m
      (store (b + need) (h.nbytes - need)
      ∷ store (state_at (b + need)) FREE
      ∷ (emptying (slots b) ++ (store b need ∷ end_order clears b need)))
      (p ++ (with_state (fore need) RESERVED ∷ rest need ∷ q))
  unfolding after
  part_taken clears m need e l u f =
      let m1 = upd m (b + need) (h.nbytes - need) in
      let m2 = upd m1 (state_at (b + need)) FREE in
      let m5 = after m2 (emptying (slots b)) in
      let m6 = upd m5 b need in
      let f1 = inner n D k w p h q free clear m (b + need) (h.nbytes - need) (omega arith) (omega arith) f in
      let f2 = inner n D k w p h q free clear m1 (state_at (b + need)) FREE (omega arith) (omega arith) f1 in
      let through : (o : ℕ) → b + 64 ≤ o → m5 o ≡ m2 o = (λ o j. upd_other _ _ _ _ (omega arith) ∙ upd_other _ _ _ _ (omega arith) ∙ upd_other _ _ _ _ (omega arith)) in
      let size : m5 (b + need) ≡ h.nbytes - need = through (b + need) (omega arith) ∙ upd_other m1 (state_at (b + need)) FREE (b + need) (omega arith) ∙ upd_same m (b + need) (h.nbytes - need) in
      let state : m5 (state_at (b + need)) ≡ FREE = through (state_at (b + need)) (omega arith) ∙ upd_same m1 (state_at (b + need)) FREE in
      let none : Bare m6 b = bare_front m5 b b need (omega arith) (bare m2) in
      let gs = p ++ (h ∷ q) in
      let ends = p ++ (with_state (fore need) RESERVED ∷ rest need ∷ q) in
      comes_store n D k w m _ _ gs ends f
      (comes_store n D k w m1 _ _ gs ends f1
      (emptied n D k w p h q free clear m2 (store b need ∷ end_order clears b need) ends f2
      (λ g. comes_store n D k w m5 _ _ gs ends g
      (taken n D k w p (fore need) (rest need ∷ q) refl (λ o d. ⊎_elim inl (λ j. inr (omega arith)) (clear o d)) clears m6 none (splits m5 need e l u size state g)))))

  -- both
  pub reserves : (clears : Bool) (m : Mem) (need : ℕ) → need % unit ≡ 0 → least_clump ≤ need → need ≤ h.nbytes → Rests n D k w m (p ++ (h ∷ q)) → Reserved clears n D k w m p h q need
  unfolding reserve_order reserve_stores end_order
  reserves clears m need e l u f = go (is_split need h.nbytes) refl
    where
      go : (c : Bool) → is_split need h.nbytes ≡ c → Reserved clears n D k w m p h q need
      go true z =
          let y = leb-true least_rest (h.nbytes - need) z in
          record {
            clump = with_state (fore need) RESERVED;
            above = rest need ∷ q;
            place = refl;
            room = omega arith;
            less = u;
            size = rw z refl;
            whole = e;
            state = refl;
            comes = rw z (part_taken clears m need e l (omega arith) f);
            calm = touching_split p h (with_state (fore need) RESERVED) (rest need) q free refl refl;
          }
      go false z =
          record {
            clump = with_state h RESERVED;
            above = q;
            place = refl;
            room = u;
            less = omega arith;
            size = rw z refl;
            whole = (parted_one n p h q f.held.tiles).part.0.whole;
            state = refl;
            comes = rw z (whole_taken clears m f);
            calm = touching_taken p h (with_state h RESERVED) q refl;
          }
