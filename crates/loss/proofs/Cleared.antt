-- The body that reserve leaves, byte by byte. In the first form it is zeros, since each of its words is stored last as 0; and until the last
-- store the clump is not RESERVED, since none before it goes to the state. In the second form no store reaches the body. By how reserve's
-- list ends, and what its stores come to. Assumes nothing.
use Rattle.std.specs.Prelude.{ℕ, ◌+◌, ◌-◌, ◌<◌, ◌≤◌, ◌≡◌, refl, Bool, true, false, cond, List, [], ◌∷◌, ◌++◌, ltb, length, get_or, take}
use Rattle.std.proofs.Common.{sym, ap, subst, ◌∙◌, inl, inr, arith, take_all, ltb-true, ltb-false, eqb-true}
use Rattle.std.proofs.Math.Option.{some}
use Rattle.rules.specs.declared.Request.{Request}
use Rattle.rules.specs.declared.Request.TheVariants.{Reserve, ReserveUncleared}
use Rattle.rules.specs.Lists.{Each}
use Rattle.rules.specs.Words.{Image, Store, store, Bytes, mem, after, carry}
use Rattle.rules.specs.Clumps.{Head, body_of, end_of, state_at, slots, least_clump, FREE, RESERVED}
use Rattle.rules.specs.Answers.{done}
use Rattle.rules.specs.Stores.{emptying, need_of, is_split, cleared_words, reserve_stores}
use Rattle.rules.specs.Requests.{finder, verdict_on, stores_for, cut, finished, answer_on}
use Rattle.rules.specs.Reading.{clumps_of, within}
use Rattle.rules.specs.Demands.{Accepted, Cleared, NotCleared}
use Rattle.word.specs.Blank.{blank_bytes}
use Rattle.laws.specs.Searches.{seek_split, each_append}
use Rattle.laws.specs.Bodies.{inside}
use Rattle.laws.specs.Clearing.{cleared_whole}
use Rattle.laws.specs.Walks.{walk-reads}
use Rattle.laws.specs.Stored.{found_state}
use Rattle.laws.specs.Granted.{Reserves, Granted, done_reserves}
use Rattle.laws.specs.Needs.{need_least, need_clump}
use Rattle.laws.specs.Served.{fuses}
use Rattle.laws.specs.Named.{Miss, carry_miss}
use Rattle.loss.specs.Orders.{reserve_order, end_order}
use Rattle.loss.specs.Redo.{Spares}
use Rattle.loss.specs.Blanked.{Leaves, leaves_behind, Late, late_behind}
use Rattle.loss.proofs.Images.{cut-mem}
use Rattle.loss.proofs.Ending.{part_of, Blank, end_late, end_blank, end_spared}
use Rattle.loss.proofs.Fresh.{lies, number, stores_are, memory_is, left, place_is, made, was_free}

-- the sizes, which come first
abbrev sizing_by : Bool → ℕ → Head → List Store
sizing_by b need h =
    let a = h.at in
    cond b
    (store (a + need) (h.nbytes - need) ∷ store (state_at (a + need)) FREE ∷ (emptying (slots a) ++ (store a need ∷ [])))
    (emptying (slots a))

abbrev sizing : ℕ → Head → List Store
sizing need h = sizing_by (is_split need h.nbytes) need h

-- "after the sizes are right"
order_is : (clears : Bool) (need : ℕ) (h : Head) → reserve_order clears need h ≡ sizing need h ++ end_order clears h.at (part_of need h.nbytes)
unfolding reserve_order reserve_stores end_order
order_is clears need h = go (is_split need h.nbytes)
  where
    go :
        (b : Bool)
        → cond b
        (store (h.at + need) (h.nbytes - need)
        ∷ store (state_at (h.at + need)) FREE
        ∷ (emptying (slots h.at) ++ (store h.at need ∷ end_order clears h.at need)))
        (emptying (slots h.at) ++ end_order clears h.at h.nbytes)
        ≡ sizing_by b need h ++ end_order clears h.at (cond b need h.nbytes)
    go true = refl
    go false = refl

-- of a need that is a clump's: the sizes are no stores to the state, nor to the body
module _ (need : ℕ) (h : Head) (l : least_clump ≤ need) where
  sizing_other : Spares (state_at h.at) (sizing need h)
  sizing_other = go (is_split need h.nbytes)
    where
      go : (b : Bool) → Spares (state_at h.at) (sizing_by b need h)
      go true = (omega arith, (omega arith, (omega arith, (omega arith, (omega arith, (omega arith, tt))))))
      go false = (omega arith, (omega arith, (omega arith, tt)))

  sizing_miss : (i : ℕ) → body_of h ≤ i → i < h.at + part_of need h.nbytes → Each (Miss i) (sizing need h)
  sizing_miss i k = go (is_split need h.nbytes)
    where
      go : (b : Bool) → i < h.at + cond b need h.nbytes → Each (Miss i) (sizing_by b need h)
      go true u = (inl u, (inl (omega arith), (inr (omega arith), (inr (omega arith), (inr (omega arith), (inr (omega arith), tt))))))
      go false u = (inr (omega arith), (inr (omega arith), (inr (omega arith), tt)))

  order_late : (clears : Bool) → Late (state_at h.at) (reserve_order clears need h)
  order_late clears =
      rw (order_is clears need h)
      (late_behind (state_at h.at) (sizing need h) (end_order clears h.at (part_of need h.nbytes)) sizing_other (end_late h.at (part_of need h.nbytes) clears))

  order_blank : Leaves (Blank h.at (part_of need h.nbytes)) (reserve_order true need h)
  order_blank =
      rw (order_is true need h)
      (leaves_behind (Blank h.at (part_of need h.nbytes)) (sizing need h) (end_order true h.at (part_of need h.nbytes)) (end_blank h.at (part_of need h.nbytes)))

  order_spared : (i : ℕ) → body_of h ≤ i → i < h.at + part_of need h.nbytes → Each (Miss i) (reserve_order false need h)
  order_spared i k u =
      rw (order_is false need h)
      (each_append (Miss i) (sizing need h) (end_order false h.at (part_of need h.nbytes)) (sizing_miss i k u) (end_spared h.at (part_of need h.nbytes) i k))

-- a reserve of the first form that is accepted
module _ (img : Image) (size : ℕ) (b : Bytes img) (accepted : Accepted img (Reserve size)) where
  abbrev q : Request
  q = Reserve size

  abbrev all : ℕ
  all = length (stores_for img q)

  g : Granted (Reserves true (length img) (mem img) size) all (verdict_on img q)
  g = done_reserves img true size all accepted

  -- finished, each byte of the body is 0
  zeros_left : (h : Head) (i : ℕ) → finder (clumps_of (finished img q)) (answer_on img q all).place ≡ some h → within (body_of h) (end_of h) i ≡ true → get_or (finished img q) i 0 ≡ 0
  zeros_left h i f w =
      let x = left img true size all b g in
      let k = x.clump in
      let same : h ≡ k = (let e = made img true size all b g in cc) in
      let t = inside (body_of k) (end_of k) i (rw same at w) in
      let blank : Blank k.at k.nbytes (mem (finished img q)) = subst (Blank k.at k.nbytes) (sym (memory_is img true size all b g)) (rw (x.place, x.size) (order_blank (need_of size) g.grants.clump (need_clump size g.grants.asked) (mem img))) in
      let whole = cleared_whole k.nbytes (omega (arith, x.room, need_least size)) (omega (arith, x.whole)) in
      blank_bytes (cleared_words true k.nbytes) (body_of k) (finished img q) (omega (arith, x.place, (lies img true size all b g).even)) blank i t.0 (omega (arith, t.1, whole))

  -- cut before the last store, the clump is FREE still
  still_free : (j : ℕ) (h : Head) → j < all → finder (clumps_of (cut img q j)) (answer_on img q all).place ≡ some h → h.state ≡ FREE
  still_free j h l f =
      let k = g.grants.clump in
      let st = stores_are img true size all b g in
      let e : body_of h ≡ body_of k = eqb-true (body_of h) (answer_on img q all).place (seek_split _ (clumps_of (cut img q j)) h f).passes ∙ place_is img true size all b g in
      let at : h.at ≡ k.at = omega arith in
      let m : mem (cut img q j) ≡ after (mem img) (take j (reserve_order true (need_of size) k)) = cut-mem img q j b (number img true size all b g) ∙ ap (λ (l : List Store). after (mem img) (take j l)) st in
      sym (found_state (mem (cut img q j)) (clumps_of (cut img q j)) _ h (walk-reads _ _) f)
      ∙ rw (m, at) (order_late (need_of size) k (need_clump size g.grants.asked) true (mem img) j (omega (arith, ap length st)))
      ∙ found_state (mem img) (clumps_of img) _ k (walk-reads _ _) g.grants.found
      ∙ was_free img true size all b g

pub cleared : Cleared
cleared img size fuse i h b accepted f w = go (ltb fuse (length (stores_for img (Reserve size)))) refl
  where
    go : (c : Bool) → ltb fuse (length (stores_for img (Reserve size))) ≡ c → ((answer_on img (Reserve size) fuse).answer ≡ done → get_or (cut img (Reserve size) fuse) i 0 ≡ 0) × (h.state ≡ RESERVED → get_or (cut img (Reserve size) fuse) i 0 ≡ 0)
    go true e =
        let l = ltb-true fuse _ e in
        ((λ d. absurd (let c = (fuses img (Reserve size) fuse).0.1 l in omega arith)), (λ s. absurd (let c = still_free img size b accepted fuse h l f in omega arith)))
    go false e =
        let whole : cut img (Reserve size) fuse ≡ finished img (Reserve size) = ap (carry img) (take_all fuse (stores_for img (Reserve size)) (ltb-false fuse _ e)) in
        let z : get_or (cut img (Reserve size) fuse) i 0 ≡ 0 = rw whole (zeros_left img size b accepted h i (rw whole at f) w) in
        ((λ d. z), (λ s. z))

pub not_cleared_lem : NotCleared
not_cleared_lem img size fuse i h b d f w =
    let g = done_reserves img false size fuse d in
    let x = left img false size fuse b g in
    let same : h ≡ x.clump = (let e = made img false size fuse b g in cc) in
    let t = inside (body_of x.clump) (end_of x.clump) i (rw same at w) in
    carry_miss img (stores_for img (ReserveUncleared size)) i (rw (stores_are img false size fuse b g) (order_spared (need_of size) g.grants.clump (need_clump size g.grants.asked) i (omega (arith, t.0, x.place)) (omega (arith, t.1, x.place, x.size))))
