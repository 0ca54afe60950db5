-- Grow, cut after any store, and finished. The rest's header stands in the body of the FREE clump behind, which nobody reads; the one store of
-- nbytes then takes that clump, or the part of it below the rest, and the list and the state are what they were. Assumes nothing.
use Rattle.std.specs.Prelude.{ℕ, ◌+◌, ◌-◌, ◌%◌, ◌<◌, ◌≤◌, ◌≡◌, Bool, ◌⊎◌}
use Rattle.std.proofs.Math.Path.{refl}
use Rattle.std.proofs.Common.{sym, subst, ◌∙◌}
use Rattle.std.proofs.Math.Bool.{true, false}
use mathlib.Core.List.{List, [], ◌∷◌, ◌++◌, append_assoc}
use native.Mathlib.Omega.{arith}
use borrow.Author.Tests.{leb-true}
use Rattle.rules.specs.Lists.{Each}
use Rattle.rules.specs.Words.{Mem, store, upd, after}
use Rattle.rules.specs.Pages.{unit}
use Rattle.rules.specs.Clumps.{Head, header_bytes, body_of, end_of, state_at, is_free, slots, waiting, least_clump, FREE, Tiles}
use Rattle.rules.specs.Sound.{list_bad, touching}
use Rattle.rules.specs.Stores.{least_rest, is_split, rest_header, grow_stores}
use Rattle.word.specs.Memory.{upd_same, upd_other}
use Rattle.laws.specs.Searches.{each_append, each_left, each_right}
use Rattle.laws.specs.Walks.{Reads}
use Rattle.laws.specs.Stored.{reads_right}
use Rattle.laws.specs.Bodies.{Off}
use Rattle.loss.proofs.Ending.{part_of}
use Rattle.loss.specs.Orders.{grow_order}
use Rattle.loss.specs.Held.{Held, Idle}
use Rattle.loss.specs.Fates.{Kept, fates, Owned, Rests}
use Rattle.loss.specs.Parts.{one_store, parted, held_replaced}
use Rattle.loss.specs.Entries.{good_alike, list_good, good_list, unjudged}
use Rattle.loss.specs.Calm.{touching_like, touching_sides, touching-live}
use Rattle.loss.proofs.Recovering.{Comes, comes_none, comes_store}
use Rattle.loss.proofs.Reserving.{inner}
use Rattle.loss.specs.Owning.{owned_off, owned_beyond, rests_as}
use Rattle.loss.proofs.Courses.{Course, never, course_last}

-- the clump h between p and q, with the FREE clump next behind it
module _ (n : ℕ) (p : List Head) (h next : Head) (q : List Head) (free : is_free next ≡ true) where
  abbrev all : List Head
  all = p ++ (h ∷ next ∷ q)

  -- a rest's header in the body of the FREE clump
  headed :
      (D : ℕ → Type 0) (k : List Kept) (w m : Mem) (b rest : ℕ)
      → ((o : ℕ) → D o → (o < next.at) ⊎ (end_of next ≤ o))
      → body_of next ≤ b
      → b + header_bytes ≤ end_of next
      → Rests n D k w m all
      → Comes n D k w m (rest_header b rest) all
  headed D k w m b rest clear l u f =
      let e = append_assoc p (h ∷ []) (next ∷ q) in
      let x = upd m b rest in
      let g1 = inner n D k w (p ++ (h ∷ [])) next q free clear m b rest (omega arith) (omega arith) (subst (Rests n D k w m) (sym e) f) in
      let g2 = inner n D k w (p ++ (h ∷ [])) next q free clear x (state_at b) FREE (omega arith) (omega arith) g1 in
      comes_store n D k w m _ _ all all f
      (comes_store n D k w x _ [] all all (subst (Rests n D k w x) e g1) (comes_none n D k w _ all (subst (Rests n D k w _) e g2)))

  -- the clump with so many bytes
  abbrev grown_to : ℕ → Head
  grown_to size = record { at = h.at; nbytes = size; state = h.state }

  -- one store of its nbytes, where what stands above it then ends where the FREE clump did
  grown_held :
      (y : Mem) (size : ℕ) (above : List Head)
      → Held n y all
      → least_clump ≤ size
      → size % unit ≡ 0
      → ((c d : ℕ) → c ≡ h.at → d ≡ h.at + h.nbytes + next.nbytes → Tiles (c + size) above d)
      → Reads (upd y h.at size) above
      → Each (λ g. list_bad n (upd y h.at size) g ≡ false) above
      → Held n (upd y h.at size) (p ++ (grown_to size ∷ (above ++ q)))
  grown_held y size above f l e t r b =
      let x = upd y h.at size in
      let d = parted n p (h ∷ next ∷ []) q f.tiles in
      let s = d.2.part in
      let i = s.0.here in
      let j = s.0.least in
      let v = reads_right y p (h ∷ next ∷ q) f.reads in
      let own = (each_right (λ g. list_bad n y g ≡ false) p (h ∷ next ∷ q) f.lists).0 in
      let z = s.1.1 in
      held_replaced n y x p d.0 (h ∷ next ∷ []) (grown_to size ∷ above) d.1 q d.2 (one_store y d.0 d.1 h.at size (omega arith) (omega arith)) f
      (record {
        tiles = (record { here = i; least = l; whole = e; known = s.0.known }, t d.0 d.1 (sym i) (omega arith));
        reads = (upd_same y h.at size, upd_other y h.at size (state_at h.at) (omega arith) ∙ v.1, r);
        lists = (
          good_list n x (grown_to size)
              (good_alike (waiting h) n y x (slots h.at)
              (upd_other y h.at size _ (omega arith), (upd_other y h.at size _ (omega arith), (upd_other y h.at size _ (omega arith), tt)))
              (list_good n y h own)),
          b,
        );
      })

  -- of clumps at rest, none of them unfinished
  grown_idle : (size : ℕ) (above : List Head) → Each Idle all → Each Idle above → Each Idle (p ++ (grown_to size ∷ (above ++ q)))
  grown_idle size above i j =
      let r = each_right Idle p (h ∷ next ∷ q) i in
      each_append Idle p (grown_to size ∷ (above ++ q)) (each_left Idle p (h ∷ next ∷ q) i) (r.0, each_append Idle above q j r.1.1)

-- what grow leaves of the clump h and the FREE one behind it
pub record Enlarged (n : ℕ) (m : Mem) (p : List Head) (h next : Head) (q : List Head) (need : ℕ) : Type 0 where
  pub clump : Head
  pub above : List Head
  pub place : clump.at ≡ h.at
  pub state : clump.state ≡ h.state
  pub size : clump.nbytes ≡ part_of need (h.nbytes + next.nbytes)
  pub room : need ≤ clump.nbytes
  pub less : clump.nbytes ≤ h.nbytes + next.nbytes
  pub course : Course n m never (grow_order need h next)
  pub held : Held n (after m (grow_order need h next)) (p ++ (clump ∷ above))

module _ (n : ℕ) (m : Mem) (p : List Head) (h next : Head) (q : List Head) (held : Held n m (p ++ (h ∷ next ∷ q))) (idle : Each Idle (p ++ (h ∷ next ∷ q))) (apart : touching (p ++ (h ∷ next ∷ q)) ≡ false) (live : is_free h ≡ false) (free : is_free next ≡ true) where
  abbrev hs : List Head
  hs = p ++ (h ∷ next ∷ q)

  abbrev k : List Kept
  k = fates m hs

  rests : Rests n (Owned k) k m m hs
  rests = rests_as n (Owned k) m hs held idle (owned_beyond n m hs held.tiles)

  clear : (o : ℕ) → Owned k o → (o < next.at) ⊎ (end_of next ≤ o)
  clear o d = (each_right (Off o) p (h ∷ next ∷ q) (owned_off n m hs o held.tiles d)).1.0.whole free

  sides : (touching p ≡ false) × (touching (next ∷ q) ≡ false)
  sides = touching_sides p h (next ∷ q) apart

  abbrev both : ℕ
  both = h.nbytes + next.nbytes

  abbrev rest : ℕ → Head
  rest need = record { at = h.at + need; nbytes = both - need; state = FREE }

  -- the sizes and places of both clumps
  record Beside : Type 0 where
    here : next.at ≡ h.at + h.nbytes
    own : h.nbytes % unit ≡ 0
    other : next.nbytes % unit ≡ 0
    least : least_clump ≤ h.nbytes

  beside : Beside
  beside =
      let s = (parted n p (h ∷ next ∷ []) q held.tiles).2.part in
      let i = s.0.here in
      let j = s.1.0.here in
      record { here = omega arith; own = s.0.whole; other = s.1.0.whole; least = s.0.least }

  pub enlarges : (need : ℕ) → need % unit ≡ 0 → h.nbytes < need → need ≤ h.nbytes + next.nbytes → Enlarged n m p h next q need
  unfolding grow_order grow_stores after
  enlarges need e l u = go (is_split need (h.nbytes + next.nbytes)) refl
    where
      go : (b : Bool) → is_split need (h.nbytes + next.nbytes) ≡ b → Enlarged n m p h next q need
      go true z =
          let g = beside in
          let i = g.here in
          let o = g.own in
          let v = g.other in
          let s = g.least in
          let c = leb-true least_rest (both - need) z in
          let x = upd m (h.at + need) (both - need) in
          let y = upd x (state_at (h.at + need)) FREE in
          let w = upd y h.at need in
          let comes = headed n p h next q free (Owned k) k m m (h.at + need) (both - need) clear (omega arith) (omega arith) rests in
          let ends =
          grown_held n p h next q free y need (rest need ∷ []) comes.ends.held (omega arith) e
          (λ a d i j. (record { here = omega arith; least = omega arith; whole = omega arith; known = omega arith }, omega arith))
          (upd_other y h.at need (h.at + need) (omega arith) ∙ upd_other x (state_at (h.at + need)) FREE (h.at + need) (omega arith) ∙ upd_same m (h.at + need) (both - need), upd_other y h.at need (state_at (h.at + need)) (omega arith) ∙ upd_same x (state_at (h.at + need)) FREE, tt)
          (unjudged n w (rest need) refl refl, tt) in
          record {
            clump = grown_to n p h next q free need;
            above = rest need ∷ q;
            place = refl;
            state = refl;
            size = rw z refl;
            room = omega arith;
            less = u;
            course =
                rw z
                (course_last n k m m (rest_header (h.at + need) (both - need)) (store h.at need) hs _ comes ends
                (grown_idle n p h next q free need (rest need ∷ []) idle (refl, tt))
                (touching-live p (grown_to n p h next q free need) (rest need ∷ q) live sides.0 (touching_like [] next (rest need) q (sym free) sides.1)));
            held = rw z ends;
          }
      go false z =
          let g = beside in
          let i = g.here in
          let o = g.own in
          let v = g.other in
          let s = g.least in
          let comes = comes_none n (Owned k) k m m hs rests in
          let ends = grown_held n p h next q free m both [] held (omega arith) (omega arith) (λ a d i j. omega arith) tt tt in
          record {
            clump = grown_to n p h next q free both;
            above = q;
            place = refl;
            state = refl;
            size = rw z refl;
            room = u;
            less = omega arith;
            course =
                rw z
                (course_last n k m m [] (store h.at both) hs _ comes ends
                (grown_idle n p h next q free both [] idle tt)
                (touching-live p (grown_to n p h next q free both) q live sides.0 (touching_sides [] next q sides.1).1));
            held = rw z ends;
          }
