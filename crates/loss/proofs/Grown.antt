-- A clump that has grown: it stands where it stood, with its state, its list and every byte of its body, which is as large as was asked, and it
-- shares no byte with another clump that was live, since what it takes was FREE. By what grow's stores come to, and by where they go.
-- Assumes nothing.
use Rattle.std.specs.Prelude.{ℕ, ◌+◌, ◌-◌, ◌<◌, ◌≤◌, ◌≡◌, Bool, List, [], ◌∷◌, ◌++◌, length}
use Rattle.std.proofs.Math.Path.{refl}
use Rattle.std.proofs.Common.{sym, ap, ap₂, subst, ◌∙◌, inl, inr, append_assoc, eqb-true}
use Rattle.std.proofs.Math.Bool.{true, false}
use Rattle.std.proofs.Math.Option.{some}
use native.Mathlib.Omega.{arith}
use Rattle.std.proofs.lemmas.Bool.{not-true}
use Rattle.rules.specs.declared.Answer.{Answer}
use Rattle.rules.specs.declared.Request.{Request}
use Rattle.rules.specs.declared.Request.TheVariants.{Grow}
use Rattle.rules.specs.Lists.{Each}
use Rattle.rules.specs.Words.{Image, Store, Bytes, mem, after, carry}
use Rattle.rules.specs.Pages.{clumps_at}
use Rattle.rules.specs.Clumps.{Head, header_bytes, body_of, end_of, is_live, slots, used, Tiles, walk, next_of}
use Rattle.rules.specs.Answers.{stores_of}
use Rattle.rules.specs.Stores.{need_of, is_split, grow_stores, free_after}
use Rattle.rules.specs.Requests.{Numbers, finder, verdict_on, stores_for, finished, answer_on}
use Rattle.rules.specs.Reading.{clumps_of}
use Rattle.rules.specs.Demands.{Apart, Grew, Grown}
use Rattle.word.specs.Memory.{length-carry}
use Rattle.laws.specs.Searches.{differ, each_map, seek_split}
use Rattle.laws.specs.Bodies.{inside}
use Rattle.laws.specs.Neighbours.{if_free_lem}
use Rattle.laws.specs.Needs.{need_body}
use Rattle.laws.specs.Headers.{each_slot, SameSlot, SameSlots, listing-same}
use Rattle.laws.specs.Lying.{Lies, found-lies}
use Rattle.laws.specs.Named.{Miss, carry_miss}
use Rattle.laws.specs.Granted.{Enlarges, enough, takes, Grows, Granted, done_granted}
use Rattle.loss.proofs.Ending.{part_of}
use Rattle.loss.specs.Orders.{grow_order}
use Rattle.loss.specs.Redo.{Spares, after_spared}
use Rattle.loss.specs.Held.{held_walk}
use Rattle.loss.proofs.Images.{finished-mem}
use Rattle.loss.proofs.Growing.{Enlarged}
use Rattle.loss.proofs.Fresh.{begin_above, found_there, around}
use Rattle.loss.proofs.Requested.{Amid, amid, enlarging}

-- where its stores go: to no byte of the body that it leaves, and to no word of the list
module _ (need : ℕ) (h next : Head) (l : h.nbytes ≤ need) where
  abbrev both : ℕ
  both = h.nbytes + next.nbytes

  order_miss : (i : ℕ) → body_of h ≤ i → i < h.at + part_of need both → Each (Miss i) (grow_order need h next)
  unfolding grow_order grow_stores
  order_miss i k u = go (is_split need both) refl
    where
      go : (b : Bool) → is_split need both ≡ b → Each (Miss i) (grow_order need h next)
      go true z = rw z (inl (rw z at u), (inl (let v : i < h.at + need = rw z at u in omega arith), (inr (omega arith), tt)))
      go false z = rw z (inr (omega arith), tt)

  order_spares : (o : ℕ) → h.at < o → o < h.at + need → Spares o (grow_order need h next)
  unfolding grow_order grow_stores
  order_spares o k u = go (is_split need both) refl
    where
      go : (b : Bool) → is_split need both ≡ b → Spares o (grow_order need h next)
      go true z = rw z (omega arith, (omega arith, (omega arith, tt)))
      go false z = rw z (omega arith, tt)

-- a grow that is done
module _ (img : Image) (offset size fuse : ℕ) (b : Bytes img) (g : Granted (Grows (length img) (mem img) offset size) fuse (verdict_on img (Grow offset size))) where
  abbrev q : Request
  q = Grow offset size

  -- the clump that it found
  abbrev h : Head
  h = g.grants.clump

  a : Amid (length img) (mem img) h
  a = amid (length img) (mem img) _ h g.grants.sound g.grants.calm g.grants.found

  lies : Lies (length img) h
  lies = found-lies (length img) (mem img) g.grants.sound _ h g.grants.found

  at_offset : body_of h ≡ offset
  at_offset = eqb-true (body_of h) offset (seek_split _ (clumps_of img) h g.grants.found).passes

  place_is : (answer_on img q fuse).place ≡ offset
  place_is = ap (λ (r : Answer). r.place) g.answer_is_lem ∙ g.grants.place

  abbrev Others : Head → Head → Type 0
  Others j k = is_live k ≡ true → (k.at ≡ h.at → ⊥) → Apart j k

  -- apart from those below, and from those above if it is so
  others : (j : Head) → j.at ≡ h.at → Each (Others j) a.above → Each (Others j) (clumps_of img)
  others j e f =
      subst (Each (Others j)) (sym a.whole)
      (around (length img) a.below h a.above j [] a.held.tiles e (Others j) (λ k z i d. z) (λ i d. absurd (d refl)) f)

  -- the body was enough
  stayed : size ≤ h.nbytes - header_bytes → finished img q ≡ img → Grew img (finished img q) offset size
  stayed l e =
      rw e
      (record {
        old = h;
        new = h;
        found = g.grants.found;
        stands = g.grants.found;
        state = refl;
        list = refl;
        enough = omega (arith, lies.least);
        longer = omega arith;
        bytes = λ i w. refl;
        apart = others h refl (each_map (λ k. end_of h ≤ k.at) (Others h) a.above (λ k z i d. inl z) (begin_above (length img) a.below h a.above a.held.tiles));
      })

  -- the FREE clump behind was taken
  module _ (next : Head) (short : h.nbytes - header_bytes < size) (behind : free_after (clumps_of img) h ≡ some next) (reach : need_of size ≤ h.nbytes + next.nbytes) (stores_are : stores_for img q ≡ grow_order (need_of size) h next) where
    more : h.nbytes ≤ need_of size
    more = omega (arith, need_body size)

    left : (r : List Head) × (a.above ≡ next ∷ r) × Enlarged (length img) (mem img) a.below h next r (need_of size)
    left = enlarging (length img) (mem img) g.grants.sound g.grants.calm size h next a g.grants.waits short behind reach

    next_lies : Lies (length img) next
    next_lies = found-lies (length img) (mem img) g.grants.sound _ next (if_free_lem (next_of (clumps_of img) h) next behind).0

    at_next : next.at ≡ end_of h
    at_next = eqb-true next.at (end_of h) (seek_split _ (clumps_of img) next (if_free_lem (next_of (clumps_of img) h) next behind).0).passes

    number : Numbers q
    number = (omega (arith, at_offset, lies.least, lies.room, lies.small), omega (arith, need_body size, reach, at_next, next_lies.room, next_lies.small))

    memory_is : mem (finished img q) ≡ after (mem img) (grow_order (need_of size) h next)
    memory_is = finished-mem img q b number ∙ ap (after (mem img)) stores_are

    clumps_are : clumps_of (finished img q) ≡ a.below ++ (left.2.clump ∷ left.2.above)
    clumps_are = ap₂ walk (length-carry img (stores_for img q)) memory_is ∙ held_walk (length img) (after (mem img) (grow_order (need_of size) h next)) (a.below ++ (left.2.clump ∷ left.2.above)) left.2.held

    list_kept : SameSlots (mem img) (mem (finished img q)) (slots h.at)
    list_kept =
        let spared : (o : ℕ) → h.at < o → o < h.at + header_bytes → mem (finished img q) o ≡ mem img o = (λ o l u. rw memory_is (after_spared (mem img) (grow_order (need_of size) h next) o (order_spares (need_of size) h next more o l (omega (arith, more, lies.least))))) in
        each_slot (SameSlot (mem img) (mem (finished img q))) h.at (λ k l u. (spared _ (omega arith) (omega arith), λ w. spared _ (omega arith) (omega arith)))

    enlarged : Grew img (finished img q) offset size
    enlarged =
        let x = left.2 in
        let j = x.clump in
        record {
          old = h;
          new = j;
          found = g.grants.found;
          stands = ap (λ (hs : List Head). finder hs offset) clumps_are ∙ ap (finder (a.below ++ (j ∷ x.above))) (sym at_offset) ∙ (found_there (length img) a.below h a.above j x.above a.held.tiles x.place);
          state = x.state;
          list = rw x.place (listing-same used refl (mem img) (mem (finished img q)) (slots h.at) list_kept);
          enough = omega (arith, x.room, need_body size);
          longer = omega (arith, x.room, more);
          bytes = λ i w.
              let t = inside (body_of j) (end_of j) i w in
              carry_miss img (stores_for img q) i (rw stores_are (order_miss (need_of size) h next more i (omega (arith, t.0, x.place)) (omega (arith, t.1, x.place, x.size))));
          apart =
              others j x.place
              (subst (Each (Others j)) (sym left.1)
              ((λ i d. differ (if_free_lem (next_of (clumps_of img) h) next behind).1 (not-true _ i)), beyond));
        }
      where
        -- those above the FREE clump
        beyond : Each (Others left.2.clump) left.0
        beyond =
            let t = subst (λ (l : List Head). Tiles clumps_at (a.below ++ (h ∷ l)) (length img)) left.1 a.held.tiles in
            each_map (λ k. end_of next ≤ k.at) (Others left.2.clump) left.0 (λ k l z y. inl (omega (arith, l, at_next, left.2.place, left.2.less)))
            (begin_above (length img) (a.below ++ (h ∷ [])) next left.0 (subst (λ (l : List Head). Tiles clumps_at l (length img)) (sym (append_assoc a.below (h ∷ []) (next ∷ left.0))) t))

pub grown : Grown
unfolding carry grow_order
grown img offset size fuse b d = (place_is img offset size fuse b g, go (ap stores_of g.verdict_is) g.grants.stores)
  where
    g : Granted (Grows (length img) (mem img) offset size) fuse (verdict_on img (Grow offset size))
    g = done_granted img (Grow offset size) fuse d

    go : {st : List Store} → stores_for img (Grow offset size) ≡ st → Enlarges (length img) (mem img) size g.grants.clump st → Grew img (finished img (Grow offset size)) offset size
    go e (enough l) = stayed img offset size fuse b g l (ap (carry img) e)
    go e (takes next s f r) = enlarged img offset size fuse b g next s f r e
