-- Laws of the searches over the clumps: a word in a part without a sum, what the offset or the answer of a search tells in clumps that
-- tile, and the targets of a list that was read. Assumes nothing.
use Rattle.std.specs.Prelude as code
use Rattle.std.specs.Prelude.{Some, None, ℕ, zero, suc, ◌+◌, ◌-◌, ◌<◌, ◌≤◌, ◌≡◌, refl, List, [], ◌∷◌, Bool, true, false, ◌||◌, get_or, leb, eqb}
use Rattle.std.proofs.Common.{sym, ap, subst, ◌∙◌, arith, le-leb, ne_eqb}
use Rattle.std.proofs.Math.Option.{Option, some, none, map}
use Rattle.std.proofs.lemmas.Bool.{lt-leb}
use Rattle.rules.specs.Lists.{seek}
use Rattle.rules.specs.Words.{Mem}
use Rattle.rules.specs.Pages.{clumps_at}
use Rattle.rules.specs.Clumps.{Head, head, state_at, body_of, slots, Choice, target_of, due, Tiles, walk, offset_of}
use Rattle.rules.specs.Sound.{lies, is_valid, all_valid}
use Rattle.rules.specs.Requests.{finder, below_of, finding}
use Rattle.word.specs.Tests.{leb_same}
use Rattle.laws.specs.Searches.{and_both}
use Rattle.laws.specs.Walking.{Inside, seek_placed}
use Rattle.laws.specs.Lying.{valid_in}
use Rattle.laws.specs.Choices.{Chooses, chooses_due}
use Rattle.walk.specs.Forms.{found_at, found_of, list_valid}
use Rattle.page.specs.Forms.{word_of, list_at, only_in, due_in, list_passes, InImage}
use Rattle.page.specs.Slots.{due_is, passes_by}
use Rattle.walk.specs.declared.Found.{Found}

-- the word at t in a up to b: laws that no proof cites now; they stand as they were stated
pub lies_below : (a b t : ℕ) → t < a → false ≡ lies a b t
lies_below a b t l = rw (lt-leb a t l)

pub lies_above : (a b t : ℕ) → a ≤ t → b ≤ t → false ≡ lies a b t
lies_above a b t l u = rw (le-leb a t l, lt-leb (t + 8) b (omega arith))

pub lies-between : (a b t : ℕ) → a ≤ t → t < b → leb 8 (b - t) ≡ lies a b t
lies-between a b t l u = rw (le-leb a t l) (leb_same 8 (b - t) (t + 8) b (λ k. omega arith) (λ k. omega arith))

-- what the offset of a search tells, in clumps that tile; the mark stands for none
module _ (n : ℕ) (m : Mem) (p : Head → Bool) (tiles : Tiles clumps_at (walk n m) n) (mark r : ℕ) (e : r ≡ offset_of mark (seek p (walk n m))) where
  -- where no clump begins
  pub offset_none : (clumps_at ≤ r → n ≤ r) → seek p (walk n m) ≡ none
  offset_none l = go (seek p (walk n m)) refl
    where
      go : (o : Option Head) → seek p (walk n m) ≡ o → seek p (walk n m) ≡ none
      go none q = q
      go (some h) q =
          let i = seek_placed n m p h tiles q in
          let f : r ≡ h.at = e ∙ ap (offset_of mark) q in
          absurd (omega (arith, l (omega (arith, i.low)), i.inside.least, i.inside.room))

  module _ (f : r ≡ mark → ⊥) where
    pub offset_some : seek p (walk n m) ≡ some (head m r)
    offset_some = go (seek p (walk n m)) refl
      where
        go : (o : Option Head) → seek p (walk n m) ≡ o → seek p (walk n m) ≡ some (head m r)
        go none q = absurd (f (e ∙ ap (offset_of mark) q))
        go (some h) q =
            let g : r ≡ h.at = e ∙ ap (offset_of mark) q in
            q ∙ ap {B = Option Head} some ((seek_placed n m p h tiles q).head_is ∙ ap (head m) (sym g))

    pub offset_inside : Inside n m r
    offset_inside = (seek_placed n m p (head m r) tiles offset_some).inside

-- the clump at h is the one that has its body there, and the one at b is below it
pub record Finds (n : ℕ) (m : Mem) (body h b : ℕ) : Type 0 where
  pub found : finder (walk n m) body ≡ some (head m h)
  pub under : b ≡ below_of (walk n m) (head m h)
  pub inside : Inside n m h

-- what the finder answers, at the end of its walk and at the clump that it finds
pub found_end : (hs : List Head) (body : ℕ) → none ≡ finder hs body → None ≡ found_of (finding hs body)
found_end hs body e = ap (λ (o : Option Head). found_of (map (λ h. (h.at, below_of hs h)) o)) e

pub found_hit :
    (hs : List Head) (body : ℕ) (h : Head) (b : ℕ)
    → some h ≡ finder hs body
    → b ≡ below_of hs h
    → Some (found_at h.at b) ≡ found_of (finding hs body)
found_hit hs body h b e f =
    ap (λ (k : ℕ). Some (found_at h.at k)) f ∙ ap (λ (o : Option Head). found_of (map (λ k. (k.at, below_of hs k)) o)) e

-- what it tells, in clumps that tile
module _ (n : ℕ) (m : Mem) (body : ℕ) (tiles : Tiles clumps_at (walk n m) n) (r : code.Option Found) (e : r ≡ found_of (finding (walk n m) body)) where
  pub found_none : r ≡ None → finder (walk n m) body ≡ none
  found_none f = go (finder (walk n m) body) refl
    where
      go : (o : Option Head) → finder (walk n m) body ≡ o → finder (walk n m) body ≡ none
      go none q = q
      go (some h) q = absurd (let z : ◌≡◌ {A = ℕ} 0 1 = cc (found_hit (walk n m) body h _ (sym q) refl) in omega arith)

  pub found_some : (f : Found) → r ≡ Some f → Finds n m body f.at f.below
  found_some f s = go (finder (walk n m) body) refl
    where
      go : (o : Option Head) → finder (walk n m) body ≡ o → Finds n m body f.at f.below
      go none q = absurd (let z : ◌≡◌ {A = ℕ} 0 1 = cc (found_end (walk n m) body (sym q)) in omega arith)
      go (some k) q =
          let p = found_hit (walk n m) body k _ (sym q) refl in
          let i = seek_placed n m (λ c. eqb (body_of c) body) k tiles q in
          let t : found_at k.at (below_of (walk n m) k) ≡ f = cc in
          let a : k.at ≡ f.at = ap (λ (x : Found). x.at) t in
          let d : below_of (walk n m) k ≡ f.below = ap (λ (x : Found). x.below) t in
          let s : k ≡ head m f.at = i.head_is ∙ ap (head m) a in
          record { found = q ∙ ap {B = Option Head} some s; under = sym d ∙ ap (below_of (walk n m)) s; inside = subst (Inside n m) a i.inside }

-- the chosen entries of the list that was read from a clump
pub list_valid_lem :
    (c : Choice) → Chooses c → (m : Mem) (hs : List Head) (a : ℕ) (l : List (List ℕ)) → l ≡ only_in c (list_at m a) → list_valid hs l ≡ all_valid c m hs (head m a)
unfolding all_valid
list_valid_lem c z m hs a l e = rw e (passes_by (is_valid hs) c z m (slots a))

-- those that are due in the unfinished clump at a, by its state and its list as they were read
pub due_valid :
    (m : Mem) (hs : List Head) (a s : ℕ) (l k : List (List ℕ)) → s ≡ m (state_at a) → l ≡ list_at m a → k ≡ due_in s l → list_valid hs k ≡ all_valid (due (head m a)) m hs (head m a)
due_valid m hs a s l k e f g =
    list_valid_lem (due (head m a)) (chooses_due (head m a)) m hs a k (g ∙ ap (λ (w : ℕ). due_in w l) e ∙ due_is m (head m a) l f)

-- the used targets of a valid list lie in the image
valid_at :
    (hs : List Head) (l : List (List ℕ)) (i : ℕ) → list_valid hs l ≡ true → (word_of (get_or l i []) ≡ 0 → ⊥) → is_valid hs (target_of (word_of (get_or l i []))) ≡ true
unfolding list_passes
valid_at hs [] i e h = absurd (h refl)
valid_at hs (x ∷ l) zero e h = rw (ne_eqb (word_of x) 0 h) at (and_both (eqb (word_of x) 0 || is_valid hs (target_of (word_of x))) (list_valid hs l) e).0
valid_at hs (x ∷ l) (suc i) e h = valid_at hs l i (and_both (eqb (word_of x) 0 || is_valid hs (target_of (word_of x))) _ e).1 h

pub list_in : (n : ℕ) (m : Mem) (l : List (List ℕ)) → Tiles clumps_at (walk n m) n → list_valid (walk n m) l ≡ true → InImage n l
list_in n m l t e i u h = valid_in n m (target_of (word_of (get_or l i []))) t (valid_at (walk n m) l i e h)
