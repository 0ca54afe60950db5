-- What holds of every request, read off the shape of its verdict: what a refusal and a fuse come to, which clump reserve takes, and where
-- it finds none. By cases on the verdict. Assumes nothing.
use Rattle.std.specs.Prelude.{ℕ, ◌<◌, ◌≤◌, ◌≡◌, refl, Bool, true, false, ◌&&◌, ◌↔◌, List, eqb, ltb, leb, length, take}
use Rattle.std.proofs.Common.{ap, subst, ◌∙◌, arith, ltb-true, ltb-false, leb-true, leb-false, eq-eqb, ne_eqb, eqb-true}
use Rattle.std.proofs.Math.Option.{Option, some, none}
use Rattle.std.proofs.Math.Seq.{take-nil}
use Rattle.std.proofs.lemmas.Bool.{lt-leb}
use Rattle.rules.specs.declared.Answer.{Answer}
use Rattle.rules.specs.Lists.{seek, Each}
use Rattle.rules.specs.Words.{Image, Mem, Store, mem, carry}
use Rattle.rules.specs.Clumps.{Head, is_free, FREE, walk}
use Rattle.rules.specs.Answers.{done, not_sound, no_room, cut_short, Verdict, refused, granted, stores_of, Flush, flush_of, answer_at, answer_of, if_sound, if_settled}
use Rattle.rules.specs.Stores.{need_of, fits, reserve_stores}
use Rattle.rules.specs.Requests.{placed, reserve, reserving, verdict, verdict_on}
use Rattle.rules.specs.Demands.{Refusals, Fuses, FirstFit, NoRoom, Settled}
use Rattle.rules.specs.Reading.{clumps_of}
use Rattle.laws.specs.Searches.{and_both, seek_split, seek_none, none_seek, some-none, each_map}
use Rattle.laws.specs.Granted.{Fair, fair, done_reserves}

-- the sentences, of a verdict
abbrev Refuses : Image → ℕ → Verdict → Type 0
Refuses img fuse v =
    let r = answer_of fuse v in
    (r.answer ≤ cut_short)
    × (done < r.answer → r.answer < cut_short → (r.stores ≡ 0) × (carry img (take fuse (stores_of v)) ≡ img))
    × ((r.answer ≡ not_sound → ⊥) → r.fault ≡ 0)

refuses : (G : ℕ → List Store → Type 0) (img : Image) (fuse : ℕ) (v : Verdict) → Fair G v → Refuses img fuse v
unfolding answer_of carry
refuses G img fuse (refused a p f) k = (omega arith, λ l u. (refl, rw (take-nil {A = Store} fuse)), k.2)
refuses G img fuse (granted p st) k = go (ltb fuse (length st))
  where
    go : (b : Bool) → let r = answer_at b p (length (take fuse st)) (flush_of (take fuse st)) in (r.answer ≤ cut_short) × (done < r.answer → r.answer < cut_short → (r.stores ≡ 0) × (carry img (take fuse st) ≡ img)) × ((r.answer ≡ not_sound → ⊥) → r.fault ≡ 0)
    go true = (omega arith, λ l u. absurd (omega arith), λ e. refl)
    go false = (omega arith, λ l u. absurd (omega arith), λ e. refl)

pub refusals : Refusals
refusals img q fuse = refuses _ img fuse (verdict_on img q) (fair _ _ q)

abbrev Fused : ℕ → Verdict → Type 0
Fused fuse v =
    let r = answer_of fuse v in
    ((r.answer ≡ cut_short) ↔ (fuse < length (stores_of v))) × (r.stores ≡ length (take fuse (stores_of v)))

fused : (G : ℕ → List Store → Type 0) (fuse : ℕ) (v : Verdict) → Fair G v → Fused fuse v
unfolding answer_of
fused G fuse (refused a p f) k =
    let l = k.1 in
    (((λ e. absurd (omega arith)), (λ e. absurd (omega arith))), rw (take-nil {A = Store} fuse))
fused G fuse (granted p st) k = go (ltb fuse (length st)) refl
  where
    go : (b : Bool) → ltb fuse (length st) ≡ b → let r = answer_at b p (length (take fuse st)) (flush_of (take fuse st)) in ((r.answer ≡ cut_short) ↔ (fuse < length st)) × (r.stores ≡ length (take fuse st))
    go true e = let l = ltb-true fuse (length st) e in (((λ z. l), (λ z. refl)), refl)
    go false e = let l = ltb-false fuse (length st) e in (((λ z. absurd (omega arith)), (λ z. absurd (omega arith))), refl)

pub fuses : Fuses
fuses img q fuse = fused _ fuse (verdict_on img q) (fair _ _ q)

-- the clump that the scan stops at, and one that it passes over, in the paper's words
pub fit : (need : ℕ) (h : Head) → fits need h ≡ true → (is_free h ≡ true) × (need ≤ h.nbytes)
fit need h e = let f = and_both (is_free h) _ e in (f.0, leb-true need h.nbytes f.1)

unfit : (need : ℕ) (h : Head) → fits need h ≡ false → h.state ≡ FREE → h.nbytes < need
unfit need h e f = leb-false need h.nbytes (subst (λ (b : Bool). (b && leb need h.nbytes) ≡ false) (eq-eqb h.state FREE f) e)

passed : (need : ℕ) (h : Head) → (h.state ≡ FREE → h.nbytes < need) → fits need h ≡ false
passed need h f = go (eqb h.state FREE) refl
  where
    go : (b : Bool) → eqb h.state FREE ≡ b → (b && leb need h.nbytes) ≡ false
    go true e = lt-leb need h.nbytes (f (eqb-true h.state FREE e))
    go false e = refl

pub first_fit : FirstFit
first_fit img clears size fuse d =
    let need = need_of size in
    let r = done_reserves img clears size fuse d in
    let g = r.grants in
    let x = seek_split (fits need) (clumps_of img) g.clump g.found in
    let f = fit need g.clump x.passes in (
      x.lower,
      g.clump,
      x.higher,
      x.whole,
      ap (λ (a : Answer). a.place) r.answer_is_lem ∙ g.place,
      eqb-true g.clump.state FREE f.0,
      f.1,
      each_map (λ k. fits need k ≡ false) (λ k. k.state ≡ FREE → k.nbytes < need) x.lower (unfit need) x.before,
    )

-- the verdict on reserve, in either form; and where requests are served
pub reserving_is : (n : ℕ) (m : Mem) (clears : Bool) (size : ℕ) → verdict n m (reserving clears size) ≡ if_settled n m (reserve clears (walk n m) size)
unfolding verdict
reserving_is n m true size = refl
reserving_is n m false size = refl

reserve_served : (img : Image) (clears : Bool) (size : ℕ) → Settled img → 0 < size → verdict_on img (reserving clears size) ≡ placed clears (need_of size) (seek (fits (need_of size)) (clumps_of img))
unfolding if_settled if_sound reserve
reserve_served img clears size s l =
    rw (reserving_is (length img) (mem img) clears size, s.pool, s.sound, s.calm, ne_eqb size 0 (λ e. absurd (omega arith)))

-- a grant is not "no room"
pub granted_room : (b : Bool) (p k : ℕ) (r : Flush) → (answer_at b p k r).answer ≡ no_room → ⊥
granted_room true p k r z = omega arith
granted_room false p k r z = omega arith

pub no_room_lem : NoRoom
unfolding answer_of
no_room_lem img clears size fuse s l = rw (reserve_served img clears size s l) (go (seek (fits (need_of size)) (clumps_of img)) refl)
  where
    go : (o : Option Head) → seek (fits (need_of size)) (clumps_of img) ≡ o → ((answer_of fuse (placed clears (need_of size) o)).answer ≡ no_room) ↔ Each (λ h. h.state ≡ FREE → h.nbytes < need_of size) (clumps_of img)
    go none e = ((λ z. each_map _ _ (clumps_of img) (unfit (need_of size)) (seek_none _ (clumps_of img) e)), (λ z. refl))
    go (some h) e = (
      (λ z. absurd (granted_room (ltb fuse (length (reserve_stores clears (need_of size) h))) _ _ _ z)),
      (λ z. some-none e (none_seek _ (clumps_of img) (each_map _ _ (clumps_of img) (passed (need_of size)) z))),
    )
