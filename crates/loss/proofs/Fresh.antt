-- A body that was reserved, in either form, is as large as was asked, and its clump shares no byte with one that was live, since it lies in
-- a FREE clump of the tiling. By what reserve's stores come to. Assumes nothing.
use Rattle.std.specs.Prelude.{ℕ, ◌<◌, ◌≤◌, ◌≡◌, Bool, true, false, List, [], ◌∷◌, ◌++◌, length}
use Rattle.std.proofs.Common.{sym, ap₂, subst, ◌∙◌, inl, inr, arith, eqb-true}
use Rattle.std.proofs.Math.Path.{ap}
use Rattle.std.proofs.Math.Option.{some}
use Rattle.std.proofs.lemmas.Bool.{not-true}
use Rattle.rules.specs.declared.Answer.{Answer}
use Rattle.rules.specs.declared.Request.{Request}
use Rattle.rules.specs.Lists.{Each}
use Rattle.rules.specs.Words.{Image, Bytes, mem, after, word_values}
use Rattle.rules.specs.Pages.{clumps_at}
use Rattle.rules.specs.Clumps.{Head, body_of, end_of, is_free, is_live, FREE, Tiles, walk}
use Rattle.rules.specs.Answers.{stores_of}
use Rattle.rules.specs.Stores.{need_of, fits}
use Rattle.rules.specs.Requests.{Numbers, reserving, finder, verdict_on, stores_for, finished, answer_on}
use Rattle.rules.specs.Reading.{clumps_of}
use Rattle.rules.specs.Demands.{Apart, Fresh}
use Rattle.word.specs.Memory.{length-carry}
use Rattle.laws.specs.Searches.{differ, each_map, seek_split, each_append}
use Rattle.laws.specs.Tilings.{tiles_in, tiles_found}
use Rattle.laws.specs.Needs.{need_body}
use Rattle.laws.specs.Granted.{Reserves, Granted, done_reserves}
use Rattle.laws.specs.Served.{fit}
use Rattle.laws.specs.Lying.{Lies, found-lies}
use Rattle.loss.specs.Orders.{reserve_order}
use Rattle.loss.specs.Held.{held_walk}
use Rattle.loss.specs.Parts.{Parted, parted_one}
use Rattle.loss.proofs.Images.{finished-mem}
use Rattle.loss.proofs.Requested.{Amid, amid, placing}
use Rattle.loss.specs.Fates.{fates, Owned}
use Rattle.loss.proofs.Reserving.{Reserved}

-- above a clump none begins before it ends
pub begin_above : (n : ℕ) (p : List Head) (h : Head) (q : List Head) → Tiles clumps_at (p ++ (h ∷ q)) n → Each (λ k. end_of h ≤ k.at) q
begin_above n p h q t = each_map (λ k. (end_of h ≤ k.at) × (k.at < n) × (end_of k ≤ n)) (λ k. end_of h ≤ k.at) q (λ k l. l.0) (tiles_in (end_of h) n q (parted_one n p h q t).upper)

-- the clump j that a request makes at the place of the clump h
module _ (n : ℕ) (p : List Head) (h : Head) (q : List Head) (j : Head) (r : List Head) (t : Tiles clumps_at (p ++ (h ∷ q)) n) (place : j.at ≡ h.at) where
  parts : Parted n p h.at (h ∷ []) (end_of h) q
  parts = parted_one n p h q t

  -- is found at its body
  pub found_there : finder (p ++ (j ∷ r)) (body_of h) ≡ some j
  found_there = rw (← place) (tiles_found clumps_at p j r (subst (Tiles clumps_at p) (sym place) parts.lower))

  -- and shares no byte with those below
  apart_below : Each (Apart j) p
  apart_below = each_map (λ k. (clumps_at ≤ k.at) × (k.at < h.at) × (end_of k ≤ h.at)) (Apart j) p (λ k l. inr (omega (arith, l.2))) (tiles_in clumps_at h.at p parts.lower)

  -- so what holds of each clump that is apart from it holds of all, if it does of h and of those above
  pub around : (Q : Head → Type 0) → ((k : Head) → Apart j k → Q k) → Q h → Each Q q → Each Q (p ++ (h ∷ q))
  around Q f own up = each_append Q p (h ∷ q) (each_map (Apart j) Q p f apart_below) (own, up)

-- the number of either form
number_of : (clears : Bool) (size : ℕ) → size < word_values → Numbers (reserving clears size)
number_of true size l = l
number_of false size l = l

-- a reserve that is done, in either form
module _ (img : Image) (clears : Bool) (size fuse : ℕ) (b : Bytes img) (g : Granted (Reserves clears (length img) (mem img) size) fuse (verdict_on img (reserving clears size))) where
  abbrev q : Request
  q = reserving clears size

  -- the clump that it found
  abbrev pub h : Head
  h = g.grants.clump

  large : (is_free h ≡ true) × (need_of size ≤ h.nbytes)
  large = fit (need_of size) h (seek_split (fits (need_of size)) (clumps_of img) h g.grants.found).passes

  pub a : Amid (length img) (mem img) h
  a = amid (length img) (mem img) (fits (need_of size)) h g.grants.sound g.grants.calm g.grants.found

  pub lies : Lies (length img) h
  lies = found-lies (length img) (mem img) g.grants.sound (fits (need_of size)) h g.grants.found

  -- the size is a word
  pub number : Numbers q
  number = number_of clears size (omega (arith, lies.room, lies.small, large.1, need_body size))

  -- what it stores, and what it leaves
  pub stores_are : stores_for img q ≡ reserve_order clears (need_of size) h
  unfolding reserve_order
  stores_are = ap stores_of g.verdict_is ∙ g.grants.stores

  pub left : Reserved clears (length img) (Owned (fates (mem img) (a.below ++ (h ∷ a.above)))) (fates (mem img) (a.below ++ (h ∷ a.above))) (mem img) (mem img) a.below h a.above (need_of size)
  left = placing (length img) (mem img) g.grants.sound g.grants.calm clears size g.grants.asked h g.grants.found a

  pub memory_is : mem (finished img q) ≡ after (mem img) (reserve_order clears (need_of size) h)
  memory_is = finished-mem img q b number ∙ ap (after (mem img)) stores_are

  clumps_are : clumps_of (finished img q) ≡ a.below ++ (left.clump ∷ left.above)
  clumps_are =
      ap₂ walk (length-carry img (stores_for img q)) memory_is
      ∙ held_walk (length img) (after (mem img) (reserve_order clears (need_of size) h)) (a.below ++ (left.clump ∷ left.above)) left.comes.ends.held

  pub place_is : (answer_on img q fuse).place ≡ body_of h
  place_is = ap (λ (r : Answer). r.place) g.answer_is_lem ∙ g.grants.place

  pub made : finder (clumps_of (finished img q)) (answer_on img q fuse).place ≡ some left.clump
  made = rw (clumps_are, place_is) (found_there (length img) a.below h a.above left.clump left.above a.held.tiles left.place)

  pub was_free : h.state ≡ FREE
  was_free = eqb-true h.state FREE large.0

pub fresh : Fresh
fresh img clears size fuse b d =
    let g = done_reserves img clears size fuse d in
    let x = left img clears size fuse b g in
    let y = a img clears size fuse b g in
    let f = (large img clears size fuse b g).0 in
    let k = g.grants.clump in
    let Q : Head → Type 0 = (λ j. is_live j ≡ true → Apart x.clump j) in (
      x.clump,
      made img clears size fuse b g,
      x.state,
      omega (arith, x.room, need_body size),
      subst (Each Q) (sym y.whole)
          (around (length img) y.below k y.above x.clump x.above y.held.tiles x.place Q (λ j z e. z) (λ e. differ f (not-true _ e))
          (each_map (λ j. end_of k ≤ j.at) Q y.above (λ j l e. inl (omega (arith, l, x.place, x.less))) (begin_above (length img) y.below k y.above y.held.tiles))),
    )
