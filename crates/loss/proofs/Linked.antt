-- The customer's sentence, of activate and of free: after any cut, and recovery, the words that the entries carried out name hold all of
-- their old values before the store that decides, and all of the listed ones behind it. Before it the words are as they were, after it
-- recovery makes every assignment, and no store of either but the assignments reaches a body or the static area. Assumes nothing.
use Rattle.std.specs.Prelude.{ℕ, ◌<◌, ◌≡◌, refl, Bool, true, false, not, ltb, length, take}
use Rattle.std.proofs.Common.{sym, ◌∙◌, arith, eqb-true, ltb-true, ltb-false}
use Rattle.std.proofs.Math.Path.{ap, subst}
use Rattle.std.proofs.Math.Option.{Option, some, none}
use mathlib.Core.List.{List, [], ◌∷◌, ◌++◌}
use Rattle.std.proofs.lemmas.Bool.{not-false}
use Rattle.rules.specs.declared.Request.{Request}
use Rattle.rules.specs.declared.Request.TheVariants.{Activate, Free, Recover}
use Rattle.rules.specs.Lists.{Each}
use Rattle.rules.specs.Words.{Image, Mem, Store, mem, upd, after, word_values}
use Rattle.rules.specs.Clumps.{Head, Choice, body_of, has_state, is_waiting, unmarked, freed, entries_by, RESERVED, walk}
use Rattle.rules.specs.Sound.{is_valid, all_valid}
use Rattle.rules.specs.Answers.{Verdict, answer_of, done, test, wrong_state, bad_target, stores_of, if_sound, if_settled}
use Rattle.rules.specs.Stores.{activate_stores, free_stores}
use Rattle.rules.specs.Requests.{Numbers, finder, activate, free, verdict, stores_for, cut, finished}
use Rattle.rules.specs.Reading.{clumps_of}
use Rattle.rules.specs.Traces.{Recovering, before_turn}
use Rattle.rules.specs.Demands.{Accepted, entries_of}
use Rattle.rules.specs.PowerLoss.{Distinct, AllOrNone, FreeAllOrNone}
use Rattle.word.specs.Memory.{upd_same, length-carry, bytes_carry}
use Rattle.laws.specs.Searches.{each_map, each_both, seek_split}
use Rattle.laws.specs.Pools.{Sound, done-test}
use Rattle.laws.specs.Lying.{found-lies}
use Rattle.loss.specs.Fates.{Kept, fates, Led}
use Rattle.loss.specs.Redo.{after_spared}
use Rattle.loss.specs.Targets.{valid_beyond, valid_entries}
use Rattle.loss.proofs.Courses.{Outside, Decides}
use Rattle.loss.proofs.Requested.{Amid, amid, activating, freeing}
use Rattle.loss.proofs.Images.{cut-mem, Leading, recovering_leading, finished-recovered}
use Rattle.loss.proofs.Histories.{Serves, serves}

-- stores to words that differ: each leaves its own
pub distinct_after : (m : Mem) (st : List Store) → Distinct st → Each (λ s. after m st s.to ≡ s.word) st
unfolding after
distinct_after m [] d = tt
distinct_after m (s ∷ st) d =
    (after_spared (upd m s.to s.word) st s.to d.0 ∙ upd_same m s.to s.word, distinct_after (upd m s.to s.word) st d.1)

-- what is promised of the entries es of a request that turns behind t stores, cut after k and recovered
abbrev Held : Image → Image → List Store → Bool → Type 0
Held img y es through =
    (through ≡ false → Each (λ e. mem (finished y Recover) e.to ≡ mem img e.to) es)
    × (through ≡ true → Distinct es → Each (λ e. mem (finished y Recover) e.to ≡ e.word) es)

-- a request whose stores decide
module _ (img : Image) (q : Request) (s : Serves img) (u : Numbers q) (hs : List Head) (es : List Store) (t : ℕ) (d : Decides (length img) (mem img) hs es (stores_for img q) t) (targets : Each (λ e. Outside hs e.to) es) where
  cut_leads : (k : List Kept) (w : Mem) (j : ℕ) → Led (length img) (Outside hs) k w (after (mem img) (take j (stores_for img q))) → Leading (length img) (Outside hs) k w (cut img q j)
  cut_leads k w j f =
      record {
        bytes = bytes_carry img (take j (stores_for img q)) s.bytes;
        long = length-carry img (take j (stores_for img q));
        led = subst (Led (length img) (Outside hs) k w) (sym (cut-mem img q j s.bytes u)) f;
      }

  -- the words outside the headers, once it is recovered
  recovered-words : (k : List Kept) (w : Mem) (j : ℕ) (y : Image) → Recovering (cut img q j) y → Led (length img) (Outside hs) k w (after (mem img) (take j (stores_for img q))) → (o : ℕ) → Outside hs o → mem (finished y Recover) o ≡ w o
  recovered-words k w j y r f o b =
      (finished-recovered (length img) (Outside hs) k w y (recovering_leading (length img) (Outside hs) k w (cut img q j) y (cut_leads k w j f) r)).rests.words o b

  decided : (j : ℕ) (y : Image) → Recovering (cut img q j) y → Held img y es (ltb t j)
  decided j y r = (
    (λ e. each_map (λ x. Outside hs x.to) (λ x. mem (finished y Recover) x.to ≡ mem img x.to) es
        (λ x b. recovered-words (fates (mem img) hs) (mem img) j y r (d.early j (ltb-false t j e)) x.to b) targets),
    λ e c. each_map (λ x. Outside hs x.to × (after (mem img) es x.to ≡ x.word)) (λ x. mem (finished y Recover) x.to ≡ x.word) es
        (λ x b. recovered-words d.kept d.words j y r (d.late j (ltb-true t j e)) x.to b.0 ∙ d.assigned x.to b.0 ∙ b.1)
        (each_both (λ x. Outside hs x.to) (λ x. after (mem img) es x.to ≡ x.word) es targets (distinct_after (mem img) es c)),
  )

-- the clump that has its body at an offset
module _ (img : Image) (offset : ℕ) (h : Head) (s : Serves img) (e : finder (clumps_of img) offset ≡ some h) where
  abbrev n : ℕ
  n = length img

  abbrev m : Mem
  m = mem img

  sound : Sound n m
  sound = record { pool = s.settled.pool; sound = s.settled.sound }

  -- an offset at which a body stands is a word
  number : offset < word_values
  number =
      let l = found-lies n m sound _ h e in
      let i = eqb-true (body_of h) offset (seek_split _ (walk n m) h e).passes in
      omega (arith, l.room, l.least, l.small)

  place : Amid n m h
  place = amid n m _ h sound s.settled.calm e

  abbrev hs : List Head
  hs = place.below ++ (h ∷ place.above)

  -- valid targets lie outside the headers
  targets : (c : Choice) → all_valid c m (walk n m) h ≡ true → Each (λ t. Outside hs t.to) (entries_by c m h.at)
  targets c v =
      each_map (λ t. is_valid hs t.to ≡ true) (λ t. Outside hs t.to) (entries_by c m h.at)
      (λ t b. valid_beyond n t.to hs place.held.tiles b) (valid_entries c m hs h (subst (λ (gs : List Head). all_valid c m gs h ≡ true) place.whole v))

  -- a request that is accepted has passed two tests
  passed : (q : Request) (a b : Bool) (v : Verdict) → verdict n m q ≡ test (not a) wrong_state (test (not b) bad_target v) → Accepted img q → (a ≡ true) × (b ≡ true)
  passed q a b v i d =
      let z : (answer_of (length (stores_for img q)) (test (not a) wrong_state (test (not b) bad_target v))).answer ≡ done = ap (λ (x : Verdict). (answer_of (length (stores_for img q)) x).answer) (sym i) ∙ d in
      let x = done-test (not a) wrong_state _ _ (omega arith) z in
      let y = done-test (not b) bad_target _ _ (omega arith) x.1 in
      (not-false _ x.0, not-false _ y.0)

  -- activate
  activation_is : verdict n m (Activate offset) ≡ activate m (walk n m) offset h
  unfolding verdict if_settled if_sound
  activation_is = rw (s.settled.pool, s.settled.sound, s.settled.calm, e)

  activation : (k : ℕ) (y : Image) → Accepted img (Activate offset) → Recovering (cut img (Activate offset) k) y → Held img y (entries_of (has_state RESERVED) (λ j. unmarked) m (some h)) (ltb 0 k)
  unfolding activate
  activation k y a r =
      let x = passed (Activate offset) (has_state RESERVED h) (all_valid unmarked m (walk n m) h) _ activation_is a in
      let i : stores_for img (Activate offset) ≡ activate_stores m h = ap stores_of activation_is ∙ rw (x.0, x.1) in
      let d = subst (λ (st : List Store). Decides n m hs (entries_by unmarked m h.at) st 0) (sym i) (activating n m sound s.settled.calm h place x.0 x.1) in
      rw x.0 (decided img (Activate offset) s number hs (entries_by unmarked m h.at) 0 d (targets unmarked x.1) k y r)

  -- free
  free_is : verdict n m (Free offset) ≡ free m (walk n m) offset h
  unfolding verdict if_settled if_sound
  free_is = rw (s.settled.pool, s.settled.sound, s.settled.calm, e)

  release : (k : ℕ) (y : Image) → Accepted img (Free offset) → Recovering (cut img (Free offset) k) y → Held img y (entries_of is_waiting freed m (some h)) (ltb (before_turn m (some h)) k)
  unfolding free
  release k y a r =
      let x = passed (Free offset) (is_waiting h) (all_valid (freed h) m (walk n m) h) _ free_is a in
      let t = before_turn m (some h) in
      let i : stores_for img (Free offset) ≡ free_stores m (walk n m) h = ap stores_of free_is ∙ rw (x.0, x.1) in
      let d = subst (λ (st : List Store). Decides n m hs (entries_by (freed h) m h.at) st t) (sym i) (freeing n m sound s.settled.calm h place x.0 x.1) in
      rw x.0 (decided img (Free offset) s number hs (entries_by (freed h) m h.at) t d (targets (freed h) x.1) k y r)

-- where no clump is found nothing is carried out
pub all_or_none : AllOrNone
all_or_none offset img y k r a c = go (finder (clumps_of img) offset) refl
  where
    go : (o : Option Head) → finder (clumps_of img) offset ≡ o → Held img y (entries_of (has_state RESERVED) (λ j. unmarked) (mem img) o) (ltb 0 k)
    go none e = ((λ z. tt), λ z d. tt)
    go (some h) e = activation img offset h (serves img r) e k y a c

pub free_all_or_none : FreeAllOrNone
free_all_or_none offset img y k r a c = go (finder (clumps_of img) offset) refl
  where
    go : (o : Option Head) → finder (clumps_of img) offset ≡ o → Held img y (entries_of is_waiting freed (mem img) o) (ltb (before_turn (mem img) o) k)
    go none e = ((λ z. tt), λ z d. tt)
    go (some h) e = release img offset h (serves img r) e k y a c
