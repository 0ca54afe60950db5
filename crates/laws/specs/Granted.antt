-- The shape of every verdict: it refuses with one of the answers 1 to 10, or it grants what the request's tests led to. So a request
-- that is done was granted, and its answer has the grant's place and counts all of its stores. By cases on the tests. Assumes nothing.
use Rattle.std.specs.Prelude.{ℕ, ◌+◌, ◌-◌, ◌<◌, ◌≤◌, ◌≡◌, refl, Bool, true, false, cond, not, List, [], ◌∷◌, eqb, ltb, leb, length, take}
use Rattle.std.proofs.Common.{ap, arith, take_all, ltb-false, leb-true, leb-false}
use Rattle.std.proofs.Math.Option.{Option, some, none}
use Rattle.std.proofs.lemmas.Bool.{eqb-false, not-false}
use Rattle.rules.specs.declared.Request.{Request}
use Rattle.rules.specs.declared.Request.TheVariants.{Create, Reserve, ReserveUncleared, Grow, Onactive, Onfree, Withdraw, Activate, Free, Check, Recover}
use Rattle.rules.specs.Lists.{seek}
use Rattle.rules.specs.Words.{Image, Mem, Store, mem}
use Rattle.rules.specs.Pages.{right_length}
use Rattle.rules.specs.Clumps.{Head, header_bytes, body_of, RESERVED, has_state, is_waiting, slots, used, unmarked, with_mark, freed, slots_by, walk}
use Rattle.rules.specs.Sound.{unsettled, is_valid, all_valid}
use Rattle.rules.specs.Answers.{done, not_pool, not_sound, size_zero, no_room, wrong_state, bad_target, cut_short, Verdict, refused, granted, stores_of, test, flush_of, answer_at, answer_of, if_sound, if_settled}
use Rattle.rules.specs.Stores.{create_stores, need_of, fits, reserve_stores, grow_stores, free_after, list_stores, withdraw_stores, activate_stores, free_stores, recover_stores}
use Rattle.rules.specs.Requests.{placed, reserve, reserving, enlarged, grown, grow, finder, found, listed, open_slot, enlist, withdrawn, withdraw, activate, free, verdict, verdict_on, answer_on}
use Rattle.laws.specs.Pools.{Sound}
use Rattle.laws.specs.Behind.{through-test, through_sound, through-settled, through-found}

-- a refusal has one of the answers 1 to 10, and a fault with answer 2 alone; of a grant's place and stores G holds
module _ (G : ℕ → List Store → Type 0) where
  abbrev pub Fair : Verdict → Type 0
  Fair (refused a p f) = (done < a) × (a < cut_short) × ((a ≡ not_sound → ⊥) → f ≡ 0)
  Fair (granted p st) = G p st

  -- what holds of no store, and of the stores of each grant, holds of those of a fair verdict
  pub fair_stores : (Q : List Store → Type 0) → Q [] → ((p : ℕ) (st : List Store) → G p st → Q st) → (v : Verdict) → Fair v → Q (stores_of v)
  fair_stores Q z k (refused a p f) e = z
  fair_stores Q z k (granted p st) e = k p st e

  fair_test : (b : Bool) (a : ℕ) (v : Verdict) → done < a → a < cut_short → (b ≡ false → Fair v) → Fair (test b a v)
  fair_test b a v l u k = through-test Fair b a v (l, u, λ e. refl) k

  fair_sound : (n : ℕ) (m : Mem) (v : Verdict) → (Sound n m → Fair v) → Fair (if_sound n m v)
  fair_sound n m v k = through_sound Fair n m v (omega arith, omega arith, λ e. refl) (λ f. (omega arith, omega arith, λ e. absurd (e refl))) k

  fair_settled : (n : ℕ) (m : Mem) (v : Verdict) → (Sound n m → unsettled (walk n m) ≡ false → Fair v) → Fair (if_settled n m v)
  fair_settled n m v k =
      through-settled Fair n m v (omega arith, omega arith, λ e. refl) (λ f. (omega arith, omega arith, λ e. absurd (e refl))) (omega arith, omega arith, λ e. refl) k

  fair_found : (o : Option Head) (go : Head → Verdict) → ((h : Head) → o ≡ some h → Fair (go h)) → Fair (found o go)
  fair_found o go k = through-found Fair o go (omega arith, omega arith, λ e. refl) k

  -- a request on the clump that has its body at o
  fair_asked : (n : ℕ) (m : Mem) (o : ℕ) (go : Head → Verdict) → ((h : Head) → finder (walk n m) o ≡ some h → Fair (go h)) → Fair (if_settled n m (found (finder (walk n m) o) go))
  fair_asked n m o go k = fair_settled n m _ (λ s u. fair_found (finder (walk n m) o) go k)

-- what reserve grants, in either form, with the place p and the stores st: those of the first clump that fits
pub record Reserves (clears : Bool) (n : ℕ) (m : Mem) (size p : ℕ) (st : List Store) : Type 0 where
  pub sound : Sound n m
  pub calm : unsettled (walk n m) ≡ false
  pub asked : size ≡ 0 → ⊥
  pub clump : Head
  pub found : seek (fits (need_of size)) (walk n m) ≡ some clump
  pub place : p ≡ body_of clump
  pub stores : st ≡ reserve_stores clears (need_of size) clump

-- what grow stores for a clump: nothing where its body is enough, else what takes the FREE clump behind it
pub data Enlarges (n : ℕ) (m : Mem) (size : ℕ) (h : Head) : List Store → Type 0 where
  enough : size ≤ h.nbytes - header_bytes → Enlarges n m size h []
  takes : (next : Head) → h.nbytes - header_bytes < size → free_after (walk n m) h ≡ some next → need_of size ≤ h.nbytes + next.nbytes → Enlarges n m size h (grow_stores (need_of size) h.at (h.nbytes + next.nbytes))

-- what grow grants, with the place p and the stores st
pub record Grows (n : ℕ) (m : Mem) (offset size p : ℕ) (st : List Store) : Type 0 where
  pub sound : Sound n m
  pub calm : unsettled (walk n m) ≡ false
  pub asked : size ≡ 0 → ⊥
  pub clump : Head
  pub found : finder (walk n m) offset ≡ some clump
  pub waits : is_waiting clump ≡ true
  pub place : p ≡ offset
  pub stores : Enlarges n m size clump st

-- what onactive and onfree grant, and withdraw, whichever entry it is
abbrev pub Enlists : ℕ → ℕ → ℕ → List Store → Type 0
Enlists t v p st = (s : ℕ) × (st ≡ list_stores s t v)

abbrev pub Withdraws : ℕ → List Store → Type 0
Withdraws p st = (s : ℕ) × (sl : List ℕ) × (st ≡ withdraw_stores s sl)

-- what each request grants
abbrev pub Grants : ℕ → Mem → Request → ℕ → List Store → Type 0
Grants n m Create p st = st ≡ create_stores n
Grants n m (Reserve size) p st = Reserves true n m size p st
Grants n m (ReserveUncleared size) p st = Reserves false n m size p st
Grants n m (Grow o size) p st = Grows n m o size p st
Grants n m (Onactive o t v) p st = Enlists t v p st
Grants n m (Onfree o t v) p st = Enlists (with_mark t) v p st
Grants n m (Withdraw o) p st = Withdraws p st
Grants n m (Activate o) p st = (h : Head) × (finder (walk n m) o ≡ some h) × (has_state RESERVED h ≡ true) × (st ≡ activate_stores m h)
Grants n m (Free o) p st = (h : Head) × (finder (walk n m) o ≡ some h) × (st ≡ free_stores m (walk n m) h)
Grants n m Check p st = st ≡ []
Grants n m Recover p st = st ≡ recover_stores m (walk n m)

pub fair_reserve : (clears : Bool) (n : ℕ) (m : Mem) (size : ℕ) → Fair (Reserves clears n m size) (if_settled n m (reserve clears (walk n m) size))
unfolding reserve
fair_reserve clears n m size =
    fair_settled (Reserves clears n m size) n m _
    (λ s u. fair_test (Reserves clears n m size) (eqb size 0) size_zero _ (omega arith) (omega arith)
    (λ z. go s u (eqb-false size 0 z) (seek (fits (need_of size)) (walk n m)) refl))
  where
    go : Sound n m → unsettled (walk n m) ≡ false → (size ≡ 0 → ⊥) → (o : Option Head) → seek (fits (need_of size)) (walk n m) ≡ o → Fair (Reserves clears n m size) (placed clears (need_of size) o)
    go s u z none e = (omega arith, omega arith, λ i. refl)
    go s u z (some h) e = record { sound = s; calm = u; asked = z; clump = h; found = e; place = refl; stores = refl }

pub fair_grow : (n : ℕ) (m : Mem) (o size : ℕ) → Fair (Grows n m o size) (if_settled n m (grow (walk n m) o size))
unfolding grow grown
fair_grow n m o size =
    fair_settled G n m _
    (λ s u. fair_test G (eqb size 0) size_zero _ (omega arith) (omega arith)
    (λ z. fair_found G (finder (walk n m) o) _
    (λ h e. fair_test G (not (is_waiting h)) wrong_state _ (omega arith) (omega arith)
    (λ w. go s u (eqb-false size 0 z) h e (not-false _ w) (leb size (h.nbytes - header_bytes)) refl))))
  where
    G : ℕ → List Store → Type 0
    G = Grows n m o size

    by : Sound n m → unsettled (walk n m) ≡ false → (size ≡ 0 → ⊥) → (h : Head) → finder (walk n m) o ≡ some h → is_waiting h ≡ true → (st : List Store) → Enlarges n m size h st → Grows n m o size o st
    by s u z h e w st x = record { sound = s; calm = u; asked = z; clump = h; found = e; waits = w; place = refl; stores = x }

    go : Sound n m → unsettled (walk n m) ≡ false → (size ≡ 0 → ⊥) → (h : Head) → finder (walk n m) o ≡ some h → is_waiting h ≡ true → (b : Bool) → leb size (h.nbytes - header_bytes) ≡ b → Fair (Grows n m o size) (cond b (granted o []) (enlarged o (need_of size) h (free_after (walk n m) h)))
    go s u z h e w true q = by s u z h e w [] (enough (leb-true size _ q))
    go s u z h e w false q = into (free_after (walk n m) h) refl
      where
        into : (c : Option Head) → free_after (walk n m) h ≡ c → Fair (Grows n m o size) (enlarged o (need_of size) h c)
        into none f = (omega arith, omega arith, λ i. refl)
        into (some next) f =
            fair_test (Grows n m o size) (ltb (h.nbytes + next.nbytes) (need_of size)) no_room _ (omega arith) (omega arith)
            (λ l. by s u z h e w _ (takes next (leb-false size _ q) f (ltb-false _ (need_of size) l)))

fair_listed : (b : Bool) (o : Option ℕ) (p t v : ℕ) → Fair (Enlists t v) (listed b o p t v)
fair_listed b none p t v = (omega arith, omega arith, λ e. refl)
fair_listed b (some s) p t v = fair_test (Enlists t v) (not b) bad_target _ (omega arith) (omega arith) (λ z. (s, refl))

fair_enlist : (m : Mem) (hs : List Head) (a : Head → Bool) (p t u v : ℕ) (h : Head) → Fair (Enlists u v) (enlist m hs a p t u v h)
unfolding enlist
fair_enlist m hs a p t u v h =
    fair_test (Enlists u v) (not (a h)) wrong_state _ (omega arith) (omega arith)
    (λ z. fair_listed (is_valid hs t) (open_slot m (slots h.at)) p u v)

fair_withdrawn : (sl : List ℕ) (p : ℕ) → Fair Withdraws (withdrawn sl p)
fair_withdrawn [] p = (omega arith, omega arith, λ e. refl)
fair_withdrawn (s ∷ sl) p = (s, sl, refl)

pub fair : (n : ℕ) (m : Mem) (q : Request) → Fair (Grants n m q) (verdict n m q)
unfolding verdict withdraw activate free
fair n m Create = fair_test (Grants n m Create) (not (right_length n)) not_pool _ (omega arith) (omega arith) (λ z. refl)
fair n m (Reserve size) = fair_reserve true n m size
fair n m (ReserveUncleared size) = fair_reserve false n m size
fair n m (Grow o size) = fair_grow n m o size
fair n m (Onactive o t v) = fair_asked (Enlists t v) n m o _ (λ h e. fair_enlist m (walk n m) (has_state RESERVED) o t t v h)
fair n m (Onfree o t v) = fair_asked (Enlists (with_mark t) v) n m o _ (λ h e. fair_enlist m (walk n m) is_waiting o t (with_mark t) v h)
fair n m (Withdraw o) =
    fair_asked Withdraws n m o _
    (λ h e. fair_test Withdraws (not (is_waiting h)) wrong_state _ (omega arith) (omega arith) (λ z. fair_withdrawn (slots_by used m h.at) o))
fair n m (Activate o) =
    fair_asked (Grants n m (Activate o)) n m o _
    (λ h e. fair_test (Grants n m (Activate o)) (not (has_state RESERVED h)) wrong_state _ (omega arith) (omega arith)
    (λ z. fair_test (Grants n m (Activate o)) (not (all_valid unmarked m (walk n m) h)) bad_target _ (omega arith) (omega arith) (λ v. (h, e, not-false _ z, refl))))
fair n m (Free o) =
    fair_asked (Grants n m (Free o)) n m o _
    (λ h e. fair_test (Grants n m (Free o)) (not (is_waiting h)) wrong_state _ (omega arith) (omega arith)
    (λ z. fair_test (Grants n m (Free o)) (not (all_valid (freed h) m (walk n m) h)) bad_target _ (omega arith) (omega arith) (λ v. (h, e, refl))))
fair n m Check = fair_sound (Grants n m Check) n m _ (λ s. refl)
fair n m Recover = fair_sound (Grants n m Recover) n m _ (λ s. refl)

-- a fair verdict that is done is a grant, and the fuse has lasted
pub record Granted (G : ℕ → List Store → Type 0) (fuse : ℕ) (v : Verdict) : Type 0 where
  pub place : ℕ
  pub stores : List Store
  pub verdict_is : v ≡ granted place stores
  pub answer_is_lem : answer_of fuse v ≡ answer_at false place (length stores) (flush_of stores)
  pub grants : G place stores

fair_done : (G : ℕ → List Store → Type 0) (fuse : ℕ) (v : Verdict) → Fair G v → (answer_of fuse v).answer ≡ done → Granted G fuse v
unfolding answer_of
fair_done G fuse (refused a p f) k e = absurd (omega (arith, k.0))
fair_done G fuse (granted p st) k e = record { place = p; stores = st; verdict_is = refl; answer_is_lem = go (ltb fuse (length st)) refl e; grants = k }
  where
    go : (b : Bool) → ltb fuse (length st) ≡ b → (answer_at b p (length (take fuse st)) (flush_of (take fuse st))).answer ≡ done → answer_at b p (length (take fuse st)) (flush_of (take fuse st)) ≡ answer_at false p (length st) (flush_of st)
    go true q e = absurd (omega arith)
    go false q e = ap (λ (l : List Store). answer_at false p (length l) (flush_of l)) (take_all fuse st (ltb-false fuse (length st) q))

pub done_granted : (img : Image) (q : Request) (fuse : ℕ) → (answer_on img q fuse).answer ≡ done → Granted (Grants (length img) (mem img) q) fuse (verdict_on img q)
done_granted img q fuse e = fair_done (Grants (length img) (mem img) q) fuse (verdict_on img q) (fair (length img) (mem img) q) e

-- and of reserve, in either form
pub done_reserves : (img : Image) (clears : Bool) (size fuse : ℕ) → (answer_on img (reserving clears size) fuse).answer ≡ done → Granted (Reserves clears (length img) (mem img) size) fuse (verdict_on img (reserving clears size))
done_reserves img true size fuse e = done_granted img (Reserve size) fuse e
done_reserves img false size fuse e = done_granted img (ReserveUncleared size) fuse e
