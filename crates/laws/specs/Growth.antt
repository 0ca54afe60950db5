-- Where grow finds no room: answer 5 is given exactly if the earlier tests pass, the body is not enough, and there is no clump to take. One way
-- through the tests of the verdict, each of which but the last has another answer; the other way the tests are computed. Assumes nothing.
use Rattle.std.specs.Prelude.{ℕ, ◌+◌, ◌-◌, ◌≡◌, Bool, cond, not, ◌||◌, ◌⊎◌, [], eqb, length}
use Rattle.std.proofs.Math.Path.{refl}
use Rattle.std.proofs.Common.{ap, ◌∙◌, arith}
use Rattle.std.proofs.Math.Bool.{true, false}
use Rattle.std.proofs.Math.Logic.{inl, inr}
use Rattle.std.proofs.Math.Option.{Option, some, none}
use Rattle.std.proofs.Math.Dec.{leb, ltb}
use borrow.Author.Tests.{eqb-true, eqb-false, ne_eqb, ltb-true, lt-ltb, leb-false, lt-leb, not-false}
use Rattle.rules.specs.declared.Request.TheVariants.{Grow}
use Rattle.rules.specs.Words.{Image, mem}
use Rattle.rules.specs.Clumps.{Head, header_bytes, FREE, RESERVED, ACTIVE, has_state, is_free, is_waiting, next_of}
use Rattle.rules.specs.Sound.{unsettled}
use Rattle.rules.specs.Answers.{size_zero, no_room, wrong_state, Verdict, granted, answer_of, if_settled, if_sound}
use Rattle.rules.specs.Stores.{need_of, grow_stores, if_free, free_after}
use Rattle.rules.specs.Requests.{finder, enlarged, grown, grow, verdict, verdict_on}
use Rattle.rules.specs.Reading.{clumps_of}
use Rattle.rules.specs.Demands.{NoneToTake, NoGrowth, GrowRoom}
use Rattle.laws.specs.Behind.{through-test, through-settled, through-found}
use Rattle.laws.specs.Served.{granted_room}
use Rattle.laws.specs.Pools.{Sound}

-- a state that is one of two
either_state : (s t : ℕ) (h : Head) → (has_state s h || has_state t h) ≡ true → (h.state ≡ s) ⊎ (h.state ≡ t)
either_state s t h e = go (has_state s h) refl e
  where
    go : (b : Bool) → has_state s h ≡ b → (b || has_state t h) ≡ true → (h.state ≡ s) ⊎ (h.state ≡ t)
    go true q f = inl (eqb-true h.state s q)
    go false q f = inr (eqb-true h.state t f)

waits : (h : Head) → (h.state ≡ RESERVED) ⊎ (h.state ≡ ACTIVE) → is_waiting h ≡ true
waits h (inl e) = rw e
waits h (inr e) = rw e

-- no clump to take, as the verdict tests it
module _ (fuse o need : ℕ) (h : Head) where
  abbrev Out : Verdict → Type 0
  Out v = (answer_of fuse v).answer ≡ no_room

  abbrev into : Option Head → Verdict
  into next = enlarged o need h (if_free next)

  none_out : (next : Option Head) → Out (into next) → NoneToTake need h next
  unfolding answer_of
  none_out none e = tt
  none_out (some k) e = go (is_free k) refl (ltb (h.nbytes + k.nbytes) need) refl e
    where
      go : (b : Bool) → is_free k ≡ b → (c : Bool) → ltb (h.nbytes + k.nbytes) need ≡ c → Out (enlarged o need h (cond b (some k) none)) → NoneToTake need h (some k)
      go false q c p f = inl (eqb-false k.state FREE q)
      go true q true p f = inr (ltb-true _ need p)
      go true q false p f = absurd (granted_room (ltb fuse (length (grow_stores need h.at (h.nbytes + k.nbytes)))) _ _ _ (rw p at f))

  out_none : (next : Option Head) → NoneToTake need h next → Out (into next)
  unfolding answer_of
  out_none none n = refl
  out_none (some k) (inl d) = rw (ne_eqb k.state FREE d)
  out_none (some k) (inr l) = go (is_free k)
    where
      go : (b : Bool) → Out (enlarged o need h (cond b (some k) none))
      go true = rw (lt-ltb _ need l)
      go false = refl

module _ (img : Image) (o size fuse : ℕ) where
  abbrev P : Verdict → Type 0
  P v = (answer_of fuse v).answer ≡ no_room → NoGrowth img o size

  out_of_room : P (if_settled (length img) (mem img) (grow (clumps_of img) o size))
  unfolding grow grown answer_of
  out_of_room =
      through-settled P (length img) (mem img) _ (λ e. absurd (omega arith)) (λ k e. absurd (omega arith)) (λ e. absurd (omega arith))
      (λ s u. through-test P (eqb size 0) size_zero _ (λ e. absurd (omega arith))
      (λ z. through-found P (finder (clumps_of img) o) _ (λ e. absurd (omega arith))
      (λ h f. through-test P (not (is_waiting h)) wrong_state _ (λ e. absurd (omega arith))
      (λ w. go s u (eqb-false size 0 z) h f (not-false _ w) (leb size (h.nbytes - header_bytes)) refl))))
    where
      go :
          Sound (length img) (mem img)
          → unsettled (clumps_of img) ≡ false
          → (size ≡ 0 → ⊥)
          → (h : Head)
          → finder (clumps_of img) o ≡ some h
          → is_waiting h ≡ true
          → (b : Bool)
          → leb size (h.nbytes - header_bytes) ≡ b
          → P (cond b (granted o []) (enlarged o (need_of size) h (free_after (clumps_of img) h)))
      go s u z h f w true q e = absurd (granted_room (ltb fuse 0) o _ _ e)
      go s u z h f w false q e =
          record {
            settled = record { pool = s.pool; sound = s.sound; calm = u };
            asked = omega arith;
            clump = h;
            found = f;
            state = either_state RESERVED ACTIVE h w;
            less = omega (arith, leb-false size _ q);
            none_left = none_out fuse o (need_of size) h (next_of (clumps_of img) h) e;
          }

  served : (g : NoGrowth img o size) → verdict_on img (Grow o size) ≡ enlarged o (need_of size) g.clump (free_after (clumps_of img) g.clump)
  unfolding verdict if_settled if_sound grow grown
  served g =
      let s = g.settled in
      let l = g.less in
      rw (s.pool, s.sound, s.calm, ne_eqb size 0 (λ e. absurd (omega (arith, g.asked))), g.found, waits g.clump g.state, lt-leb size (g.clump.nbytes - header_bytes) (omega arith))

pub grow-room : GrowRoom
unfolding verdict
grow-room img o size fuse = (
  out_of_room img o size fuse,
  (λ g. ap (λ (v : Verdict). (answer_of fuse v).answer) (served img o size fuse g) ∙ out_none fuse o (need_of size) g.clump (next_of (clumps_of img) g.clump) g.none_left),
)
