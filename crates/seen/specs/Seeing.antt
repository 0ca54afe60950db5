-- The walk with its state: at each clump the state still comes to what is seen of the whole walk, and a header that was read makes of it
-- what the rules' clump does. By `Walking`, the state being a part of what is asked of the clumps that are left. Assumes nothing.
use Rattle.std.specs.Prelude.{ℕ, ◌+◌, ◌<◌, ◌≤◌, ◌≡◌, refl, List, ◌∷◌, IsSome, IsNone}
use Rattle.std.proofs.Common.{sym, ap, ◌∙◌, arith}
use Rattle.rules.specs.Words.{Mem}
use Rattle.rules.specs.Pages.{clumps_at}
use Rattle.rules.specs.Clumps.{Head, head, state_at, least_clump, walk}
use Rattle.rules.specs.Sound.{fault_of}
use Rattle.laws.specs.Walks.{Faultless, faultless}
use Rattle.laws.specs.Walking.{Walking, walking_start, walking_end, walking_hit, walking_move}
use Rattle.page.specs.declared.clump.Clump.{Clump}
use Rattle.page.specs.Forms.{head_of, list_at}
use Rattle.seen.specs.declared.Seen.{Seen}
use Rattle.seen.specs.Forms.{fault_in}
use Rattle.seen.specs.States.{UpTo, nothing, broken, takes, seen_from, seen}
use Rattle.seen.specs.Judging.{size_short, fault_held}
use Rattle.seen.specs.Beginnings.{seen_stays, seen_step, seen_end, takes_sound, takes_up}

-- one clump: its header does not lie in the image, or was read
module _ (n : ℕ) (m : Mem) (s : Seen) (a : ℕ) where
  pub clump_short : n < a + least_clump → broken 1 a s ≡ takes (fault_of n m (head m a)) s (head m a)
  unfolding fault_of
  clump_short l = rw (size_short n (head m a) l)

  pub clump_read : (c : Clump) (l : List (List ℕ)) → c.at ≡ a → c.nbytes ≡ m a → c.state ≡ m (state_at a) → l ≡ list_at m a → takes (fault_in n l (head_of c)) s (head_of c) ≡ takes (fault_of n m (head m a)) s (head m a)
  clump_read c l d e f g =
      let i : head_of c ≡ head m a = λ j. record { at = d j; nbytes = e j; state = f j } in
      ap (λ (h : Head). takes (fault_in n l h) s h) i ∙ ap (λ (k : ℕ). takes k s (head m a)) (fault_held n m (head m a) l g)

-- the walk has come to h without a fault, and s is what it has seen
pub record Seeing (n : ℕ) (m : Mem) (h : ℕ) (s : Seen) : Type 0 where
  pub sound : IsNone s.fault
  pub up_to : UpTo h s.totals
  pub walking : Walking (seen_from n m s) n m h (seen n m (walk n m))

pub seeing_start : (n : ℕ) (m : Mem) → Seeing n m clumps_at nothing
seeing_start n m =
    record { sound = refl; up_to = (omega arith, omega arith, omega arith, omega arith, omega arith); walking = walking_start (seen_from n m nothing) n m }

module _ {n : ℕ} {m : Mem} {h : ℕ} {s : Seen} (w : Seeing n m h s) where
  pub seeing_end : n ≤ h → s ≡ seen n m (walk n m)
  seeing_end l = sym (seen_end n m s) ∙ walking_end w.walking l

  -- past the clump at h, with the state t
  module _ (l : h < n) {t : Seen} (e : t ≡ takes (fault_of n m (head m h)) s (head m h)) where
    step : (hs : List Head) → seen_from n m s (head m h ∷ hs) ≡ seen_from n m t hs
    step hs = seen_step n m s (head m h) hs w.sound ∙ ap (λ (x : Seen). seen_from n m x hs) (sym e)

    pub seeing_stop : IsSome t.fault → t ≡ seen n m (walk n m)
    seeing_stop f = walking_hit w.walking l t (λ hs. step hs ∙ seen_stays n m t hs f)

    module _ (z : IsNone t.fault) where
      no_fault : fault_of n m (head m h) ≡ 0
      no_fault = takes_sound (fault_of n m (head m h)) s (head m h) (rw e at z)

      pub seeing_clump : Faultless n h m
      seeing_clump = faultless n h m no_fault

      pub seeing_move : Seeing n m (h + m h) t
      seeing_move =
          let f = seeing_clump in
          record {
            sound = z;
            up_to = rw e (takes_up (fault_of n m (head m h)) s (head m h) h no_fault w.up_to);
            walking = walking_move w.walking l (omega (arith, f.sits.least)) f.sits.whole (seen_from n m t) step;
          }
