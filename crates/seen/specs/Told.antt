-- What the state of the whole walk tells: the judging, whether the pool is settled, and the totals of 01 are read off it. By what the state
-- is after any beginning (`Beginnings`), the whole walk being one. Assumes nothing.
use Rattle.std.specs.Prelude.{ℕ, ◌≤◌, ◌≡◌, Bool, true, false, ◌||◌, List, [], ◌∷◌, Some, None, is_some}
use Rattle.std.proofs.Math.Path.{refl, ap}
use Rattle.std.proofs.Common.{sym, subst, ◌∙◌, arith}
use Rattle.std.proofs.lemmas.Option.{none-some, same_Some}
use Rattle.std.proofs.Math.Option.{Option, some, none}
use Rattle.std.proofs.Math.Decide.{dec_lt}
use Rattle.rules.specs.Lists.{seek, those, any}
use Rattle.rules.specs.Words.{Mem}
use Rattle.rules.specs.Pages.{clumps_at}
use Rattle.rules.specs.Clumps.{Head, head, is_pending, due, Tiles, walk}
use Rattle.rules.specs.Sound.{Fault, clump_fault, second, second_fault, target_fault, all_valid, judge, unsettled}
use Rattle.rules.specs.Answers.{granted, totals_for}
use Rattle.laws.specs.Searches.{seek_nil, seek_hit, seek_pass}
use Rattle.laws.specs.Walks.{rest_start, rest_end, clumps_tile, no_faults}
use Rattle.laws.specs.Walking.{Inside, seek_placed}
use Rattle.seen.specs.declared.Fault.{Fault as Broken}
use Rattle.seen.specs.declared.Seen.{Seen}
use Rattle.seen.specs.Forms.{judged_of, place_of, offset_in}
use Rattle.seen.specs.States.{seen, Sees, After}
use Rattle.seen.specs.Beginnings.{seen-after, after_sound}

-- what the offset of a search tells: whether there is one
offset_any : (p : Head → Bool) (hs : List Head) → any p hs ≡ is_some (offset_in (seek p hs))
unfolding any
offset_any p [] = rw (seek_nil p)
offset_any p (h ∷ hs) = go (p h) refl (offset_any p hs)
  where
    go : (b : Bool) → p h ≡ b → any p hs ≡ is_some (offset_in (seek p hs)) → any p (h ∷ hs) ≡ is_some (offset_in (seek p (h ∷ hs)))
    go true e ih = rw (e, seek_hit p h hs e)
    go false e ih = rw (e, seek_pass p h hs e) ih

pub sought_none : (o : Option Head) → offset_in o ≡ None → o ≡ none
sought_none none e = refl
sought_none (some h) e = absurd (none-some h.at (sym e))

-- and where, in clumps that tile
pub record Sought (n : ℕ) (m : Mem) (p : Head → Bool) (h : ℕ) : Type 0 where
  pub found : seek p (walk n m) ≡ some (head m h)
  pub inside : Inside n m h

pub sought : (n : ℕ) (m : Mem) (p : Head → Bool) → Tiles clumps_at (walk n m) n → (h : ℕ) → offset_in (seek p (walk n m)) ≡ Some h → Sought n m p h
sought n m p t h e = go (seek p (walk n m)) refl e
  where
    go : (o : Option Head) → seek p (walk n m) ≡ o → offset_in o ≡ Some h → Sought n m p h
    go none q f = absurd (none-some h f)
    go (some k) q f =
        let i = seek_placed n m p k t q in
        let g : k.at ≡ h = same_Some k.at h f in
        record { found = q ∙ ap {B = Option Head} some (i.head_is ∙ ap (head m) g); inside = subst (Inside n m) g i.inside }

-- fault 4 and its place
second_some : (hs : List Head) (k : ℕ) → place_of (second hs) ≡ Some k → second hs ≡ some (record { place = k; number = 4 })
second_some [] k e = absurd (none-some k e)
second_some (h ∷ []) k e = absurd (none-some k e)
second_some (h ∷ j ∷ hs) k e = let a : j.at ≡ k = same_Some j.at k e in rw a

second_none : (hs : List Head) → place_of (second hs) ≡ None → second hs ≡ none
second_none [] e = refl
second_none (h ∷ []) e = refl
second_none (h ∷ j ∷ hs) e = absurd (none-some j.at (sym e))

-- the unfinished clump stands at h, among clumps that tile
pub record Unfinished (n : ℕ) (m : Mem) (h : ℕ) : Type 0 where
  pub tiles : Tiles clumps_at (walk n m) n
  pub found : seek is_pending (walk n m) ≡ some (head m h)
  pub inside : Inside n m h

-- the state r of the whole walk
module _ (n : ℕ) (m : Mem) (r : Seen) (e : r ≡ seen n m (walk n m)) where
  after : After n m (walk n m) r
  after = rw e (seen-after n m (walk n m))

  pub told-fault : (f : Broken) → r.fault ≡ Some f → judge n m ≡ some (record { place = f.place; number = f.number })
  unfolding judge
  told-fault f i = go (clump_fault n m (walk n m)) refl (sym after.fault_is ∙ i)
    where
      go : (o : Option Fault) → clump_fault n m (walk n m) ≡ o → judged_of (clump_fault n m (walk n m)) ≡ Some f → judge n m ≡ some (record { place = f.place; number = f.number })
      go none q j = absurd (none-some f (rw q at j))
      go (some x) q j =
          let a : record { place = x.place; number = x.number } ≡ f = same_Some _ f (rw q at j) in
          rw (q, ← a)

  -- a sound pool has none of the faults 1 to 3
  pub told_sound : judge n m ≡ none → r.fault ≡ None
  told_sound j = after.fault_is ∙ rw (no_faults n m j).clumps

  module _ (z : r.fault ≡ None) where
    clean : clump_fault n m (walk n m) ≡ none
    clean = (after_sound after (rw z)).0

    sees : Sees (walk n m) r
    sees = (after_sound after (rw z)).1

    -- fault 4
    pub told-second : (k : ℕ) → r.second ≡ Some k → judge n m ≡ some (record { place = k; number = 4 })
    unfolding judge second_fault
    told-second k f = rw (clean, second_some (those is_pending (walk n m)) k (sym sees.second_is ∙ f))

    -- fault 5
    told_targets : r.second ≡ None → judge n m ≡ target_fault m (walk n m)
    unfolding judge second_fault
    told_targets f = rw (clean, second_none (those is_pending (walk n m)) (sym sees.second_is ∙ f))

    pub told-first : r.first ≡ offset_in (seek is_pending (walk n m))
    told-first = sees.first_is

    pub told_idle : r.second ≡ None → r.first ≡ None → judge n m ≡ none
    unfolding target_fault
    told_idle f g = told_targets f ∙ rw (sought_none (seek is_pending (walk n m)) (sym told-first ∙ g))

    long : (h : ℕ) → r.first ≡ Some h → clumps_at ≤ n
    long h f =
        elim (dec_lt n clumps_at) [
          | yes p ↦ absurd (none-some h (rw (rest_end (rest_start n m) (omega arith), seek_nil is_pending) at (sym told-first ∙ f)))
          | no p ↦ omega arith
        ]

    pub told_pending : (h : ℕ) → r.first ≡ Some h → Unfinished n m h
    told_pending h f =
        let t = clumps_tile n m (long h f) clean in
        let i = sought n m is_pending t h (sym told-first ∙ f) in
        record { tiles = t; found = i.found; inside = i.inside }

    module _ (f : r.second ≡ None) (h : ℕ) (u : Unfinished n m h) where
      pub told_valid : all_valid (due (head m h)) m (walk n m) (head m h) ≡ true → judge n m ≡ none
      unfolding target_fault
      told_valid v = told_targets f ∙ rw (u.found, v)

      pub told-bad : all_valid (due (head m h)) m (walk n m) (head m h) ≡ false → judge n m ≡ some (record { place = h; number = 5 })
      unfolding target_fault
      told-bad v = told_targets f ∙ rw (u.found, v)

    -- answer 3, and the totals
    pub told-unsettled : unsettled (walk n m) ≡ (is_some r.first || r.touched)
    unfolding unsettled
    told-unsettled = rw (sees.first_is, sees.touched_is, offset_any is_pending (walk n m))

    pub told_totals : r.totals ≡ totals_for (granted 0 []) (walk n m)
    told_totals = sees.totals_are
