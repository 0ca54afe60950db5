-- The assignments of a list whose targets are valid reach no header and not the header page, so that the clumps and their lists are as
-- they were. By the law that what lies in the static area or in a live body lies in no header. Assumes nothing.
use Rattle.std.specs.Prelude.{ℕ, ◌≡◌, refl, true, List, [], ◌∷◌, map}
use Rattle.std.proofs.Common.{⊎_elim, arith}
use Rattle.rules.specs.Lists.{all, Each}
use Rattle.rules.specs.Words.{Mem, Store, after}
use Rattle.rules.specs.Pages.{clumps_at}
use Rattle.rules.specs.Clumps.{Head, Choice, slots_by, target_at, entry, entries_by, Tiles}
use Rattle.rules.specs.Sound.{is_valid, all_valid}
use Rattle.laws.specs.Searches.{each_map, all_each}
use Rattle.laws.specs.Headers.{Agree, AgreePage}
use Rattle.laws.specs.Bodies.{Off, valid_off, valid_area}
use Rattle.loss.specs.Fates.{Beyond}
use Rattle.loss.specs.Redo.{after_spared}

-- a valid target is no word of a header
pub valid_beyond : (n t : ℕ) (hs : List Head) → Tiles clumps_at hs n → is_valid hs t ≡ true → Each (Beyond t) hs
valid_beyond n t hs s e = each_map (Off t) (Beyond t) hs (λ h o. o.header) (valid_off n t hs s e)

-- the list's targets, entry by entry
pub valid_entries : (c : Choice) (m : Mem) (hs : List Head) (h : Head) → all_valid c m hs h ≡ true → Each (λ s. is_valid hs s.to ≡ true) (entries_by c m h.at)
unfolding all_valid
valid_entries c m hs h e = go (slots_by c m h.at) (all_each (λ s. is_valid hs (target_at m s)) (slots_by c m h.at) e)
  where
    go : (sl : List ℕ) → Each (λ s. is_valid hs (target_at m s) ≡ true) sl → Each (λ s. is_valid hs s.to ≡ true) (map (entry m) sl)
    go [] f = tt
    go (s ∷ sl) f = (f.0, go sl f.1)

pub entries_valid : (c : Choice) (m : Mem) (hs : List Head) (h : Head) → Each (λ s. is_valid hs s.to ≡ true) (entries_by c m h.at) → all_valid c m hs h ≡ true
unfolding all_valid all
entries_valid c m hs h e = go (slots_by c m h.at) e
  where
    go : (sl : List ℕ) → Each (λ s. is_valid hs s.to ≡ true) (map (entry m) sl) → all (λ s. is_valid hs (target_at m s)) sl ≡ true
    go [] f = refl
    go (s ∷ sl) f = rw f.0 (go sl f.1)

-- stores beyond the headers leave them
agree_after : (m : Mem) (st : List Store) (hs : List Head) → Each (λ s. Each (Beyond s.to) hs) st → Agree m (after m st) hs
agree_after m st [] f = tt
agree_after m st (h ∷ hs) f = (
  (λ o l u. after_spared m st o
      (each_map (λ s. Each (Beyond s.to) (h ∷ hs)) (λ s. o ≡ s.to → ⊥) st (λ s b e. ⊎_elim (λ x. absurd (omega arith)) (λ x. absurd (omega arith)) b.0) f)),
  agree_after m st hs (each_map (λ s. Each (Beyond s.to) (h ∷ hs)) (λ s. Each (Beyond s.to) hs) st (λ s b. b.1) f),
)

module _ (n : ℕ) (m : Mem) (hs : List Head) (t : Tiles clumps_at hs n) (st : List Store) (v : Each (λ s. is_valid hs s.to ≡ true) st) where
  pub assigned_headers : Agree m (after m st) hs
  assigned_headers =
      agree_after m st hs
      (each_map (λ s. is_valid hs s.to ≡ true) (λ s. Each (Beyond s.to) hs) st
      (λ s e. valid_beyond n s.to hs t e) v)

  pub assigned_page : AgreePage m (after m st)
  assigned_page o l u =
      after_spared m st o
      (each_map (λ s. is_valid hs s.to ≡ true) (λ s. o ≡ s.to → ⊥) st
      (λ s e z. ⊎_elim (λ x. absurd (omega (arith, x.1))) (λ x. absurd (omega arith)) (valid_area n s.to hs t e)) v)
