-- Merging: clumps that are FREE and touch become one by the store of their sum to the first one's nbytes, and recovery is none the
-- wiser. By the law of a part that is replaced. Assumes nothing.
use Rattle.std.specs.Prelude.{ℕ, ◌+◌, ◌%◌, ◌≡◌, refl, true, false, List, [], ◌∷◌, ◌++◌}
use Rattle.std.proofs.Common.{sym, ◌∙◌, ⊎_elim, arith, eqb-true}
use Rattle.rules.specs.Lists.{Each}
use Rattle.rules.specs.Words.{Mem, upd}
use Rattle.rules.specs.Pages.{unit}
use Rattle.rules.specs.Clumps.{Head, is_free, state_at, FREE, Tiles}
use Rattle.rules.specs.Sound.{list_bad}
use Rattle.rules.specs.Answers.{bytes_of}
use Rattle.word.specs.Memory.{upd_same, upd_other}
use Rattle.laws.specs.Searches.{each_map, each_right}
use Rattle.laws.specs.Totals.{tiles_bytes}
use Rattle.laws.specs.Stored.{reads_right}
use Rattle.loss.specs.Held.{Idle}
use Rattle.loss.specs.Fates.{Kept, is_kept, fates_none, Beyond, Rests}
use Rattle.loss.specs.Joined.{joined_to}
use Rattle.loss.specs.Parts.{one_store, parted, replaced}
use Rattle.loss.specs.Entries.{unjudged}

-- a FREE clump has no list, is at rest and is not kept
pub record Loose (n : ℕ) (m : Mem) (h : Head) : Type 0 where
  pub list : list_bad n m h ≡ false
  pub idle : Idle h
  pub lost : is_kept h ≡ false

pub free_loose : (n : ℕ) (m : Mem) (h : Head) → is_free h ≡ true → Loose n m h
free_loose n m h e = let z = eqb-true h.state FREE e in record { list = unjudged n m h (rw z) (rw z); idle = rw z; lost = rw z }

-- the clumps of a tiling have whole units together
whole_bytes : (a b : ℕ) (hs : List Head) → Tiles a hs b → bytes_of hs % unit ≡ 0
unfolding bytes_of
whole_bytes a b [] t = refl
whole_bytes a b (h ∷ hs) t = let r = whole_bytes (a + h.nbytes) b hs t.1 in omega (arith, t.0.whole)

pub merged :
    (n : ℕ) (D : ℕ → Type 0) (k : List Kept) (w m : Mem) (p : List Head) (h : Head) (ks q : List Head)
    → Each (λ g. is_free g ≡ true) (h ∷ ks)
    → Rests n D k w m (p ++ (h ∷ (ks ++ q)))
    → Rests n D k w (upd m h.at (bytes_of (h ∷ ks))) (p ++ (joined_to h ks ∷ q))
unfolding bytes_of
merged n D k w m p h ks q e f =
    let b = bytes_of (h ∷ ks) in
    let x = upd m h.at b in
    let t = parted n p (h ∷ ks) q f.held.tiles in
    let c = t.0 in
    let d = t.1 in
    let s = t.2.part in
    let j = joined_to h ks in
    let i = s.0.here in
    let l = s.0.least in
    let y = tiles_bytes c d (h ∷ ks) s in
    let v = reads_right m p (h ∷ (ks ++ q)) f.held.reads in
    let loose = free_loose n x j e.0 in
    let none_kept = each_map (λ g. is_free g ≡ true) (λ g. is_kept g ≡ false) (h ∷ ks) (λ g z. (free_loose n m g z).lost) e in
    replaced n m x p c (h ∷ ks) (j ∷ []) d q t.2 (one_store m c d h.at b (omega arith) (omega arith)) D k w f
    (record {
      tiles = (record { here = i; least = omega arith; whole = whole_bytes c d (h ∷ ks) s; known = s.0.known }, omega arith);
      reads = (upd_same m h.at b, upd_other m h.at b (state_at h.at) (omega arith) ∙ v.1, tt);
      lists = (loose.list, tt);
    })
    (loose.idle, tt)
    (fates_none x (j ∷ []) (loose.lost, tt) ∙ sym (fates_none m (h ∷ ks) none_kept))
    (λ o z. upd_other m h.at b o (λ u. ⊎_elim (λ r. absurd (omega arith)) (λ r. absurd (omega arith)) (each_right (Beyond o) p (h ∷ (ks ++ q)) (f.off o z)).0))
    (λ o z. ((each_right (Beyond o) p (h ∷ (ks ++ q)) (f.off o z)).0, tt))
