-- Stores made again: a beginning of a list and then all of it, or all of it and then an end of it, is the list made once, for the last
-- store to a word wins. Both follow from one law: memories that agree but at the list's words agree after the list. Assumes nothing.
use Rattle.std.specs.Prelude.{ℕ, ◌≡◌, refl, Bool, true, false, cond, List, [], ◌∷◌, take, drop, eqb}
use Rattle.std.proofs.Common.{sym, ap, ◌∙◌, take-append-drop, eqb-true}
use Rattle.std.proofs.lemmas.Bool.{eqb-false}
use Rattle.rules.specs.Lists.{Each}
use Rattle.rules.specs.Words.{Mem, Store, upd, after}
use Rattle.word.specs.Memory.{upd_same, upd_other, after-append}
use Rattle.laws.specs.Searches.{each_take}

-- a store to another word than the one at o; and a list of such stores
abbrev pub Other : ℕ → Store → Type 0
Other o s = o ≡ s.to → ⊥

abbrev pub Spares : ℕ → List Store → Type 0
Spares o st = Each (Other o) st

pub after_spared : (m : Mem) (st : List Store) (o : ℕ) → Spares o st → after m st o ≡ m o
unfolding after
after_spared m [] o f = refl
after_spared m (s ∷ st) o f = after_spared (upd m s.to s.word) st o f.1 ∙ upd_other m s.to s.word o f.0

-- a word after stores depends on that word before alone
pub after-at : (m x : Mem) (st : List Store) (o : ℕ) → x o ≡ m o → after x st o ≡ after m st o
unfolding after upd
after-at m x [] o e = e
after-at m x (s ∷ st) o e = after-at (upd m s.to s.word) (upd x s.to s.word) st o (ap (cond (eqb o s.to) s.word) e)

pub redo : (m x : Mem) (st : List Store) → ((o : ℕ) → Spares o st → x o ≡ m o) → (o : ℕ) → after x st o ≡ after m st o
unfolding after
redo m x [] f o = f o tt
redo m x (s ∷ st) f o = redo (upd m s.to s.word) (upd x s.to s.word) st (λ i g. go i g (eqb i s.to) refl) o
  where
    go : (i : ℕ) → Spares i st → (b : Bool) → eqb i s.to ≡ b → upd x s.to s.word i ≡ upd m s.to s.word i
    go i g true e = rw (eqb-true i s.to e, upd_same x s.to s.word, upd_same m s.to s.word)
    go i g false e =
        let d = eqb-false i s.to e in
        upd_other x s.to s.word i d ∙ f i (d, g) ∙ sym (upd_other m s.to s.word i d)

-- a beginning, then all
pub redo_start : (m : Mem) (st : List Store) (j o : ℕ) → after (after m (take j st)) st o ≡ after m st o
redo_start m st j o = redo m (after m (take j st)) st (λ i g. after_spared m (take j st) i (each_take (Other i) j st g)) o

-- all, then an end
pub redo_end : (m : Mem) (st : List Store) (j o : ℕ) → after (after m st) (drop j st) o ≡ after m st o
redo_end m st j o =
    let x = after m (take j st) in
    let e : after m st ≡ after x (drop j st) = ap (after m) (sym (take-append-drop j st)) ∙ after-append m (take j st) (drop j st) in
    ap (λ (y : Mem). after y (drop j st) o) e
    ∙ redo x (after x (drop j st)) (drop j st) (λ i g. after_spared x (drop j st) i g) o
    ∙ ap (λ (y : Mem). y o) (sym e)
