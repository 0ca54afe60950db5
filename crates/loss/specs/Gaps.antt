-- At rest the FREE clumps are what the live ones leave: where no two FREE clumps touch, a tiling is its live clumps with one FREE clump in
-- each gap. By induction on the clumps: a FREE one fills the gap up to the live one behind it. Assumes nothing.
use Rattle.std.specs.Prelude.{ℕ, ◌+◌, ◌-◌, ◌≤◌, ◌≡◌, refl, Bool, true, false, cond, ◌&&◌, List, [], ◌∷◌, ltb}
use Rattle.std.proofs.Common.{sym, ap, ◌∙◌, arith, lt-ltb, le-ltb, eqb-true}
use Rattle.rules.specs.Lists.{those}
use Rattle.rules.specs.Clumps.{Head, Sits, Tiles, end_of, FREE, is_free, is_live}
use Rattle.rules.specs.Sound.{starts_free, touching}
use Rattle.laws.specs.Searches.{or_neither}

-- the clumps hs, with a FREE one in front that fills a up to b, if there is room
abbrev fill : ℕ → ℕ → List Head → List Head
fill a b hs = cond (ltb a b) (record { at = a; nbytes = b - a; state = FREE } ∷ hs) hs

-- the tiling from a to b that has these live clumps, and a FREE one in each gap
unfoldable pub gaps : ℕ → List Head → ℕ → List Head
gaps a [] b = fill a b []
gaps a (h ∷ hs) b = fill a h.at (h ∷ gaps (end_of h) hs b)

-- where there is no room nothing is filled in
full : (a b : ℕ) (hs : List Head) → b ≤ a → fill a b hs ≡ hs
full a b hs l = rw (le-ltb a b l)

-- a FREE clump fills its own place
free_fills : (a : ℕ) (h : Head) (hs : List Head) → Sits a h → is_free h ≡ true → fill a (a + h.nbytes) hs ≡ h ∷ hs
free_fills a h hs s e =
    let p = s.here in
    let q = eqb-true h.state FREE e in
    let z : a + h.nbytes - a ≡ h.nbytes = omega arith in
    let i : ◌≡◌ {A = Head} (record { at = a; nbytes = a + h.nbytes - a; state = FREE }) h = (λ j. record { at = sym p j; nbytes = z j; state = sym q j }) in
    rw (lt-ltb a (a + h.nbytes) (omega (arith, s.least))) (ap (λ (k : Head). k ∷ hs) i)

-- a gap in front of clumps that start with no FREE one
gap_front : (a c b : ℕ) (hs : List Head) → Tiles c hs b → starts_free hs ≡ false → gaps a (those is_live hs) b ≡ fill a c (gaps c (those is_live hs) b)
unfolding gaps those
gap_front a c b [] t e = rw t (ap (fill a b) (sym (full b b [] (omega arith))))
gap_front a c b (h ∷ hs) t e =
    let i = t.0.here in
    let ks = h ∷ gaps (end_of h) (those is_live hs) b in
    rw e (ap (λ (o : ℕ). fill a o ks) i ∙ ap (fill a c) (sym (full c h.at ks (omega arith))))

-- a tiling in which no two FREE clumps touch is told by its live clumps
pub calm_gaps : (a b : ℕ) (hs : List Head) → Tiles a hs b → touching hs ≡ false → hs ≡ gaps a (those is_live hs) b
unfolding gaps those touching
calm_gaps a b [] t e = sym (full a b [] (omega arith))
calm_gaps a b (h ∷ hs) t e =
    let x = or_neither (is_free h && starts_free hs) (touching hs) e in
    go (is_free h) refl x.0 (calm_gaps (a + h.nbytes) b hs t.1 x.1)
  where
    go : (f : Bool) → is_free h ≡ f → (f && starts_free hs) ≡ false → hs ≡ gaps (a + h.nbytes) (those is_live hs) b → h ∷ hs ≡ gaps a (those is_live (h ∷ hs)) b
    go true q f ih =
        rw q
        (sym (free_fills a h hs t.0 q)
        ∙ ap (fill a (a + h.nbytes)) ih
        ∙ sym (gap_front a (a + h.nbytes) b hs t.1 f))
    go false q f ih =
        let i = t.0.here in
        rw q
        (ap (λ (ks : List Head). h ∷ ks) (ih ∙ ap (λ (o : ℕ). gaps (o + h.nbytes) (those is_live hs) b) (sym i))
        ∙ sym (full a h.at (h ∷ gaps (end_of h) (those is_live hs) b) (omega arith)))
