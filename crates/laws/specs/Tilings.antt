-- Tilings taken apart and joined, each by induction on the list of clumps; and that no two clumps of one have their body at the same
-- offset. Assumes nothing.
use Rattle.std.specs.Prelude.{ℕ, ◌+◌, ◌<◌, ◌≤◌, ◌≡◌, refl, Bool, false, List, [], ◌∷◌, ◌++◌, eqb}
use Rattle.std.proofs.Common.{sym, ap, subst, ◌∙◌, arith, eq-eqb, ne_eqb}
use Rattle.std.proofs.Math.Option.{some}
use Rattle.rules.specs.Lists.{seek, Each}
use Rattle.rules.specs.Clumps.{Head, body_of, end_of, Tiles}
use Rattle.rules.specs.Requests.{finder}
use Rattle.laws.specs.Searches.{each_map, seek_at, seek_split}

pub tiles_le : (a b : ℕ) (hs : List Head) → Tiles a hs b → a ≤ b
tiles_le a b [] t = omega arith
tiles_le a b (h ∷ hs) t = let r = tiles_le (a + h.nbytes) b hs t.1 in omega arith

pub tiles_split : (a b : ℕ) (p q : List Head) → Tiles a (p ++ q) b → (c : ℕ) × Tiles a p c × Tiles c q b
tiles_split a b [] q t = (a, refl, t)
tiles_split a b (h ∷ p) q t =
    let r = tiles_split (a + h.nbytes) b p q t.1 in
    (r.0, (t.0, r.1), r.2)

pub tiles_join : (a c b : ℕ) (p q : List Head) → Tiles a p c → Tiles c q b → Tiles a (p ++ q) b
tiles_join a c b [] q s t = rw s t
tiles_join a c b (h ∷ p) q s t = (s.0, tiles_join (a + h.nbytes) c b p q s.1 t)

-- each clump of a tiling lies in it
pub tiles_in : (a b : ℕ) (hs : List Head) → Tiles a hs b → Each (λ h. (a ≤ h.at) × (h.at < b) × (end_of h ≤ b)) hs
tiles_in a b hs t = go a hs t (omega arith)
  where
    go : (c : ℕ) (hs : List Head) → Tiles c hs b → a ≤ c → Each (λ h. (a ≤ h.at) × (h.at < b) × (end_of h ≤ b)) hs
    go c [] t l = tt
    go c (h ∷ hs) t l =
        let e = t.0.here in
        let k = t.0.least in
        let u = tiles_le (c + h.nbytes) b hs t.1 in
        ((omega arith, omega arith, omega arith), go (c + h.nbytes) hs t.1 (omega arith))

-- so the clump behind a tiling is the first to have its body where it has
pub tiles_found : (a : ℕ) (p : List Head) (h : Head) (q : List Head) → Tiles a p h.at → finder (p ++ (h ∷ q)) (body_of h) ≡ some h
tiles_found a p h q t =
    seek_at (λ k. eqb (body_of k) (body_of h)) p h q
    (each_map (λ k. (a ≤ k.at) × (k.at < h.at) × (end_of k ≤ h.at)) (λ k. eqb (body_of k) (body_of h) ≡ false) p (λ k e. ne_eqb (body_of k) (body_of h) (omega (arith, e.1))) (tiles_in a h.at p t))
    (eq-eqb (body_of h) (body_of h) refl)

-- and what any search finds, the finder finds again
pub found-again : (a b : ℕ) (hs : List Head) → Tiles a hs b → (p : Head → Bool) (h : Head) → seek p hs ≡ some h → finder hs (body_of h) ≡ some h
found-again a b hs t p h e =
    let x = seek_split p hs h e in
    let y = tiles_split a b x.lower (h ∷ x.higher) (rw x.whole at t) in
    ap (λ (l : List Head). finder l (body_of h)) x.whole ∙ tiles_found a x.lower h x.higher (subst (Tiles a x.lower) (sym y.2.0.here) y.1)
