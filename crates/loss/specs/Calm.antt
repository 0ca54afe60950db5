-- No two FREE clumps touch: in two parts of the clumps, behind a change of one clump, and what it says of their number. The parts by
-- induction on the lower one, each change by the parts, the number by induction on the clumps. Assumes nothing.
use Rattle.std.specs.Prelude.{suc, ◌+◌, ◌≤◌, ◌≡◌, refl, Bool, true, false, cond, not, ◌&&◌, ◌||◌, List, [], ◌∷◌, ◌++◌, length}
use Rattle.std.proofs.Common.{sym, ap, ◌∙◌, arith}
use Rattle.std.proofs.Math.Bool.{and-false, or_assoc}
use Rattle.rules.specs.Lists.{those}
use Rattle.rules.specs.Clumps.{Head, is_free, is_live}
use Rattle.rules.specs.Sound.{starts_free, touching}
use Rattle.laws.specs.Searches.{differ, or_neither}

-- the last clump is FREE
abbrev pub ends_free : List Head → Bool
ends_free [] = false
ends_free (h ∷ []) = is_free h
ends_free (h ∷ k ∷ hs) = ends_free (k ∷ hs)

-- FREE clumps touch in the lower part, between the parts, or in the higher one
touching-append : (p q : List Head) → touching (p ++ q) ≡ (touching p || ((ends_free p && starts_free q) || touching q))
unfolding touching
touching-append [] q = refl
touching-append (h ∷ []) q = rw (and-false (is_free h))
touching-append (h ∷ k ∷ p) q =
    ap (λ (b : Bool). (is_free h && is_free k) || b) (touching-append (k ∷ p) q) ∙ sym (or_assoc (is_free h && is_free k) (touching (k ∷ p)) _)

-- so they touch nowhere in the whole exactly where they do not in the parts and not between them
pub touching_parts : (p q : List Head) → touching (p ++ q) ≡ false → (touching p ≡ false) × (touching q ≡ false) × ((ends_free p && starts_free q) ≡ false)
touching_parts p q e =
    let r = or_neither (touching p) _ (sym (touching-append p q) ∙ e) in
    let s = or_neither (ends_free p && starts_free q) (touching q) r.1 in
    (r.0, s.1, s.0)

-- the clumps below one and above it
pub touching_sides : (p : List Head) (h : Head) (q : List Head) → touching (p ++ (h ∷ q)) ≡ false → (touching p ≡ false) × (touching q ≡ false)
unfolding touching
touching_sides p h q t = let r = touching_parts p (h ∷ q) t in (r.0, (or_neither (is_free h && starts_free q) (touching q) r.1).1)

pub touching_join : (p q : List Head) → touching p ≡ false → touching q ≡ false → (ends_free p && starts_free q) ≡ false → touching (p ++ q) ≡ false
touching_join p q e f g = rw (touching-append p q, e, g, f)

-- one clump for another that is FREE if and only if the first is
pub touching_like : (p : List Head) (h k : Head) (q : List Head) → is_free k ≡ is_free h → touching (p ++ (h ∷ q)) ≡ false → touching (p ++ (k ∷ q)) ≡ false
unfolding touching
touching_like p h k q e t = let r = touching_parts p (h ∷ q) t in touching_join p (k ∷ q) r.0 (rw e r.1) (rw e r.2)

-- a live clump between two parts
pub touching-live : (p : List Head) (a : Head) (q : List Head) → is_free a ≡ false → touching p ≡ false → touching q ≡ false → touching (p ++ (a ∷ q)) ≡ false
unfolding touching
touching-live p a q f e g = touching_join p (a ∷ q) e (rw f g) (rw f (and-false (ends_free p)))

-- a FREE clump is taken whole, or split into a live one and a FREE rest
pub touching_taken : (p : List Head) (h a : Head) (q : List Head) → is_free a ≡ false → touching (p ++ (h ∷ q)) ≡ false → touching (p ++ (a ∷ q)) ≡ false
touching_taken p h a q f t = let s = touching_sides p h q t in touching-live p a q f s.0 s.1

pub touching_split : (p : List Head) (h a b : Head) (q : List Head) → is_free h ≡ true → is_free a ≡ false → is_free b ≡ true → touching (p ++ (h ∷ q)) ≡ false → touching (p ++ (a ∷ b ∷ q)) ≡ false
unfolding touching
touching_split p h a b q e f g t =
    let r = touching_parts p (h ∷ q) t in
    touching_join p (a ∷ b ∷ q) r.0 (rw (f, g) (rw e at r.1)) (rw f (and-false (ends_free p)))

-- a clump between live neighbours, as the one that free makes
pub touching-between : (p : List Head) (j : Head) (q : List Head) → touching p ≡ false → touching q ≡ false → ends_free p ≡ false → starts_free q ≡ false → touching (p ++ (j ∷ q)) ≡ false
unfolding touching
touching-between p j q e f g s = touching_join p (j ∷ q) e (rw (s, and-false (is_free j)) f) (rw g)

-- there are no more FREE clumps than live ones if the first is live, and else at most one more
free_count : (hs : List Head) → touching hs ≡ false → length (those is_free hs) ≤ cond (starts_free hs) 1 0 + length (those is_live hs)
unfolding touching those
free_count [] e = omega arith
free_count (h ∷ hs) e =
    let r = or_neither (is_free h && starts_free hs) (touching hs) e in
    go (is_free h) (starts_free hs) (free_count hs r.1) r.0
  where
    go :
        (b c : Bool)
        → length (those is_free hs) ≤ cond c 1 0 + length (those is_live hs)
        → (b && c) ≡ false
        → length (cond b (h ∷ those is_free hs) (those is_free hs)) ≤ cond b 1 0 + length (cond (not b) (h ∷ those is_live hs) (those is_live hs))
    go true true l f = differ refl f
    go true false l f = omega arith
    go false true l f = omega arith
    go false false l f = omega arith

-- "so there is at most one FREE clump more than live ones"
pub one_more : (hs : List Head) → touching hs ≡ false → length (those is_free hs) ≤ suc (length (those is_live hs))
one_more hs e = go (starts_free hs) (free_count hs e)
  where
    go : (b : Bool) → length (those is_free hs) ≤ cond b 1 0 + length (those is_live hs) → length (those is_free hs) ≤ suc (length (those is_live hs))
    go true l = omega arith
    go false l = omega arith
