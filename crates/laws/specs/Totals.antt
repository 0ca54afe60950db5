-- Check's totals add up: a tiling's clumps fill it, and each clump is in one of the five states. By induction on the clumps.
-- Assumes nothing.
use Rattle.std.specs.Prelude.{ℕ, zero, suc, ◌+◌, ◌≤◌, ◌≡◌, refl, List, [], ◌∷◌, length}
use Rattle.std.proofs.Common.{◌∙◌, arith}
use Rattle.rules.specs.Lists.{those}
use Rattle.rules.specs.Clumps.{Head, Tiles, walk, FREE, RESERVED, ACTIVATING, ACTIVE, FREEING}
use Rattle.rules.specs.Words.{mem}
use Rattle.rules.specs.Pages.{clumps_at}
use Rattle.rules.specs.Answers.{granted, if_sound, bytes_of, total_of}
use Rattle.rules.specs.Requests.{verdict}
use Rattle.rules.specs.Demands.{TotalsAdd}
use Rattle.rules.specs.declared.Request.TheVariants.{Check}
use Rattle.laws.specs.Pools.{check_sound, pool_tiles}

-- a tiling is as long as its clumps together
pub tiles_bytes : (a b : ℕ) (hs : List Head) → Tiles a hs b → a + bytes_of hs ≡ b
unfolding bytes_of
tiles_bytes a b [] t = omega arith
tiles_bytes a b (h ∷ hs) t = let r = tiles_bytes (a + h.nbytes) b hs t.1 in omega arith

-- a state is one of five
pub five : (P : ℕ → Type 0) → P 0 → P 1 → P 2 → P 3 → P 4 → (s : ℕ) → s ≤ 4 → P s
five P a b c d e zero l = a
five P a b c d e (suc zero) l = b
five P a b c d e (suc (suc zero)) l = c
five P a b c d e (suc (suc (suc zero))) l = d
five P a b c d e (suc (suc (suc (suc zero)))) l = e
five P a b c d e (suc (suc (suc (suc (suc n))))) l = absurd (omega arith)

abbrev sum5 : List Head → ℕ
sum5 hs = total_of FREE hs + total_of RESERVED hs + total_of ACTIVATING hs + total_of ACTIVE hs + total_of FREEING hs

pub states_bytes : (a b : ℕ) (hs : List Head) → Tiles a hs b → sum5 hs ≡ bytes_of hs
unfolding bytes_of those
states_bytes a b [] t = refl
states_bytes a b (h ∷ hs) t =
    let r = states_bytes (a + h.nbytes) b hs t.1 in
    five (λ s. sum5 (record { at = h.at; nbytes = h.nbytes; state = s } ∷ hs) ≡ h.nbytes + bytes_of hs)
    (omega arith)
    (omega arith)
    (omega arith)
    (omega arith)
    (omega arith)
    h.state
    t.0.known

pub totals_add : TotalsAdd
unfolding verdict if_sound
totals_add img fuse e =
    let n = length img in
    let m = mem img in
    let s = check_sound n m fuse e in
    let t = pool_tiles n m s in
    let v : verdict n m Check ≡ granted 0 [] = rw (s.pool, s.sound) in
    rw v (states_bytes clumps_at n (walk n m) t ∙ omega (arith, tiles_bytes clumps_at n (walk n m) t))
