-- What lies in the image: the clumps of a sound pool, each whole, and a valid target. By the laws of the walk. Assumes nothing.
use Rattle.std.specs.Prelude.{ℕ, ◌+◌, ◌%◌, ◌<◌, ◌≤◌, ◌≡◌, refl, Bool, true, false, ◌||◌, List, leb}
use Rattle.std.proofs.Common.{ap, arith, eqb-true, leb-true}
use Rattle.std.proofs.Math.Option.{some}
use Rattle.rules.specs.Lists.{seek, any, Each}
use Rattle.rules.specs.Words.{Mem, word_bytes, word_values}
use Rattle.rules.specs.Pages.{clumps_at, static_at, static_end, unit}
use Rattle.rules.specs.Clumps.{Head, body_of, end_of, is_live, least_clump, Tiles, walk}
use Rattle.rules.specs.Sound.{is_even, lies, holds_word, is_valid}
use Rattle.laws.specs.Searches.{and_both, any_each, seek_each, each_map}
use Rattle.laws.specs.Tilings.{tiles_le}
use Rattle.laws.specs.Walking.{Placed, all_placed}
use Rattle.laws.specs.Pools.{Sound, pool_length, pool_tiles}

-- a valid target is divisible by 8
pub valid_even : (hs : List Head) (t : ℕ) → is_valid hs t ≡ true → t % word_bytes ≡ 0
unfolding is_valid
valid_even hs t e = eqb-true (t % word_bytes) 0 (and_both (is_even t) _ e).0

-- and lies in the image
pub valid_in : (n : ℕ) (m : Mem) (t : ℕ) → Tiles clumps_at (walk n m) n → is_valid (walk n m) t ≡ true → (t % word_bytes ≡ 0) × (t + word_bytes ≤ n)
unfolding is_valid
valid_in n m t tiles e =
    (valid_even (walk n m) t e, go (lies static_at static_end t) refl (and_both (is_even t) _ e).1 (tiles_le clumps_at n (walk n m) tiles))
  where
    go : (b : Bool) → lies static_at static_end t ≡ b → (b || any (holds_word t) (walk n m)) ≡ true → clumps_at ≤ n → t + word_bytes ≤ n
    go true q f l = let c = leb-true (t + word_bytes) static_end (and_both (leb static_at t) _ q).1 in omega arith
    go false q f l =
        let x = any_each (Placed n m) (holds_word t) (walk n m) f (all_placed n m tiles) in
        let c = leb-true (t + word_bytes) (end_of x.0) (and_both (leb (body_of x.0) t) _ (and_both (is_live x.0) _ x.1).1).1 in
        let s : x.0.nbytes ≡ m x.0.at = ap (λ (k : Head). k.nbytes) x.2.head_is in
        omega (arith, x.2.inside.room)

-- the clump h lies in an image of n bytes, which a word can count
pub record Lies (n : ℕ) (h : Head) : Type 0 where
  pub even : h.at % unit ≡ 0
  pub least : least_clump ≤ h.nbytes
  pub room : h.at + h.nbytes ≤ n
  pub small : n < word_values

pub placed-lies : (n : ℕ) (m : Mem) (h : Head) → n < word_values → Placed n m h → Lies n h
placed-lies n m h l p =
    let s : h.nbytes ≡ m h.at = ap (λ (k : Head). k.nbytes) p.head_is in
    record { even = p.inside.even; least = omega (arith, p.inside.least); room = omega (arith, p.inside.room); small = l }

-- so do those of a sound pool
pub all_lie : (n : ℕ) (m : Mem) → Sound n m → Each (Lies n) (walk n m)
all_lie n m s =
    let u = (pool_length n m s.pool).most in
    each_map (Placed n m) (Lies n) (walk n m) (λ h p. placed-lies n m h (omega arith) p) (all_placed n m (pool_tiles n m s))

pub found-lies : (n : ℕ) (m : Mem) → Sound n m → (p : Head → Bool) (h : Head) → seek p (walk n m) ≡ some h → Lies n h
found-lies n m s p h e = seek_each (Lies n) p (walk n m) h e (all_lie n m s)
