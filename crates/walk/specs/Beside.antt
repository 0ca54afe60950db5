-- The bytes of a FREE clump that stands at an offset, as they are read of the clumps beside another: a law for each way out, by the tests of
-- where a clump stands; and of the next clump, which is read where the other ends, that they are its own. Assumes nothing.
use Rattle.std.specs.Prelude.{ℕ, ◌+◌, ◌%◌, ◌<◌, ◌≤◌, ◌≡◌, refl, Bool, true, false, cond, eqb, ltb}
use Rattle.std.proofs.Common.{sym, ap, arith, eq-eqb, ne_eqb, eqb-true, lt-ltb, le-ltb, ltb-true}
use Rattle.std.proofs.Math.Option.{Option, some, none}
use Rattle.std.proofs.lemmas.Bool.{eqb-false}
use Rattle.rules.specs.Lists.{seek}
use Rattle.rules.specs.Words.{Mem, word_bytes, word_values}
use Rattle.rules.specs.Pages.{clumps_at}
use Rattle.rules.specs.Clumps.{Head, head, header_bytes, end_of, state_at, FREE, Tiles, walk, next_of}
use Rattle.rules.specs.Stores.{if_free, free_after}
use Rattle.laws.specs.Searches.{seek_split}
use Rattle.laws.specs.Walking.{seek_placed}
use Rattle.laws.specs.Lying.{Lies, placed-lies}
use Rattle.laws.specs.Neighbours.{if_free_lem, clump_at, stands_header, next_at}

-- nbytes of a clump, 0 where there is none
abbrev pub size_of : Option Head → ℕ
size_of none = 0
size_of (some k) = k.nbytes

-- nbytes of the clump that stands at an offset, if it is FREE
abbrev pub free_bytes : ℕ → Mem → ℕ → ℕ
free_bytes n m at = size_of (if_free (clump_at n m at))

-- the bytes at the two marks, and those of a clump that stands at an offset, by its state
module _ (n : ℕ) (m : Mem) (a : ℕ) where
  pub bytes_below : a ≡ 0 → 0 ≡ free_bytes n m a
  bytes_below e = rw (eq-eqb a 0 e)

  pub bytes_end : (a ≡ 0 → ⊥) → n ≤ a → 0 ≡ free_bytes n m a
  bytes_end z l = rw (ne_eqb a 0 z, le-ltb a n l)

  pub bytes_live : (a ≡ 0 → ⊥) → a < n → (m (state_at a) ≡ FREE → ⊥) → 0 ≡ free_bytes n m a
  bytes_live z l d = rw (ne_eqb a 0 z, lt-ltb a n l, ne_eqb (m (state_at a)) FREE d)

  pub bytes_free : (a ≡ 0 → ⊥) → a < n → m (state_at a) ≡ FREE → m a ≡ free_bytes n m a
  bytes_free z l e = rw (ne_eqb a 0 z, lt-ltb a n l, eq-eqb (m (state_at a)) FREE e)

-- and where there are bytes one stands
pub free_stands : (n : ℕ) (m : Mem) (a : ℕ) → (free_bytes n m a ≡ 0 → ⊥) → (a ≡ 0 → ⊥) × (a < n)
free_stands n m a f = go (eqb a 0) refl (ltb a n) refl f
  where
    go :
        (b : Bool)
        → eqb a 0 ≡ b
        → (d : Bool)
        → ltb a n ≡ d
        → (size_of (if_free (cond b none (cond d (some (head m a)) none))) ≡ 0 → ⊥)
        → (a ≡ 0 → ⊥) × (a < n)
    go true p d q f = absurd (f refl)
    go false p true q f = (eqb-false a 0 p, ltb-true a n q)
    go false p false q f = absurd (f refl)

-- the bytes of one that may be there, where each that is there ends in time
pub size_room : (x : Option Head) (a b : ℕ) → a ≤ b → ((k : Head) → x ≡ some k → a + k.nbytes ≤ b) → a + size_of x ≤ b
size_room none a b l f = omega arith
size_room (some k) a b l f = f k refl

-- the next clump of the one at h, which was found
module _ (n : ℕ) (m : Mem) (h : ℕ) (tiles : Tiles clumps_at (walk n m) n) (p : Head → Bool) (found : seek p (walk n m) ≡ some (head m h)) where
  abbrev this : Head
  this = head m h

  abbrev stands : next_of (walk n m) this ≡ clump_at n m (end_of this)
  stands = next_at n m tiles p this found

  -- what is read are its bytes, if it is FREE
  pub next_bytes : free_bytes n m (h + m h) ≡ size_of (free_after (walk n m) (head m h))
  next_bytes = ap (λ (o : Option Head). size_of (if_free o)) (sym stands)

  -- its header lies in the image
  pub next_header : (h + m h ≡ 0 → ⊥) → h + m h < n → ((h + m h) % word_bytes ≡ 0) × (h + m h + header_bytes ≤ n)
  next_header = stands_header n m tiles _ (end_of this) stands

  -- and the clump, if it is FREE
  pub next_free_lem : n < word_values → (k : Head) → free_after (walk n m) (head m h) ≡ some k → Lies n k × (k.at ≡ h + m h)
  next_free_lem l k e =
      let x = (if_free_lem (next_of (walk n m) this) k e).0 in
      (placed-lies n m k l (seek_placed n m _ k tiles x), eqb-true k.at (end_of this) (seek_split _ (walk n m) k x).passes)

  pub next_room : n < word_values → h + m h ≤ n → h + m h + free_bytes n m (h + m h) ≤ n
  next_room l r =
      rw next_bytes
      (size_room (free_after (walk n m) (head m h)) (h + m h) n r (λ k q. let x = next_free_lem l k q in omega (arith, x.0.room, x.1)))
