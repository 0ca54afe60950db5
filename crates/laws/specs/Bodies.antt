-- What lies in the static area or in a live body lies in no header and in no FREE clump, where the clumps tile: a byte of the owner's, and
-- the first byte of a valid target. By induction on the clumps. Assumes nothing.
use Rattle.std.specs.Prelude.{ℕ, ◌+◌, ◌<◌, ◌≤◌, ◌≡◌, Bool, ◌&&◌, ◌||◌, ◌⊎◌, leb}
use Rattle.std.proofs.Math.Path.{refl}
use Rattle.std.proofs.Math.Bool.{true, false}
use Rattle.std.proofs.Common.{inl, leb-true, ltb-true}
use Rattle.std.proofs.Math.Logic.{inr}
use mathlib.Core.List.{List, [], ◌∷◌}
use native.Mathlib.Omega.{arith}
use Rattle.std.proofs.lemmas.Bool.{not-true}
use Rattle.rules.specs.Lists.{any, Each}
use Rattle.rules.specs.Words.{word_bytes}
use Rattle.rules.specs.Pages.{clumps_at, static_at, static_end}
use Rattle.rules.specs.Clumps.{Head, body_of, end_of, is_free, is_live, Tiles}
use Rattle.rules.specs.Sound.{is_even, lies, holds_word, is_valid}
use Rattle.rules.specs.Reading.{within, in_part}
use Rattle.laws.specs.Searches.{differ, and_both, any_each}
use Rattle.laws.specs.Tilings.{tiles_in}

-- a byte within a range
pub inside : (a b i : ℕ) → within a b i ≡ true → (a ≤ i) × (i < b)
inside a b i w = let x = and_both (leb a i) _ w in (leb-true a i x.0, ltb-true i b x.1)

-- the byte at i lies outside the header of h, and outside all of h if h is FREE
pub record Off (i : ℕ) (h : Head) : Type 0 where
  pub header : (i < h.at) ⊎ (body_of h ≤ i)
  pub whole : is_free h ≡ true → (i < h.at) ⊎ (end_of h ≤ i)

-- a byte below the clumps
off_below : (a b i : ℕ) (hs : List Head) → Tiles a hs b → i < a → Each (Off i) hs
off_below a b i [] t l = tt
off_below a b i (h ∷ hs) t l =
    let e = t.0.here in
    (record { header = inl (omega arith); whole = λ z. inl (omega arith) }, off_below (a + h.nbytes) b i hs t.1 (omega arith))

-- a byte of the body of a clump that passes the test p, which live clumps with the byte in their body alone pass
module _ (i : ℕ) (p : Head → Bool) (is-in : (h : Head) → p h ≡ true → (is_free h ≡ false) × (body_of h ≤ i) × (i < end_of h)) where
  body_above : (a b : ℕ) (hs : List Head) → Tiles a hs b → any p hs ≡ true → a ≤ i
  unfolding any
  body_above a b [] t e = differ e refl
  body_above a b (h ∷ hs) t e = go (p h) refl e (body_above (a + h.nbytes) b hs t.1)
    where
      go : (c : Bool) → p h ≡ c → (c || any p hs) ≡ true → (any p hs ≡ true → a + h.nbytes ≤ i) → a ≤ i
      go true q f ih = let x = is-in h q in omega (arith, t.0.here, x.1)
      go false q f ih = let x = ih f in omega arith

  off_body : (a b : ℕ) (hs : List Head) → Tiles a hs b → any p hs ≡ true → Each (Off i) hs
  unfolding any
  off_body a b [] t e = tt
  off_body a b (h ∷ hs) t e = go (p h) refl e (off_body (a + h.nbytes) b hs t.1)
    where
      go : (c : Bool) → p h ≡ c → (c || any p hs) ≡ true → (any p hs ≡ true → Each (Off i) hs) → Each (Off i) (h ∷ hs)
      go true q f ih =
          let x = is-in h q in
          (record { header = inr x.1; whole = λ z. differ z x.0 }, off_below (a + h.nbytes) b i hs t.1 (omega (arith, t.0.here, x.2)))
      go false q f ih =
          let x = body_above (a + h.nbytes) b hs t.1 f in
          let e = t.0.here in
          let l = t.0.least in
          (record { header = inr (omega arith); whole = λ z. inr (omega arith) }, ih f)

-- a byte of the static area or of a live body
pub off : (n i : ℕ) (hs : List Head) → Tiles clumps_at hs n → in_part is_live hs i ≡ true → Each (Off i) hs
unfolding in_part
off n i hs t e = go (within static_at static_end i) refl e
  where
    body_in : (h : Head) → (is_live h && within (body_of h) (end_of h) i) ≡ true → (is_free h ≡ false) × (body_of h ≤ i) × (i < end_of h)
    body_in h f =
        let x = and_both (is_live h) _ f in
        let y = inside (body_of h) (end_of h) i x.1 in
        (not-true _ x.0, y.0, y.1)

    go : (c : Bool) → within static_at static_end i ≡ c → (c || any (λ h. is_live h && within (body_of h) (end_of h) i) hs) ≡ true → Each (Off i) hs
    go true q f = off_below clumps_at n i hs t (omega (arith, (inside static_at static_end i q).1))
    go false q f = off_body i _ body_in clumps_at n hs t f

-- the first byte of a valid target
pub valid_off : (n t : ℕ) (hs : List Head) → Tiles clumps_at hs n → is_valid hs t ≡ true → Each (Off t) hs
unfolding is_valid
valid_off n t hs s e = go (lies static_at static_end t) refl (and_both (is_even t) _ e).1
  where
    word_in : (h : Head) → holds_word t h ≡ true → (is_free h ≡ false) × (body_of h ≤ t) × (t < end_of h)
    word_in h f =
        let x = and_both (is_live h) _ f in
        let y = and_both (leb (body_of h) t) _ x.1 in
        (not-true _ x.0, leb-true (body_of h) t y.0, omega (arith, leb-true (t + word_bytes) (end_of h) y.1))

    go : (c : Bool) → lies static_at static_end t ≡ c → (c || any (holds_word t) hs) ≡ true → Each (Off t) hs
    go true q f = let x = leb-true (t + word_bytes) static_end (and_both (leb static_at t) _ q).1 in off_below clumps_at n t hs s (omega arith)
    go false q f = off_body t (holds_word t) word_in clumps_at n hs s f

-- a valid target lies in the static area or from the clumps on
pub valid_area : (n t : ℕ) (hs : List Head) → Tiles clumps_at hs n → is_valid hs t ≡ true → ((static_at ≤ t) × (t + word_bytes ≤ static_end)) ⊎ (clumps_at ≤ t)
unfolding is_valid
valid_area n t hs s e = go (lies static_at static_end t) refl (and_both (is_even t) _ e).1
  where
    go : (b : Bool) → lies static_at static_end t ≡ b → (b || any (holds_word t) hs) ≡ true → ((static_at ≤ t) × (t + word_bytes ≤ static_end)) ⊎ (clumps_at ≤ t)
    go true q f = let x = and_both (leb static_at t) _ q in inl (leb-true static_at t x.0, leb-true (t + word_bytes) static_end x.1)
    go false q f =
        let y = any_each (λ h. (clumps_at ≤ h.at) × (h.at < n) × (end_of h ≤ n)) (holds_word t) hs f (tiles_in clumps_at n hs s) in
        let l = leb-true (body_of y.0) t (and_both (leb (body_of y.0) t) _ (and_both (is_live y.0) _ y.1).1).0 in
        inr (omega (arith, y.2.0))
