-- No answer depends on a body byte, on the static area, on pages 0 and 8192, on the list of a FREE clump or on the value of an empty
-- entry. By induction on the steps of the walk: as far as the first fault no clump before a header reaches it, and none behind hides a byte
-- below its own list, so that images which differ in hidden bytes alone agree on what is read there; the rest is Verdicts. Assumes nothing.
use Prim.Native.Nat.{ℕ, zero, suc, ◌+◌, ◌*◌, ◌<◌, ◌≤◌}
use Rattle.std.specs.Prelude.{◌≡◌, refl, Bool, true, false, ◌&&◌, ◌||◌, List, [], ◌∷◌, ltb, length, get_or}
use Rattle.std.proofs.Common.{subst, arith, le-ltb}
use Rattle.std.proofs.lemmas.Bool.{not-true}
use Rattle.rules.specs.Lists.{any}
use Rattle.rules.specs.Words.{Image, Mem, mem, word_bytes}
use Rattle.rules.specs.Pages.{header_at, clumps_at}
use Rattle.rules.specs.Clumps.{Head, head, body_of, end_of, state_at, header_bytes, least_clump, is_free, is_live, is_empty, list_start, slots, value_at, heads_from, walk}
use Rattle.rules.specs.Reading.{clumps_of, within, in_free_list, in_empty_value, hidden}
use Rattle.rules.specs.Demands.{Alike, Independent}
use Rattle.word.specs.Memory.{mem-same}
use Rattle.laws.specs.Searches.{differ, none_any}
use Rattle.laws.specs.Walks.{faultless}
use Rattle.laws.specs.Bodies.{inside}
use Rattle.laws.specs.Headers.{AgreePage, SameSlot, each_slot}
use Rattle.laws.specs.Verdicts.{SameHeader, SameUpTo, verdict-same, totals_same}

-- a byte that does not lie in a up to b, or only where a test fails
pub not_within : (a b j : ℕ) → (a ≤ j → j < b → ⊥) → within a b j ≡ false
not_within a b j f = go (within a b j) refl
  where
    go : (t : Bool) → within a b j ≡ t → t ≡ false
    go true e = let r = inside a b j e in absurd (f r.0 r.1)
    go false e = refl

test-within : (t : Bool) (a b j : ℕ) → (t ≡ true → a ≤ j → j < b → ⊥) → (t && within a b j) ≡ false
test-within true a b j f = not_within a b j (f refl)
test-within false a b j f = refl

-- the byte at j is hidden in the clump h, or in none of hs
abbrev covers : Mem → Head → ℕ → Bool
covers m h j = within (body_of h) (end_of h) j || in_free_list h j || in_empty_value m h j

abbrev Bare : Mem → ℕ → List Head → Type 0
Bare m j hs = any (λ h. covers m h j) hs ≡ false

bare_cons : (m : Mem) (j : ℕ) (h : Head) (hs : List Head) → covers m h j ≡ false → Bare m j hs → Bare m j (h ∷ hs)
unfolding any
bare_cons m j h hs e b = rw (e, b)

-- the byte at j lies in no value of an empty entry of the clump at a
abbrev NoValue : Mem → ℕ → ℕ → Type 0
NoValue m a j = (k : ℕ) → 1 ≤ k → k ≤ 3 → let s = a + 16 * k in is_empty m s ≡ true → value_at s ≤ j → j < value_at s + word_bytes → ⊥

uncovered :
    (m : Mem) (h : Head) (j : ℕ)
    → (body_of h ≤ j → j < end_of h → ⊥)
    → (is_free h ≡ true → list_start h.at ≤ j → j < body_of h → ⊥)
    → NoValue m h.at j
    → covers m h j ≡ false
uncovered m h j b l v =
    let p : ℕ → Bool = (λ s. is_empty m s && within (value_at s) (value_at s + word_bytes) j) in
    rw (
      not_within (body_of h) (end_of h) j b,
      test-within (is_free h) (list_start h.at) (body_of h) j l,
      none_any p (slots h.at) (each_slot (λ s. p s ≡ false) h.at (λ k y z. test-within _ _ _ j (v k y z))),
    )

-- a byte below the list, and one from the end on
below_covers : (m : Mem) (h : Head) (j : ℕ) → j < list_start h.at → covers m h j ≡ false
below_covers m h j l = uncovered m h j (λ p q. omega arith) (λ f p q. omega arith) (λ k y z f p q. omega arith)

above_covers : (m : Mem) (h : Head) (j : ℕ) → header_bytes ≤ h.nbytes → end_of h ≤ j → covers m h j ≡ false
above_covers m h j l u = uncovered m h j (λ p q. omega arith) (λ f p q. omega arith) (λ k y z f p q. omega arith)

-- a byte below the first list
bare_below : (k n a : ℕ) (m : Mem) (j : ℕ) → j < list_start a → Bare m j (heads_from k n m a)
unfolding heads_from any
bare_below zero n a m j l = refl
bare_below (suc k) n a m j l = go (ltb a n) (bare_below k n (a + m a) m j (omega arith))
  where
    go : (t : Bool) → Bare m j (heads_from k n m (a + m a)) → Bare m j (elim t [ true ↦ head m a ∷ heads_from k n m (a + m a) | false ↦ [] ])
    go true b = bare_cons m j (head m a) (heads_from k n m (a + m a)) (below_covers m (head m a) j l) b
    go false b = refl

-- from a on, x has every byte of img that hs does not hide
abbrev SameBytes : Image → Image → ℕ → List Head → Type 0
SameBytes img x a hs = (j : ℕ) → a ≤ j → Bare (mem img) j hs → get_or x j 0 ≡ get_or img j 0

-- the header at a, with clumps behind it that hide nothing below their own list
module _ (img x : Image) (a : ℕ) (hs : List Head) where
  abbrev m : Mem
  m = mem img

  abbrev h : Head
  h = head m a

  -- of the word at o each byte is as P says
  abbrev EachByte : (ℕ → Type 0) → ℕ → Type 0
  EachByte P o = (j : ℕ) → o ≤ j → j < o + word_bytes → P j

  module _ (same : SameBytes img x a (h ∷ hs)) (behind : (j : ℕ) → j < list_start (a + m a) → Bare m j hs) where
    word : (o : ℕ) → a ≤ o → o + word_bytes ≤ list_start (a + m a) → EachByte (λ j. covers m h j ≡ false) o → mem x o ≡ m o
    word o l u c = mem-same x img o (λ j p q. same j (omega arith) (bare_cons m j h hs (c j p q) (behind j (omega arith))))

    front : (o : ℕ) → a ≤ o → o + word_bytes ≤ list_start a → mem x o ≡ m o
    front o l u = word o l (omega arith) (λ j p q. below_covers m h j (omega arith))

    -- the list of a clump that is large enough, and live
    module _ (large : least_clump ≤ m a) (live : is_live h ≡ true) where
      listed : (o : ℕ) → list_start a ≤ o → o + word_bytes ≤ a + header_bytes → EachByte (NoValue m a) o → mem x o ≡ m o
      listed o l u v =
          word o (omega arith) (omega arith)
          (λ j p q. uncovered m h j (λ y z. omega arith) (λ f. differ f (not-true _ live)) (v j p q))

      -- no target lies in a value, and a value in no other
      slot : (k : ℕ) → 1 ≤ k → k ≤ 3 → SameSlot m (mem x) (a + 16 * k)
      slot k l u = (
        listed (a + 16 * k) (omega arith) (omega arith) (λ j p q i y z e f g. omega arith),
        λ w. listed (value_at (a + 16 * k)) (omega arith) (omega arith)
            (λ j p q i y z e f g. let d : i ≡ k = omega arith in
            differ (subst (λ (t : ℕ). is_empty m (a + 16 * t) ≡ true) d e) (not-true _ w)),
      )

    header_same : SameHeader m (mem x) h
    header_same =
        record {
          size = front a (omega arith) (omega arith);
          state = front (state_at a) (omega arith) (omega arith);
          list = λ large live. each_slot (SameSlot m (mem x)) a (slot large live);
        }

-- every header as far as the first fault: the clumps before it end where it stands or below
module _ (img x : Image) (n : ℕ) where
  abbrev w : Mem
  w = mem img

  abbrev walked : ℕ → ℕ → List Head
  walked k a = heads_from k n w a

  up_to : (k a : ℕ) → SameBytes img x a (walked k a) → SameUpTo n w (mem x) (walked k a)
  unfolding heads_from
  up_to zero a e = tt
  up_to (suc k) a e = go (ltb a n) e (up_to k b)
    where
      b : ℕ
      b = a + w a

      go :
          (t : Bool)
          → SameBytes img x a (elim t [ true ↦ head w a ∷ walked k b | false ↦ [] ])
          → (SameBytes img x b (walked k b) → SameUpTo n w (mem x) (walked k b))
          → SameUpTo n w (mem x) (elim t [ true ↦ head w a ∷ walked k b | false ↦ [] ])
      go true e ih = (
        header_same img x a (walked k b) e (bare_below k n b w),
        λ f. let l = (faultless n a w f).sits.least in
            ih (λ j p c. e j (omega arith) (bare_cons w j (head w a) (walked k b) (above_covers w (head w a) j (omega arith) p) c)),
      )
      go false e ih = tt

-- a byte from the header page on that no clump hides is seen
seen : (m : Mem) (hs : List Head) (j : ℕ) → header_at ≤ j → Bare m j hs → hidden m hs j ≡ false
unfolding hidden
seen m hs j l b = rw (le-ltb j header_at l, b)

module _ (img x : Image) (a : Alike img x) where
  same_bytes : SameBytes img x header_at (clumps_of img)
  same_bytes j l b = a.same j (seen (mem img) (clumps_of img) j l b)

  pub agree_page : AgreePage (mem img) (mem x)
  unfolding walk
  agree_page o l u =
      mem-same x img o (λ j p q. same_bytes j (omega arith) (bare_below (length img) (length img) clumps_at (mem img) j (omega arith)))

  pub agree_up_to : SameUpTo (length img) (mem img) (mem x) (clumps_of img)
  unfolding walk
  agree_up_to = up_to img x (length img) (length img) clumps_at (λ j l b. same_bytes j (omega arith) b)

pub independent : Independent
independent img x q fuse a =
    let v = verdict-same (length img) (mem img) (mem x) (agree_page img x a) (agree_up_to img x a) in
    let t = totals_same (length img) (mem img) (mem x) (agree_page img x a) (agree_up_to img x a) in
    (rw (a.long, v q), rw a.long t)
