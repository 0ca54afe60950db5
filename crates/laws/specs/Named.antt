-- What a request leaves alone: a byte of the static area or of a live body lies in no header and in no FREE clump, and the laws of landing
-- tell that the stores of a request go into headers, into the FREE clump that is split, or to the words that the list names.
-- Assumes nothing.
use Rattle.std.specs.Prelude.{ℕ, ◌+◌, ◌<◌, ◌≤◌, ◌≡◌, refl, Bool, true, false, ◌&&◌, ◌⊎◌, List, [], ◌∷◌, leb, ltb, length, get_or, take}
use Rattle.std.proofs.Common.{subst, ◌∙◌, inl, inr, ⊎_elim, arith, leb-false, ltb-false}
use Rattle.rules.specs.declared.Request.{Request}
use Rattle.rules.specs.Lists.{any, Each}
use Rattle.rules.specs.Words.{Image, Mem, Store, put, carry, mem, word_bytes}
use Rattle.rules.specs.Clumps.{Head, entries_by, is_live, walk}
use Rattle.rules.specs.Answers.{stores_of}
use Rattle.rules.specs.Requests.{Numbers, verdict, stores_for}
use Rattle.rules.specs.Reading.{within, in_part}
use Rattle.rules.specs.Traces.{is_create}
use Rattle.rules.specs.Demands.{OnlyNamed, carried_out}
use Rattle.word.specs.Memory.{byte_put}
use Rattle.laws.specs.Searches.{differ, or_neither, each_map, each_take}
use Rattle.laws.specs.Pools.{pool_tiles}
use Rattle.laws.specs.Bodies.{Off, off}
use Rattle.laws.specs.Taking.{Takes}
use Rattle.laws.specs.Landing.{lands}

-- a store that does not reach the byte at i
abbrev pub Miss : ℕ → Store → Type 0
Miss i s = (i < s.to) ⊎ (s.to + word_bytes ≤ i)

pub carry_miss : (img : Image) (st : List Store) (i : ℕ) → Each (Miss i) st → get_or (carry img st) i 0 ≡ get_or img i 0
unfolding carry
carry_miss img [] i f = refl
carry_miss img (s ∷ st) i f = carry_miss (put img s.to s.word) st i f.1 ∙ byte_put img s.to s.word i f.0

-- what a clump takes does not reach a byte outside its header, and outside all of it if it is FREE
takes_miss : (N : Type 0) (i : ℕ) (h : Head) → Off i h → Takes (Miss i) N h
takes_miss N i h x =
    record {
      header = λ o w a b e f. ⊎_elim (λ y. inl (omega arith)) (λ y. inr (omega arith)) x.header;
      whole = λ z o w a b e f. ⊎_elim (λ y. inl (omega arith)) (λ y. inr (omega arith)) (x.whole z);
    }

-- a byte outside a range lies before it or behind it
pub outside : (a b i : ℕ) → within a b i ≡ false → (i < a) ⊎ (b ≤ i)
outside a b i = go (leb a i) refl
  where
    go : (c : Bool) → leb a i ≡ c → (c && ltb i b) ≡ false → (i < a) ⊎ (b ≤ i)
    go true q f = inr (ltb-false i b f)
    go false q f = inl (leb-false a i q)

-- a store that no list names
named_miss : (i : ℕ) (st : List Store) → any (λ s. within s.to (s.to + word_bytes) i) st ≡ false → Each (Miss i) st
unfolding any
named_miss i [] e = tt
named_miss i (s ∷ st) e =
    let x = or_neither (within s.to (s.to + word_bytes) i) _ e in (outside s.to (s.to + word_bytes) i x.0, named_miss i st x.1)

misses :
    (n i : ℕ) (m : Mem) (q : Request)
    → is_create q ≡ false
    → in_part is_live (walk n m) i ≡ true
    → any (λ s. within s.to (s.to + word_bytes) i) (carried_out m (walk n m) q) ≡ false
    → Each (Miss i) (stores_of (verdict n m q))
misses n i m q c p u =
    lands (Miss i) (Numbers q) n m (λ s. each_map (Off i) (Takes (Miss i) (Numbers q)) (walk n m) (takes_miss (Numbers q) i) (off n i (walk n m) (pool_tiles n m s) p)) q (λ z. z)
    (λ e r. differ e c)
    (λ c h s e v. named_miss i (entries_by c m h.at) (subst (λ (st : List Store). any (λ x. within x.to (x.to + word_bytes) i) st ≡ false) e u))

pub only-named : OnlyNamed
only-named img q fuse i c p u = carry_miss img (take fuse (stores_for img q)) i (each_take (Miss i) fuse (stores_for img q) (misses (length img) i (mem img) q c p u))
