-- The course of a request on a settled pool: every cut is sound, the end is settled, and a cut is recovered to what the rule says. By
-- what its stores come to, request by request. Assumes nothing.
use Rattle.std.specs.Prelude.{ℕ, zero, suc, ◌+◌, ◌<◌, ◌≤◌, ◌≡◌, refl, Bool, true, false, cond, List, [], ◌∷◌, ◌++◌, ltb, length, take}
use Rattle.std.proofs.Common.{sym, ap, subst, arith, length-append, take_all, ltb-true, ltb-false}
use Rattle.rules.specs.Lists.{any, Each}
use Rattle.rules.specs.Words.{Mem, Store, upd, after}
use Rattle.rules.specs.Clumps.{Head, is_pending, walk}
use Rattle.rules.specs.Sound.{touching, unsettled}
use Rattle.word.specs.Memory.{after-append}
use Rattle.laws.specs.Searches.{none_any, or_neither, any_none}
use Rattle.laws.specs.Pools.{Sound}
use Rattle.loss.specs.Cuts.{every_start, every_cut}
use Rattle.loss.specs.Held.{Held, Idle, held_walk, idle_sound}
use Rattle.loss.specs.Fates.{Kept, fates, Beyond, Owned, Rests, Led, resting, leading}
use Rattle.loss.specs.Owning.{owned_beyond, SameFate, led_sound}
use Rattle.loss.proofs.Recovering.{Comes}

-- the stores st of a request on m; `through` tells of each number of them whether so many are enough to carry it through
pub record Course (n : ℕ) (m : Mem) (through : ℕ → Bool) (st : List Store) : Type 0 where
  pub sounds : (j : ℕ) → Sound n (after m (take j st))
  pub calm : unsettled (walk n (after m st)) ≡ false
  pub same : (j : ℕ) → 0 < j → j < length st → SameFate n (cond (through j) (after m st) m) (after m (take j st))

-- it is never carried through
abbrev pub never : ℕ → Bool
never j = false

-- at rest, with no two FREE clumps touching
pub held_calm : (n : ℕ) (m : Mem) (hs : List Head) → Held n m hs → Each Idle hs → touching hs ≡ false → unsettled (walk n m) ≡ false
unfolding unsettled
held_calm n m hs f i t = rw (held_walk n m hs f, none_any is_pending hs i, t)

pub calm_idle : (hs : List Head) → unsettled hs ≡ false → Each Idle hs × (touching hs ≡ false)
unfolding unsettled
calm_idle hs e = let x = or_neither (any is_pending hs) (touching hs) e in (any_none is_pending hs x.0, x.1)

-- no store
pub course_none : (n : ℕ) (m : Mem) (b : ℕ → Bool) → Sound n m → unsettled (walk n m) ≡ false → Course n m b []
unfolding after
course_none n m b s u = record { sounds = go; calm = u; same = λ j l k. absurd (omega arith) }
  where
    go : (j : ℕ) → Sound n (after m (take j []))
    go zero = s
    go (suc j) = s

-- stores that come to rest
pub course_comes : (n : ℕ) (k : List Kept) (w m : Mem) (b : ℕ → Bool) (st : List Store) (hs : List Head) → Comes n (Owned k) k w m st hs → touching hs ≡ false → Course n m b st
course_comes n k w m b st hs c t =
    let P = Led n (Owned k) k w in
    record {
      sounds = λ j. led_sound n (Owned k) k w _ (every_cut P m st j c.every);
      calm = held_calm n (after m st) hs c.ends.held c.ends.idle t;
      same = λ j l u. record { kept = k; words = w; one = go (b j); other = every_cut P m st j c.every };
    }
  where
    go : (b : Bool) → Led n (Owned k) k w (cond b (after m st) m)
    go true = resting c.ends
    go false = every_start (Led n (Owned k) k w) m st c.every

-- a beginning of two lists: of the first, or all of it and a beginning of the second
take_short : (a b : List Store) (j : ℕ) → j ≤ length a → take j (a ++ b) ≡ take j a
take_short a b zero l = refl
take_short [] b (suc j) l = absurd (omega arith)
take_short (s ∷ a) b (suc j) l = ap (λ (st : List Store). s ∷ st) (take_short a b j (omega arith))

take_long : (a : List Store) (s : Store) (b : List Store) (j : ℕ) → length a < j → (i : ℕ) × (take j (a ++ (s ∷ b)) ≡ a ++ (s ∷ take i b))
take_long a s b zero l = absurd (omega arith)
take_long [] s b (suc j) l = (j, refl)
take_long (t ∷ a) s b (suc j) l = let x = take_long a s b j (omega arith) in (x.0, ap (λ (st : List Store). t ∷ st) x.1)

-- the words that no header of hs covers
abbrev pub Outside : List Head → ℕ → Type 0
Outside hs o = Each (Beyond o) hs

-- stores on a pool at rest with the clumps hs, which carry out the entries es: the first t tell recovery nothing, the next one decides what
-- it keeps, and all of them bring the pool to rest
pub record Decides (n : ℕ) (m : Mem) (hs : List Head) (es st : List Store) (t : ℕ) : Type 0 where
  pub kept : List Kept
  pub words : Mem
  pub assigned : (o : ℕ) → Outside hs o → words o ≡ after m es o
  pub beyond : (o : ℕ) → Owned kept o → Outside hs o
  pub early : (j : ℕ) → j ≤ t → Led n (Outside hs) (fates m hs) m (after m (take j st))
  pub late : (j : ℕ) → t < j → Led n (Outside hs) kept words (after m (take j st))
  pub clumps : List Head
  pub ends : Rests n (Outside hs) kept words (after m st) clumps
  pub apart : touching clumps ≡ false

-- the stores a, then the one that decides
pub decides :
    (n : ℕ) (m : Mem) (hs : List Head) (es a : List Store) (s : Store) (st : List Store) (k : List Kept) (w : Mem) (gs : List Head)
    → Comes n (Outside hs) (fates m hs) m m a hs
    → ((o : ℕ) → Outside hs o → w o ≡ after m es o)
    → ((o : ℕ) → Owned k o → Outside hs o)
    → Comes n (Outside hs) k w (upd (after m a) s.to s.word) st gs
    → touching gs ≡ false
    → Decides n m hs es (a ++ (s ∷ st)) (length a)
unfolding after
decides n m hs es a s st k w gs c e b d t =
    record {
      kept = k;
      words = w;
      assigned = e;
      beyond = b;
      early = λ j l. subst (λ (x : List Store). Led n (Outside hs) (fates m hs) m (after m x)) (sym (take_short a (s ∷ st) j l)) (every_cut (Led n (Outside hs) (fates m hs) m) m a j c.every);
      late =
          λ j l. let x = take_long a s st j l in
          subst (λ (y : List Store). Led n (Outside hs) k w (after m y)) (sym x.1)
          (rw (after-append m a (s ∷ take x.0 st)) (every_cut (Led n (Outside hs) k w) (upd (after m a) s.to s.word) st x.0 d.every));
      clumps = gs;
      ends = rw (after-append m a (s ∷ st)) d.ends;
      apart = t;
    }

-- fewer words
rests_less : (n : ℕ) (D E : ℕ → Type 0) (k : List Kept) (w m : Mem) (hs : List Head) → ((o : ℕ) → E o → D o) → Rests n D k w m hs → Rests n E k w m hs
rests_less n D E k w m hs f r = record { held = r.held; idle = r.idle; kept = r.kept; words = λ o e. r.words o (f o e); off = λ o e. r.off o (f o e) }

led_less : (n : ℕ) (D E : ℕ → Type 0) (k : List Kept) (w m : Mem) → ((o : ℕ) → E o → D o) → Led n D k w m → Led n E k w m
led_less n D E k w m f (resting {hs} r) = resting (rests_less n D E k w m hs f r)
led_less n D E k w m f (leading {p} {h} {q} r) =
    leading {p = p} {h = h} {q = q} (record { pends = r.pends; kept = r.kept; words = λ o e. r.words o (f o e); off = λ o e. r.off o (f o e) })

-- so they take their course
pub course_decides : (n : ℕ) (m : Mem) (hs : List Head) (es st : List Store) (t : ℕ) → Held n m hs → Decides n m hs es st t → Course n m (ltb t) st
unfolding after
course_decides n m hs es st t f d = record { sounds = sounds; calm = held_calm n (after m st) d.clumps d.ends.held d.ends.idle d.apart; same = λ j l u. same j (ltb t j) refl }
  where
    early : (j : ℕ) → ltb t j ≡ false → Led n (Outside hs) (fates m hs) m (after m (take j st))
    early j e = d.early j (ltb-false t j e)

    late : (j : ℕ) → ltb t j ≡ true → Led n (Outside hs) d.kept d.words (after m (take j st))
    late j e = d.late j (ltb-true t j e)

    sounds : (j : ℕ) → Sound n (after m (take j st))
    sounds j = go (ltb t j) refl
      where
        go : (b : Bool) → ltb t j ≡ b → Sound n (after m (take j st))
        go true e = led_sound n (Outside hs) d.kept d.words _ (late j e)
        go false e = led_sound n (Outside hs) (fates m hs) m _ (early j e)

    same : (j : ℕ) (b : Bool) → ltb t j ≡ b → SameFate n (cond b (after m st) m) (after m (take j st))
    same j true e =
        let k = d.kept in
        let w = d.words in
        record { kept = k; words = w; one = resting (rests_less n (Outside hs) (Owned k) k w _ d.clumps d.beyond d.ends); other = led_less n (Outside hs) (Owned k) k w _ d.beyond (late j e) }
    same j false e =
        let k = fates m hs in
        let o = owned_beyond n m hs f.tiles in
        record { kept = k; words = m; one = led_less n (Outside hs) (Owned k) k m m o (d.early 0 (omega arith)); other = led_less n (Outside hs) (Owned k) k m _ o (early j e) }

-- stores that tell recovery nothing, then one
pub course_last :
    (n : ℕ) (k : List Kept) (w m : Mem) (st : List Store) (s : Store) (hs gs : List Head)
    → Comes n (Owned k) k w m st hs
    → Held n (upd (after m st) s.to s.word) gs
    → Each Idle gs
    → touching gs ≡ false
    → Course n m never (st ++ (s ∷ []))
unfolding after
course_last n k w m st s hs gs c e i t = record { sounds = sounds; calm = rw ends_are (held_calm n _ gs e i t); same = same }
  where
    ends_are : after m (st ++ (s ∷ [])) ≡ upd (after m st) s.to s.word
    ends_are = after-append m st (s ∷ [])

    long_is : length (st ++ (s ∷ [])) ≡ length st + 1
    long_is = length-append st (s ∷ [])

    early : (j : ℕ) → j ≤ length st → Led n (Owned k) k w (after m (take j (st ++ (s ∷ []))))
    early j l = rw (take_short st (s ∷ []) j l) (every_cut (Led n (Owned k) k w) m st j c.every)

    sounds : (j : ℕ) → Sound n (after m (take j (st ++ (s ∷ []))))
    sounds j = go (ltb (length st) j) refl
      where
        go : (b : Bool) → ltb (length st) j ≡ b → Sound n (after m (take j (st ++ (s ∷ []))))
        go true z = let l = ltb-true (length st) j z in rw (take_all j (st ++ (s ∷ [])) (omega (arith, long_is)), ends_are) (idle_sound n _ gs e i)
        go false z = led_sound n (Owned k) k w _ (early j (ltb-false (length st) j z))

    same : (j : ℕ) → 0 < j → j < length (st ++ (s ∷ [])) → SameFate n m (after m (take j (st ++ (s ∷ []))))
    same j l u = record { kept = k; words = w; one = every_start (Led n (Owned k) k w) m st c.every; other = early j (omega (arith, long_is)) }
