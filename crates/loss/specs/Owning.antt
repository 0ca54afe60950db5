-- The words that the reading has lie in no header and in no FREE clump; so every sound pool leads to what it will itself be recovered
-- to. By the law that a byte of the static area or of a live body lies in no header. Assumes nothing.
use Rattle.std.specs.Prelude.{ℕ, ◌≡◌, refl, Bool, true, false, cond, ◌&&◌, ◌||◌, List, [], ◌∷◌, ◌++◌, map}
use Rattle.std.proofs.Math.Bool.{or-true}
use Rattle.rules.specs.Lists.{those, any, Each}
use Rattle.rules.specs.Words.{Mem, after}
use Rattle.rules.specs.Pages.{clumps_at, static_at, static_end}
use Rattle.rules.specs.Clumps.{Head, body_of, end_of, is_live, due, entries_by, Tiles, walk}
use Rattle.rules.specs.Reading.{within, in_part}
use Rattle.laws.specs.Searches.{each_map}
use Rattle.laws.specs.Pools.{Sound}
use Rattle.laws.specs.Verdicts.{either_live}
use Rattle.laws.specs.Bodies.{Off, off}
use Rattle.loss.specs.Held.{Held, Idle, Pends, Stands, rests, pends, idle_sound, pends_sound, sound_stands}
use Rattle.loss.specs.Fates.{Kept, is_kept, kept_of, fates, Beyond, Owned, Rests, Leads, Led, resting, leading}

-- the byte at o lies in a live body
abbrev in_body : ℕ → Head → Bool
in_body o h = is_live h && within (body_of h) (end_of h) o

-- a kept clump is live
kept-live : (h : Head) → is_kept h ≡ true → is_live h ≡ true
kept-live h e = either_live 2 1 h e

-- so that a kept body is a live one's
kept_body : (m : Mem) (hs : List Head) (o : ℕ) → any (λ c. within (body_of c.clump) (end_of c.clump) o) (fates m hs) ≡ true → any (in_body o) hs ≡ true
unfolding fates those any
kept_body m [] o e = e
kept_body m (h ∷ hs) o e = go (is_kept h) refl e (kept_body m hs o)
  where
    go :
        (b : Bool)
        → is_kept h ≡ b
        → any (λ c. within (body_of c.clump) (end_of c.clump) o) (map (kept_of m) (cond b (h ∷ those is_kept hs) (those is_kept hs))) ≡ true
        → (any (λ c. within (body_of c.clump) (end_of c.clump) o) (fates m hs) ≡ true → any (in_body o) hs ≡ true)
        → (in_body o h || any (in_body o) hs) ≡ true
    go true q f ih = rw (kept-live h q) (or_either (within (body_of h) (end_of h) o) f ih)
      where
        or_either : (c : Bool) {d b : Bool} → (c || d) ≡ true → (d ≡ true → b ≡ true) → (c || b) ≡ true
        or_either true f g = refl
        or_either false f g = g f
    go false q f ih = rw (ih f) (or-true (in_body o h))

pub owned_off : (n : ℕ) (m : Mem) (hs : List Head) (o : ℕ) → Tiles clumps_at hs n → Owned (fates m hs) o → Each (Off o) hs
unfolding in_part
owned_off n m hs o t e = off n o hs t (go (within static_at static_end o) e)
  where
    go : (b : Bool) → (b || any (λ c. within (body_of c.clump) (end_of c.clump) o) (fates m hs)) ≡ true → (b || any (in_body o) hs) ≡ true
    go true f = refl
    go false f = kept_body m hs o f

pub owned_beyond : (n : ℕ) (m : Mem) (hs : List Head) → Tiles clumps_at hs n → (o : ℕ) → Owned (fates m hs) o → Each (Beyond o) hs
owned_beyond n m hs t o e = each_map (Off o) (Beyond o) hs (λ h f. f.header) (owned_off n m hs o t e)

-- a pool at rest is as it is
pub rests_as : (n : ℕ) (D : ℕ → Type 0) (m : Mem) (hs : List Head) → Held n m hs → Each Idle hs → ((o : ℕ) → D o → Each (Beyond o) hs) → Rests n D (fates m hs) m m hs
rests_as n D m hs f i g = record { held = f; idle = i; kept = refl; words = λ o d. refl; off = g }

pub leads_as : (n : ℕ) (D : ℕ → Type 0) (m : Mem) (p : List Head) (h : Head) (q : List Head) → Pends n m p h q → ((o : ℕ) → D o → Each (Beyond o) (p ++ (h ∷ q))) → Leads n D (fates m (p ++ (h ∷ q))) (after m (entries_by (due h) m h.at)) m p h q
leads_as n D m p h q f g = record { pends = f; kept = refl; words = λ o d. refl; off = g }

-- recovery makes the same of both
pub record SameFate (n : ℕ) (m x : Mem) : Type 0 where
  pub kept : List Kept
  pub words : Mem
  pub one : Led n (Owned kept) kept words m
  pub other : Led n (Owned kept) kept words x

pub led_sound : (n : ℕ) (D : ℕ → Type 0) (k : List Kept) (w m : Mem) → Led n D k w m → Sound n m
led_sound n D k w m (resting {hs} f) = idle_sound n m hs f.held f.idle
led_sound n D k w m (leading {p} {h} {q} f) = pends_sound n m p h q f.pends

pub own_fate : (n : ℕ) (m : Mem) → Sound n m → SameFate n m m
own_fate n m s = go (walk n m) (sound_stands n m s)
  where
    go : (hs : List Head) → Stands n m hs → SameFate n m m
    go hs (rests f i) =
        let r = rests_as n (Owned (fates m hs)) m hs f i (owned_beyond n m hs f.tiles) in
        record { kept = fates m hs; words = m; one = resting r; other = resting r }
    go hs (pends {p} {h} {q} f) =
        let r = leads_as n (Owned (fates m (p ++ (h ∷ q)))) m p h q f (owned_beyond n m (p ++ (h ∷ q)) f.held.tiles) in
        record { kept = fates m (p ++ (h ∷ q)); words = after m (entries_by (due h) m h.at); one = leading r; other = leading r }
