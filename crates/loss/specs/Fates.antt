-- What recovery will make of a pool, whatever its state: the clumps that it keeps, with their lists, and the words of those places that
-- no header covers. By the laws of choices in lists. Assumes nothing.
use Rattle.std.specs.Prelude.{ℕ, ◌<◌, ◌≤◌, ◌≡◌, refl, Bool, true, false, ◌||◌, ◌⊎◌, List, [], ◌∷◌, ◌++◌, map}
use Rattle.std.proofs.Common.{sym, ap, ◌∙◌}
use Rattle.rules.specs.Lists.{those, any, Each}
use Rattle.rules.specs.Words.{Mem, after}
use Rattle.rules.specs.Pages.{static_at, static_end}
use Rattle.rules.specs.Clumps.{Head, body_of, end_of, has_state, slots, due, waiting, entries_by, ACTIVATING, ACTIVE}
use Rattle.rules.specs.Reading.{Listed, listing, within}
use Rattle.laws.specs.Searches.{those_each, those_nil, those_append, each_map}
use Rattle.laws.specs.Choices.{chooses_waiting}
use Rattle.laws.specs.Headers.{AgreeAt, Agree, slots_same, listing-same, map_same}
use Rattle.laws.specs.Stored.{with_state}
use Rattle.loss.specs.Held.{Held, Idle, Pends}

-- a clump that recovery keeps is ACTIVE then, and has the entries that wait: its list, or the marked ones if that is being carried out
pub record Kept : Type 0 where
  pub clump : Head
  pub list : List Listed

abbrev pub is_kept : Head → Bool
is_kept h = has_state ACTIVE h || has_state ACTIVATING h

abbrev pub kept_of : Mem → Head → Kept
kept_of m h = record { clump = with_state h ACTIVE; list = listing (waiting h) m h.at }

unfoldable pub fates : Mem → List Head → List Kept
fates m hs = map (kept_of m) (those is_kept hs)

map-append : {A B : Type 0} (f : A → B) (xs ys : List A) → map f (xs ++ ys) ≡ map f xs ++ map f ys
map-append f [] ys = refl
map-append f (x ∷ xs) ys = ap (λ l. f x ∷ l) (map-append f xs ys)

pub fates-append : (m : Mem) (p q : List Head) → fates m (p ++ q) ≡ fates m p ++ fates m q
unfolding fates
fates-append m p q = ap (map (kept_of m)) (those_append is_kept p q) ∙ map-append (kept_of m) (those is_kept p) (those is_kept q)

-- none is kept of clumps that recovery frees
pub fates_none : (m : Mem) (hs : List Head) → Each (λ h. is_kept h ≡ false) hs → fates m hs ≡ []
unfolding fates
fates_none m hs e = ap (map (kept_of m)) (those_nil is_kept hs e)

pub fates_one : (m : Mem) (h : Head) → is_kept h ≡ true → fates m (h ∷ []) ≡ kept_of m h ∷ []
unfolding fates those
fates_one m h e = rw e

-- the list tells what is kept of a clump
pub fates_list : (m x : Mem) (h : Head) → listing (waiting h) x h.at ≡ listing (waiting h) m h.at → fates x (h ∷ []) ≡ fates m (h ∷ [])
fates_list m x h e = go (is_kept h) refl
  where
    go : (b : Bool) → is_kept h ≡ b → fates x (h ∷ []) ≡ fates m (h ∷ [])
    go true q = fates_one x h q ∙ ap (λ (l : List Listed). record { clump = with_state h ACTIVE; list = l } ∷ []) e ∙ sym (fates_one m h q)
    go false q = fates_none x (h ∷ []) (q, tt) ∙ sym (fates_none m (h ∷ []) (q, tt))

-- the headers tell what is kept
pub fates_agree : (m x : Mem) (hs : List Head) → Agree m x hs → fates x hs ≡ fates m hs
unfolding fates
fates_agree m x hs g =
    map_same (kept_of x) (kept_of m) (those is_kept hs)
    (each_map (λ h. AgreeAt m x h.at) (λ h. kept_of x h ≡ kept_of m h) (those is_kept hs)
    (λ h f. ap (λ (l : List Listed). record { clump = with_state h ACTIVE; list = l }) (listing-same (waiting h) (chooses_waiting h) m x (slots h.at) (slots_same m x h.at f)))
    (those_each (λ h. AgreeAt m x h.at) is_kept hs g))

-- the word at o is none of a header's
abbrev pub Beyond : ℕ → Head → Type 0
Beyond o h = (o < h.at) ⊎ (body_of h ≤ o)

-- the words that the reading has, if k is what is kept: the static area and the bodies
abbrev pub Owned : List Kept → ℕ → Type 0
Owned k o = (within static_at static_end o || any (λ c. within (body_of c.clump) (end_of c.clump) o) k) ≡ true

-- recovery will keep k, and at each place of D leave the word that w has
module _ (n : ℕ) (D : ℕ → Type 0) (k : List Kept) (w : Mem) where
  -- at rest
  pub record Rests (m : Mem) (hs : List Head) : Type 0 where
    pub held : Held n m hs
    pub idle : Each Idle hs
    pub kept : fates m hs ≡ k
    pub words : (o : ℕ) → D o → m o ≡ w o
    pub off : (o : ℕ) → D o → Each (Beyond o) hs

  -- with a list being carried out
  pub record Leads (m : Mem) (p : List Head) (h : Head) (q : List Head) : Type 0 where
    pub pends : Pends n m p h q
    pub kept : fates m (p ++ (h ∷ q)) ≡ k
    pub words : (o : ℕ) → D o → after m (entries_by (due h) m h.at) o ≡ w o
    pub off : (o : ℕ) → D o → Each (Beyond o) (p ++ (h ∷ q))

  pub data Led (m : Mem) : Type 0 where
    resting : {hs : List Head} → Rests m hs → Led m
    leading : {p : List Head} {h : Head} {q : List Head} → Leads m p h q → Led m
