-- The state of the one walk, what each clump makes of it, and what it is to be after any beginning of the clumps (`After`). A second way
-- to compute what 01 says of the whole walk: the definitions to believe are the rules', and `Beginnings` and `Told` prove that it is what
-- they say. It goes by one clump at a time, its header and its fault. Assumes nothing.
use Rattle.std.specs.Prelude.{ℕ, ◌+◌, ◌≤◌, ◌≡◌, Bool, false, cond, ◌&&◌, ◌||◌, List, [], ◌∷◌, eqb, Option, Some, None, is_some}
use Rattle.rules.specs.declared.Totals.{Totals}
use Rattle.rules.specs.Lists.{seek}
use Rattle.rules.specs.Words.{Mem}
use Rattle.rules.specs.Clumps.{Head, has_state, FREE, RESERVED, ACTIVATING, ACTIVE, FREEING, is_free, is_pending}
use Rattle.rules.specs.Sound.{fault_of, clump_fault, second_fault, touching}
use Rattle.rules.specs.Answers.{granted, totals_for}
use Rattle.seen.specs.declared.Seen.{Seen}
use Rattle.seen.specs.Forms.{judged_of, place_of, offset_in}

-- each of the totals is at most k
abbrev pub UpTo : ℕ → Totals → Type 0
UpTo k t = (t.free ≤ k) × (t.reserved ≤ k) × (t.activating ≤ k) × (t.active ≤ k) × (t.freeing ≤ k)

-- before the first clump
abbrev pub nothing : Seen
nothing =
    record {
      fault = None;
      first = None;
      second = None;
      free = false;
      touched = false;
      totals = record { free = 0; reserved = 0; activating = 0; active = 0; freeing = 0 };
    }

-- with a fault, at that place
abbrev pub broken : ℕ → ℕ → Seen → Seen
broken f a s =
    record {
      fault = Some (record { place = a; number = f });
      first = s.first;
      second = s.second;
      free = s.free;
      touched = s.touched;
      totals = s.totals;
    }

-- the total of a state with one clump more, and the five
abbrev pub plus : ℕ → ℕ → Head → ℕ
plus k s h = cond (has_state s h) (k + h.nbytes) k

abbrev pub each_total : (ℕ → ℕ → ℕ) → Totals → Totals
each_total f t =
    record {
      free = f t.free FREE;
      reserved = f t.reserved RESERVED;
      activating = f t.activating ACTIVATING;
      active = f t.active ACTIVE;
      freeing = f t.freeing FREEING;
    }

abbrev pub added : Totals → Head → Totals
added t h = each_total (λ k s. plus k s h) t

-- the clump that is marked: the one that was, or this one
abbrev pub marked : Option ℕ → Head → Option ℕ
marked None h = Some h.at
marked (Some a) h = Some a

-- with one clump more, but for the totals: an unfinished one is the first, the second or one more; a FREE one touches a FREE one before it
abbrev pub met : Seen → Head → Seen
met s h =
    record {
      fault = s.fault;
      first = cond (is_pending h) (marked s.first h) s.first;
      second = cond (is_pending h && is_some s.first) (marked s.second h) s.second;
      free = is_free h;
      touched = (is_free h && s.free) || s.touched;
      totals = s.totals;
    }

-- with one clump more that has none of the faults 1 to 3
abbrev pub more : Seen → Head → Seen
more s h =
    let t = met s h in
    record { fault = t.fault; first = t.first; second = t.second; free = t.free; touched = t.touched; totals = added s.totals h }

-- with one clump more and its fault, 0 for none
abbrev pub takes : ℕ → Seen → Head → Seen
takes f s h = cond (eqb f 0) (more s h) (broken f h.at s)

-- with the clumps hs, up to the first that is at fault
unfoldable pub seen_from : ℕ → Mem → Seen → List Head → Seen
seen_from n m s [] = s
seen_from n m s (h ∷ hs) = cond (is_some s.fault) s (seen_from n m (takes (fault_of n m h) s h) hs)

-- what is seen of the clumps hs, a beginning of the walk or the whole
abbrev pub seen : ℕ → Mem → List Head → Seen
seen n m hs = seen_from n m nothing hs

-- the clumps before the first that has one of the faults 1 to 3
unfoldable pub until_fault : ℕ → Mem → List Head → List Head
until_fault n m [] = []
until_fault n m (h ∷ hs) = cond (eqb (fault_of n m h) 0) (h ∷ until_fault n m hs) []

-- whether a FREE clump came last; before the first clump, as told
abbrev pub ends_free : Bool → List Head → Bool
ends_free b [] = b
ends_free b (h ∷ hs) = ends_free (is_free h) hs

-- what is seen of clumps that have no fault: the first and the second that are unfinished, whether a FREE one came last, whether two
-- touched, and the five totals
pub record Sees (hs : List Head) (s : Seen) : Type 0 where
  pub first_is : s.first ≡ offset_in (seek is_pending hs)
  pub second_is : s.second ≡ place_of (second_fault hs)
  pub free_is : s.free ≡ ends_free false hs
  pub touched_is : s.touched ≡ touching hs
  pub totals_are : s.totals ≡ totals_for (granted 0 []) hs

-- the state after the clumps hs: the first of the faults 1 to 3 with its place, and what is seen of the clumps before it
pub record After (n : ℕ) (m : Mem) (hs : List Head) (s : Seen) : Type 0 where
  pub fault_is : s.fault ≡ judged_of (clump_fault n m hs)
  pub sees : Sees (until_fault n m hs) s
