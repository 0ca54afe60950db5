-- What a clump takes: the stores into one header, into the FREE clump that is split or taken, and those that join clumps. What holds of every
-- store to a word of a header, and of a FREE clump, holds of each of them. By arithmetic on the offsets. Assumes nothing.
use Rattle.std.specs.Prelude.{ℕ, ◌+◌, ◌-◌, ◌%◌, ◌<◌, ◌≤◌, ◌≡◌, Bool, not, cond}
use Rattle.std.proofs.Math.Path.{refl}
use Rattle.std.proofs.Math.Bool.{true, false}
use Rattle.std.proofs.Math.Option.{Option, some, none}
use mathlib.Core.List.{List, [], ◌∷◌, ◌++◌}
use Rattle.std.proofs.Common.{arith}
use borrow.Author.Tests.{leb-true, not-false}
use Rattle.rules.specs.Lists.{Each}
use Rattle.rules.specs.Words.{Mem, Store, store, word_bytes, word_values}
use Rattle.rules.specs.Pages.{unit}
use Rattle.rules.specs.Clumps.{Head, header_bytes, body_of, end_of, is_free, slots, value_at, Choice, unmarked, slots_by, entries_by, state_at, FREE, RESERVED, ACTIVE, FREEING}
use Rattle.rules.specs.Answers.{stores_of, bad_target, bytes_of}
use Rattle.rules.specs.Stores.{emptying, set_state, least_rest, is_split, rest_header, clearing, taking, reserve_stores, grow_stores, last_of, finish_activating, finish_freeing, join_before, join_both, Run, join_run, joining}
use Rattle.rules.specs.Requests.{listed, withdrawn}
use Rattle.laws.specs.Searches.{those_each, each_append, each_map, map_each, last_each}
use Rattle.laws.specs.Behind.{behind_test}
use Rattle.laws.specs.Lying.{Lies}
use Rattle.laws.specs.Spans.{RunsTile, runs-le}
use Rattle.laws.specs.Clearing.{clearing_each}

-- P holds of a store to any word of a up to b; where N holds, the word stored is one of 64 bits
abbrev pub Into : (Store → Type 0) → Type 0 → ℕ → ℕ → Type 0
Into P N a b = (o w : ℕ) → a ≤ o → o + word_bytes ≤ b → o % word_bytes ≡ 0 → (N → w < word_values) → P (store o w)

-- of any in the header of h, and of any in h if it is FREE
pub record Takes (P : Store → Type 0) (N : Type 0) (h : Head) : Type 0 where
  pub header : Into P N h.at (body_of h)
  pub whole : is_free h ≡ true → Into P N h.at (end_of h)

-- an entry of the list of h stands at s
abbrev pub Slot : Head → ℕ → Type 0
Slot h s = (h.at ≤ s) × (value_at s + word_bytes ≤ body_of h) × (s % word_bytes ≡ 0)

pub slots_in : (n : ℕ) (h : Head) → Lies n h → Each (Slot h) (slots h.at)
slots_in n h l = let e = l.even in ((omega arith, omega arith, omega arith), ((omega arith, omega arith, omega arith), ((omega arith, omega arith, omega arith), tt)))

pub chosen_in : (n : ℕ) (c : Choice) (m : Mem) (h : Head) → Lies n h → Each (Slot h) (slots_by c m h.at)
chosen_in n c m h l = those_each (Slot h) (λ s. c (m s)) (slots h.at) (slots_in n h l)

module _ (P : Store → Type 0) (N : Type 0) (n : ℕ) where
  -- a clump in an image of n bytes
  abbrev pub In : Head → Type 0
  In h = Lies n h × Takes P N h

  -- its state, and its nbytes
  pub state_lands : (h : Head) → In h → (w : ℕ) → w ≤ FREEING → P (set_state h w)
  state_lands h t w k = t.1.header (state_at h.at) w (omega arith) (omega arith) (omega (arith, t.0.even)) (λ z. omega arith)

  pub size_lands : (h : Head) → In h → (w : ℕ) → w < word_values → P (store h.at w)
  size_lands h t w k = t.1.header h.at w (omega arith) (omega arith) (omega (arith, t.0.even)) (λ z. k)

  -- the targets of its list
  pub emptying_lands : (h : Head) → In h → (sl : List ℕ) → Each (Slot h) sl → Each P (emptying sl)
  emptying_lands h t sl f =
      map_each P (λ s. store s 0) sl
      (each_map (Slot h) (λ s. P (store s 0)) sl (λ s e. t.1.header s 0 e.0 (let l = e.1 in omega arith) e.2 (λ z. omega arith)) f)

  -- reserve, in the FREE clump that was found, in either form
  pub reserve_lands : (clears : Bool) (need : ℕ) (h : Head) → In h → is_free h ≡ true → need % unit ≡ 0 → header_bytes ≤ need → need ≤ h.nbytes → Each P (reserve_stores clears need h)
  unfolding reserve_stores
  reserve_lands clears need h t f e g l = go (is_split need h.nbytes) refl
    where
      emptied : Each P (emptying (slots h.at))
      emptied = emptying_lands h t (slots h.at) (slots_in n h t.0)

      -- the body of the first so many bytes, and the state
      taken : (size : ℕ) → header_bytes ≤ size → size ≤ h.nbytes → Each P (taking clears h.at size)
      taken size b u =
          let v = t.0.even in
          each_append P (clearing clears h.at size) (set_state h RESERVED ∷ [])
          (clearing_each P clears h.at size (omega arith) b (λ o i j d. t.1.whole f o 0 (omega arith) (omega arith) d (λ z. omega arith)))
          (state_lands h t RESERVED (omega arith), tt)

      go :
          (b : Bool)
          → is_split need h.nbytes ≡ b
          → Each P
          (cond b
          (rest_header (h.at + need) (h.nbytes - need) ++ (emptying (slots h.at) ++ (store h.at need ∷ taking clears h.at need)))
          (emptying (slots h.at) ++ taking clears h.at h.nbytes))
      go true q =
          let k = leb-true least_rest (h.nbytes - need) q in
          let v = t.0.even in
          let r = t.0.room in
          let u = t.0.small in (
            t.1.whole f _ _ (omega arith) (omega arith) (omega arith) (λ z. omega arith),
            (
              t.1.whole f _ _ (omega arith) (omega arith) (omega arith) (λ z. omega arith),
              each_append P (emptying (slots h.at)) (store h.at need ∷ taking clears h.at need) emptied
                  (size_lands h t need (omega arith), taken need g l),
            ),
          )
      go false q =
          each_append P (emptying (slots h.at)) (taking clears h.at h.nbytes) emptied
          (taken h.nbytes (omega arith) (omega arith))

  -- grow, into the FREE clump behind
  pub grow_lands :
      (need : ℕ) (h next : Head)
      → In h
      → In next
      → is_free next ≡ true
      → next.at ≡ end_of h
      → need % unit ≡ 0
      → h.nbytes ≤ need
      → need ≤ h.nbytes + next.nbytes
      → Each P (grow_stores need h.at (h.nbytes + next.nbytes))
  unfolding grow_stores
  grow_lands need h next t k f i e g l = go (is_split need (h.nbytes + next.nbytes)) refl
    where
      go :
          (b : Bool)
          → is_split need (h.nbytes + next.nbytes) ≡ b
          → Each P (cond b (rest_header (h.at + need) (h.nbytes + next.nbytes - need) ++ (store h.at need ∷ [])) (store h.at (h.nbytes + next.nbytes) ∷ []))
      go true q =
          let d = leb-true least_rest (h.nbytes + next.nbytes - need) q in
          let v = t.0.even in
          let r = k.0.room in
          let u = t.0.small in (
            k.1.whole f _ _ (omega arith) (omega arith) (omega arith) (λ z. omega arith),
            (k.1.whole f _ _ (omega arith) (omega arith) (omega arith) (λ z. omega arith), (size_lands h t need (omega arith), tt)),
          )
      go false q = let r = k.0.room in let u = t.0.small in (size_lands h t (h.nbytes + next.nbytes) (omega arith), tt)

  -- a new entry, and the last one emptied
  pub listed_lands : (h : Head) → In h → (b : Bool) (o : Option ℕ) (p t v : ℕ) → ((s : ℕ) → o ≡ some s → Slot h s) → (b ≡ true → N → t < word_values) → (N → v < word_values) → Each P (stores_of (listed b o p t v))
  listed_lands h i b none p t v f k l = tt
  listed_lands h i b (some s) p t v f k l =
      let x = f s refl in
      let a = x.0 in
      let c = x.1 in
      let e = x.2 in
      behind_test (Each P) tt (not b) bad_target _ (λ z. (i.1.header _ _ (omega arith) c (omega arith) l, (i.1.header _ _ a (omega arith) e (k (not-false _ z)), tt)))

  pub withdrawn_lands : (h : Head) → In h → (sl : List ℕ) (p : ℕ) → Each (Slot h) sl → Each P (stores_of (withdrawn sl p))
  withdrawn_lands h t [] p f = tt
  withdrawn_lands h t (s ∷ sl) p f = emptying_lands h t (last_of s sl ∷ []) (last_each (Slot h) s sl f.0 f.1, tt)

  -- a list carried out
  module _ (m : Mem) (h : Head) (t : In h) where
    pub activated_lands : Each P (entries_by unmarked m h.at) → Each P (finish_activating m h)
    unfolding finish_activating
    activated_lands e =
        let sl = slots_by unmarked m h.at in
        each_append P (entries_by unmarked m h.at) (emptying sl ++ (set_state h ACTIVE ∷ [])) e
        (each_append P (emptying sl) (set_state h ACTIVE ∷ []) (emptying_lands h t sl (chosen_in n unmarked m h t.0))
        (state_lands h t ACTIVE (omega arith), tt))

    pub freed_lands : (c : Choice) → Each P (entries_by c m h.at) → Each P (finish_freeing c m h)
    unfolding finish_freeing
    freed_lands c e = each_append P (entries_by c m h.at) (set_state h FREE ∷ []) e (state_lands h t FREE (omega arith), tt)

  -- free's joins: the sums are those of clumps that touch
  before_lands : (o : Option Head) (a s : ℕ) → a + s ≤ n → ((k : Head) → o ≡ some k → In k × (end_of k ≡ a)) → Each P (join_before o s)
  before_lands none a s l f = tt
  before_lands (some k) a s l f =
      let x = f k refl in
      let e = x.1 in
      (size_lands k x.0 (k.nbytes + s) (omega (arith, x.0.0.small)), tt)

  pub both_lands :
      (o p : Option Head) (h : Head)
      → In h
      → ((k : Head) → o ≡ some k → In k × (k.at ≡ end_of h))
      → ((k : Head) → p ≡ some k → In k × (end_of k ≡ h.at))
      → Each P (join_both o p h)
  both_lands none p h t f g = before_lands p h.at h.nbytes t.0.room g
  both_lands (some k) p h t f g =
      let x = f k refl in
      let e = x.1 in
      let r = x.0.0.room in
      (size_lands h t (h.nbytes + k.nbytes) (omega (arith, t.0.small)), before_lands p h.at (h.nbytes + k.nbytes) (omega arith) g)

  -- recovery's: a store for each run
  run_lands : (h : Head) (hs : List Head) (st : List Store) → P (store h.at (bytes_of (h ∷ hs))) → Each P st → Each P (join_run h hs st)
  run_lands h [] st e f = f
  run_lands h (g ∷ hs) st e f = (e, f)

  pub joining_lands : (a b : ℕ) (rs : List Run) → b < word_values → RunsTile a rs b → Each (λ r. (w : ℕ) → w < word_values → P (store r.first.at w)) rs → Each P (joining rs)
  unfolding joining
  joining_lands a b [] u t f = tt
  joining_lands a b (r ∷ rs) u t f =
      let x = runs-le (a + bytes_of (r.first ∷ r.more)) b rs t.1 in
      run_lands r.first r.more (joining rs) (f.0 _ (omega arith)) (joining_lands (a + bytes_of (r.first ∷ r.more)) b rs u t.1 f.1)
