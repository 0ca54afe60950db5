-- How many stores a request makes that is done: as many as its grant has, since the fuse has lasted. By the lists as the rules spell
-- them. Assumes nothing.
use Rattle.std.specs.Prelude.{ℕ, suc, ◌+◌, ◌-◌, ◌*◌, ◌<◌, ◌≤◌, ◌≡◌, refl, Bool, true, false, cond, List, [], ◌∷◌, ◌++◌, length}
use Rattle.std.proofs.Common.{sym, ap, subst, ◌∙◌, arith, length-append, le-leb}
use Rattle.std.proofs.Math.Option.{Option, some, none}
use Rattle.std.proofs.lemmas.List.{length-map}
use Rattle.std.proofs.lemmas.Bool.{lt-leb}
use Rattle.rules.specs.declared.Request.{Request}
use Rattle.rules.specs.declared.Request.TheVariants.{Create, Reserve, ReserveUncleared, Grow, Onactive, Onfree, Withdraw, Activate, Free, Check, Recover}
use Rattle.rules.specs.Lists.{those}
use Rattle.rules.specs.Words.{Image, Mem, Store, store, mem}
use Rattle.rules.specs.Pages.{clumps_at}
use Rattle.rules.specs.Clumps.{Head, body_of, end_of, has_state, slots, Choice, used, marked, unmarked, slots_by, entry, entries_by, FREE, ACTIVE, FREEING}
use Rattle.rules.specs.Answers.{flush_of, answer_at}
use Rattle.rules.specs.Stores.{set_state, least_rest, cleared_words, reserve_stores, split_count, whole_count, finish_activating, finish_freeing, activate_stores, has_marked, drop_stores, emptying, join_before, join_both, free_after, free_before, free_stores, need_of, fits, grow_stores, split_grow_count, whole_grow_count}
use Rattle.rules.specs.Reading.{clumps_of}
use Rattle.rules.specs.Demands.{CountedReserve, CountedGrow, Counted, Counts}
use Rattle.laws.specs.Searches.{differ, those_few}
use Rattle.laws.specs.Choices.{marked_apart}
use Rattle.laws.specs.Tilings.{found-again}
use Rattle.laws.specs.Pools.{pool_tiles}
use Rattle.laws.specs.Lying.{Lies, found-lies}
use Rattle.laws.specs.Clearing.{length-zeros}
use Rattle.laws.specs.Founding.{create_length}
use Rattle.laws.specs.Granted.{Reserves, Enlarges, enough, takes, Grows, Grants, done_granted}

-- a clump that is split, and one that is used whole
split_length : (clears : Bool) (need : ℕ) (h : Head) → need + least_rest ≤ h.nbytes → length (reserve_stores clears need h) ≡ split_count + cleared_words clears need
unfolding reserve_stores
split_length clears need h l = rw (le-leb least_rest (h.nbytes - need) (omega arith)) (simp (length-append, length-zeros) (omega arith))

whole_length : (clears : Bool) (need : ℕ) (h : Head) → h.nbytes < need + least_rest → length (reserve_stores clears need h) ≡ whole_count + cleared_words clears h.nbytes
unfolding reserve_stores
whole_length clears need h l = rw (lt-leb least_rest (h.nbytes - need) (omega arith)) (simp (length-append, length-zeros) (omega arith))

-- a list carried out: its entries are three at most
entries_few : (c : Choice) (m : Mem) (a : ℕ) → length (entries_by c m a) ≤ 3
entries_few c m a = omega (arith, length-map (slots_by c m a) (entry m), those_few (λ s. c (m s)) (slots a))

-- the unmarked and the marked ones together too
both_kinds : (m : Mem) (sl : List ℕ) → length (those (λ s. unmarked (m s)) sl) + length (those (λ s. marked (m s)) sl) ≤ length sl
unfolding those
both_kinds m [] = omega arith
both_kinds m (s ∷ sl) = go (unmarked (m s)) refl (marked (m s)) refl (both_kinds m sl)
  where
    go :
        (a : Bool)
        → unmarked (m s) ≡ a
        → (b : Bool)
        → marked (m s) ≡ b
        → length (those (λ t. unmarked (m t)) sl) + length (those (λ t. marked (m t)) sl) ≤ length sl
        → length (cond a (s ∷ those (λ t. unmarked (m t)) sl) (those (λ t. unmarked (m t)) sl))
        + length (cond b (s ∷ those (λ t. marked (m t)) sl) (those (λ t. marked (m t)) sl))
        ≤ suc (length sl)
    go true p true q l = differ p (marked_apart (m s) q)
    go true p false q l = omega arith
    go false p true q l = omega arith
    go false p false q l = omega arith

activate-length : (m : Mem) (h : Head) → length (activate_stores m h) ≡ 2 + 2 * length (entries_by unmarked m h.at)
unfolding activate_stores finish_activating
activate-length m h = simp (length-append, length-map) (omega arith)

drop_few : (m : Mem) (h : Head) → length (drop_stores m h) ≤ 5
unfolding drop_stores finish_freeing
drop_few m h = go (has_state ACTIVE h) (has_marked m h)
  where
    go :
        (b c : Bool)
        → length
        (cond b
        (set_state h FREEING ∷ (entries_by used m h.at ++ (set_state h FREE ∷ [])))
        (cond c (emptying (slots_by unmarked m h.at) ++ (set_state h FREEING ∷ (entries_by marked m h.at ++ (set_state h FREE ∷ [])))) (set_state h FREE ∷ [])))
        ≤ 5
    go true c = omega (arith, length-append (entries_by used m h.at) (set_state h FREE ∷ []), entries_few used m h.at)
    go false true =
        let u = slots_by unmarked m h.at in
        let v = slots_by marked m h.at in
        omega (
          arith,
          length-append (emptying u) (set_state h FREEING ∷ (entries_by marked m h.at ++ (set_state h FREE ∷ []))),
          length-append (entries_by marked m h.at) (set_state h FREE ∷ []),
          length-map u (λ s. store s 0),
          length-map v (entry m),
          both_kinds m (slots h.at),
        )
    go false false = omega arith

-- the joins
before_few : (o : Option Head) (s : ℕ) → length (join_before o s) ≤ 1
before_few none s = omega arith
before_few (some k) s = omega arith

both_few : (o p : Option Head) (h : Head) → length (join_both o p h) ≤ 2
both_few none p h = omega (arith, before_few p h.nbytes)
both_few (some k) p h = omega (arith, before_few p (h.nbytes + k.nbytes))

free_few : (m : Mem) (hs : List Head) (h : Head) → length (free_stores m hs h) ≤ 7
unfolding free_stores
free_few m hs h =
    omega (arith, length-append (drop_stores m h) (join_both (free_after hs h) (free_before hs h) h), drop_few m h, both_few (free_after hs h) (free_before hs h) h)

-- the answer of a grant: of reserve, in either form, and of each request
reserve-counted : (clears : Bool) (img : Image) (size p : ℕ) (st : List Store) → Reserves clears (length img) (mem img) size p st → CountedReserve clears img size (answer_at false p (length st) (flush_of st))
reserve-counted clears img size p st g = (
  g.clump,
  rw g.place (found-again clumps_at (length img) (clumps_of img) (pool_tiles (length img) (mem img) g.sound) (fits (need_of size)) g.clump g.found),
  (λ l. ap length g.stores ∙ split_length clears (need_of size) g.clump l),
  (λ l. ap length g.stores ∙ whole_length clears (need_of size) g.clump l),
)

-- of grow
grow-counted : (img : Image) (o size p : ℕ) (st : List Store) → Grows (length img) (mem img) o size p st → CountedGrow img o size (answer_at false p (length st) (flush_of st))
grow-counted img o size p st g = let x = go g.stores in (g.clump, g.found, x.0, x.1)
  where
    l : Lies (length img) g.clump
    l = found-lies (length img) (mem img) g.sound _ g.clump g.found

    go :
        {st : List Store}
        → Enlarges (length img) (mem img) size g.clump st
        → (body_of g.clump + size ≤ end_of g.clump → length st ≡ 0)
        × (end_of g.clump < body_of g.clump + size
        → (next : Head)
        × (free_after (clumps_of img) g.clump ≡ some next)
        × (need_of size + least_rest ≤ g.clump.nbytes + next.nbytes → length st ≡ split_grow_count)
        × (g.clump.nbytes + next.nbytes < need_of size + least_rest → length st ≡ whole_grow_count))
    go (enough e) = ((λ i. refl), (λ i. absurd (omega (arith, e, l.least))))
    go (takes next e f r) = (
      (λ i. absurd (omega (arith, e))),
      (λ i. (next, f, (λ d. unfold grow_stores in rw (le-leb least_rest (g.clump.nbytes + next.nbytes - need_of size) (omega arith))), (λ d. unfold grow_stores in rw (lt-leb least_rest (g.clump.nbytes + next.nbytes - need_of size) (omega arith))))),
    )

counted : (img : Image) (q : Request) (p : ℕ) (st : List Store) → Grants (length img) (mem img) q p st → Counted img q (answer_at false p (length st) (flush_of st))
counted img Create p st e = ap length e ∙ create_length (length img)
counted img (Reserve size) p st g = reserve-counted true img size p st g
counted img (ReserveUncleared size) p st g = reserve-counted false img size p st g
counted img (Grow o size) p st g = grow-counted img o size p st g
counted img (Onactive o t v) p st g = ap length g.1
counted img (Onfree o t v) p st g = ap length g.1
counted img (Withdraw o) p st g = ap length g.2
counted img (Activate o) p st g =
    let e = activate-length (mem img) g.0 in
    rw (g.1, g.2, g.3) (e, omega (arith, e, entries_few unmarked (mem img) g.0.at))
counted img (Free o) p st g = rw g.2 (free_few (mem img) (clumps_of img) g.0)
counted img Check p st e = ap length e
counted img Recover p st e = tt

pub counts : Counts
counts img q fuse d =
    let g = done_granted img q fuse d in
    subst (Counted img q) (sym g.answer_is_lem) (counted img q g.place g.stores g.grants)
