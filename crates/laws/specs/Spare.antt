-- The pages at 0 and 8192 are never written: every store of every request lies in the static area or from the header page on. By the laws
-- of landing, with what create's list and valid targets tell. Assumes nothing.
use Rattle.std.specs.Prelude.{ℕ, ◌+◌, ◌<◌, ◌≤◌, ◌≡◌, refl, Bool, true, false, ◌||◌, ◌⊎◌, length, take}
use Rattle.std.proofs.Common.{inl, inr, ⊎_elim, arith}
use Rattle.rules.specs.declared.Request.{Request}
use Rattle.rules.specs.Lists.{Each}
use Rattle.rules.specs.Words.{Mem, Store, mem, word_bytes}
use Rattle.rules.specs.Pages.{clumps_at, static_at, static_end, header_at}
use Rattle.rules.specs.Clumps.{Head, end_of, Choice, target_at, slots_by, entry, entries_by, walk}
use Rattle.rules.specs.Sound.{is_valid, all_valid}
use Rattle.rules.specs.Answers.{stores_of}
use Rattle.rules.specs.Requests.{Numbers, verdict, stores_for}
use Rattle.rules.specs.Reading.{within, in_spare_page}
use Rattle.rules.specs.Demands.{NeverWritten}
use Rattle.laws.specs.Searches.{all_each, each_map, each_take, map_each}
use Rattle.laws.specs.Tilings.{tiles_in}
use Rattle.laws.specs.Pools.{Sound, right_length_lem, pool_tiles}
use Rattle.laws.specs.Bodies.{inside, valid_area}
use Rattle.laws.specs.Taking.{Takes}
use Rattle.laws.specs.Founding.{create_each}
use Rattle.laws.specs.Landing.{lands}
use Rattle.laws.specs.Named.{Miss, carry_miss}

-- a store outside the two pages
abbrev Apart : Store → Type 0
Apart s = ((static_at ≤ s.to) × (s.to + word_bytes ≤ static_end)) ⊎ (header_at ≤ s.to)

takes_apart : (N : Type 0) (h : Head) → clumps_at ≤ h.at → Takes Apart N h
takes_apart N h l = record { header = λ o w a b e f. inr (omega arith); whole = λ z o w a b e f. inr (omega arith) }

entries_apart : (n : ℕ) (m : Mem) → Sound n m → (c : Choice) (h : Head) → all_valid c m (walk n m) h ≡ true → Each Apart (entries_by c m h.at)
unfolding all_valid
entries_apart n m s c h v =
    map_each Apart (entry m) (slots_by c m h.at)
    (each_map (λ o. is_valid (walk n m) (target_at m o) ≡ true) (λ o. Apart (entry m o)) (slots_by c m h.at)
    (λ o e. ⊎_elim (λ x. inl x) (λ x. inr (omega arith)) (valid_area n (target_at m o) (walk n m) (pool_tiles n m s) e))
    (all_each (λ o. is_valid (walk n m) (target_at m o)) (slots_by c m h.at) v))

apart : (n : ℕ) (m : Mem) (q : Request) → Each Apart (stores_of (verdict n m q))
apart n m q =
    lands Apart (Numbers q) n m
    (λ s. each_map (λ h. (clumps_at ≤ h.at) × (h.at < n) × (end_of h ≤ n)) (Takes Apart (Numbers q)) (walk n m) (λ h l. takes_apart (Numbers q) h l.0) (tiles_in clumps_at n (walk n m) (pool_tiles n m s)))
    q (λ z. z)
    (λ c r. create_each Apart n (right_length_lem n r) (λ o w p e u. ⊎_elim (λ x. inl x) (λ x. inr x.0) p))
    (λ c h s e. entries_apart n m s c h)

-- such a store misses the bytes of the two pages
spare_miss : (i : ℕ) (s : Store) → in_spare_page i ≡ true → Apart s → Miss i s
unfolding in_spare_page
spare_miss i s e a = go (within 0 static_at i) refl e
  where
    go : (b : Bool) → within 0 static_at i ≡ b → (b || within static_end header_at i) ≡ true → Miss i s
    go true q f =
        let x = (inside 0 static_at i q).1 in
        inl (⊎_elim (λ y. omega (arith, y.0)) (λ y. omega arith) a)
    go false q f =
        let x = inside static_end header_at i f in
        ⊎_elim (λ y. inr (omega (arith, y.1))) (λ y. inl (omega arith)) a

pub never_written : NeverWritten
never_written img q fuse i e =
    carry_miss img (take fuse (stores_for img q)) i
    (each_take (Miss i) fuse (stores_for img q) (each_map Apart (Miss i) (stores_for img q) (λ s. spare_miss i s e) (apart (length img) (mem img) q)))
