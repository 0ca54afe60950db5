-- Each store of each request is one aligned word of the image, and stores a word. Create's list is spelled out; of the other requests
-- the laws of landing tell where the stores go. Assumes nothing.
use Rattle.std.specs.Prelude.{ℕ, ◌<◌, ◌≡◌, true, length}
use Rattle.std.proofs.Common.{⊎_elim, arith}
use Rattle.rules.specs.declared.Request.{Request}
use Rattle.rules.specs.Lists.{Each}
use Rattle.rules.specs.Words.{Mem, Aligned, mem, word_values}
use Rattle.rules.specs.Clumps.{Head, Choice, value_at, target_at, slots_by, entry, entries_by, walk}
use Rattle.rules.specs.Sound.{is_valid, all_valid}
use Rattle.rules.specs.Answers.{stores_of}
use Rattle.rules.specs.Stores.{create_stores}
use Rattle.rules.specs.Requests.{Numbers, verdict}
use Rattle.rules.specs.Demands.{OneWord}
use Rattle.word.specs.Memory.{mem_bound}
use Rattle.laws.specs.Searches.{all_each, each_map, map_each}
use Rattle.laws.specs.Pools.{Sound, RightLength, right_length_lem, pool_tiles}
use Rattle.laws.specs.Lying.{Lies, all_lie, valid_in}
use Rattle.laws.specs.Taking.{Takes}
use Rattle.laws.specs.Founding.{create_each}
use Rattle.laws.specs.Landing.{lands}

-- a clump that lies in the image takes such stores
takes_aligned : {N : Type 0} → N → (n : ℕ) (h : Head) → Lies n h → Takes (Aligned n) N h
takes_aligned k n h l =
    let r = l.room in
    let u = l.least in
    record {
      header = λ o w a b e f. record { even = e; inside = omega arith; small = f k };
      whole = λ z o w a b e f. record { even = e; inside = omega arith; small = f k };
    }

-- so are the assignments of a list whose targets are valid
entries_aligned : (n : ℕ) (m : Mem) → ((o : ℕ) → m o < word_values) → Sound n m → (c : Choice) (h : Head) → all_valid c m (walk n m) h ≡ true → Each (Aligned n) (entries_by c m h.at)
unfolding all_valid
entries_aligned n m b s c h v =
    map_each (Aligned n) (entry m) (slots_by c m h.at)
    (each_map (λ o. is_valid (walk n m) (target_at m o) ≡ true) (λ o. Aligned n (entry m o)) (slots_by c m h.at)
    (λ o e. let x = valid_in n m (target_at m o) (pool_tiles n m s) e in record { even = x.0; inside = x.1; small = b (value_at o) })
    (all_each (λ o. is_valid (walk n m) (target_at m o)) (slots_by c m h.at) v))

-- create
pub create_aligned : (n : ℕ) → RightLength n → Each (Aligned n) (create_stores n)
create_aligned n r = let l = r.least in create_each (Aligned n) n r (λ o w p e u. record { even = e; inside = ⊎_elim (λ x. omega (arith, x.1)) (λ x. omega (arith, x.1)) p; small = u })

aligned : (n : ℕ) (m : Mem) (q : Request) → ((o : ℕ) → m o < word_values) → Numbers q → Each (Aligned n) (stores_of (verdict n m q))
aligned n m q b k =
    lands (Aligned n) (Numbers q) n m (λ s. each_map (Lies n) (Takes (Aligned n) (Numbers q)) (walk n m) (takes_aligned k n) (all_lie n m s)) q (λ z. z)
    (λ c r. create_aligned n (right_length_lem n r)) (λ c h s e. entries_aligned n m b s c h)

pub one_word : OneWord
one_word img q b k = aligned (length img) (mem img) q (λ o. mem_bound img o b) k
