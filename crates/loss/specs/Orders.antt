-- The orders of stores that the laws of cuts are about, each by its name in the rules. A law that is about one of them opens it here,
-- so that another order in its place (crates/loss/must-fail) is refused by the law. Assumes nothing.
use Rattle.std.specs.Prelude.{ℕ, ◌+◌, Bool, List}
use Rattle.rules.specs.Words.{Mem, Store}
use Rattle.rules.specs.Clumps.{Head}
use Rattle.rules.specs.Stores.{reserve_stores, taking, grow_stores, list_stores, finish_activating, drop_stores, recover_stores}

-- reserve: the rest's header, the targets, the smaller nbytes, the body, the state
unfoldable pub reserve_order : Bool → ℕ → Head → List Store
reserve_order clears need h = reserve_stores clears need h

-- reserve, once the sizes are right, at a clump of size bytes at a: the body, the state
unfoldable pub end_order : Bool → ℕ → ℕ → List Store
end_order clears a size = taking clears a size

-- grow: the rest's header, then the grown nbytes
unfoldable pub grow_order : ℕ → Head → Head → List Store
grow_order need h next = grow_stores need h.at (h.nbytes + next.nbytes)

-- onactive and onfree: the value, then the target
unfoldable pub list_order : ℕ → ℕ → ℕ → List Store
list_order s target value = list_stores s target value

-- activate and recover: the assignments, the list emptied first to last, ACTIVE
unfoldable pub active_order : Mem → Head → List Store
active_order m h = finish_activating m h

-- free, before its joins: FREEING, the assignments, FREE
unfoldable pub drop_order : Mem → Head → List Store
drop_order m h = drop_stores m h

-- recover: the list being carried out, then the RESERVED clumps, then the runs
unfoldable pub recover_order : Mem → List Head → List Store
recover_order m hs = recover_stores m hs
