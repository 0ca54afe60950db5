-- `release`: the bytes of the clumps beside are read before the first store; then three runs, one after the other.
use Rattle.std.proofs.Common.{arith, ◌∙◌}
use Rattle.walk.specs.Scans.{list_in}
use Rattle.release.specs.Releases.{release_acts, next_header, below_header, below_word, sum_room}
use Rattle.release.proofs.release.Goals as goal

pub free_bytes-next-requires : goal.free_bytes-next-requires
free_bytes-next-requires c = next_header c.requires

pub free_bytes-under-requires : goal.free_bytes-under-requires
free_bytes-under-requires c = below_header c.requires

pub overflow_add-both : goal.overflow_add-both
overflow_add-both c =
    let z = c.requires.small in
    let w = sum_room c.requires _ _ c.free_bytes-next.ensures c.free_bytes-under.ensures in
    omega arith

pub overflow_add-all : goal.overflow_add-all
overflow_add-all c =
    let z = c.requires.small in
    let w = sum_room c.requires _ _ c.free_bytes-next.ensures c.free_bytes-under.ensures in
    omega arith

pub drop_list-requires-clause-targets_in_image : goal.drop_list-requires-clause-targets_in_image
drop_list-requires-clause-targets_in_image c = list_in _ _ _ c.requires.tiles c.requires.valid

pub store_if-requires-2-clause-in_image : goal.store_if-requires-2-clause-in_image
store_if-requires-2-clause-in_image c = λ z.
    rw (c.store_if.ensures.long, c.drop_list.ensures.long) (below_word c.requires (λ y. z (c.free_bytes-under.ensures ∙ y))).1

pub store_if-requires-2-clause-aligned : goal.store_if-requires-2-clause-aligned
store_if-requires-2-clause-aligned c = λ z. (below_word c.requires (λ y. z (c.free_bytes-under.ensures ∙ y))).0

pub returns : goal.returns
returns c =
    release_acts c.requires _ _ _ c.free_bytes-next.ensures c.free_bytes-under.ensures c.new-p.ensures
    c.drop_list.ensures
    c.store_if.ensures
    c.store_if-2.ensures
    c.finish.ensures
