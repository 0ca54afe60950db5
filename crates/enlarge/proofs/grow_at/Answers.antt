-- `grow_at`: a law for each way out.
use Rattle.std.proofs.Common.{arith, sym, ◌∙◌, leb-true, leb-false}
use Rattle.seen.specs.Judging.{waits_is}
use Rattle.enlarge.specs.Enlarging.{next_asked, both_room, both_fit, state_acts, enough_acts, none_acts, taken_acts}
use Rattle.enlarge.proofs.grow_at.Goals as goal

pub returns-then-not-waits : goal.returns-then-not-waits
returns-then-not-waits c =
    rw c.from.ensures
    (state_acts c.requires _ c.read-c.ensures.nbytes _ (waits_is _ _ _ c.read-c.ensures.state c.waits.ensures ∙ c.if-not-waits.true))

pub returns-then-size-c : goal.returns-then-size-c
returns-then-size-c c =
    rw c.unstored.ensures
    (enough_acts c.requires _ c.read-c.ensures.nbytes _ (waits_is _ _ _ c.read-c.ensures.state c.waits.ensures ∙ c.if-not-waits.false) c.if-size-c.true)

pub free_bytes-requires : goal.free_bytes-requires
free_bytes-requires c = next_asked c.requires _ c.read-c.ensures.nbytes

pub overflow_add-both : goal.overflow_add-both
overflow_add-both c =
    let z = c.requires.small in
    let w = both_room c.requires _ c.read-c.ensures.nbytes _ c.free_bytes.ensures in
    omega arith

pub returns-then-not-room : goal.returns-then-not-room
returns-then-not-room c =
    rw c.from-then-not-room.ensures
    (none_acts c.requires _ c.read-c.ensures.nbytes _ (waits_is _ _ _ c.read-c.ensures.state c.waits.ensures ∙ c.if-not-waits.false)
    c.if-size-c.false
    _
    c.free_bytes.ensures
    (leb-false _ _ (sym c.room.ensures ∙ c.if-not-room.true)))

pub extend-requires : goal.extend-requires
extend-requires c =
    both_fit c.requires _ c.read-c.ensures.nbytes _ c.free_bytes.ensures (leb-true _ _ (sym c.room.ensures ∙ c.if-not-room.false))

pub returns : goal.returns
returns c =
    taken_acts c.requires _ c.read-c.ensures.nbytes _ (waits_is _ _ _ c.read-c.ensures.state c.waits.ensures ∙ c.if-not-waits.false)
    c.if-size-c.false
    _
    c.free_bytes.ensures
    (leb-true _ _ (sym c.room.ensures ∙ c.if-not-room.false))
    c.extend.ensures
