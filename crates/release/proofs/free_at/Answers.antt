-- `free_at`: a law for each way out.
use Rattle.std.proofs.Common.{sym, ◌∙◌}
use Rattle.rules.specs.Words.{mem}
use Rattle.rules.specs.Clumps.{head}
use Rattle.rules.specs.Reading.{clumps_of}
use Rattle.steps.specs.Acts.{acts_same, acts_refused}
use Rattle.release.specs.Releases.{may_drop, free_state, free-bad, free-done}
use Rattle.seen.specs.Judging.{waits_is}
use Rattle.release.proofs.free_at.Goals as goal

pub returns-then-not-waits : goal.returns-then-not-waits
returns-then-not-waits c =
    let m = mem c.args.img.now in
    rw c.from.ensures
    (acts_same _ _
    (free_state m (clumps_of c.args.img.now) c.args.offset (head m c.args.found.at)
    (waits_is _ _ _ c.read-c.ensures.state c.waits.ensures ∙ c.if-not-waits.true))
    (acts_refused _ _ _ _ _))

pub returns-then-not-may_drop : goal.returns-then-not-may_drop
returns-then-not-may_drop c =
    let m = mem c.args.img.now in
    rw c.from-then-not-may_drop.ensures
    (acts_same _ _
    (free-bad m (clumps_of c.args.img.now) c.args.offset (head m c.args.found.at)
    (waits_is _ _ _ c.read-c.ensures.state c.waits.ensures ∙ c.if-not-waits.false)
    (sym (may_drop m _ c.args.found.at _ _ c.read-c.ensures.state c.list-l.ensures) ∙ sym c.may_drop.ensures ∙ c.if-not-may_drop.true))
    (acts_refused _ _ _ _ _))

pub returns : goal.returns
returns c =
    let m = mem c.args.img.now in
    acts_same _ _
    (free-done m (clumps_of c.args.img.now) c.args.offset (head m c.args.found.at)
    (waits_is _ _ _ c.read-c.ensures.state c.waits.ensures ∙ c.if-not-waits.false)
    (sym (may_drop m _ c.args.found.at _ _ c.read-c.ensures.state c.list-l.ensures) ∙ sym c.may_drop.ensures ∙ c.if-not-may_drop.false))
    (rw c.read-c.ensures.at at c.release.ensures)
