-- `withdraw_at`: a law for each way out.
use Rattle.std.proofs.Common.{◌∙◌}
use Rattle.rules.specs.Words.{mem}
use Rattle.rules.specs.Clumps.{head}
use Rattle.steps.specs.Acts.{acts_same, acts_refused, acts_ran}
use Rattle.unlist.specs.Slots.{withdrawn_is, withdraw_state, withdraw_empty, withdraw-done}
use Rattle.seen.specs.Judging.{waits_is}
use Rattle.unlist.proofs.withdraw_at.Goals as goal

pub returns-then-not-waits : goal.returns-then-not-waits
returns-then-not-waits c =
    let m = mem c.args.img.now in
    rw c.from.ensures
    (acts_same _ _
    (withdraw_state m c.args.offset (head m c.args.found.at) (waits_is _ _ _ c.read-c.ensures.state c.waits.ensures ∙ c.if-not-waits.true))
    (acts_refused _ _ _ _ _))

pub returns-then-k-eq0 : goal.returns-then-k-eq0
returns-then-k-eq0 c =
    let m = mem c.args.img.now in
    rw c.from-then-k-eq0.ensures
    (acts_same _ _
    (withdraw_empty m c.args.offset (head m c.args.found.at) (waits_is _ _ _ c.read-c.ensures.state c.waits.ensures ∙ c.if-not-waits.false) _
    (withdrawn_is m c.args.found.at _ c.args.offset _ c.list-l.ensures c.reach-k.ensures)
    c.if-k-eq0.true)
    (acts_refused _ _ _ _ _))

pub returns : goal.returns
returns c =
    let m = mem c.args.img.now in
    acts_same _ _
    (withdraw-done m c.args.offset (head m c.args.found.at) (waits_is _ _ _ c.read-c.ensures.state c.waits.ensures ∙ c.if-not-waits.false) _
    (withdrawn_is m c.args.found.at _ c.args.offset _ c.list-l.ensures c.reach-k.ensures)
    c.if-k-eq0.false)
    (acts_ran _ _ (rw c.new-p.ensures at c.store.ensures) c.finish.ensures)
