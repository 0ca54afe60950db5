-- `judge`: what the state tells, fault after fault; for the last one, whether the due targets of the unfinished clump are valid.
use Rattle.std.proofs.Common.{arith, ap, sym, ◌∙◌}
use Rattle.rules.specs.Words.{mem}
use Rattle.walk.specs.Scans.{due_valid}
use Rattle.seen.specs.Forms.{judged_of}
use Rattle.seen.specs.Told.{told-fault, told-second, told_idle, told_pending, told_valid, told-bad}
use Rattle.judge.proofs.judge.Goals as goal

pub returns-in-Some : goal.returns-in-Some
returns-in-Some c = ap judged_of (sym (told-fault _ _ _ c.requires _ c.in-Some.is))

pub returns-in-Some-second : goal.returns-in-Some-second
returns-in-Some-second c = ap judged_of (sym (told-second _ _ _ c.requires c.in_default.is _ c.in-Some-second.is))

pub returns-in_err-place : goal.returns-in_err-place
returns-in_err-place c =
    rw c.from_residual.ensures
    (ap judged_of (sym (told_idle _ _ _ c.requires c.in_default.is c.in_default-second.is c.in_err-place.was)))

pub read-c-requires-clause-in_image : goal.read-c-requires-clause-in_image
read-c-requires-clause-in_image c =
    let i = (told_pending _ _ _ c.requires c.in_default.is _ c.in_ok-place.was).inside in omega arith

pub read-c-requires-clause-aligned : goal.read-c-requires-clause-aligned
read-c-requires-clause-aligned c =
    let i = (told_pending _ _ _ c.requires c.in_default.is _ c.in_ok-place.was).inside in omega arith

pub list-l-requires-clause-in_image : goal.list-l-requires-clause-in_image
list-l-requires-clause-in_image c =
    let i = (told_pending _ _ _ c.requires c.in_default.is _ c.in_ok-place.was).inside in omega arith

pub list-l-requires-clause-aligned : goal.list-l-requires-clause-aligned
list-l-requires-clause-aligned c =
    let i = (told_pending _ _ _ c.requires c.in_default.is _ c.in_ok-place.was).inside in omega arith

pub all_valid-requires : goal.all_valid-requires
all_valid-requires c = (told_pending _ _ _ c.requires c.in_default.is _ c.in_ok-place.was).tiles

pub returns-then-all_valid : goal.returns-then-all_valid
returns-then-all_valid c =
    ap judged_of
    (sym
    (told_valid _ _ _ c.requires c.in_default.is c.in_default-second.is _
    (told_pending _ _ _ c.requires c.in_default.is _ c.in_ok-place.was)
    (sym (due_valid (mem c.args.img.now) _ c.in_ok-place.place _ _ _ c.read-c.ensures.state c.list-l.ensures c.due-due.ensures)
    ∙ sym c.all_valid.ensures
    ∙ c.if-all_valid.true)))

pub returns-else-all_valid : goal.returns-else-all_valid
returns-else-all_valid c =
    ap judged_of
    (sym
    (told-bad _ _ _ c.requires c.in_default.is c.in_default-second.is _
    (told_pending _ _ _ c.requires c.in_default.is _ c.in_ok-place.was)
    (sym (due_valid (mem c.args.img.now) _ c.in_ok-place.place _ _ _ c.read-c.ensures.state c.list-l.ensures c.due-due.ensures)
    ∙ sym c.all_valid.ensures
    ∙ c.if-all_valid.false)))
