-- `finish_pending`: no unfinished clump, or one, by its state; its due entries are judged, since the pool is sound.
use Rattle.rules.specs.Words.{mem}
use Rattle.rules.specs.Reading.{clumps_of}
use Rattle.word.specs.Runs.{ran_as, ran_none}
use Rattle.mend.specs.Recovering.{pending_none, pending_found, pending_targets, finish_activates, finish_frees}
use Rattle.mend.proofs.finish_pending.Goals as goal

pub returns-in_default : goal.returns-in_default
returns-in_default c = ran_as _ _ (pending_none c.args.img.now _ c.requires.tiled c.requires.unfinished c.in_default.is) (ran_none _ _)

pub finish_activating-requires-clause-targets_in_image : goal.finish_activating-requires-clause-targets_in_image
finish_activating-requires-clause-targets_in_image c =
    pending_targets c.args.img.now _ c.requires.tiled c.requires.unfinished _ c.in-Some.is c.requires.targets_valid _ _ _
    c.read-c.ensures.state
    c.list-l.ensures
    c.due-due.ensures

pub finish_freeing-requires-clause-targets_in_image : goal.finish_freeing-requires-clause-targets_in_image
finish_freeing-requires-clause-targets_in_image c =
    pending_targets c.args.img.now _ c.requires.tiled c.requires.unfinished _ c.in-Some.is c.requires.targets_valid _ _ _
    c.read-c.ensures.state
    c.list-l.ensures
    c.due-due.ensures

pub returns-then-c-eq-ACTIVATING : goal.returns-then-c-eq-ACTIVATING
returns-then-c-eq-ACTIVATING c =
    ran_as _ _
    (finish_activates (mem c.args.img.now) (clumps_of c.args.img.now) c.in-Some.h _ _ _
    (pending_found c.args.img.now _ c.requires.tiled c.requires.unfinished _ c.in-Some.is)
    c.read-c.ensures.state
    c.list-l.ensures
    c.due-due.ensures
    c.if-c-eq-ACTIVATING.true)
    c.finish_activating.ensures

pub returns-else-c-eq-ACTIVATING : goal.returns-else-c-eq-ACTIVATING
returns-else-c-eq-ACTIVATING c =
    ran_as _ _
    (finish_frees (mem c.args.img.now) (clumps_of c.args.img.now) c.in-Some.h _ _ _
    (pending_found c.args.img.now _ c.requires.tiled c.requires.unfinished _ c.in-Some.is)
    c.read-c.ensures.state
    c.list-l.ensures
    c.due-due.ensures
    c.if-c-eq-ACTIVATING.false)
    c.finish_freeing.ensures
