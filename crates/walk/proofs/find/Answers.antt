-- `find`: the clump that comes is the first of those that were left; each way out and each step by a law of the search.
use Rattle.std.proofs.Common.{arith}
use Rattle.walk.specs.Left.{sought_start, sought_end, sought_hit, sought_pass, sought_room, sought_below}
use Rattle.walk.specs.Scans.{found_end, found_hit}
use Rattle.walk.proofs.find.Goals as goal

pub loop-c-init : goal.loop-c-init
loop-c-init c =
    rw c.into_iter-c-iterator.ensures.into_iter_gives (c.of-c-items.ensures.tile, tt, rw c.of-c-items.ensures.all (sought_start _ _))

pub overflow_add-c : goal.overflow_add-c
overflow_add-c c = let r = sought_room c.loop-c.invariant.2 _ _ c.in-Some.ensures.steps _ c.requires in omega arith

pub returns-then-c-body : goal.returns-then-c-body
returns-then-c-body c =
    found_hit _ _ _ _ (sought_hit c.loop-c.invariant.2 _ _ c.in-Some.ensures.steps c.if-c-body.true)
    (sought_below c.loop-c.invariant.2 _ _ c.in-Some.ensures.steps _ c.requires)

pub loop-c-preserved : goal.loop-c-preserved
loop-c-preserved c = (c.in-Some.ensures.goes.keeps, tt, sought_pass c.loop-c.invariant.2 _ _ c.in-Some.ensures.steps c.if-c-body.false)

pub returns : goal.returns
returns c = found_end _ _ (sought_end c.loop-c.invariant.2 c.in-None.ensures.steps.0)
