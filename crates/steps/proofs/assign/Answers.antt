-- `assign`: a used entry adds its store to the run, an empty one adds none.
use Rattle.std.proofs.Common.{rules}
use Rattle.word.specs.Runs.{ran_none}
use Rattle.steps.specs.Lists.{assigns_of}
use Rattle.steps.specs.Loops.{assign_step, assign_pass}
use Rattle.steps.proofs.assign.Goals as goal
use Rattle.steps.proofs.assign.Goals.{then-target-ne0, else-target-ne0}

pub loop-target-init : goal.loop-target-init
unfolding assigns_of
loop-target-init c = ran_none _ _

pub loop-target-preserved : goal.loop-target-preserved
loop-target-preserved c =
    elim c.if-target-ne0.branch [
      | then-target-ne0 w ↦
          rw (w.img-is, w.p-is)
          (assign_step c.args.l c.loop-target.target-index (search rules) w.if-target-ne0.true c.loop-target.invariant (rw w.target_of-at.ensures at w.store.ensures))
      | else-target-ne0 w ↦ rw (w.img-is, w.p-is) (assign_pass c.args.l c.loop-target.target-index (search rules) w.if-target-ne0.false c.loop-target.invariant)
    ]
