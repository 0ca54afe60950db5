-- `empty_used`: a used entry adds its store to the run, an empty one adds none.
use Rattle.std.proofs.Common.{rules, refl}
use Rattle.word.specs.Runs.{ran_none}
use Rattle.steps.specs.Lists.{empties_of}
use Rattle.steps.specs.Loops.{empty_step, empty_pass}
use Rattle.steps.proofs.empty_used.Goals as goal
use Rattle.steps.proofs.empty_used.Goals.{then-entry-ne0, else-entry-ne0}

pub loop-i-init : goal.loop-i-init
unfolding empties_of
loop-i-init c = ran_none _ _

pub loop-i-preserved : goal.loop-i-preserved
loop-i-preserved c =
    elim c.if-entry-ne0.branch [
      | then-entry-ne0 w ↦
          rw (w.img-is, w.p-is)
          (empty_step c.args.l c.loop-i.i (search rules) _ _ refl w.if-entry-ne0.true c.loop-i.invariant w.store.ensures)
      | else-entry-ne0 w ↦ rw (w.img-is, w.p-is) (empty_pass c.args.l c.loop-i.i (search rules) w.if-entry-ne0.false _ c.loop-i.invariant)
    ]
