-- `zero_words`: each turn adds one store to the run.
use Rattle.std.proofs.Common.{refl}
use Rattle.rules.specs.Words.{zeros}
use Rattle.word.specs.Runs.{ran_none}
use Rattle.steps.specs.Loops.{zeros_step}
use Rattle.steps.proofs.zero_words.Goals as goal

pub loop-i-init : goal.loop-i-init
unfolding zeros
loop-i-init c = ran_none _ _

pub loop-i-preserved : goal.loop-i-preserved
loop-i-preserved c = zeros_step _ _ _ refl c.loop-i.invariant c.store.ensures
