-- `run`: what was read so far is some input, and the dialogue is the one after it. Assumes nothing.
use Rattle.bench.specs.Inputs.{Reached}
use Rattle.bench.proofs.run.Given as goal

abbrev pub invariant-loop : goal.invariant-loop
invariant-loop g l = Reached l.fn.img l.img l.held
