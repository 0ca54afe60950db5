-- `carry_out`: two runs, one after the other.
use Rattle.word.specs.Runs.{ran_then}
use Rattle.steps.proofs.carry_out.Goals as goal

pub returns : goal.returns
returns c = ran_then c.store.ensures c.finish_freeing.ensures
