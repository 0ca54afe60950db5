-- `finish_freeing`: two runs, one after the other.
use Rattle.word.specs.Runs.{ran_then}
use Rattle.steps.proofs.finish_freeing.Goals as goal

pub returns : goal.returns
returns c = ran_then c.assign.ensures c.store.ensures
