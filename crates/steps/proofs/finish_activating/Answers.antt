-- `finish_activating`: three runs, one after the other.
use Rattle.word.specs.Runs.{ran_then}
use Rattle.steps.proofs.finish_activating.Goals as goal

pub returns : goal.returns
returns c = ran_then c.assign.ensures (ran_then c.empty_used.ensures c.store.ensures)
