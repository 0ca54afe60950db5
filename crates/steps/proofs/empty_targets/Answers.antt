-- `empty_targets`: three stores, one after the other.
use Rattle.word.specs.Runs.{ran_then}
use Rattle.steps.proofs.empty_targets.Goals as goal

pub returns : goal.returns
returns c = ran_then c.store.ensures (ran_then c.store-2.ensures c.store-3.ensures)
