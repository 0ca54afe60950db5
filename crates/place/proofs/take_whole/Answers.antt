-- `take_whole`: two runs, one after the other.
use Rattle.word.specs.Runs.{ran_then}
use Rattle.place.proofs.take_whole.Goals as goal

pub returns : goal.returns
returns c = ran_then c.empty_targets.ensures c.take.ensures
