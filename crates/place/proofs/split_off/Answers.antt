-- `split_off`: four runs, one after the other.
use Rattle.word.specs.Runs.{ran_then}
use Rattle.place.proofs.split_off.Goals as goal

pub returns : goal.returns
returns c =
    ran_then c.head_rest.ensures (ran_then c.empty_targets.ensures (ran_then c.store.ensures c.take.ensures))
