-- `head_rest`: two stores, one after the other.
use Rattle.word.specs.Runs.{ran_then}
use Rattle.steps.proofs.head_rest.Goals as goal

pub returns : goal.returns
returns c = ran_then c.store.ensures c.store-2.ensures
