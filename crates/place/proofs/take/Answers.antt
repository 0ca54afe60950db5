-- `take`: two runs, one after the other.
use Rattle.word.specs.Runs.{ran_then}
use Rattle.place.proofs.take.Goals as goal

pub returns : goal.returns
returns c = rw (← c.cleared_words.ensures) (ran_then c.zero_words.ensures c.store.ensures)
