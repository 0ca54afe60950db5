-- `malformed`: the number, and then the word.
use Rattle.text.specs.Writing.{wrote_then}
use Rattle.outcome.proofs.malformed.Goals as goal

pub returns-clause-wrote : goal.returns-clause-wrote
returns-clause-wrote c = wrote_then c.number-at.ensures.wrote c.bytes.ensures
