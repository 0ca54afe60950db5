-- `check`: the totals that the walk has seen, or refused with none.
use Rattle.survey.specs.Checking.{checks_refused, checks_done}
use Rattle.survey.proofs.check.Goals as goal

pub returns-in-Ok : goal.returns-in-Ok
returns-in-Ok c = rw c.unstored.ensures (checks_done c.sound-surveyed.ensures c.in-Ok.is)

pub returns-in-Err : goal.returns-in-Err
returns-in-Err c = rw c.from.ensures (checks_refused c.sound-surveyed.ensures c.in-Err.is)
