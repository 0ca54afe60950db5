-- `ask`: each arm is its request; check stores nothing.
use Rattle.pool.specs.Determined.{check_does}
use Rattle.pool.proofs.ask.Goals as goal

pub returns-in-Check : goal.returns-in-Check
returns-in-Check c = rw c.in-Check.is (check_does c.args.img.now _ _ c.check-c.ensures)
