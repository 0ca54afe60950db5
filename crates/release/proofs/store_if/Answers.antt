-- `store_if`: a store, or none.
use Rattle.std.proofs.Common.{eq-eqb}
use Rattle.word.specs.Runs.{ran_none}
use Rattle.release.proofs.store_if.Goals as goal

pub returns-else-bytes-ne0 : goal.returns-else-bytes-ne0
returns-else-bytes-ne0 c = rw (eq-eqb _ _ c.if-bytes-ne0.false) (ran_none _ _)
