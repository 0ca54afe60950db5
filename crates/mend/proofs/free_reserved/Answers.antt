-- `free_reserved`: by the state.
use Rattle.std.proofs.Common.{ne_eqb}
use Rattle.word.specs.Runs.{ran_none}
use Rattle.mend.proofs.free_reserved.Goals as goal

pub returns-else-c-eq-RESERVED : goal.returns-else-c-eq-RESERVED
returns-else-c-eq-RESERVED c = rw (ne_eqb _ _ c.if-c-eq-RESERVED.false) (ran_none _ _)
