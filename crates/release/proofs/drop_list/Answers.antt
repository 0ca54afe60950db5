-- `drop_list`: by the state, and by whether an entry is marked; the runs one after the other.
use Rattle.std.proofs.Common.{ne_eqb}
use Rattle.word.specs.Runs.{ran_then}
use Rattle.release.proofs.drop_list.Goals as goal

pub returns-else-reach-eq0 : goal.returns-else-reach-eq0
returns-else-reach-eq0 c =
    rw (ne_eqb _ _ c.if-c-eq-ACTIVE.false, ← c.marked-marked.ensures, ← c.reach.ensures, ne_eqb _ _ c.if-reach-eq0.false)
    (ran_then (rw c.unmarked.ensures at c.empty_used.ensures) c.carry_out-else-reach-eq0.ensures)
