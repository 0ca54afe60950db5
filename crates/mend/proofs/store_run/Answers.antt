-- `store_run`: a store, or none.
use Rattle.std.proofs.Common.{eq-eqb, ne_eqb}
use Rattle.word.specs.Runs.{ran_none}
use Rattle.mend.proofs.store_run.Goals as goal

pub returns-then-state-eq-FREE : goal.returns-then-state-eq-FREE
returns-then-state-eq-FREE c = rw (eq-eqb _ _ c.if-state-eq-FREE.true) (ran_none _ _)

pub returns-else-r : goal.returns-else-r
returns-else-r c = rw (ne_eqb _ _ c.if-state-eq-FREE.false, c.in-Some.is, eq-eqb _ _ c.if-r.false) (ran_none _ _)

pub returns-in_default : goal.returns-in_default
returns-in_default c = rw (ne_eqb _ _ c.if-state-eq-FREE.false, c.in_default.is) (ran_none _ _)
