-- `behind`: by fault 1.
use Rattle.std.proofs.Common.{sym, arith}
use Rattle.laws.specs.Walks.{size_good}
use Rattle.show.specs.Shown.{onward_stops, onward_goes}
use Rattle.show.proofs.behind.Goals as goal

pub returns-then-size_bad : goal.returns-then-size_bad
returns-then-size_bad c = onward_stops _ _ c.if-size_bad.ensures

pub overflow_add-result : goal.overflow_add-result
overflow_add-result c = omega (arith, (size_good _ _ (sym c.if-size_bad.ensures)).2)

pub returns-else-size_bad : goal.returns-else-size_bad
returns-else-size_bad c = onward_goes _ _ (sym c.if-size_bad.ensures)
