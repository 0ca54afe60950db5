-- `empty_used`: the used ones of the entries so far are empty.
use Rattle.std.proofs.Common.{◌+◌, take}
use Rattle.word.specs.Runs.{Ran}
use Rattle.steps.specs.Lists.{empties_of}
use Rattle.steps.proofs.empty_used.Given as goal

abbrev pub invariant-loop-i : goal.invariant-loop-i
invariant-loop-i l = Ran l.initial.img l.initial.p.power (empties_of (l.h + 16) (take l.i l.entry-items)) l.img l.p.power
