-- `assign`: the entries so far are carried out.
use Rattle.std.proofs.Common.{take}
use Rattle.word.specs.Runs.{Ran}
use Rattle.steps.specs.Lists.{assigns_of}
use Rattle.steps.proofs.assign.Given as goal

abbrev pub invariant-loop-target : goal.invariant-loop-target
invariant-loop-target l = Ran l.initial.img l.initial.p.power (assigns_of (take l.target-index l.target-items)) l.img l.p.power
