-- `zero_words`: after i turns the run is of i words.
use Rattle.rules.specs.Words.{zeros}
use Rattle.word.specs.Runs.{Ran}
use Rattle.steps.proofs.zero_words.Given as goal

abbrev pub invariant-loop-i : goal.invariant-loop-i
invariant-loop-i l = Ran l.initial.img l.initial.p.power (zeros l.from l.i) l.img l.p.power
