-- `put_words`: after i turns the first i words lie in the image and are in it.
use Rattle.trial.specs.Filling.{Putting}
use Rattle.trial.proofs.put_words.Given as goal

abbrev pub invariant-loop-i : goal.invariant-loop-i
invariant-loop-i l = Putting l.fn.img l.numbers.items l.img l.i
