-- `question`: what is written from the start on.
use Rattle.std.proofs.Common.{arith}
use Rattle.text.specs.Writing.{begins}
use Rattle.show.proofs.question.Goals as goal

pub returns : goal.returns
returns c = begins (omega (arith, c.question.ensures.wrote.behind)) c.question.ensures.wrote
