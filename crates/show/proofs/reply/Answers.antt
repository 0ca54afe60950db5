-- `reply`: what is written from the start on.
use Rattle.std.proofs.Common.{arith}
use Rattle.text.specs.Writing.{begins}
use Rattle.show.proofs.reply.Goals as goal

pub returns : goal.returns
returns c = begins (omega (arith, c.three.ensures.wrote.behind)) c.three.ensures.wrote
