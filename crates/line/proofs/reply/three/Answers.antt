-- `three`: three numbers, one behind the other.
use Rattle.text.specs.Writing.{wrote_then}
use Rattle.line.specs.Texts.{three_text}
use Rattle.line.proofs.reply.three.Goals as goal

pub returns-clause-wrote : goal.returns-clause-wrote
unfolding three_text
returns-clause-wrote c = wrote_then c.number-i.ensures.wrote (wrote_then c.number-j.ensures.wrote c.number.ensures.wrote)
