-- `question`: the text is the one of the rules.
use Rattle.rules.specs.Pages.{codes}
use Rattle.line.specs.Texts.{bad_text}
use Rattle.line.proofs.reply.question.Goals as goal

pub returns-clause-wrote : goal.returns-clause-wrote
unfolding codes bad_text
returns-clause-wrote c = c.bytes.ensures
