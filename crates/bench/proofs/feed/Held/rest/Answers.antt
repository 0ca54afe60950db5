-- `rest`: the line that is held, or none. Assumes nothing.
use Rattle.std.proofs.Common.{arith, ◌∙◌}
use Rattle.bench.specs.Feeding.{line_held}
use Rattle.bench.specs.Inputs.{none_held}
use Rattle.bench.proofs.feed.Held.rest.Goals as goal

pub returns-then-self-eq0 : goal.returns-then-self-eq0
returns-then-self-eq0 g c = λ s t. none_held (omega (arith, c.if-self-eq0.true)) t

pub returns : goal.returns
returns g c = λ s t. c.line_end.ensures.img_after ∙ line_held t
