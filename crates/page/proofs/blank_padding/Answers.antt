-- `blank_padding`: a law for a word that is 0, one for another, and one for the end.
use Rattle.std.proofs.Common.{arith, sym, ◌∙◌}
use Rattle.page.specs.Padding.{zero_end, zero_hit, zero_next}
use Rattle.page.proofs.blank_padding.Goals as goal

pub returns-then-get-ne0 : goal.returns-then-get-ne0
returns-then-get-ne0 c = sym (zero_hit _ _ _ (omega arith) _ c.get.ensures c.if-get-ne0.true) ∙ c.loop-i.invariant

pub loop-i-preserved : goal.loop-i-preserved
loop-i-preserved c = sym (zero_next _ _ _ (omega arith) _ c.get.ensures c.if-get-ne0.false _ (omega arith)) ∙ c.loop-i.invariant

pub returns : goal.returns
returns c = sym (zero_end _ _ _ (omega arith)) ∙ c.loop-i.invariant
