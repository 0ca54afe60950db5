-- `see_clump`: a header that does not lie in the image, or one that was read.
use Rattle.std.proofs.Common.{arith, ◌∙◌}
use Rattle.rules.specs.Words.{mem}
use Rattle.seen.specs.Seeing.{clump_short, clump_read}
use Rattle.judge.proofs.see_clump.Goals as goal

pub returns-then-n-h-lt-LEAST : goal.returns-then-n-h-lt-LEAST
returns-then-n-h-lt-LEAST c = c.fail.ensures ∙ clump_short _ (mem c.args.img.now) _ _ (omega (arith, c.if-n-h-lt-LEAST.true))

pub returns : goal.returns
returns c =
    c.take.ensures
    ∙ clump_read _ _ c.args.s _ _ _ c.read.ensures.at c.read.ensures.nbytes c.read.ensures.state c.list.ensures
