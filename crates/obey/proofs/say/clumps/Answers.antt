-- `clumps`: a header is left, as the loop's test has told, and so the walk goes on further, at a word's place. Assumes nothing.
use Rattle.std.proofs.Common.{arith, length, ◌+◌, leb-true, sym, ◌∙◌}
use Rattle.rules.specs.Clumps.{header_bytes}
use Rattle.show.specs.Parts.{shows_leads, shows_further}
use Rattle.obey.proofs.say.clumps.Goals as goal

pub loop-out-smaller : goal.loop-out-smaller
loop-out-smaller g c =
    let l = leb-true (c.loop-out.at + header_bytes) (length c.args.img.now) (sym c.is_left.ensures ∙ c.loop-out-test.true) in
    omega (arith, l, shows_further c.clumps-p.ensures l)

pub loop-out-preserved : goal.loop-out-preserved
loop-out-preserved g c = (shows_leads c.clumps-p.ensures).even c.loop-out.invariant
