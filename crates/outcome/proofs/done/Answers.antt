-- `done`: a field more is written behind the others; the thirteenth ends the line.
use Rattle.std.proofs.Common.{◌≡◌, add-one, arith, length-take}
use Rattle.text.specs.Writing.{wrote_none, wrote_then}
use Rattle.outcome.specs.Texts.{spaced}
use Rattle.outcome.proofs.done.Goals as goal

pub loop-n-init : goal.loop-n-init
unfolding spaced
loop-n-init c = record { within = omega arith; wrote = wrote_none _ _ }

pub loop-n-preserved : goal.loop-n-preserved
unfolding spaced
loop-n-preserved c = record {
  within = omega arith;
  wrote = rw (add-one c.loop-n.n-index) (wrote_then c.loop-n.invariant.wrote c.number-at.ensures.wrote);
}

pub returns-clause-wrote : goal.returns-clause-wrote
unfolding spaced
returns-clause-wrote c =
    let e : c.loop-n.n-index ≡ 12 = omega (arith, length-take 12 c.fields-f.result) in
    let w = wrote_then (rw e at c.loop-n.invariant.wrote) c.number.ensures.wrote in
    rw c.fields-f.ensures at w
