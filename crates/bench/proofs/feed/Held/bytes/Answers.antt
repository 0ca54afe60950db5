-- `bytes`: at the start no byte is followed, and each turn follows one more. Assumes nothing.
use Rattle.std.proofs.Common.{◌+◌}
use Rattle.std.proofs.lemmas.Result.{IfOk-from_err}
use Rattle.bench.specs.Feeding.{follows_none, follows_next}
use Rattle.bench.proofs.feed.Held.bytes.Goals as goal

pub loop-b-init : goal.loop-b-init
loop-b-init g c = follows_none _ _

pub returns-in_err-byte : goal.returns-in_err-byte
returns-in_err-byte g c =
    record {
      taken = c.loop-b.b-index + 1;
      follows = follows_next c.args.chunk.now c.loop-b.b-index c.loop-b-test.true c.loop-b.invariant c.byte.ensures;
      whole = IfOk-from_err c.from_residual.result _ c.from_residual.ensures.0;
    }

pub loop-b-preserved : goal.loop-b-preserved
loop-b-preserved g c = follows_next c.args.chunk.now c.loop-b.b-index c.loop-b-test.true c.loop-b.invariant c.byte.ensures
