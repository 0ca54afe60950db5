-- `run`: each chunk that was followed is some more of the input; at its end the line that is held ends. Assumes nothing.
use Rattle.bench.specs.Inputs.{reached_start, reached_next, stopped, ended}
use Rattle.bench.proofs.run.Goals as goal

pub loop-init : goal.loop-init
loop-init g c = reached_start _ _ c.new-held.ensures.empty c.new-held.ensures.fuse_value

pub returns-in_err-bytes : goal.returns-in_err-bytes
returns-in_err-bytes g c = stopped (reached_next _ c.loop.invariant c.bytes.ensures.follows)

pub loop-preserved : goal.loop-preserved
loop-preserved g c = reached_next _ c.loop.invariant c.in_ok-bytes.ensures.follows

pub returns : goal.returns
returns g c = ended c.loop.invariant c.rest.ensures
