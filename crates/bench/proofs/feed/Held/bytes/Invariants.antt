-- `bytes`: the loop has followed the first bytes of the chunk. Assumes nothing.
use Rattle.std.proofs.Common.{take}
use Rattle.bench.specs.Feeding.{Follows}
use Rattle.bench.proofs.feed.Held.bytes.Given as goal

abbrev pub invariant-loop-b : goal.invariant-loop-b
invariant-loop-b g l = Follows l.fn.img l.fn.self (take l.b-index l.chunk) l.img l.self
