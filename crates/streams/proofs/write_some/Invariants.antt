-- `write_some`: nothing is written so far. Assumes nothing.
use Rattle.std.specs.Io.KnownBytes.{Keeps}
use Rattle.streams.proofs.write_some.Given as goal

abbrev pub invariant-loop : goal.invariant-loop
invariant-loop g l = Keeps (g.O.Write.contents l.fn.output) (g.O.Write.contents l.output)
