-- `read_some`: nothing is read so far. Assumes nothing.
use Rattle.std.specs.Io.KnownBytes.{Keeps}
use Rattle.streams.proofs.read_some.Given as goal

abbrev pub invariant-loop : goal.invariant-loop
invariant-loop g l = Keeps (g.I.Read.remaining l.fn.input) (g.I.Read.remaining l.input)
