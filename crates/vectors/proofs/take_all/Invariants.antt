-- `take_all`: the bytes so far lead to where the line is.
use Rattle.std.proofs.Common.{◌≡◌, take}
use Rattle.vectors.specs.Steps.{read_on}
use Rattle.vectors.proofs.take_all.Given as goal

abbrev pub invariant-loop-b : goal.invariant-loop-b
invariant-loop-b g l = l.l ≡ read_on l.fn.l (take l.b-index l.bytes)
