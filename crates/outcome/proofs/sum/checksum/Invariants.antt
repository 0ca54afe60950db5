-- `checksum`: the sum of the bytes so far.
use Rattle.std.proofs.Common.{◌≡◌, ◌<◌, take}
use Rattle.outcome.specs.Sums.{modulus, sum_of}
use Rattle.outcome.proofs.sum.checksum.Given as goal

abbrev pub invariant-loop-b : goal.invariant-loop-b
invariant-loop-b l = record { small : l.s < modulus; same : l.s ≡ sum_of (take l.b-index l.img) }
