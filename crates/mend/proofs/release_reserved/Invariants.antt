-- `release_reserved`: a walk that stores behind itself.
use Rattle.std.proofs.Common.{◌-◌, length}
use Rattle.rules.specs.Stores.{releasing}
use Rattle.rules.specs.Reading.{clumps_of}
use Rattle.mend.specs.Passes.{Passing}
use Rattle.mend.proofs.release_reserved.Given as goal

abbrev pub invariant-loop-h : goal.invariant-loop-h
invariant-loop-h l = Passing releasing l.initial.img l.initial.p.power l.img l.p.power l.h (releasing (clumps_of l.initial.img))

abbrev pub decreases-loop-h : goal.decreases-loop-h
decreases-loop-h l = length l.initial.img - l.h
