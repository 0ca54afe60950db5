-- `first_fit`: a walk that asks each clump whether it suits.
use Rattle.std.proofs.Common.{◌-◌, length}
use Rattle.rules.specs.Lists.{seek}
use Rattle.rules.specs.Words.{mem}
use Rattle.rules.specs.Clumps.{offset_of}
use Rattle.rules.specs.Stores.{need_of, fits}
use Rattle.rules.specs.Reading.{clumps_of}
use Rattle.laws.specs.Walking.{Walking}
use Rattle.walk.proofs.first_fit.Given as goal

abbrev pub invariant-loop-h : goal.invariant-loop-h
invariant-loop-h l =
    Walking (λ hs. offset_of (length l.img) (seek (fits (need_of l.size)) hs)) (length l.img) (mem l.img) l.h
    (offset_of (length l.img) (seek (fits (need_of l.size)) (clumps_of l.img)))

abbrev pub decreases-loop-h : goal.decreases-loop-h
decreases-loop-h l = length l.img - l.h
