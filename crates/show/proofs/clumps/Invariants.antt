-- `clumps`: the loop stands where `Filling` says. The measure is what is left of the image.
use Rattle.std.proofs.Common.{length, ◌-◌}
use Rattle.rules.specs.Words.{mem}
use Rattle.show.specs.Filling.{Filling}
use Rattle.show.proofs.clumps.Given as goal

abbrev pub invariant-loop-c : goal.invariant-loop-c
invariant-loop-c l = Filling (length l.img) (mem l.img) l.fn.from l.fn.out l.out l.at l.count

abbrev pub decreases-loop-c : goal.decreases-loop-c
decreases-loop-c l = length l.img - l.at
