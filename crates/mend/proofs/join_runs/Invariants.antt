-- `join_runs`: a walk that stores behind itself, with the run that it is in.
use Rattle.std.proofs.Common.{◌-◌, ◌≤◌, length}
use Rattle.rules.specs.Stores.{runs, joining}
use Rattle.rules.specs.Reading.{clumps_of}
use Rattle.mend.specs.Passes.{Passing, Runs, joins_of}
use Rattle.mend.proofs.join_runs.Given as goal

abbrev pub invariant-loop-h : goal.invariant-loop-h
invariant-loop-h l =
    Passing (joins_of l.run) l.initial.img l.initial.p.power l.img l.p.power l.h (joining (runs (clumps_of l.initial.img)))
    × Runs l.h l.run
    × (l.h ≤ length l.initial.img)

abbrev pub decreases-loop-h : goal.decreases-loop-h
decreases-loop-h l = length l.initial.img - l.h
