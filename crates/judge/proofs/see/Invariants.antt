-- `see`: a walk on any bytes, whose state still comes to what is seen of the whole.
use Rattle.std.proofs.Common.{◌-◌, length}
use Rattle.rules.specs.Words.{mem}
use Rattle.seen.specs.Seeing.{Seeing}
use Rattle.judge.proofs.see.Given as goal

abbrev pub invariant-loop-h : goal.invariant-loop-h
invariant-loop-h l = Seeing (length l.img) (mem l.img) l.h l.s

abbrev pub decreases-loop-h : goal.decreases-loop-h
decreases-loop-h l = length l.img - l.h
