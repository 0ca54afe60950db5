-- `find`: none of the clumps that it has passed is the one, and `below` is the last of them.
use Rattle.rules.specs.Reading.{clumps_of}
use Rattle.walk.specs.Left.{clumps_left, Sought}
use Rattle.walk.proofs.find.Given as goal

abbrev pub invariant-loop-c : goal.invariant-loop-c
invariant-loop-c l =
    (goal.iterator-loop-c).can_next l.c-iterator
    × (goal.iterator-loop-c).is_finite l.c-iterator
    × Sought (clumps_of l.img) l.body l.below (clumps_left l.c-iterator.img.now l.c-iterator.at)
