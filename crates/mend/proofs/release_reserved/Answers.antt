-- `release_reserved`: each clump as it is when the walk comes to it lies in the image; the stores so far are a run, and at the end all of it.
use Rattle.std.proofs.Common.{arith, [], refl}
use Rattle.rules.specs.Lists.{those}
use Rattle.rules.specs.Stores.{releasing}
use Rattle.word.specs.Runs.{ran_none}
use Rattle.mend.specs.Passes.{passing_start, passing_here, passing_end, release_next}
use Rattle.mend.proofs.release_reserved.Goals as goal

pub loop-h-init : goal.loop-h-init
loop-h-init c = passing_start releasing _ _ c.requires.tiled

pub read-c-requires-clause-in_image : goal.read-c-requires-clause-in_image
read-c-requires-clause-in_image c =
    let k = passing_here c.loop-h.invariant c.loop-h-test.true in omega arith

pub free_reserved-requires-clause-in_image : goal.free_reserved-requires-clause-in_image
free_reserved-requires-clause-in_image c =
    let k = passing_here c.loop-h.invariant c.loop-h-test.true in omega arith

pub overflow_add-h : goal.overflow_add-h
overflow_add-h c =
    let k = passing_here c.loop-h.invariant c.loop-h-test.true in omega (arith, c.read-c.ensures.nbytes, k.room)

pub loop-h-smaller : goal.loop-h-smaller
loop-h-smaller c =
    let k = passing_here c.loop-h.invariant c.loop-h-test.true in
    omega (arith, c.read-c.ensures.nbytes, k.least, k.room, c.loop-h.invariant.ran.long)

pub loop-h-preserved : goal.loop-h-preserved
loop-h-preserved c =
    release_next _ _ c.read-c.ensures.nbytes c.read-c.ensures.state c.loop-h-test.true c.loop-h.invariant
    (rw c.read-c.ensures.at at c.free_reserved.ensures)

pub returns : goal.returns
unfolding releasing those
returns c = passing_end c.loop-h.invariant c.loop-h-test.false [] refl (ran_none _ _)
