-- `first_fit`: each way out and each step by a law of the walk.
use Rattle.std.proofs.Common.{arith, ap}
use Rattle.rules.specs.Lists.{seek}
use Rattle.rules.specs.Clumps.{offset_of}
use Rattle.rules.specs.Stores.{need_of, fits}
use Rattle.laws.specs.Searches.{seek_hit, seek_pass}
use Rattle.laws.specs.Walking.{walking_start, walking_end, walking_hit, walking_move, walking_inside}
use Rattle.walk.proofs.first_fit.Goals as goal

pub loop-h-init : goal.loop-h-init
loop-h-init c = walking_start (λ hs. offset_of _ (seek (fits (need_of _)) hs)) _ _

pub read-c-requires-clause-in_image : goal.read-c-requires-clause-in_image
read-c-requires-clause-in_image c =
    let i = walking_inside c.loop-h.invariant c.if-img-h.false c.requires in omega arith

pub overflow_add-h : goal.overflow_add-h
overflow_add-h c = let i = walking_inside c.loop-h.invariant c.if-img-h.false c.requires in omega (arith, c.read-c.ensures.nbytes)

pub loop-h-smaller : goal.loop-h-smaller
loop-h-smaller c = let i = walking_inside c.loop-h.invariant c.if-img-h.false c.requires in omega (arith, c.read-c.ensures.nbytes)

pub loop-h-preserved : goal.loop-h-preserved
loop-h-preserved c =
    let i = walking_inside c.loop-h.invariant c.if-img-h.false c.requires in
    rw c.read-c.ensures.nbytes
    (walking_move c.loop-h.invariant c.if-img-h.false (omega arith) i.whole _ (λ t. ap (offset_of _) (seek_pass _ _ t (cc))))

pub returns-then-img-h : goal.returns-then-img-h
unfolding seek
returns-then-img-h c = walking_end c.loop-h.invariant c.if-img-h.true

pub returns-then-suits : goal.returns-then-suits
returns-then-suits c = walking_hit c.loop-h.invariant c.if-img-h.false _ (λ t. ap (offset_of _) (seek_hit _ _ t (cc)))
