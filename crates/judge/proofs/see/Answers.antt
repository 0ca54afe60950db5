-- `see`: a law for each way out and for a step; a clump without fault has a size that the walk can go on by.
use Rattle.std.proofs.Common.{arith, sym, ◌∙◌}
use Rattle.seen.specs.Seeing.{seeing_start, seeing_end, seeing_stop, seeing_clump, seeing_move}
use Rattle.judge.proofs.see.Goals as goal

pub loop-h-init : goal.loop-h-init
loop-h-init c = rw c.start-s.ensures (seeing_start _ _)

pub returns-then-is_some : goal.returns-then-is_some
returns-then-is_some c = seeing_stop c.loop-h.invariant c.loop-h-test.true c.see_clump-s.ensures (sym c.is_some.ensures ∙ c.if-is_some.true)

pub read-c-requires-clause-in_image : goal.read-c-requires-clause-in_image
read-c-requires-clause-in_image c =
    let f = seeing_clump c.loop-h.invariant c.loop-h-test.true c.see_clump-s.ensures (sym c.is_some.ensures ∙ c.if-is_some.false) in
    omega (arith, f.sits.least, f.inside)

pub overflow_add-h : goal.overflow_add-h
overflow_add-h c =
    let f = seeing_clump c.loop-h.invariant c.loop-h-test.true c.see_clump-s.ensures (sym c.is_some.ensures ∙ c.if-is_some.false) in
    omega (arith, f.inside, c.read-c.ensures.nbytes)

pub loop-h-smaller : goal.loop-h-smaller
loop-h-smaller c =
    let f = seeing_clump c.loop-h.invariant c.loop-h-test.true c.see_clump-s.ensures (sym c.is_some.ensures ∙ c.if-is_some.false) in
    omega (arith, f.sits.least, f.inside, c.read-c.ensures.nbytes)

pub loop-h-preserved : goal.loop-h-preserved
loop-h-preserved c =
    rw c.read-c.ensures.nbytes
    (seeing_move c.loop-h.invariant c.loop-h-test.true c.see_clump-s.ensures (sym c.is_some.ensures ∙ c.if-is_some.false))

pub returns : goal.returns
returns c = seeing_end c.loop-h.invariant c.loop-h-test.false
