-- `clumps`: a line more is put behind the others, and the walk gets on; at the end the part is whole.
use Rattle.std.proofs.Common.{sym, arith}
use Rattle.show.specs.Parts.{one_more_lem}
use Rattle.show.specs.Filling.{filling_start, filling_next, filling_end}
use Rattle.show.proofs.clumps.Goals as goal

pub loop-c-init : goal.loop-c-init
loop-c-init c = filling_start _ _ _ _ c.requires

pub loop-c-smaller : goal.loop-c-smaller
loop-c-smaller c =
    let t = one_more_lem _ _ _ (sym c.loop-c-test.ensures) in
    let w = c.three-count.ensures in
    let f = filling_next _ _ _ _ c.loop-c.invariant t.0 t.1 (c.read-c.ensures.at, c.read-c.ensures.nbytes, c.read-c.ensures.state) w.wrote w.upper_bound (omega arith) c.behind-at.ensures in
    omega (arith, t.0, f.0)

pub loop-c-preserved : goal.loop-c-preserved
loop-c-preserved c =
    let t = one_more_lem _ _ _ (sym c.loop-c-test.ensures) in
    let w = c.three-count.ensures in
    (filling_next _ _ _ _ c.loop-c.invariant t.0 t.1 (c.read-c.ensures.at, c.read-c.ensures.nbytes, c.read-c.ensures.state) w.wrote w.upper_bound (omega arith) c.behind-at.ensures).1

pub returns : goal.returns
returns c = filling_end c.loop-c.invariant (sym c.loop-c-test.ensures)
