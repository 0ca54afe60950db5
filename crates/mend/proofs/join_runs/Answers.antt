-- `join_runs`: each clump as it is when the walk comes to it lies in the image; the stores so far are a run, and the last run's ends it.
use Rattle.std.proofs.Common.{arith, sym, subst}
use Rattle.rules.specs.Pages.{clumps_at}
use Rattle.rules.specs.Reading.{clumps_of}
use Rattle.laws.specs.Tilings.{tiles_le}
use Rattle.laws.specs.Joins.{joins, joins_are}
use Rattle.mend.specs.Passes.{Passing, passing_start, passing_here, passing_end, open_store_is, runs_start, runs_sum, join_next}
use Rattle.mend.proofs.join_runs.Goals as goal

pub loop-h-init : goal.loop-h-init
loop-h-init c = (
  subst (Passing (joins 0 0 0) _ _ _ _ clumps_at) (joins_are clumps_at _ (clumps_of c.args.img.now) c.requires.tiled)
      (passing_start (joins 0 0 0) _ _ c.requires.tiled),
  runs_start _,
  tiles_le clumps_at _ (clumps_of c.args.img.now) c.requires.tiled,
)

pub read-c-requires-clause-in_image : goal.read-c-requires-clause-in_image
read-c-requires-clause-in_image c =
    let k = passing_here c.loop-h.invariant.0 c.loop-h-test.true in omega arith

pub next_run-run-requires : goal.next_run-run-requires
next_run-run-requires c =
    let k = passing_here c.loop-h.invariant.0 c.loop-h-test.true in
    omega (arith, runs_sum _ _ c.loop-h.invariant.1, c.read-c.ensures.nbytes, k.room)

pub overflow_add-h : goal.overflow_add-h
overflow_add-h c =
    let k = passing_here c.loop-h.invariant.0 c.loop-h-test.true in omega (arith, c.read-c.ensures.nbytes, k.room)

pub loop-h-smaller : goal.loop-h-smaller
loop-h-smaller c =
    let k = passing_here c.loop-h.invariant.0 c.loop-h-test.true in
    omega (arith, c.read-c.ensures.nbytes, k.least, k.room, c.loop-h.invariant.0.ran.long)

pub loop-h-preserved : goal.loop-h-preserved
loop-h-preserved c =
    join_next _ _ c.read-c.ensures.nbytes c.read-c.ensures.state c.loop-h-test.true c.loop-h.run _ c.loop-h.invariant.0 c.loop-h.invariant.1
    c.store_run.ensures
    (rw c.read-c.ensures.at at c.next_run-run.ensures)

pub returns : goal.returns
unfolding joins
returns c = passing_end c.loop-h.invariant.0 c.loop-h-test.false _ (sym (open_store_is c.loop-h.run)) c.store_run-2.ensures
