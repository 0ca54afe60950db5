-- `onactive`: the survey, the finder, and the clump that it finds, whose state allows it or not.
use Rattle.std.proofs.Common.{ℕ, arith, ap, refl, eqb}
use Rattle.rules.specs.declared.Request.TheVariants.{Onactive}
use Rattle.rules.specs.Words.{mem}
use Rattle.rules.specs.Clumps.{has_state, RESERVED}
use Rattle.rules.specs.Requests.{finder, found, verdict, enlist}
use Rattle.rules.specs.Reading.{clumps_of}
use Rattle.answer.specs.Refusals.{refusal_not_done}
use Rattle.walk.specs.Scans.{found_none, found_some}
use Rattle.steps.specs.Acts.{acts_same, stopped_does, settled_tiles, missing_does, found_does}
use Rattle.list.specs.Slots.{enlist_by}
use Rattle.list.proofs.onactive.Goals as goal

pub returns-in-Err : goal.returns-in-Err
unfolding verdict
returns-in-Err c =
    rw c.from.ensures
    (stopped_does c.args.img.now _ c.in-Err.ensures
    (found (finder (clumps_of c.args.img.now) c.args.offset) (enlist (mem c.args.img.now) (clumps_of c.args.img.now) (has_state RESERVED) c.args.offset c.args.target c.args.target c.args.value))
    (refusal_not_done _)
    refl)

pub find-requires : goal.find-requires
find-requires c = settled_tiles c.args.img.now _ c.in_default.ensures refl

pub returns-in_default-find : goal.returns-in_default-find
unfolding verdict
returns-in_default-find c =
    rw c.from-in_default-find.ensures
    (missing_does c.args.img.now _ c.in_default.ensures (Onactive c.args.offset c.args.target c.args.value) _ _ (enlist (mem c.args.img.now) (clumps_of c.args.img.now) (has_state RESERVED) c.args.offset c.args.target c.args.target c.args.value)
    refl
    refl
    (found_none _ _ _ (settled_tiles c.args.img.now _ c.in_default.ensures refl) _ c.find.ensures c.in_default-find.is))

pub read-c-requires-clause-in_image : goal.read-c-requires-clause-in_image
read-c-requires-clause-in_image c =
    let i = (found_some _ _ _ (settled_tiles c.args.img.now _ c.in_default.ensures refl) _ c.find.ensures _ c.in-Some.is).inside in
    omega arith

pub read-c-requires-clause-aligned : goal.read-c-requires-clause-aligned
read-c-requires-clause-aligned c =
    let i = (found_some _ _ _ (settled_tiles c.args.img.now _ c.in_default.ensures refl) _ c.find.ensures _ c.in-Some.is).inside in
    omega arith

pub enlist_at-requires-clause-tiled : goal.enlist_at-requires-clause-tiled
enlist_at-requires-clause-tiled c = settled_tiles c.args.img.now _ c.in_default.ensures refl

pub enlist_at-requires-clause-finds : goal.enlist_at-requires-clause-finds
enlist_at-requires-clause-finds c =
    found_some _ _ _ (settled_tiles c.args.img.now _ c.in_default.ensures refl) _ c.find.ensures _ c.in-Some.is

pub returns : goal.returns
unfolding verdict
returns c =
    found_does c.args.img.now _ c.in_default.ensures (Onactive c.args.offset c.args.target c.args.value) _ _ (enlist (mem c.args.img.now) (clumps_of c.args.img.now) (has_state RESERVED) c.args.offset c.args.target c.args.target c.args.value)
    refl
    refl
    _
    (found_some _ _ _ (settled_tiles c.args.img.now _ c.in_default.ensures refl) _ c.find.ensures _ c.in-Some.is).found
    (acts_same _ _
    (enlist_by (mem c.args.img.now) (clumps_of c.args.img.now) _ c.args.offset c.args.target _ c.args.value _ (has_state RESERVED) c.args.target
    (ap (λ (s : ℕ). eqb s RESERVED) c.read-c.ensures.state)
    (omega arith))
    c.enlist_at.ensures)
