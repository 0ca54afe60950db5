-- `grow`: the survey, the size, the finder, and the clump that it finds.
use Rattle.std.proofs.Common.{arith, ap, refl}
use Rattle.rules.specs.declared.Request.TheVariants.{Grow}
use Rattle.rules.specs.Answers.{refuse, size_zero, if_settled}
use Rattle.rules.specs.Requests.{grown, grow, verdict}
use Rattle.rules.specs.Reading.{clumps_of}
use Rattle.answer.specs.Refusals.{refusal_not_done}
use Rattle.walk.specs.Scans.{found_none, found_some}
use Rattle.steps.specs.Acts.{settled-length, settled_tiles, stopped_does, passed_does, missing_does, found_does, acts_refused}
use Rattle.enlarge.specs.Enlarging.{grow_zero, grow-asked}
use Rattle.enlarge.proofs.grow.Goals as goal

pub returns-in-Err : goal.returns-in-Err
unfolding verdict
returns-in-Err c =
    rw c.from.ensures
    (stopped_does c.args.img.now _ c.in-Err.ensures (grow (clumps_of c.args.img.now) c.args.offset c.args.size) (refusal_not_done _) refl)

pub returns-then-size-eq0 : goal.returns-then-size-eq0
unfolding verdict
returns-then-size-eq0 c =
    rw c.from-then-size-eq0.ensures
    (passed_does c.args.img.now _ c.in_default.ensures (grow (clumps_of c.args.img.now) c.args.offset c.args.size) (refuse size_zero) refl refl
    (grow_zero _ _ _ c.if-size-eq0.true)
    (acts_refused _ _ _ _ _))

pub find-requires : goal.find-requires
find-requires c = settled_tiles c.args.img.now _ c.in_default.ensures refl

pub returns-in_default-find : goal.returns-in_default-find
unfolding verdict
returns-in_default-find c =
    rw c.from-in_default-find.ensures
    (missing_does c.args.img.now _ c.in_default.ensures (Grow c.args.offset c.args.size) _ _
    (grown (clumps_of c.args.img.now) c.args.offset c.args.size)
    refl
    (ap (if_settled _ _) (grow-asked (clumps_of c.args.img.now) c.args.offset c.args.size c.if-size-eq0.false))
    (found_none _ _ _ (settled_tiles c.args.img.now _ c.in_default.ensures refl) _ c.find.ensures c.in_default-find.is))

pub grow_at-requires : goal.grow_at-requires
grow_at-requires c =
    let l = settled-length c.args.img.now _ c.in_default.ensures refl in
    let t = settled_tiles c.args.img.now _ c.in_default.ensures refl in
    record {
      tiles = t;
      below = _;
      finds = found_some _ _ _ t _ c.find.ensures _ c.in-Some.is;
      small = omega arith;
      asked = c.if-size-eq0.false;
    }

pub returns : goal.returns
unfolding verdict
returns c =
    found_does c.args.img.now _ c.in_default.ensures (Grow c.args.offset c.args.size) _ _
    (grown (clumps_of c.args.img.now) c.args.offset c.args.size)
    refl
    (ap (if_settled _ _) (grow-asked (clumps_of c.args.img.now) c.args.offset c.args.size c.if-size-eq0.false))
    _
    (found_some _ _ _ (settled_tiles c.args.img.now _ c.in_default.ensures refl) _ c.find.ensures _ c.in-Some.is).found
    c.grow_at.ensures
