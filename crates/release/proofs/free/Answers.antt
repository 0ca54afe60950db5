-- `free`: the survey, the finder, and the clump that it finds.
use Rattle.std.proofs.Common.{refl}
use Rattle.rules.specs.declared.Request.TheVariants.{Free}
use Rattle.rules.specs.Words.{mem}
use Rattle.rules.specs.Requests.{finder, found, verdict, free}
use Rattle.rules.specs.Reading.{clumps_of}
use Rattle.answer.specs.Refusals.{refusal_not_done}
use Rattle.walk.specs.Scans.{found_none, found_some}
use Rattle.steps.specs.Acts.{stopped_does, settled_tiles, missing_does, found_does}
use Rattle.release.proofs.free.Goals as goal

pub returns-in-Err : goal.returns-in-Err
unfolding verdict
returns-in-Err c =
    rw c.from.ensures
    (stopped_does c.args.img.now _ c.in-Err.ensures
    (found (finder (clumps_of c.args.img.now) c.args.offset) (free (mem c.args.img.now) (clumps_of c.args.img.now) c.args.offset))
    (refusal_not_done _)
    refl)

pub find-requires : goal.find-requires
find-requires c = settled_tiles c.args.img.now _ c.in_default.ensures refl

pub returns-in_default-find : goal.returns-in_default-find
unfolding verdict
returns-in_default-find c =
    rw c.from-in_default-find.ensures
    (missing_does c.args.img.now _ c.in_default.ensures (Free c.args.offset) _ _ (free (mem c.args.img.now) (clumps_of c.args.img.now) c.args.offset)
    refl
    refl
    (found_none _ _ _ (settled_tiles c.args.img.now _ c.in_default.ensures refl) _ c.find.ensures c.in_default-find.is))

pub free_at-requires-clause-tiled : goal.free_at-requires-clause-tiled
free_at-requires-clause-tiled c = settled_tiles c.args.img.now _ c.in_default.ensures refl

pub free_at-requires-clause-finds : goal.free_at-requires-clause-finds
free_at-requires-clause-finds c =
    found_some _ _ _ (settled_tiles c.args.img.now _ c.in_default.ensures refl) _ c.find.ensures _ c.in-Some.is

pub returns : goal.returns
unfolding verdict
returns c =
    found_does c.args.img.now _ c.in_default.ensures (Free c.args.offset) _ _ (free (mem c.args.img.now) (clumps_of c.args.img.now) c.args.offset)
    refl
    refl
    _
    (found_some _ _ _ (settled_tiles c.args.img.now _ c.in_default.ensures refl) _ c.find.ensures _ c.in-Some.is).found
    c.free_at.ensures
