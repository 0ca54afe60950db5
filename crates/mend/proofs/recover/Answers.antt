-- `recover`: refused, cut in its first part or in its second, or all three parts.
use Rattle.std.proofs.Common.{ap, refl}
use Rattle.rules.specs.Requests.{verdict}
use Rattle.answer.specs.Refusals.{refusal_not_done}
use Rattle.laws.specs.Pools.{pool_tiles}
use Rattle.word.specs.declared.Power.{Power}
use Rattle.survey.specs.Checking.{surveyed_sound, surveyed_first}
use Rattle.steps.specs.Acts.{acts_does, unsound_acts}
use Rattle.mend.specs.Recovering.{sound_targets, settled_tiled, released_tiled, cut-first, cut-second, cut-never}
use Rattle.mend.proofs.recover.Goals as goal

pub returns-in-Err : goal.returns-in-Err
unfolding verdict
returns-in-Err c =
    rw c.from.ensures
    (acts_does _ refl (unsound_acts c.args.img.now _ (rw c.in-Err.is at c.sound-surveyed.ensures.answered) (refusal_not_done _) _ _))

pub finish_pending-requires-clause-tiled : goal.finish_pending-requires-clause-tiled
finish_pending-requires-clause-tiled c = pool_tiles _ _ (surveyed_sound c.sound-surveyed.ensures c.in_default.is)

pub finish_pending-requires-clause-unfinished : goal.finish_pending-requires-clause-unfinished
finish_pending-requires-clause-unfinished c = surveyed_first c.sound-surveyed.ensures c.in_default.is

pub finish_pending-requires-clause-targets_valid : goal.finish_pending-requires-clause-targets_valid
finish_pending-requires-clause-targets_valid c = sound_targets c.args.img.now (surveyed_sound c.sound-surveyed.ensures c.in_default.is)

pub returns-then-p : goal.returns-then-p
returns-then-p c =
    cut-first c.args.img.now (surveyed_sound c.sound-surveyed.ensures c.in_default.is) _ c.finish_pending.ensures c.new-p.ensures
    c.if-p.true
    c.finish.ensures

pub release_reserved-requires : goal.release_reserved-requires
release_reserved-requires c =
    record {
      tiled =
          settled_tiled c.args.img.now (surveyed_sound c.sound-surveyed.ensures c.in_default.is) c.finish_pending.ensures
          (ap (λ (k : Power). k.cut) c.new-p.ensures)
          c.if-p.false;
    }

pub returns-then-p-2 : goal.returns-then-p-2
returns-then-p-2 c =
    cut-second c.args.img.now (surveyed_sound c.sound-surveyed.ensures c.in_default.is) _ c.finish_pending.ensures c.new-p.ensures
    c.if-p.false
    c.release_reserved.ensures
    c.if-p-2.true
    c.finish-then-p-2.ensures

pub join_runs-requires : goal.join_runs-requires
join_runs-requires c =
    record {
      tiled =
          released_tiled c.args.img.now (surveyed_sound c.sound-surveyed.ensures c.in_default.is) c.finish_pending.ensures
          (ap (λ (k : Power). k.cut) c.new-p.ensures)
          c.if-p.false
          c.release_reserved.ensures
          c.if-p-2.false;
    }

pub returns : goal.returns
returns c =
    cut-never c.args.img.now (surveyed_sound c.sound-surveyed.ensures c.in_default.is) _ c.finish_pending.ensures c.new-p.ensures
    c.if-p.false
    c.release_reserved.ensures
    c.if-p-2.false
    c.join_runs.ensures
    c.finish-2.ensures
