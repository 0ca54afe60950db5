-- `sound`: a law for each way out.
use Rattle.std.proofs.Common.{sym, ◌∙◌}
use Rattle.judge.specs.Judging.{judged_sound}
use Rattle.survey.specs.Checking.{surveys_no_pool, surveys_fault, surveys_done}
use Rattle.survey.proofs.sound.Goals as goal

pub returns-then-not-is_pool : goal.returns-then-not-is_pool
returns-then-not-is_pool c =
    surveys_no_pool c.args.img.now _ (sym c.is_pool.ensures ∙ c.if-not-is_pool.true) c.start.ensures

pub returns-in-None : goal.returns-in-None
returns-in-None c =
    surveys_done c.args.img.now _ (sym c.is_pool.ensures ∙ c.if-not-is_pool.false) c.see-seen.ensures
    (judged_sound _ (sym c.in-None.is ∙ c.judge.ensures))

pub returns-in-Some : goal.returns-in-Some
returns-in-Some c =
    surveys_fault c.args.img.now _ (sym c.is_pool.ensures ∙ c.if-not-is_pool.false) c.see-seen.ensures _
    (sym c.in-Some.is ∙ c.judge.ensures)
