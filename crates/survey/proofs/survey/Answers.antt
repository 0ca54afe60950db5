-- `survey`: a law for each way out.
use Rattle.std.proofs.Common.{sym, ◌∙◌}
use Rattle.std.proofs.lemmas.Result.{err_from_is_err_and}
use Rattle.answer.specs.Refusals.{ok_done, err_not_done}
use Rattle.survey.specs.Checking.{survey_refused, survey_unsettled, survey_settled, surveyed_unsettled}
use Rattle.survey.proofs.survey.Goals as goal

pub returns-in_err-surveyed : goal.returns-in_err-surveyed
returns-in_err-surveyed c fuse =
    let p = err_from_is_err_and c.from_residual.result c.from_residual.ensures.1 in
    let t = c.in_err-surveyed.was in
    rw (p.1, p.2) (rw t at (survey_refused _ _ _ c.sound-surveyed.ensures.answered (err_not_done t) fuse))

pub returns-then-is_unsettled : goal.returns-then-is_unsettled
returns-then-is_unsettled c =
    let t = c.in_ok-surveyed.was in
    survey_unsettled _ _ _ c.sound-surveyed.ensures.answered (ok_done t)
    (surveyed_unsettled c.sound-surveyed.ensures t ∙ sym c.is_unsettled.ensures ∙ c.if-is_unsettled.true)

pub returns : goal.returns
returns c fuse =
    let t = c.in_ok-surveyed.was in
    rw t at
    (survey_settled _ _ _ c.sound-surveyed.ensures.answered (ok_done t)
    (surveyed_unsettled c.sound-surveyed.ensures t ∙ sym c.is_unsettled.ensures ∙ c.if-is_unsettled.false)
    fuse)
