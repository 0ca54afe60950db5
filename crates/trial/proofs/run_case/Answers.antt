-- `run_case`: the first bytes of the room are the filled image that the definition starts from.
use Rattle.std.proofs.Common.{rules, refl, true}
use Rattle.trial.specs.Filling.{filled_front, ran_done}
use Rattle.trial.proofs.run_case.Goals as goal

pub returns : goal.returns
returns c =
    ran_done _ _ _ (filled_front _ _ _ _ c.filled-space.ensures (search rules)) true c.in_ok-put_words.ensures.value
    refl _ c.in_ok-put_words.ensures.img_after _ c.tried.ensures
