-- `in_body`: the closure asks of each clump what the rule does.
use Rattle.std.proofs.Common.{rules, tests, ◌∙◌}
use Rattle.std.proofs.lemmas.Iterator.Consumers.{YieldsList-from_first}
use Rattle.std.proofs.lemmas.Iterator.Search.{any_from_yields_List}
use Rattle.rules.specs.Sound.{holds_word}
use Rattle.page.specs.Forms.{head_of}
use Rattle.walk.specs.Left.{clumps_left, any_is}
use Rattle.walk.proofs.in_body.Goals as goal

pub returns : goal.returns
returns c =
    any_from_yields_List (holds_word c.args.t) c.any.new.self _ _ c.any.ensures.ran
    (YieldsList-from_first head_of (λ s. clumps_left s.img.now s.at) _ c.of.ensures.all)
    (λ x b q k. search (rules, tests))
    ∙ any_is _ _
