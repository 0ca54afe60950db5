-- `all_pass`: the closure asks of each entry what the list's test does, by what the test that was handed in answers of its target.
use Rattle.std.proofs.Common.{rules, tests, ◌∙◌}
use Rattle.std.proofs.lemmas.Iterator.{YieldsList-from_slice}
use Rattle.std.proofs.lemmas.Iterator.Search.{all_from_yields_List}
use Rattle.page.specs.Forms.{entry_passes}
use Rattle.page.specs.Slots.{passes_all}
use Rattle.page.proofs.entry.all_pass.Goals as goal

pub returns : goal.returns
returns g c = λ q h.
    all_from_yields_List (entry_passes q) _ _ _ c.all.ensures.ran (YieldsList-from_slice c.args.l cc) (λ x b s k. search (rules, tests)) ∙ passes_all q c.args.l
