-- `activate_at`: a law for each way out.
use Rattle.std.proofs.Common.{sym, ap, ◌∙◌, eq-eqb, ne_eqb}
use Rattle.rules.specs.Words.{mem}
use Rattle.rules.specs.Clumps.{head, unmarked}
use Rattle.rules.specs.Reading.{clumps_of}
use Rattle.laws.specs.Choices.{chooses_unmarked}
use Rattle.word.specs.Runs.{ran_then}
use Rattle.page.specs.Forms.{only_in}
use Rattle.walk.specs.Scans.{list_valid_lem, list_in}
use Rattle.steps.specs.Acts.{acts_same, acts_refused, acts_ran}
use Rattle.turn.specs.Turns.{activate_state, activate-bad, activate-done}
use Rattle.turn.proofs.activate_at.Goals as goal

pub returns-then-c-ne-RESERVED : goal.returns-then-c-ne-RESERVED
returns-then-c-ne-RESERVED c =
    let m = mem c.args.img.now in
    rw c.from.ensures
    (acts_same _ _
    (activate_state m (clumps_of c.args.img.now) c.args.offset (head m c.args.found.at)
    (let x = c.read-c.ensures.state in cc (ne_eqb c.read-c.result.state 1 c.if-c-ne-RESERVED.true)))
    (acts_refused _ _ _ _ _))

pub returns-then-not-all_valid : goal.returns-then-not-all_valid
returns-then-not-all_valid c =
    let m = mem c.args.img.now in
    let e = c.unmarked-due.ensures ∙ ap (only_in unmarked) c.list-l.ensures in
    rw c.from-then-not-all_valid.ensures
    (acts_same _ _
    (activate-bad m (clumps_of c.args.img.now) c.args.offset (head m c.args.found.at)
    (let x = c.read-c.ensures.state in cc (eq-eqb c.read-c.result.state 1 c.if-c-ne-RESERVED.false))
    (sym (list_valid_lem unmarked chooses_unmarked m _ c.args.found.at _ e) ∙ sym c.all_valid.ensures ∙ c.if-not-all_valid.true))
    (acts_refused _ _ _ _ _))

pub finish_activating-requires-clause-targets_in_image : goal.finish_activating-requires-clause-targets_in_image
finish_activating-requires-clause-targets_in_image c =
    rw c.store.ensures.long (list_in _ _ _ c.requires.tiled (sym c.all_valid.ensures ∙ c.if-not-all_valid.false))

pub returns : goal.returns
returns c =
    let m = mem c.args.img.now in
    let e = c.unmarked-due.ensures ∙ ap (only_in unmarked) c.list-l.ensures in
    acts_same _ _
    (activate-done m (clumps_of c.args.img.now) c.args.offset (head m c.args.found.at)
    (let x = c.read-c.ensures.state in cc (eq-eqb c.read-c.result.state 1 c.if-c-ne-RESERVED.false))
    (sym (list_valid_lem unmarked chooses_unmarked m _ c.args.found.at _ e) ∙ sym c.all_valid.ensures ∙ c.if-not-all_valid.false)
    _
    e)
    (acts_ran _ _ (ran_then (rw c.new-p.ensures at c.store.ensures) c.finish_activating.ensures) c.finish.ensures)
