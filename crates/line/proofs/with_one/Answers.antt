-- `with_one`: the table of names that take one number, entry by entry.
use Rattle.std.proofs.Common.{sym, ◌∙◌}
use Rattle.rules.specs.Pages.{codes}
use Rattle.line.specs.Lines.{commands}
use Rattle.line.specs.Names.{named_hit, named_pass, named_none}
use Rattle.line.proofs.with_one.Goals as goal

pub returns-then-same : goal.returns-then-same
unfolding commands codes
returns-then-same c =
    sym
    (named_hit _ _ _ _ (sym c.if-same.ensures))

pub returns-then-same-2 : goal.returns-then-same-2
unfolding commands codes
returns-then-same-2 c =
    sym
    (named_pass _ _ _ _ (sym c.if-same.ensures)
    ∙ named_hit _ _ _ _ (sym c.if-same-2.ensures))

pub returns-then-same-3 : goal.returns-then-same-3
unfolding commands codes
returns-then-same-3 c =
    sym
    (named_pass _ _ _ _ (sym c.if-same.ensures)
    ∙ named_pass _ _ _ _ (sym c.if-same-2.ensures)
    ∙ named_hit _ _ _ _ (sym c.if-same-3.ensures))

pub returns-then-same-4 : goal.returns-then-same-4
unfolding commands codes
returns-then-same-4 c =
    sym
    (named_pass _ _ _ _ (sym c.if-same.ensures)
    ∙ named_pass _ _ _ _ (sym c.if-same-2.ensures)
    ∙ named_pass _ _ _ _ (sym c.if-same-3.ensures)
    ∙ named_hit _ _ _ _ (sym c.if-same-4.ensures))

pub returns-then-same-5 : goal.returns-then-same-5
unfolding commands codes
returns-then-same-5 c =
    sym
    (named_pass _ _ _ _ (sym c.if-same.ensures)
    ∙ named_pass _ _ _ _ (sym c.if-same-2.ensures)
    ∙ named_pass _ _ _ _ (sym c.if-same-3.ensures)
    ∙ named_pass _ _ _ _ (sym c.if-same-4.ensures)
    ∙ named_hit _ _ _ _ (sym c.if-same-5.ensures))

pub returns-then-same-6 : goal.returns-then-same-6
unfolding commands codes
returns-then-same-6 c =
    sym
    (named_pass _ _ _ _ (sym c.if-same.ensures)
    ∙ named_pass _ _ _ _ (sym c.if-same-2.ensures)
    ∙ named_pass _ _ _ _ (sym c.if-same-3.ensures)
    ∙ named_pass _ _ _ _ (sym c.if-same-4.ensures)
    ∙ named_pass _ _ _ _ (sym c.if-same-5.ensures)
    ∙ named_hit _ _ _ _ (sym c.if-same-6.ensures))

pub returns-else-same-6 : goal.returns-else-same-6
unfolding commands codes
returns-else-same-6 c =
    sym
    (named_pass _ _ _ _ (sym c.if-same.ensures)
    ∙ named_pass _ _ _ _ (sym c.if-same-2.ensures)
    ∙ named_pass _ _ _ _ (sym c.if-same-3.ensures)
    ∙ named_pass _ _ _ _ (sym c.if-same-4.ensures)
    ∙ named_pass _ _ _ _ (sym c.if-same-5.ensures)
    ∙ named_pass _ _ _ _ (sym c.if-same-6.ensures)
    ∙ named_none _)
