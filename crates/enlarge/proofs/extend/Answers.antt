-- `extend`: split where the rest is large enough, else the one store of both.
use Rattle.std.proofs.Common.{arith, sym, ◌∙◌}
use Rattle.laws.specs.Needs.{need_even}
use Rattle.word.specs.Runs.{ran_then}
use Rattle.enlarge.specs.Enlarging.{split_acts, whole_acts}
use Rattle.enlarge.proofs.extend.Goals as goal
use Rattle.enlarge.proofs.extend.Goals.{then-is_split, else-is_split}

pub head_rest-requires-clause-aligned : goal.head_rest-requires-clause-aligned
head_rest-requires-clause-aligned c =
    let k = c.need_of-need.ensures in
    let d = need_even c.args.size in
    let i = c.requires in
    omega arith

pub returns : goal.returns
returns c =
    elim c.if-is_split.branch [
      | then-is_split w ↦
          rw w.img-is
          (split_acts _ _ _ _ _ _ _ _ c.new-p.ensures c.need_of-need.ensures (sym c.is_split.ensures ∙ w.if-is_split.true)
          (ran_then w.head_rest.ensures w.store.ensures)
          (rw w.p-is at c.finish.ensures))
      | else-is_split w ↦
          rw w.img-is
          (whole_acts _ _ _ _ _ _ _ _ c.new-p.ensures c.need_of-need.ensures (sym c.is_split.ensures ∙ w.if-is_split.false)
          w.store-else-is_split.ensures
          (rw w.p-is at c.finish.ensures))
    ]
