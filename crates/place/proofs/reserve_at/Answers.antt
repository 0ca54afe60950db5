-- `reserve_at`: split where the rest is large enough, else whole.
use Rattle.std.proofs.Common.{arith, sym, ◌∙◌}
use Rattle.laws.specs.Needs.{need_even}
use Rattle.place.specs.Places.{split_acts, whole_acts}
use Rattle.place.proofs.reserve_at.Goals as goal
use Rattle.place.proofs.reserve_at.Goals.{then-is_split, else-is_split}

pub split_off-requires-clause-rest_aligned : goal.split_off-requires-clause-rest_aligned
split_off-requires-clause-rest_aligned c =
    let k = c.need_of-need.ensures in
    let d = need_even c.args.size in
    omega arith

pub returns : goal.returns
returns c =
    elim c.if-is_split.branch [
      | then-is_split w ↦
          rw w.img-is
          (split_acts _ _ _ _ _ _ _ _ c.new-p.ensures c.get-n.ensures c.need_of-need.ensures (sym c.is_split.ensures ∙ w.if-is_split.true)
          w.split_off.ensures
          (rw w.p-is at c.finish.ensures))
      | else-is_split w ↦
          rw w.img-is
          (whole_acts _ _ _ _ _ _ _ _ c.new-p.ensures c.get-n.ensures c.need_of-need.ensures (sym c.is_split.ensures ∙ w.if-is_split.false)
          w.take_whole.ensures
          (rw w.p-is at c.finish.ensures))
    ]
