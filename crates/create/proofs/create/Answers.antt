-- `create`: refused by its length, or two runs, one after the other.
use Rattle.std.proofs.Common.{ap, not}
use Rattle.create.specs.Creating.{create_refused, create_done}
use Rattle.create.proofs.create.Goals as goal

pub returns-then-not-right_length : goal.returns-then-not-right_length
returns-then-not-right_length c =
    rw c.from.ensures (create_refused _ _ _ c.right_length.ensures (ap not c.if-not-right_length.true))

pub returns : goal.returns
returns c =
    create_done _ _ c.right_length.ensures (ap not c.if-not-right_length.false) c.new-p.ensures
    c.write_pages.ensures
    c.write_clump.ensures
    c.finish.ensures
