-- `unmarked`: those with bit 0 clear; an empty one stays empty.
use Rattle.std.proofs.Common.{◌∙◌}
use Rattle.rules.specs.Clumps.{unmarked}
use Rattle.page.specs.Forms.{has_bit}
use Rattle.page.specs.Slots.{only_same, bit_unmarked}
use Rattle.page.proofs.entry.unmarked.Goals as goal

pub returns : goal.returns
returns c = c.only.ensures ∙ only_same (has_bit 0) unmarked c.args.l bit_unmarked
