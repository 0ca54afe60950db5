-- The reading of an image, byte for byte, by computing it: apart from the table that it belongs to, since it takes as long as all of that.
-- Assumes nothing.
use Rattle.std.specs.Prelude.{refl}
use Rattle.rules.specs.Reading.{reading}
use Rattle.rules.specs.Cases.{every_rule}
use Rattle.rules.specs.ReadingSamples.{OneClumpReads}

pub one_clump_reads : OneClumpReads
unfolding every_rule reading
one_clump_reads = refl
