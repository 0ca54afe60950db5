-- `of`: at the first clump all are left.
use Rattle.walk.specs.Left.{left_all, tiling_all}
use Rattle.walk.proofs.clumps.Clumps.of.Goals as goal

pub returns-clause-tile : goal.returns-clause-tile
returns-clause-tile c = tiling_all _ c.requires

pub returns-clause-all : goal.returns-clause-all
returns-clause-all c = left_all _
