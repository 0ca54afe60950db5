-- `clumps`: each part gets on. The measure is what is left of the image. Assumes nothing.
use Rattle.std.proofs.Common.{◌≡◌, ◌-◌, ◌<◌, ◌%◌, length}
use Rattle.rules.specs.Words.{word_bytes}
use Rattle.obey.proofs.say.clumps.Given as goal

abbrev pub invariant-loop-out : goal.invariant-loop-out
invariant-loop-out g l = l.at < length l.img → l.at % word_bytes ≡ 0

abbrev pub decreases-loop-out : goal.decreases-loop-out
decreases-loop-out g l = length l.img - l.at
