-- `done`: the fields so far are written, in 21 bytes each at most.
use Rattle.std.proofs.Common.{◌*◌, ◌≤◌}
use Rattle.text.specs.Texts.{field_bytes}
use Rattle.text.specs.Writing.{Wrote}
use Rattle.outcome.specs.Texts.{spaced}
use Rattle.outcome.proofs.done.Given as goal

abbrev pub invariant-loop-n : goal.invariant-loop-n
invariant-loop-n l = record {
  within : l.at ≤ field_bytes * l.n-index;
  wrote : Wrote l.fn.out 0 (spaced l.n-items l.n-index) l.out l.at;
}
