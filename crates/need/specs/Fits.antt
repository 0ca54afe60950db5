-- So many bytes at an offset are enough for a need, and lie in the image. Assumes nothing.
use Rattle.std.specs.Prelude.{ℕ, ◌+◌, ◌%◌, ◌<◌, ◌≤◌, ◌≡◌}
use Rattle.rules.specs.Words.{word_values}
use Rattle.rules.specs.Pages.{unit}
use Rattle.rules.specs.Clumps.{least_clump}

-- bytes at h, in an image of n
pub record Fit (n need h bytes : ℕ) : Type 0 where
  pub even : h % unit ≡ 0
  pub least : least_clump ≤ need
  pub enough : need ≤ bytes
  pub room : h + bytes ≤ n
  pub small : n < word_values
