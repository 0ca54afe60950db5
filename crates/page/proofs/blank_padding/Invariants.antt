-- `blank_padding`: whether the padding is 0 is left to the words from the i-th on.
use Rattle.std.proofs.Common.{◌≡◌, ◌*◌}
use Rattle.rules.specs.Words.{mem, word_bytes, all_zero}
use Rattle.rules.specs.Pages.{padding_at, padding_words, clumps_at}
use Rattle.page.specs.Padding.{zero_up_to}
use Rattle.page.proofs.blank_padding.Given as goal

abbrev pub invariant-loop-i : goal.invariant-loop-i
invariant-loop-i l = zero_up_to (mem l.img) (word_bytes * l.i) clumps_at ≡ all_zero (mem l.img) padding_at padding_words
