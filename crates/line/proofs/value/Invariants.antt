-- `value`: n is the value of the digits passed, which stays within 64 bits, and what is left decides.
use Rattle.std.proofs.Common.{◌≡◌, ◌<◌, drop}
use Rattle.rules.specs.Words.{word_values}
use Rattle.line.specs.Lines.{value_from, in_word, number}
use Rattle.line.proofs.value.Given as goal

abbrev pub invariant-loop-b : goal.invariant-loop-b
invariant-loop-b l = (l.n < word_values) × (in_word (value_from l.n (drop l.b-index l.field)) ≡ number l.field)
