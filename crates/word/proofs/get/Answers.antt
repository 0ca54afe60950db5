-- `get`: the eight bytes at the offset make the word there, and the offset is divisible by 8.
use Rattle.std.proofs.Common.{◌≡◌, ◌+◌, ◌-◌, sym, ap, ◌∙◌, rules, arith, take, drop}
use Rattle.std.specs.Int.{w64, from_le_bytes}
use Rattle.word.specs.Memory.{mem-at}
use Rattle.word.specs.Chunks.{word_bytes_le}
use Rattle.word.proofs.get.Goals as goal

pub returns : goal.returns
returns c =
    let eight : c.args.at + 8 - c.args.at ≡ 8 = omega arith in
    let bytes : c.unwrap-bytes.result ≡ take 8 (drop c.args.at c.args.img.now) = (rw (c.unwrap-bytes.ensures, eight) at c.try_into.ensures).1.same in
    c.from_le_bytes.ensures
    ∙ ap (from_le_bytes w64) bytes
    ∙ word_bytes_le c.args.img.now c.args.at
    ∙ sym (mem-at c.args.img.now c.args.at (search rules))
