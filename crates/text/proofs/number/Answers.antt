-- `number`: the digits, as `Display` shows them, and the byte behind them.
use Rattle.std.specs.Prelude.{List, ℕ}
use Rattle.std.proofs.Common.{◌∙◌, subst}
use Rattle.text.proofs.Decimals.{decimal_shown}
use Rattle.text.specs.Writing.{Wrote, wrote_byte, wrote_then}
use Rattle.text.proofs.number.Goals as goal

pub returns-clause-wrote : goal.returns-clause-wrote
returns-clause-wrote c =
    let e = c.as_bytes.ensures.value ∙ c.format.ensures.text ∙ decimal_shown c.args.n c.ranges.n.fits in
    wrote_then (subst (λ (ds : List ℕ). Wrote c.args.out.now c.args.at ds c.bytes-i.new.out c.bytes-i.result) e c.bytes-i.ensures) (wrote_byte _ _ _)
