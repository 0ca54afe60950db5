-- `value`: an empty field, a byte that is no digit, a digit that the value has no room for, a digit that is added on, and the end.
use Rattle.std.proofs.Common.{◌≡◌, ◌+◌, ◌-◌, ◌*◌, get_or, arith, sym, ◌∙◌, eqb-true}
use Rattle.std.proofs.lemmas.Bool.{eqb-false}
use Rattle.line.specs.Lines.{is_digit}
use Rattle.line.specs.Numbers.{number_empty, number_value, number_end, number_stops, number_goes, number_past}
use Rattle.line.proofs.value.Goals as goal

pub returns-then-is_empty : goal.returns-then-is_empty
returns-then-is_empty c = sym (number_empty _ (eqb-true _ _ (sym c.if-is_empty.ensures)))

pub loop-b-init : goal.loop-b-init
loop-b-init c = (omega arith, number_value c.args.field.now (eqb-false _ _ (sym c.if-is_empty.ensures)))

pub returns-then-not-is_ascii_digit : goal.returns-then-not-is_ascii_digit
unfolding is_digit
returns-then-not-is_ascii_digit c = number_stops _ _ _ c.loop-b.invariant.1 c.loop-b-test.true (sym c.if-not-is_ascii_digit.ensures.value)

pub returns-in_err-checked_mul : goal.returns-in_err-checked_mul
unfolding is_digit
returns-in_err-checked_mul c = c.from_residual.ensures ∙ number_past _ _ _ c.loop-b.invariant.1 c.loop-b-test.true (sym c.if-not-is_ascii_digit.ensures.value) (omega (arith, c.in_err-checked_mul.ensures))

pub returns-in_err-n : goal.returns-in_err-n
unfolding is_digit
returns-in_err-n c = c.from_residual-in_err-n.ensures ∙ number_past _ _ _ c.loop-b.invariant.1 c.loop-b-test.true (sym c.if-not-is_ascii_digit.ensures.value) (omega (arith, c.in_err-n.ensures, c.in_ok-checked_mul.ensures))

pub loop-b-preserved : goal.loop-b-preserved
unfolding is_digit
loop-b-preserved c =
    let b = get_or c.args.field.now c.loop-b.b-index 0 in
    let sum : c.in_ok-n.n ≡ 10 * c.loop-b.n + (b - 48) = omega (arith, c.in_ok-n.ensures, c.in_ok-checked_mul.ensures) in
    (omega (arith, c.in_ok-n.ensures), rw sum (number_goes _ _ _ c.loop-b.invariant.1 c.loop-b-test.true (sym c.if-not-is_ascii_digit.ensures.value)))

pub returns : goal.returns
returns c =
    number_end c.args.field.now c.loop-b.n c.loop-b.b-index c.loop-b.invariant.1 (omega arith) c.loop-b.invariant.0
