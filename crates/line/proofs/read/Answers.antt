-- `read`: a law for each way out, of the fields that were taken.
use Rattle.std.proofs.Common.{sym, ◌∙◌, arith, rules, tests}
use Rattle.line.proofs.Parting.{all_left, none_left, one_taken}
use Rattle.line.proofs.Meanings.{line_long, line_short, no_number, first_not, one_number, second_not, two_numbers, third_not, three_numbers, too_many}
use Rattle.line.proofs.read.Goals as goal

pub returns-then-line-gt-LONGEST_LINE : goal.returns-then-line-gt-LONGEST_LINE
returns-then-line-gt-LONGEST_LINE c = line_long c.args.line.now (omega arith)

pub returns-in_default-next : goal.returns-in_default-next
returns-in_default-next c =
    c.alone.ensures ∙ line_short _ _ _ (omega arith)
    (none_left _ _ _ _ c.next-2.ensures.steps c.in_default-next.is
    (one_taken _ _ _ _ c.next.ensures.steps _ c.in-Some.is
    (all_left _ _ c.split-fields.ensures.rest c.split-fields.ensures.done c.split-fields.ensures.closure (λ x b q k. search (rules, tests)))))
    (no_number _)

pub returns-in_default-value : goal.returns-in_default-value
returns-in_default-value c =
    let w = one_taken _ _ _ _ c.next-2.ensures.steps _ c.in-Some-next.is
    (one_taken _ _ _ _ c.next.ensures.steps _ c.in-Some.is
    (all_left _ _ c.split-fields.ensures.rest c.split-fields.ensures.done c.split-fields.ensures.closure (λ x b q k. search (rules, tests)))) in
    line_short _ _ _ (omega arith) w.parts (first_not _ _ _ (sym c.value.ensures ∙ c.in_default-value.is))

pub returns-in_default-next-2 : goal.returns-in_default-next-2
returns-in_default-next-2 c =
    c.with_one.ensures ∙ line_short _ _ _ (omega arith)
    (none_left _ _ _ _ c.next-3.ensures.steps c.in_default-next-2.is
    (one_taken _ _ _ _ c.next-2.ensures.steps _ c.in-Some-next.is
    (one_taken _ _ _ _ c.next.ensures.steps _ c.in-Some.is
    (all_left _ _ c.split-fields.ensures.rest c.split-fields.ensures.done c.split-fields.ensures.closure (λ x b q k. search (rules, tests))))))
    (one_number _ _ _ (sym c.value.ensures ∙ c.in-Some-value.is))

pub returns-in_default-value-2 : goal.returns-in_default-value-2
returns-in_default-value-2 c =
    let w = one_taken _ _ _ _ c.next-3.ensures.steps _ c.in-Some-next-2.is
    (one_taken _ _ _ _ c.next-2.ensures.steps _ c.in-Some-next.is
    (one_taken _ _ _ _ c.next.ensures.steps _ c.in-Some.is
    (all_left _ _ c.split-fields.ensures.rest c.split-fields.ensures.done c.split-fields.ensures.closure (λ x b q k. search (rules, tests))))) in
    line_short _ _ _ (omega arith) w.parts (second_not _ _ _ (sym c.value.ensures ∙ c.in-Some-value.is) _ _ (sym c.value-2.ensures ∙ c.in_default-value-2.is))

pub returns-in_default-next-3 : goal.returns-in_default-next-3
returns-in_default-next-3 c =
    c.with_two.ensures ∙ line_short _ _ _ (omega arith)
    (none_left _ _ _ _ c.next-4.ensures.steps c.in_default-next-3.is
    (one_taken _ _ _ _ c.next-3.ensures.steps _ c.in-Some-next-2.is
    (one_taken _ _ _ _ c.next-2.ensures.steps _ c.in-Some-next.is
    (one_taken _ _ _ _ c.next.ensures.steps _ c.in-Some.is
    (all_left _ _ c.split-fields.ensures.rest c.split-fields.ensures.done c.split-fields.ensures.closure (λ x b q k. search (rules, tests)))))))
    (two_numbers _ _ _ (sym c.value.ensures ∙ c.in-Some-value.is) _ _ (sym c.value-2.ensures ∙ c.in-Some-value-2.is))

pub returns-in_default-value-3 : goal.returns-in_default-value-3
returns-in_default-value-3 c =
    let w = one_taken _ _ _ _ c.next-4.ensures.steps _ c.in-Some-next-3.is
    (one_taken _ _ _ _ c.next-3.ensures.steps _ c.in-Some-next-2.is
    (one_taken _ _ _ _ c.next-2.ensures.steps _ c.in-Some-next.is
    (one_taken _ _ _ _ c.next.ensures.steps _ c.in-Some.is
    (all_left _ _ c.split-fields.ensures.rest c.split-fields.ensures.done c.split-fields.ensures.closure (λ x b q k. search (rules, tests)))))) in
    line_short _ _ _ (omega arith) w.parts (third_not _ _ _ (sym c.value.ensures ∙ c.in-Some-value.is) _ _ (sym c.value-2.ensures ∙ c.in-Some-value-2.is) _ _ (sym c.value-3.ensures ∙ c.in_default-value-3.is))

pub returns-in-Some-next-4 : goal.returns-in-Some-next-4
returns-in-Some-next-4 c =
    let w = one_taken _ _ _ _ c.next-5.ensures.steps _ c.in-Some-next-4.is
    (one_taken _ _ _ _ c.next-4.ensures.steps _ c.in-Some-next-3.is
    (one_taken _ _ _ _ c.next-3.ensures.steps _ c.in-Some-next-2.is
    (one_taken _ _ _ _ c.next-2.ensures.steps _ c.in-Some-next.is
    (one_taken _ _ _ _ c.next.ensures.steps _ c.in-Some.is
    (all_left _ _ c.split-fields.ensures.rest c.split-fields.ensures.done c.split-fields.ensures.closure (λ x b q k. search (rules, tests))))))) in
    line_short _ _ _ (omega arith) w.parts (too_many _ _ _ (sym c.value.ensures ∙ c.in-Some-value.is) _ _ (sym c.value-2.ensures ∙ c.in-Some-value-2.is) _ _ (sym c.value-3.ensures ∙ c.in-Some-value-3.is) _ _)

pub returns : goal.returns
returns c =
    c.with_three.ensures ∙ line_short _ _ _ (omega arith)
    (none_left _ _ _ _ c.next-5.ensures.steps c.in_default-next-4.is
    (one_taken _ _ _ _ c.next-4.ensures.steps _ c.in-Some-next-3.is
    (one_taken _ _ _ _ c.next-3.ensures.steps _ c.in-Some-next-2.is
    (one_taken _ _ _ _ c.next-2.ensures.steps _ c.in-Some-next.is
    (one_taken _ _ _ _ c.next.ensures.steps _ c.in-Some.is
    (all_left _ _ c.split-fields.ensures.rest c.split-fields.ensures.done c.split-fields.ensures.closure (λ x b q k. search (rules, tests))))))))
    (three_numbers _ _ _ (sym c.value.ensures ∙ c.in-Some-value.is) _ _ (sym c.value-2.ensures ∙ c.in-Some-value-2.is) _ _ (sym c.value-3.ensures ∙ c.in-Some-value-3.is))
