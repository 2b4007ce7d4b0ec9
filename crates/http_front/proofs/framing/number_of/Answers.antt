use Rattle.std.proofs.Common.{get_or, arith}
use Rattle.std.proofs.lemmas.Int.Digits.{digits_value_more}
use Rattle.http_front.proofs.LengthLemmas.{all_digits, digit_at, digit_written, number_below}
use Rattle.http_front.proofs.framing.number_of.Goals as goal

pub overflow_mul-number : goal.overflow_mul-number
overflow_mul-number c =
    let value = c.args.value.now in let i = c.loop-digit.digit-index in
    let below = number_below value i c.requires in
    omega (arith, below, c.loop-digit.invariant)

pub overflow_add-number : goal.overflow_add-number
overflow_add-number c =
    let value = c.args.value.now in let i = c.loop-digit.digit-index in
    let below = number_below value i c.requires in
    let from = c.from.ensures in
    let digit = digit_written (get_or value i 0) (digit_at value i (all_digits value c.requires) c.loop-digit-test.true) in
    omega (arith, below, c.loop-digit.invariant, from, digit)

pub loop-digit-preserved : goal.loop-digit-preserved
loop-digit-preserved c =
    let value = c.args.value.now in let i = c.loop-digit.digit-index in
    let more = digits_value_more 10 value i c.loop-digit-test.true in
    let from = c.from.ensures in
    let digit = digit_written (get_or value i 0) (digit_at value i (all_digits value c.requires) c.loop-digit-test.true) in
    omega (arith, c.loop-digit.invariant, more, from, digit)
