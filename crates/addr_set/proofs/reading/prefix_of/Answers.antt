use Rattle.std.proofs.Common.{◌≡◌, ◌∙◌, Some, length, take, get_or, ap, subst, arith}
use Rattle.std.proofs.lemmas.Bool.Decides.{nat_tests}
use Rattle.std.proofs.lemmas.List.{take_all}
use Rattle.std.specs.Str.Parse.{AllDigits, digits_value}
use Rattle.std.proofs.lemmas.Int.Digits.{digits_more, digits_value_more}
use Rattle.addr_set.proofs.PrefixLemmas.{AllDigits-at, digit_value-decimal, digit_value-other, no_bits, bits_written}
use Rattle.addr_set.proofs.reading.prefix_of.Goals as goal
use Rattle.addr_set.proofs.reading.prefix_of.Goals.{then-is_empty-via-then-is_empty, then-is_empty-via-else-is_empty+then-digits-gt3, then-is_empty-via-else-is_empty+else-digits-gt3+then-digits-eq48, then-digits-gt1, else-digits-gt1}

pub returns-then-not-is_ascii_digit : goal.returns-then-not-is_ascii_digit
returns-then-not-is_ascii_digit c = no_bits c.args.digits.now (λ bits h.
    let ds = c.args.digits.now in
    let i = c.loop-digit.digit-index in
    let digit = digit_value-other (get_or ds i 0) (AllDigits-at 10 ds i h.all c.loop-digit-test.true) in
    let other = c.if-not-is_ascii_digit.ensures.cases in
    grind arith)

pub returns-then-is_empty : goal.returns-then-is_empty
returns-then-is_empty c = no_bits c.args.digits.now (λ bits h.
    let some = h.some in
    let few = h.few in
    let lone = h.lone_zero in
    elim c.then-is_empty.branch [
      | then-is_empty-via-then-is_empty w ↦ let empty = w.if-is_empty in grind (arith, nat_tests)
      | then-is_empty-via-else-is_empty+then-digits-gt3 w ↦ let many = w.if-digits-gt3 in grind (arith, nat_tests)
      | then-is_empty-via-else-is_empty+else-digits-gt3+then-digits-eq48 w ↦
          elim w.if-digits-gt1.branch [
            | then-digits-gt1 v ↦ let more = v.if-digits-gt1 in let is = v.value-is in let zero = w.if-digits-eq48 in grind (arith, nat_tests)
            | else-digits-gt1 v ↦ let is = v.value-is in let zero = w.if-digits-eq48 in grind (arith, nat_tests)
          ]
    ])

pub returns : goal.returns
returns c =
    let ds = c.args.digits.now in
    let whole : take c.loop-digit.digit-index ds ≡ ds = take_all c.loop-digit.digit-index ds c.loop-digit-test.false in
    let digits : AllDigits 10 ds = subst (AllDigits 10) whole c.loop-digit.invariant.digits in
    let number = ap Some (c.loop-digit.invariant.number ∙ ap (digits_value 10) whole) in
    number ∙ bits_written ds digits (let some = c.if-is_empty.false in grind (arith, nat_tests)) c.if-digits-gt3.false
    (λ more zero. elim c.if-digits-gt1.branch [
      | then-digits-gt1 v ↦ let is = v.value-is in let one = c.if-digits-eq48.false in grind (arith, nat_tests)
      | else-digits-gt1 v ↦ let few = v.if-digits-gt1 in grind (arith, nat_tests)
    ])

pub loop-digit-preserved : goal.loop-digit-preserved
loop-digit-preserved c =
    let ds = c.args.digits.now in
    let i = c.loop-digit.digit-index in
    let cases = c.if-not-is_ascii_digit.ensures.cases in
    let value = digit_value-decimal (get_or ds i 0) (omega arith) (omega arith) in
    let more = digits_value_more 10 ds i c.loop-digit-test.true in
    let from = c.from.ensures in
    record {
      digits = digits_more 10 ds i c.loop-digit-test.true c.loop-digit.invariant.digits c.if-not-is_ascii_digit.ensures.bound;
      number = omega (arith, c.loop-digit.invariant.number);
      none = λ low. omega arith;
      one = λ low. omega (arith, c.loop-digit.invariant.none);
      two = λ low. omega (arith, c.loop-digit.invariant.one);
    }
