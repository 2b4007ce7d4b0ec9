use Rattle.std.proofs.Common.{◌≡◌, ◌∙◌, ℕ, List, Ok, Err, true, false, decimal, nat_le, bytes_eq, sym, ap, arith}
use Rattle.std.proofs.lemmas.Bool.Decides.{nat_tests}
use Rattle.edge_main.proofs.CommandLemmas.{number_read, number_unread, number_other, not_written, not_low}
use Rattle.edge_main.proofs.commands.number_of.Goals.{else-is_written-via-then-is_written+else-number-most, else-is_written-via-else-is_written}
use Rattle.edge_main.proofs.commands.number_of.Goals as goal

pub returns-in_default-clause-number : goal.returns-in_default-clause-number
returns-in_default-clause-number c =
    number_unread c.args.most c.args.word.now c.parse.result c.ranges.most.fits c.parse.ensures.value.0
    (λ n is. absurd (c.in_default.not-Ok n is))

pub returns-then-number-most-clause-number : goal.returns-then-number-most-clause-number
returns-then-number-most-clause-number c =
    let word = c.args.word.now in
    let number = c.in-Ok.number in
    let written : bytes_eq word (decimal number) ≡ true =
    sym (c.is_written.ensures ∙ ap (λ (text : List ℕ). bytes_eq text (decimal number)) c.as_bytes.ensures.value) ∙ c.if-is_written.true in
    let is_low = c.if-number-most.true in
    let low : nat_le number c.args.most ≡ true = grind (arith, nat_tests, is_low) in
    number_read c.args.most word c.parse.result number c.parse.ensures.value.0 c.in-Ok.is written low

pub returns-else-is_written-clause-number : goal.returns-else-is_written-clause-number
returns-else-is_written-clause-number c =
    let word = c.args.word.now in
    let number = c.in-Ok.number in
    let most = c.args.most in
    let tested = c.is_written.ensures ∙ ap (λ (text : List ℕ). bytes_eq text (decimal number)) c.as_bytes.ensures.value in
    elim c.else-is_written.branch [
      | else-is_written-via-then-is_written+else-number-most w ↦
          let is_high = w.if-number-most.false in
          let high : nat_le number most ≡ false = grind (arith, nat_tests, is_high) in
          number_other most word c.parse.result number c.ranges.most.fits c.parse.ensures.value.0 c.in-Ok.is
          (not_low (bytes_eq word (decimal number)) (nat_le number most) high)
      | else-is_written-via-else-is_written w ↦
          number_other most word c.parse.result number c.ranges.most.fits c.parse.ensures.value.0 c.in-Ok.is
          (not_written (bytes_eq word (decimal number)) (nat_le number most) (sym tested ∙ w.if-is_written.false))
    ]
