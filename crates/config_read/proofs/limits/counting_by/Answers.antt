use Rattle.std.proofs.Common.{◌≡◌, ◌==◌, false, codes, length, rules}
use Rattle.type_check.specs.declared.fault.Place.TheVariants as stand
use Rattle.config_read.specs.Places.{child}
use Rattle.config_read.specs.Judged.{judged, expression_or_empty}
use Rattle.config_read.proofs.AnswerLemmas.{passed_on, filled_text}
use Rattle.config_read.proofs.limits.counting_by.Goals as goal

pub returns-in_err-counting_of-clause-table : goal.returns-in_err-counting_of-clause-table
returns-in_err-counting_of-clause-table c =
    let judge = judged c.args.scheme.now stand.Count in
    let place = child c.args.place.now (codes "counting_expression") in
    let text = c.args.text.now in
    let e = c.in_err-counting_of.field-0.0 in
    let is_filled : (length text == 0) ≡ false = search rules in
    passed_on c.from_residual.result e (expression_or_empty judge place text) c.from_residual.ensures.1
    (filled_text judge place text e is_filled c.in_err-counting_of.ensures.table)
