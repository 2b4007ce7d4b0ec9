use Rattle.std.proofs.Common.{ap, sym, ◌∙◌}
use Rattle.type_check.specs.NamesFound.{field_of_name}
use Rattle.type_check.proofs.ToldLemmas.{field_told}
use Rattle.type_check.proofs.judging.judge_field.Goals as goal

pub returns : goal.returns
returns c = λ lists.
    field_told lists c.args.replies c.args.name.now c.in-Some.id c.args.stand c.args.mark c.in_ok-end.end c.kind.result c.in_ok-new.field-0
    (ap field_of_name (sym c.bytes.ensures) ∙ sym c.find_field.ensures ∙ c.in-Some.is)
    (sym c.has_no_reply.ensures ∙ c.if-has_no_reply.false) c.kind.ensures (sym c.suits.ensures ∙ c.if-not-suits.false) c.in_ok-end.ensures c.in_ok-new.ensures
