use Rattle.std.proofs.Common.{subst, is_none}
use Rattle.serde_json.specs.Find.{as_str}
use Rattle.serde_json.specs.View.{view}
use Rattle.config_read.specs.declared.fault.Cause.TheVariants as cause
use Rattle.config_read.specs.Members.{text_of}
use Rattle.config_read.specs.Judged.{judged}
use Rattle.config_read.specs.Limits.{characteristic}
use Rattle.config_read.specs.Refusals.{◌▸◌, refuse, Refuses}
use Rattle.config_read.proofs.AnswerLemmas.{passed_on, later}
use Rattle.config_read.proofs.limits.characteristic_at.Goals as goal

pub returns-in_err-characteristic_of-clause-table : goal.returns-in_err-characteristic_of-clause-table
returns-in_err-characteristic_of-clause-table c =
    let judge = judged c.args.scheme.now in
    let place = c.args.place.now in
    let d = view c.args.value.now in
    let e = c.in_err-characteristic_of.field-0.0 in
    let shape = refuse place cause.Shape (is_none (as_str d)) in
    passed_on c.from_residual-in_err-characteristic_of.result e (shape ▸ characteristic judge place (text_of d)) c.from_residual-in_err-characteristic_of.ensures.1
    (later shape (characteristic judge place (text_of d)) e c.in_ok-text.ensures.table
    (subst (λ text. Refuses e (characteristic judge place text)) c.in_ok-text.ensures.value c.in_err-characteristic_of.ensures.table))
