use Rattle.std.proofs.Common.{sym}
use Rattle.std.proofs.lemmas.Result.{IfErr-weaker}
use Rattle.serde_json.specs.View.{view}
use Rattle.trace_form.specs.Asked.{IsNoRequest}
use Rattle.trace_form.specs.Sent.{IsNoSent}
use Rattle.trace_form.specs.Item.{IsNoValueItem, SaysWhy}
use Rattle.trace_form.specs.Item as bad
use Rattle.trace_form.proofs.ItemLemmas.{says-weaker}
use Rattle.trace_form.proofs.reader.asked_of.Goals as goal

pub returns-then-has_raw-clause-bad : goal.returns-then-has_raw-clause-bad
returns-then-has_raw-clause-bad c =
    let value = view c.args.value in
    IfErr-weaker c.sent_request_of.result (SaysWhy (IsNoSent value)) (SaysWhy (IsNoValueItem value))
    (says-weaker (IsNoSent value) (IsNoValueItem value) (λ why none. bad.no_sent c.requires (sym c.if-has_raw.ensures) none))
    c.sent_request_of.ensures.bad

pub returns-else-has_raw-clause-bad : goal.returns-else-has_raw-clause-bad
returns-else-has_raw-clause-bad c =
    let value = view c.args.value in
    IfErr-weaker c.request_of.result (SaysWhy (IsNoRequest value)) (SaysWhy (IsNoValueItem value))
    (says-weaker (IsNoRequest value) (IsNoValueItem value) (λ why none. bad.no_request c.requires (sym c.if-has_raw.ensures) none))
    c.request_of.ensures.bad
