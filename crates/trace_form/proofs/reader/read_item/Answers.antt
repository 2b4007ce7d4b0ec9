use Rattle.std.proofs.Common.{sym}
use Rattle.std.proofs.lemmas.Result.{IfErr-weaker}
use Rattle.serde_json.specs.View.{view}
use Rattle.trace_form.specs.Item.{IsSolid, IsNoValueItem, IsNoItem, SaysWhy}
use Rattle.trace_form.specs.Item as bad
use Rattle.trace_form.proofs.ItemLemmas.{says-weaker}
use Rattle.trace_form.proofs.reader.read_item.Goals as goal

pub returns-clause-bad : goal.returns-clause-bad
returns-clause-bad c =
    let line = c.args.line.now in
    let value = view c.in_ok-value.value in
    let solid : IsSolid line = (sym c.if-not-is_short.ensures, sym c.if-is_blank.ensures) in
    IfErr-weaker c.item_of.result (SaysWhy (IsNoValueItem value)) (SaysWhy (IsNoItem line))
    (says-weaker (IsNoValueItem value) (IsNoItem line) (λ why none. bad.no_value_item solid value c.in_ok-value.ensures.ok none))
    c.item_of.ensures.bad
