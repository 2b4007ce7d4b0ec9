use Rattle.std.proofs.Common.{map, codes}
use Rattle.serde_json.specs.View.{view}
use Rattle.serde_json.specs.Find.{as_bool, as_str}
use Rattle.ruleset_model.specs.Data.{rule_data}
use Rattle.config_read.specs.Members.{typed, typed_texts}
use Rattle.config_read.specs.Refusals.{◌▸◌}
use Rattle.config_read.specs.RulesOf.{rule_id_table, head_table}
use Rattle.config_read.proofs.AnswerLemmas.{passed_on, first, later}
use Rattle.config_read.proofs.heads.head_of.Goals as goal

pub returns-in_err-description-clause-table : goal.returns-in_err-description-clause-table
unfolding head_table
returns-in_err-description-clause-table c =
    let place = c.args.place.now in
    let d = view c.args.value.now in
    let e = c.in_err-description.field-0.0 in
    let id = rule_id_table place (map rule_data c.args.earlier.now.rules.now) d in
    let label = typed as_str place (codes "ref") d in
    let description = typed as_str place (codes "description") d in
    let rest = typed as_bool place (codes "enabled") d ▸ typed_texts place (codes "categories") d in
    passed_on c.from_residual-in_err-description.result e (id ▸ label ▸ description ▸ rest) c.from_residual-in_err-description.ensures.1
    (later id (label ▸ description ▸ rest) e c.in_ok-id.ensures.table
    (later label (description ▸ rest) e c.in_ok-label.ensures.table (first description rest e c.in_err-description.ensures.table)))

pub returns-in_err-enabled-clause-table : goal.returns-in_err-enabled-clause-table
unfolding head_table
returns-in_err-enabled-clause-table c =
    let place = c.args.place.now in
    let d = view c.args.value.now in
    let e = c.in_err-enabled.field-0.0 in
    let id = rule_id_table place (map rule_data c.args.earlier.now.rules.now) d in
    let label = typed as_str place (codes "ref") d in
    let description = typed as_str place (codes "description") d in
    let enabled = typed as_bool place (codes "enabled") d in
    let rest = typed_texts place (codes "categories") d in
    passed_on c.from_residual-in_err-enabled.result e (id ▸ label ▸ description ▸ enabled ▸ rest) c.from_residual-in_err-enabled.ensures.1
    (later id (label ▸ description ▸ enabled ▸ rest) e c.in_ok-id.ensures.table
    (later label (description ▸ enabled ▸ rest) e c.in_ok-label.ensures.table
    (later description (enabled ▸ rest) e c.in_ok-description.ensures.table (first enabled rest e c.in_err-enabled.ensures.table))))
