use Rattle.std.proofs.Common.{◌≡◌, true, false, not, codes, map, ap, ◌∙◌, rules}
use Rattle.std.specs.Option.{option_map_or}
use Rattle.std.specs.Prelude.{is_none}
use Rattle.serde_json.specs.View.{view}
use Rattle.config_read.specs.Members.{text}
use Rattle.config_read.specs.Executions.{is_executable}
use Rattle.config_read.proofs.MeantLemmas.{meant_at, not_meant, not_executable}
use Rattle.config_read.proofs.executions.meant_of.Goals as goal

pub returns-in_default-clause-table : goal.returns-in_default-clause-table
returns-in_default-clause-table c =
    not_meant (map view c.args.all.now.values.now) c.args.phase c.args.place.now (view c.args.value.now) c.in_ok-id.id.now c.member_refusal.result c.in_ok-id.ensures.table c.in_default.ensures.value c.in_ok-id.ensures.value c.member_refusal.ensures

pub returns-then-not-is_executable-clause-table : goal.returns-then-not-is_executable-clause-table
returns-then-not-is_executable-clause-table c =
    let test : not (is_executable c.args.phase (view c.index-all-at.result)) ≡ true = search rules in
    let found = meant_at c.args.all.now.values.now (text (codes "id") (view c.args.value.now)) c.in_ok-id.id.now c.in-Some.at c.index-all-at.result c.in-Some.ensures.value c.in-Some.ensures.within c.index-all-at.is c.in_ok-id.ensures.value in
    not_executable (map view c.args.all.now.values.now) c.args.phase c.args.place.now (view c.args.value.now) (view c.index-all-at.result) c.member_refusal-then-not-is_executable.result c.in_ok-id.ensures.table found test c.member_refusal-then-not-is_executable.ensures

pub returns-clause-table : goal.returns-clause-table
returns-clause-table c =
    let test : not (is_executable c.args.phase (view c.index-all-at.result)) ≡ false = search rules in
    let found = meant_at c.args.all.now.values.now (text (codes "id") (view c.args.value.now)) c.in_ok-id.id.now c.in-Some.at c.index-all-at.result c.in-Some.ensures.value c.in-Some.ensures.within c.index-all-at.is c.in_ok-id.ensures.value in
    (c.in_ok-id.ensures.table, (ap is_none found, ap (λ one. not (option_map_or (is_executable c.args.phase) one false)) found ∙ test))
