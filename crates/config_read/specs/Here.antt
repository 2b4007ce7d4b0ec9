-- The tables over what the code has at hand: lists, rulesets and values as they are kept.
use Rattle.std.specs.Prelude.{ℕ, List, map}
use Rattle.serde_json.specs.View.{view}
use Rattle.serde_json.specs.declared.value.Value.{Value}
use Rattle.edge_fields.specs.declared.kind.Basic.{Basic}
use Rattle.type_check.specs.declared.fault.Place.{Place}
use Rattle.ruleset_model.specs.declared.limit.Characteristic.{Characteristic}
use Rattle.ruleset_model.specs.declared.phase.Phase.{Phase}
use Rattle.ruleset_model.specs.declared.rewrite.HeaderRewrite.{HeaderRewrite}
use Rattle.ruleset_model.specs.declared.ruleset.Rule.{Rule}
use Rattle.ruleset_model.specs.declared.ruleset.Ruleset.{Ruleset}
use Rattle.ruleset_model.specs.declared.ruleset.RulesetKind.{RulesetKind}
use Rattle.ruleset_model.specs.Data.{header_data, rule_data, set_data}
use Rattle.config_read.specs.declared.action.Action.{Action}
use Rattle.config_read.specs.declared.sets.Sets.{Sets}
use Rattle.config_read.specs.Refusals.{Table}
use Rattle.config_read.specs.Judged.{judged}
use Rattle.config_read.specs.Limits.{sources_of, characteristic_table}
use Rattle.config_read.specs.Parameters.{parameters_table}
use Rattle.config_read.specs.Rewrites.{header_table}
use Rattle.config_read.specs.RulesOf.{deed_table, rule_table}
use Rattle.config_read.specs.RulesetsOf.{each_rule_table, rules_table, ruleset_table, each_ruleset_table}
use Rattle.config_read.specs.Sets.{data_of}

-- the named lists of which expressions may speak
abbrev pub Lists : Type 0
Lists = List (List ℕ × Basic)

abbrev pub characteristic_here : Lists → List ℕ → List Characteristic → Value → Table
characteristic_here lists items earlier value = characteristic_table (judged lists) items (sources_of earlier) (view value)

abbrev pub header_here : Lists → Place → List ℕ → List HeaderRewrite → List ℕ → Value → Table
header_here lists at headers earlier name value =
    header_table (judged lists) at headers (map header_data earlier) (name, view value)

abbrev pub parameters_here : Lists → Sets → Phase → Action → List ℕ → Value → Table
parameters_here lists all phase a place value = parameters_table (judged lists) (data_of all) phase a place (view value)

abbrev pub deed_here : Lists → Sets → RulesetKind → Phase → List ℕ → Value → Table
deed_here lists all kind phase place value = deed_table (judged lists) (data_of all) kind phase place (view value)

abbrev pub rule_here : Lists → Sets → RulesetKind → Phase → List ℕ → List Rule → Value → Table
rule_here lists all kind phase rules earlier value =
    rule_table (judged lists) (data_of all) kind phase rules (map rule_data earlier) (view value)

abbrev pub rules_here : Lists → Sets → RulesetKind → Phase → List ℕ → List Value → Table
rules_here lists all kind phase place values =
    each_rule_table (judged lists) (data_of all) kind phase place (map view values)

-- the rules of the ruleset at the place
abbrev pub rules_under_here : Lists → Sets → RulesetKind → Phase → List ℕ → Value → Table
rules_under_here lists all kind phase place value = rules_table (judged lists) (data_of all) kind phase place (view value)

abbrev pub ruleset_here : Lists → Sets → List ℕ → List Ruleset → Value → Table
ruleset_here lists all rulesets earlier value =
    ruleset_table (judged lists) (data_of all) rulesets (map set_data earlier) (view value)

abbrev pub rulesets_here : Lists → Sets → List ℕ → Table
rulesets_here lists all rulesets = each_ruleset_table (judged lists) (data_of all) rulesets (data_of all)
