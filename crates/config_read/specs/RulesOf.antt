-- The rules of a ruleset.
use Rattle.std.specs.Prelude.{ℕ, Bool, true, not, is_none, List, map, length, codes, bytes_eq}
use Rattle.std.specs.List.{list_any}
use Rattle.std.specs.Option.{unwrap_or}
use Rattle.serde_json.specs.Data.{Data}
use Rattle.serde_json.specs.Find.{as_bool, as_str}
use Rattle.ruleset_model.specs.declared.phase.Phase.{Phase}
use Rattle.ruleset_model.specs.declared.ruleset.RulesetKind.{RulesetKind}
use Rattle.ruleset_model.specs.Data.{ActData, RuleData}
use Rattle.ruleset_model.specs.Phases.{condition_place}
use Rattle.config_read.specs.declared.action.Action.{Action}
use Rattle.config_read.specs.declared.action.Action.TheVariants as action
use Rattle.config_read.specs.declared.fault.Cause.TheVariants as cause
use Rattle.config_read.specs.Places.{child, nth}
use Rattle.config_read.specs.Refusals.{Table, ◌▸◌, refuse}
use Rattle.config_read.specs.Members.{text, texts, value_or, an_object, needed_form, typed, needed_text, typed_texts}
use Rattle.config_read.specs.Forms.{id}
use Rattle.config_read.specs.Names.{action_of, is_placed, is_nested}
use Rattle.config_read.specs.Judged.{Judgement, expression}
use Rattle.config_read.specs.Parameters.{parameters_table, act_of_rule}
use Rattle.config_read.specs.Limits.{limit_table, limit_at}

-- the action of a rule, by default `log`
abbrev pub action_at : Data → Action
action_at d = unwrap_or (action_of (text (codes "action") d)) action.Log

-- whether one of these rules has the id
abbrev pub has_rule : List RuleData → List ℕ → Bool
has_rule rules id = list_any (λ rule. bytes_eq id rule.id) rules

-- the id of a rule, behind the rules before it
unfoldable pub rule_id_table : List ℕ → List RuleData → Data → Table
rule_id_table place earlier d =
    an_object place d
    ▸ needed_form id place (codes "id") d
    ▸ refuse (child place (codes "id")) cause.DuplicateId (has_rule earlier (text (codes "id") d))

-- what comes before the expression
unfoldable pub head_table : List ℕ → List RuleData → Data → Table
head_table place earlier d =
    rule_id_table place earlier d
    ▸ typed as_str place (codes "ref") d
    ▸ typed as_str place (codes "description") d
    ▸ typed as_bool place (codes "enabled") d
    ▸ typed_texts place (codes "categories") d

unfoldable pub condition_table : Judgement → Phase → List ℕ → Data → Table
condition_table judge phase place d =
    needed_text place (codes "expression") d
    ▸ expression (judge (condition_place phase)) (child place (codes "expression")) (text (codes "expression") d)

unfoldable pub action_table : RulesetKind → Phase → List ℕ → Data → Table
action_table kind phase place d =
    needed_text place (codes "action") d
    ▸ refuse (child place (codes "action")) cause.UnknownAction (is_none (action_of (text (codes "action") d)))
    ▸ refuse (child place (codes "action")) cause.ActionPlace (not (is_placed phase (action_at d)))
    ▸ refuse (child place (codes "action")) cause.NestedExecute (is_nested kind (action_at d))

-- what a rule does, and its limit
unfoldable pub deed_table : Judgement → List Data → RulesetKind → Phase → List ℕ → Data → Table
deed_table judge all kind phase place d =
    action_table kind phase place d
    ▸ parameters_table judge all phase (action_at d) place d
    ▸ limit_table judge phase (action_at d) place d

-- a rule of a ruleset of this kind and phase, behind those before it
unfoldable pub rule_table : Judgement → List Data → RulesetKind → Phase → List ℕ → List RuleData → Data → Table
rule_table judge all kind phase rules earlier d =
    let place = nth rules (length earlier) in
    head_table place earlier d ▸ condition_table judge phase place d ▸ deed_table judge all kind phase place d

-- what the rule does
abbrev pub act_at : List Data → Phase → Data → ActData
act_at all phase d = act_of_rule all phase (action_at d) d

-- the rule that an object stands for
unfoldable pub rule_at : List Data → Phase → Data → RuleData
rule_at all phase d = record {
  id = text (codes "id") d;
  label = text (codes "ref") d;
  description = text (codes "description") d;
  source = text (codes "expression") d;
  tags = texts (codes "categories") d;
  enabled = value_or as_bool true (codes "enabled") d;
  act = act_at all phase d;
  limit = limit_at d;
}

-- the rules that the elements stand for
abbrev pub rules_at : List Data → Phase → List Data → List RuleData
rules_at all phase ds = map (rule_at all phase) ds
