-- Rules are read again as they are printed.
use Rattle.std.proofs.Common.{◌≡◌, ◌&&◌, ◌||◌, ℕ, Bool, true, false, not, List, [], ◌∷◌, map, bytes_eq, is_none, is_some, Option, None, Some, option_map, option_and_then, unwrap_or, IfSome, refl, sym, ap, ◌∙◌, ap₂, subst, codes, length, true≢false}
use Rattle.std.specs.List.{list_any}
use Rattle.serde_json.specs.Data.{Data, null, boolean, string, array, object, Members, member as one_member, no_members}
use Rattle.serde_json.specs.Find.{get, get_member, as_str, as_bool, as_array, as_object}
use Rattle.serde_json.specs.View.{items_of}
use Rattle.list_store.specs.declared.part.ListPart.{ListPart}
use Rattle.override_plan.specs.declared.overrides.Overrides.{Overrides}
use Rattle.override_plan.specs.declared.plain.Plain.{Plain}
use Rattle.override_plan.specs.declared.plain.Plain.TheVariants as plain
use Rattle.ruleset_model.specs.declared.act.Act.{Act}
use Rattle.ruleset_model.specs.declared.act.Act.TheVariants as act
use Rattle.ruleset_model.specs.declared.limit.Limit.{Limit}
use Rattle.ruleset_model.specs.declared.phase.Phase.{Phase}
use Rattle.ruleset_model.specs.declared.phase.Phase.TheVariants as phase
use Rattle.ruleset_model.specs.declared.rewrite.Rewrite.{Rewrite}
use Rattle.ruleset_model.specs.declared.ruleset.Rule.{Rule}
use Rattle.ruleset_model.specs.declared.ruleset.Ruleset.{Ruleset}
use Rattle.ruleset_model.specs.declared.ruleset.RulesetKind.{RulesetKind}
use Rattle.ruleset_model.specs.declared.ruleset.RulesetKind.TheVariants as kind
use Rattle.ruleset_model.specs.declared.verdict.Response.{Response}
use Rattle.ruleset_model.specs.Acts.{IsActValid, IsResponseValid, is_challenge, is_placed as is_act_placed, is_rewrite_placed}
use Rattle.ruleset_model.specs.Data.{rule_data, act_data, limit_data, blocks, skips, executes, rewrites, redirects}
use Rattle.ruleset_model.specs.Entries.{has_rule as had_rule}
use Rattle.ruleset_model.specs.Forms.{is_id}
use Rattle.ruleset_model.specs.Phases.{condition_place, is_firewall, is_limiting, rewrites_uri, rewrites_headers}
use Rattle.ruleset_model.specs.Valid.{IsRuleValid, IsLimitValid, has_limit, is_execute as is_execution}
use Rattle.config_read.specs.declared.action.Action.{Action}
use Rattle.config_read.specs.declared.action.Action.TheVariants as action
use Rattle.config_read.specs.Judged.{Judgement}
use Rattle.config_read.specs.Places.{child, nth}
use Rattle.config_read.specs.Refusals.{Table, nothing}
use Rattle.config_read.specs.Members.{list_of, text_of, differs, member, typed, needed_object, each_text}
use Rattle.config_read.specs.Forms.{id}
use Rattle.config_read.specs.Names.{action_of, is_placed, is_nested, is_execute}
use Rattle.config_read.specs.Blocks.{block_table, response_table}
use Rattle.config_read.specs.Skipped.{skip_table}
use Rattle.config_read.specs.Executions.{execute_table}
use Rattle.config_read.specs.Rewrites.{rewrite_table, redirect_table}
use Rattle.config_read.specs.Limits.{is_limited, limit_table, limit_table_of, limit_at, held_limit_table, held_limit_at}
use Rattle.config_read.specs.Parameters.{parameters_table, act_of}
use Rattle.config_read.specs.RulesOf.{action_at, has_rule, rule_id_table, head_table, condition_table, action_table, deed_table, rule_table, rule_at}
use Rattle.config_read.specs.Printed.{put_some, printed_parameters, printed_limit, printed_response, printed_set, printed_skips, printed_rewrite, printed_redirect, act_name, rule_members, printed_rule}
use Rattle.config_read.proofs.PrintedActs.{redirect_passes, redirect_back}
use Rattle.config_read.proofs.PrintedEach.{texts_back, texts_pass}
use Rattle.config_read.proofs.PrintedExecutions.{AreIdsNew, execution_passes, execution_back}
use Rattle.config_read.proofs.PrintedLimits.{limit_passes, limit_back, AreSome}
use Rattle.config_read.proofs.PrintedMembers.{got, got_other, is_there}
use Rattle.config_read.proofs.PrintedOverrides.{overrides_back}
use Rattle.config_read.proofs.PrintedRewrites.{rewrite_passes, rewrite_back}
use Rattle.config_read.proofs.PrintedSkips.{skip_passes, skips_back}
use Rattle.config_read.proofs.PrintedValues.{Takes, response_passes, response_back}

-- ---- which action a rule has

action_kind : Act → Action
action_kind (act.Block response) = action.Block
action_kind (act.Challenge plain.ManagedChallenge) = action.ManagedChallenge
action_kind (act.Challenge plain.JsChallenge) = action.JsChallenge
action_kind (act.Challenge other) = action.Challenge
action_kind act.Log = action.Log
action_kind (act.Skip skipped) = action.Skip
action_kind (act.Execute at overrides) = action.Execute
action_kind (act.Rewrite rewrite) = action.Rewrite
action_kind (act.Redirect redirect) = action.Redirect

action_found : (lists : List ListPart) (sets : List Ruleset) (phase : Phase) (a : Act) → IsActValid lists sets phase a → action_of (act_name a) ≡ Some (action_kind a)
unfolding action_kind
action_found lists sets phase (act.Block response) valid = refl
action_found lists sets phase (act.Challenge plain.ManagedChallenge) valid = refl
action_found lists sets phase (act.Challenge plain.JsChallenge) valid = refl
action_found lists sets phase (act.Challenge plain.Challenge) valid = refl
action_found lists sets phase (act.Challenge plain.Block) valid = absurd (true≢false (sym valid))
action_found lists sets phase (act.Challenge plain.Log) valid = absurd (true≢false (sym valid))
action_found lists sets phase (act.Challenge plain.Other) valid = absurd (true≢false (sym valid))
action_found lists sets phase act.Log valid = refl
action_found lists sets phase (act.Skip skipped) valid = refl
action_found lists sets phase (act.Execute at overrides) valid = refl
action_found lists sets phase (act.Rewrite rewrite) valid = refl
action_found lists sets phase (act.Redirect redirect) valid = refl

rewrites_some : (phase : Phase) (rewrite : Rewrite) → is_rewrite_placed phase rewrite ≡ true → (rewrites_uri phase || rewrites_headers phase) ≡ true
rewrites_some phase.Transform rewrite placed = refl
rewrites_some phase.LateTransform rewrite placed = refl
rewrites_some phase.ResponseTransform rewrite placed = refl
rewrites_some phase.DynamicRedirect rewrite placed = placed
rewrites_some phase.FirewallCustom rewrite placed = placed
rewrites_some phase.RateLimit rewrite placed = placed
rewrites_some phase.FirewallManaged rewrite placed = placed

action_placed : (k : RulesetKind) (phase : Phase) (a : Act) → is_act_placed k phase a ≡ true → is_placed phase (action_kind a) ≡ true
unfolding action_kind
action_placed k phase (act.Block response) placed = placed
action_placed k phase (act.Challenge plain.ManagedChallenge) placed = placed
action_placed k phase (act.Challenge plain.JsChallenge) placed = placed
action_placed k phase (act.Challenge plain.Challenge) placed = placed
action_placed k phase (act.Challenge plain.Block) placed = placed
action_placed k phase (act.Challenge plain.Log) placed = placed
action_placed k phase (act.Challenge plain.Other) placed = placed
action_placed k phase act.Log placed = placed
action_placed k phase (act.Skip skipped) placed = placed
action_placed k phase (act.Execute at overrides) placed = refl
action_placed k phase (act.Rewrite rewrite) placed = rewrites_some phase rewrite placed
action_placed k phase (act.Redirect redirect) placed = placed

executes_as : (a : Act) → is_execute (action_kind a) ≡ is_execution a
unfolding action_kind
executes_as (act.Block response) = refl
executes_as (act.Challenge plain.ManagedChallenge) = refl
executes_as (act.Challenge plain.JsChallenge) = refl
executes_as (act.Challenge plain.Challenge) = refl
executes_as (act.Challenge plain.Block) = refl
executes_as (act.Challenge plain.Log) = refl
executes_as (act.Challenge plain.Other) = refl
executes_as act.Log = refl
executes_as (act.Skip skipped) = refl
executes_as (act.Execute at overrides) = refl
executes_as (act.Rewrite rewrite) = refl
executes_as (act.Redirect redirect) = refl

executes_placed : (k : RulesetKind) (phase : Phase) (a : Act) → is_execution a ≡ true → is_act_placed k phase a ≡ true → is_nested k (action_kind a) ≡ false
executes_placed kind.Zone phase a is placed = refl
executes_placed kind.Managed phase (act.Execute at overrides) is placed = absurd (true≢false (sym placed))
executes_placed kind.Custom phase (act.Execute at overrides) is placed = absurd (true≢false (sym placed))
executes_placed kind.Managed phase (act.Block response) is placed = absurd (true≢false (sym is))
executes_placed kind.Managed phase (act.Challenge plain) is placed = absurd (true≢false (sym is))
executes_placed kind.Managed phase act.Log is placed = absurd (true≢false (sym is))
executes_placed kind.Managed phase (act.Skip skipped) is placed = absurd (true≢false (sym is))
executes_placed kind.Managed phase (act.Rewrite rewrite) is placed = absurd (true≢false (sym is))
executes_placed kind.Managed phase (act.Redirect redirect) is placed = absurd (true≢false (sym is))
executes_placed kind.Custom phase (act.Block response) is placed = absurd (true≢false (sym is))
executes_placed kind.Custom phase (act.Challenge plain) is placed = absurd (true≢false (sym is))
executes_placed kind.Custom phase act.Log is placed = absurd (true≢false (sym is))
executes_placed kind.Custom phase (act.Skip skipped) is placed = absurd (true≢false (sym is))
executes_placed kind.Custom phase (act.Rewrite rewrite) is placed = absurd (true≢false (sym is))
executes_placed kind.Custom phase (act.Redirect redirect) is placed = absurd (true≢false (sym is))

nested_as : (k : RulesetKind) (a : Action) → is_execute a ≡ false → is_nested k a ≡ false
nested_as kind.Zone a none = refl
nested_as kind.Managed a none = none
nested_as kind.Custom a none = none

not_nested : (k : RulesetKind) (phase : Phase) (a : Act) (executes : Bool) → is_execution a ≡ executes → is_act_placed k phase a ≡ true → is_nested k (action_kind a) ≡ false
not_nested k phase a true is placed = executes_placed k phase a is placed
not_nested k phase a false is placed = nested_as k (action_kind a) (executes_as a ∙ is)

-- ---- parameters

-- whether the parameters of an action must be there
abbrev object_table : Action → List ℕ → Data → Table
object_table action.Skip place d = needed_object place (codes "action_parameters") d
object_table action.Execute place d = needed_object place (codes "action_parameters") d
object_table action.Rewrite place d = needed_object place (codes "action_parameters") d
object_table action.Redirect place d = needed_object place (codes "action_parameters") d
object_table other place d = typed as_object place (codes "action_parameters") d

-- what they come to
abbrev held_table : Judgement → List Data → Phase → Action → List ℕ → Data → Table
held_table judge all phase action.Block place d = block_table place d
held_table judge all phase action.Skip place d = skip_table place d
held_table judge all phase action.Execute place d = execute_table all phase place d
held_table judge all phase action.Rewrite place d = rewrite_table judge phase place d
held_table judge all phase action.Redirect place d = redirect_table judge phase place d
held_table judge all phase other place d = nothing

both_pass : (judge : Judgement) (all : List Data) (phase : Phase) (a : Action) (place : List ℕ) (d : Data) → object_table a place d None
    → held_table judge all phase a (child place (codes "action_parameters")) (member (codes "action_parameters") d) None → parameters_table judge all phase a place d None
both_pass judge all phase action.Block place d there held = (there, held)
both_pass judge all phase action.ManagedChallenge place d there held = (there, held)
both_pass judge all phase action.JsChallenge place d there held = (there, held)
both_pass judge all phase action.Challenge place d there held = (there, held)
both_pass judge all phase action.Log place d there held = (there, held)
both_pass judge all phase action.Skip place d there held = (there, held)
both_pass judge all phase action.Execute place d there held = (there, held)
both_pass judge all phase action.Rewrite place d there held = (there, held)
both_pass judge all phase action.Redirect place d there held = (there, held)

object_passes : (lists : List ListPart) (sets : List Ruleset) (phase : Phase) (a : Act) (place : List ℕ) (d : Data)
    → get (codes "action_parameters") d ≡ printed_parameters sets a → object_table (action_kind a) place d None
unfolding action_kind printed_skips printed_rewrite printed_redirect
object_passes lists sets phase (act.Block None) place d found = ap (λ (o : Option Data). differs as_object o) found
object_passes lists sets phase (act.Block (Some response)) place d found = ap (λ (o : Option Data). differs as_object o) found
object_passes lists sets phase (act.Challenge plain.ManagedChallenge) place d found = ap (λ (o : Option Data). differs as_object o) found
object_passes lists sets phase (act.Challenge plain.JsChallenge) place d found = ap (λ (o : Option Data). differs as_object o) found
object_passes lists sets phase (act.Challenge plain.Challenge) place d found = ap (λ (o : Option Data). differs as_object o) found
object_passes lists sets phase (act.Challenge plain.Block) place d found = ap (λ (o : Option Data). differs as_object o) found
object_passes lists sets phase (act.Challenge plain.Log) place d found = ap (λ (o : Option Data). differs as_object o) found
object_passes lists sets phase (act.Challenge plain.Other) place d found = ap (λ (o : Option Data). differs as_object o) found
object_passes lists sets phase act.Log place d found = ap (λ (o : Option Data). differs as_object o) found
object_passes lists sets phase (act.Skip skipped) place d found = (ap (λ (o : Option Data). is_none o) found, ap (λ (o : Option Data). differs as_object o) found)
object_passes lists sets phase (act.Execute at overrides) place d found = (ap (λ (o : Option Data). is_none o) found, ap (λ (o : Option Data). differs as_object o) found)
object_passes lists sets phase (act.Rewrite rewrite) place d found = (ap (λ (o : Option Data). is_none o) found, ap (λ (o : Option Data). differs as_object o) found)
object_passes lists sets phase (act.Redirect redirect) place d found = (ap (λ (o : Option Data). is_none o) found, ap (λ (o : Option Data). differs as_object o) found)

no_response_passes : (place : List ℕ) → block_table place null None
unfolding block_table response_table
no_response_passes place = (refl, (refl, (refl, refl)))

some_response_passes : (place : List ℕ) (response : Response) → IsResponseValid response
    → block_table place (object (one_member (codes "response") (printed_response response) no_members)) None
unfolding block_table
some_response_passes place response valid = (refl, response_passes _ response valid)

held_passes : (lists : List ListPart) (judge : Judgement) (sets : List Ruleset) (k : RulesetKind) (phase : Phase) (a : Act) (place : List ℕ)
    → Takes lists judge → AreIdsNew sets → IsActValid lists sets phase a → is_act_placed k phase a ≡ true
    → held_table judge (map (printed_set sets) sets) phase (action_kind a) place (unwrap_or (printed_parameters sets a) null) None
unfolding action_kind
held_passes lists judge sets k phase (act.Block None) place takes new valid placed = no_response_passes place
held_passes lists judge sets k phase (act.Block (Some response)) place takes new valid placed = some_response_passes place response valid
held_passes lists judge sets k phase (act.Challenge plain.ManagedChallenge) place takes new valid placed = refl
held_passes lists judge sets k phase (act.Challenge plain.JsChallenge) place takes new valid placed = refl
held_passes lists judge sets k phase (act.Challenge plain.Challenge) place takes new valid placed = refl
held_passes lists judge sets k phase (act.Challenge plain.Block) place takes new valid placed = refl
held_passes lists judge sets k phase (act.Challenge plain.Log) place takes new valid placed = refl
held_passes lists judge sets k phase (act.Challenge plain.Other) place takes new valid placed = refl
held_passes lists judge sets k phase act.Log place takes new valid placed = refl
held_passes lists judge sets k phase (act.Skip skipped) place takes new valid placed = skip_passes place skipped valid
held_passes lists judge sets k phase (act.Execute at overrides) place takes new valid placed = execution_passes sets phase place at overrides new valid
held_passes lists judge sets k phase (act.Rewrite rewrite) place takes new valid placed = rewrite_passes lists judge phase place rewrite.uri rewrite.headers takes valid placed
held_passes lists judge sets k phase (act.Redirect redirect) place takes new valid placed = redirect_passes lists judge phase place redirect takes valid

act_back : (lists : List ListPart) (sets : List Ruleset) (phase : Phase) (a : Act) → AreIdsNew sets → IsActValid lists sets phase a
    → act_of (map (printed_set sets) sets) phase (action_kind a) (unwrap_or (printed_parameters sets a) null) ≡ act_data a
unfolding action_kind
act_back lists sets phase (act.Block None) new valid = refl
act_back lists sets phase (act.Block (Some response)) new valid = ap (λ (r : Response). blocks (Some r)) (response_back phase response valid)
act_back lists sets phase (act.Challenge plain.ManagedChallenge) new valid = refl
act_back lists sets phase (act.Challenge plain.JsChallenge) new valid = refl
act_back lists sets phase (act.Challenge plain.Challenge) new valid = refl
act_back lists sets phase (act.Challenge plain.Block) new valid = absurd (true≢false (sym valid))
act_back lists sets phase (act.Challenge plain.Log) new valid = absurd (true≢false (sym valid))
act_back lists sets phase (act.Challenge plain.Other) new valid = absurd (true≢false (sym valid))
act_back lists sets phase act.Log new valid = refl
act_back lists sets phase (act.Skip skipped) new valid = ap skips (skips_back skipped valid)
act_back lists sets phase (act.Execute at overrides) new valid = λ i. executes (execution_back sets phase at overrides new valid i) (overrides_back overrides i)
act_back lists sets phase (act.Rewrite rewrite) new valid = ap rewrites (rewrite_back lists phase rewrite valid)
act_back lists sets phase (act.Redirect redirect) new valid = ap redirects (redirect_back lists phase redirect valid)

-- ---- what is found in a rule's object

base_got : (sets : List Ruleset) (rule : Rule) (name : List ℕ) → bytes_eq name (codes "action_parameters") ≡ false → bytes_eq name (codes "ratelimit") ≡ false
    → get name (printed_rule sets rule) ≡ get_member name (rule_members rule)
unfolding printed_rule
base_got sets rule name parameters limit =
    got_other name (codes "action_parameters") (printed_parameters sets rule.act) (put_some (codes "ratelimit") (option_map printed_limit rule.limit) (rule_members rule)) parameters
    ∙ got_other name (codes "ratelimit") (option_map printed_limit rule.limit) (rule_members rule) limit

parameters_got : (sets : List Ruleset) (rule : Rule) → get (codes "action_parameters") (printed_rule sets rule) ≡ printed_parameters sets rule.act
unfolding printed_rule
parameters_got sets rule =
    got (codes "action_parameters") (printed_parameters sets rule.act) (put_some (codes "ratelimit") (option_map printed_limit rule.limit) (rule_members rule))
    (got_other (codes "action_parameters") (codes "ratelimit") (option_map printed_limit rule.limit) (rule_members rule) refl)

limit_got : (sets : List Ruleset) (rule : Rule) → get (codes "ratelimit") (printed_rule sets rule) ≡ option_map printed_limit rule.limit
unfolding printed_rule
limit_got sets rule =
    got_other (codes "ratelimit") (codes "action_parameters") (printed_parameters sets rule.act) (put_some (codes "ratelimit") (option_map printed_limit rule.limit) (rule_members rule)) refl
    ∙ got (codes "ratelimit") (option_map printed_limit rule.limit) (rule_members rule) refl

-- ---- the parts of a rule

rules_had : (earlier : List Rule) (id : List ℕ) → has_rule (map rule_data earlier) id ≡ had_rule earlier id
rules_had [] id = refl
rules_had (rule ∷ earlier) id = ap (λ (b : Bool). bytes_eq id rule.id || b) (rules_had earlier id)

head_passes : (sets : List Ruleset) (place : List ℕ) (earlier : List Rule) (rule : Rule) → is_id rule.id ≡ true → had_rule earlier rule.id ≡ false
    → head_table place (map rule_data earlier) (printed_rule sets rule) None
unfolding head_table rule_id_table printed_rule
head_passes sets place earlier rule formed new =
    let id_got : get (codes "id") (printed_rule sets rule) ≡ Some (string rule.id) = base_got sets rule (codes "id") refl refl in
    let tags_got = base_got sets rule (codes "categories") refl refl in (
      (
        refl,
        (
          (ap (λ (o : Option Data). is_none o) id_got, ap (λ (o : Option Data). differs id o) id_got ∙ is_there (is_id rule.id) rule.id formed),
          ap (λ (o : Option Data). has_rule (map rule_data earlier) (unwrap_or (option_and_then as_str o) [])) id_got ∙ rules_had earlier rule.id ∙ new,
        ),
      ),
      (
        ap (λ (o : Option Data). differs as_str o) (base_got sets rule (codes "ref") refl refl),
        (
          ap (λ (o : Option Data). differs as_str o) (base_got sets rule (codes "description") refl refl),
          (
            ap (λ (o : Option Data). differs as_bool o) (base_got sets rule (codes "enabled") refl refl),
            (
              ap (λ (o : Option Data). differs as_array o) tags_got,
              subst (λ (o : Option Data). each_text (child place (codes "categories")) (unwrap_or (option_map list_of (option_and_then as_array o)) []) None)
                  (sym tags_got) (texts_pass _ rule.tags),
            ),
          ),
        ),
      ),
    )

condition_passes : (lists : List ListPart) (judge : Judgement) (sets : List Ruleset) (phase : Phase) (place : List ℕ) (rule : Rule)
    → judge (condition_place phase) rule.source None → condition_table judge phase place (printed_rule sets rule) None
unfolding condition_table
condition_passes lists judge sets phase place rule taken =
    let text_got = base_got sets rule (codes "expression") refl refl in (
      (ap (λ (o : Option Data). is_none o) text_got, ap (λ (o : Option Data). differs as_str o) text_got),
      subst (λ (o : Option Data). judge (condition_place phase) (unwrap_or (option_and_then as_str o) []) None) (sym text_got) taken,
    )

name_got : (sets : List Ruleset) (rule : Rule) → get (codes "action") (printed_rule sets rule) ≡ Some (string (act_name rule.act))
name_got sets rule = base_got sets rule (codes "action") refl refl

kind_got : (lists : List ListPart) (sets : List Ruleset) (phase : Phase) (rule : Rule) → IsActValid lists sets phase rule.act
    → action_at (printed_rule sets rule) ≡ action_kind rule.act
kind_got lists sets phase rule valid =
    ap (λ (o : Option Data). unwrap_or (action_of (unwrap_or (option_and_then as_str o) [])) action.Log) (name_got sets rule)
    ∙ ap (λ (o : Option Action). unwrap_or o action.Log) (action_found lists sets phase rule.act valid)

action_passes : (lists : List ListPart) (sets : List Ruleset) (k : RulesetKind) (phase : Phase) (place : List ℕ) (rule : Rule)
    → IsActValid lists sets phase rule.act → is_act_placed k phase rule.act ≡ true → action_table k phase place (printed_rule sets rule) None
unfolding action_table
action_passes lists sets k phase place rule valid placed = (
  (ap (λ (o : Option Data). is_none o) (name_got sets rule), ap (λ (o : Option Data). differs as_str o) (name_got sets rule)),
  (
    ap (λ (o : Option Data). is_none (action_of (unwrap_or (option_and_then as_str o) []))) (name_got sets rule)
        ∙ ap (λ (o : Option Action). is_none o) (action_found lists sets phase rule.act valid),
    (
      ap (λ (a : Action). not (is_placed phase a)) (kind_got lists sets phase rule valid) ∙ ap not (action_placed k phase rule.act placed),
      ap (λ (a : Action). is_nested k a) (kind_got lists sets phase rule valid) ∙ not_nested k phase rule.act (is_execution rule.act) refl placed,
    ),
  ),
)

parameters_pass : (lists : List ListPart) (judge : Judgement) (sets : List Ruleset) (k : RulesetKind) (phase : Phase) (place : List ℕ) (rule : Rule)
    → Takes lists judge → AreIdsNew sets → IsActValid lists sets phase rule.act → is_act_placed k phase rule.act ≡ true
    → parameters_table judge (map (printed_set sets) sets) phase (action_kind rule.act) place (printed_rule sets rule) None
parameters_pass lists judge sets k phase place rule takes new valid placed =
    both_pass judge (map (printed_set sets) sets) phase (action_kind rule.act) place (printed_rule sets rule)
    (object_passes lists sets phase rule.act place (printed_rule sets rule) (parameters_got sets rule))
    (subst (λ (o : Option Data). held_table judge (map (printed_set sets) sets) phase (action_kind rule.act) (child place (codes "action_parameters")) (unwrap_or o null) None)
    (sym (parameters_got sets rule)) (held_passes lists judge sets k phase rule.act _ takes new valid placed))

limit_as : (lists : List ListPart) (judge : Judgement) (place : List ℕ) (d : Data) (limit : Option Limit) (limited : Bool) → Takes lists judge
    → get (codes "ratelimit") d ≡ option_map printed_limit limit → is_some limit ≡ limited → IfSome limit (IsLimitValid lists)
    → limit_table_of limited judge place d None
unfolding printed_limit
limit_as lists judge place d None true takes found has valid = absurd (true≢false (sym has))
limit_as lists judge place d (Some limit) false takes found has valid = absurd (true≢false has)
limit_as lists judge place d None false takes found has valid =
    (ap (λ (o : Option Data). differs as_object o) found, ap (λ (o : Option Data). is_some o) found)
limit_as lists judge place d (Some limit) true takes found has valid = (
  (ap (λ (o : Option Data). is_none o) found, ap (λ (o : Option Data). differs as_object o) found),
  subst (λ (o : Option Data). held_limit_table judge (child place (codes "ratelimit")) (unwrap_or o null) None) (sym found)
      (limit_passes lists judge _ limit takes valid),
)

limited_as : (phase : Phase) (a : Act) → is_limited phase (action_kind a) ≡ has_limit phase a
limited_as phase a = ap (λ (b : Bool). is_limiting phase && not b) (executes_as a)

-- ---- a rule

pub rule_passes : (lists : List ListPart) (judge : Judgement) (sets : List Ruleset) (k : RulesetKind) (phase : Phase) (rules : List ℕ)
    (earlier : List Rule) (rule : Rule) → Takes lists judge → AreIdsNew sets → IsRuleValid lists sets k phase earlier rule
    → rule_table judge (map (printed_set sets) sets) k phase rules (map rule_data earlier) (printed_rule sets rule) None
unfolding rule_table deed_table
rule_passes lists judge sets k phase rules earlier rule takes new valid = (
  head_passes sets _ earlier rule valid.id valid.new,
  (
    condition_passes lists judge sets phase _ rule (takes.built (condition_place phase) rule.source rule.filter valid.condition),
    (
      action_passes lists sets k phase _ rule valid.act valid.placed,
      (
        subst (λ (a : Action). parameters_table judge (map (printed_set sets) sets) phase a (nth rules (length (map rule_data earlier))) (printed_rule sets rule) None)
            (sym (kind_got lists sets phase rule valid.act)) (parameters_pass lists judge sets k phase _ rule takes new valid.act valid.placed),
        subst (λ (a : Action). limit_table judge phase a (nth rules (length (map rule_data earlier))) (printed_rule sets rule) None)
            (sym (kind_got lists sets phase rule valid.act))
            (limit_as lists judge _ (printed_rule sets rule) rule.limit (is_limited phase (action_kind rule.act)) takes (limit_got sets rule)
            (valid.limited ∙ sym (limited_as phase rule.act)) valid.limit),
      ),
    ),
  ),
)

limit_read : (lists : List ListPart) (limit : Option Limit) → AreSome lists → IfSome limit (IsLimitValid lists)
    → option_map held_limit_at (option_map printed_limit limit) ≡ option_map limit_data limit
limit_read lists None some valid = refl
limit_read lists (Some limit) some valid = ap Some (limit_back lists limit some valid)

pub rule_back : (lists : List ListPart) (sets : List Ruleset) (k : RulesetKind) (phase : Phase) (earlier : List Rule) (rule : Rule)
    → AreSome lists → AreIdsNew sets → IsRuleValid lists sets k phase earlier rule
    → rule_at (map (printed_set sets) sets) phase (printed_rule sets rule) ≡ rule_data rule
unfolding rule_at
rule_back lists sets k phase earlier rule some new valid = λ i. record {
  id = unwrap_or (option_and_then as_str (base_got sets rule (codes "id") refl refl i)) [];
  label = unwrap_or (option_and_then as_str (base_got sets rule (codes "ref") refl refl i)) [];
  description = unwrap_or (option_and_then as_str (base_got sets rule (codes "description") refl refl i)) [];
  source = unwrap_or (option_and_then as_str (base_got sets rule (codes "expression") refl refl i)) [];
  tags = (ap (λ (o : Option Data). map text_of (unwrap_or (option_map list_of (option_and_then as_array o)) [])) (base_got sets rule (codes "categories") refl refl) ∙ texts_back rule.tags) i;
  enabled = unwrap_or (option_and_then as_bool (base_got sets rule (codes "enabled") refl refl i)) true;
  act = (ap₂ (λ (a : Action) (o : Option Data). act_of (map (printed_set sets) sets) phase a (unwrap_or o null)) (kind_got lists sets phase rule valid.act) (parameters_got sets rule) ∙ act_back lists sets phase rule.act new valid.act) i;
  limit = (ap (λ (o : Option Data). option_map held_limit_at o) (limit_got sets rule) ∙ limit_read lists rule.limit some valid.limit) i;
}
