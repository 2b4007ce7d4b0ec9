-- A configuration as data: names, numbers, and the texts of its expressions. What is built from these is left out.
use Rattle.std.specs.Prelude.{ℕ, Bool, List, map, Option}
use Rattle.std.specs.Option.{option_map}
use Rattle.list_store.specs.declared.part.ListPart.{ListPart}
use Rattle.override_plan.specs.declared.overrides.Overrides.{Overrides}
use Rattle.override_plan.specs.declared.plain.Plain.{Plain}
use Rattle.ruleset_model.specs.ConfigParts.{ConfigParts}
use Rattle.ruleset_model.specs.declared.act.Act.{Act}
use Rattle.ruleset_model.specs.declared.act.Act.TheVariants as act
use Rattle.ruleset_model.specs.declared.act.Redirect.{Redirect}
use Rattle.ruleset_model.specs.declared.dynamic.Dynamic.{Dynamic}
use Rattle.ruleset_model.specs.declared.dynamic.Dynamic.TheVariants as dynamic
use Rattle.ruleset_model.specs.declared.limit.Characteristic.{Characteristic}
use Rattle.ruleset_model.specs.declared.limit.Counting.{Counting}
use Rattle.ruleset_model.specs.declared.limit.Limit.{Limit}
use Rattle.ruleset_model.specs.declared.phase.Phase.{Phase}
use Rattle.ruleset_model.specs.declared.rewrite.HeaderRewrite.{HeaderRewrite}
use Rattle.ruleset_model.specs.declared.rewrite.Operation.{Operation}
use Rattle.ruleset_model.specs.declared.rewrite.Operation.TheVariants as operation
use Rattle.ruleset_model.specs.declared.rewrite.Rewrite.{Rewrite}
use Rattle.ruleset_model.specs.declared.rewrite.UriRewrite.{UriRewrite}
use Rattle.ruleset_model.specs.declared.ruleset.Rule.{Rule}
use Rattle.ruleset_model.specs.declared.ruleset.Ruleset.{Ruleset}
use Rattle.ruleset_model.specs.declared.ruleset.RulesetKind.{RulesetKind}
use Rattle.ruleset_model.specs.declared.skips.Skips.{Skips}
use Rattle.ruleset_model.specs.declared.verdict.Response.{Response}

-- a text that is written out, or the text of the expression that gives it
pub data DynamicData : Type 0 where
  fixed : List ℕ → DynamicData
  computed : List ℕ → DynamicData

pub record UriRewriteData : Type 0 where
  pub path : Option DynamicData
  pub query : Option DynamicData

pub data OperationData : Type 0 where
  sets : DynamicData → OperationData
  adds : DynamicData → OperationData
  removes : OperationData

pub record HeaderRewriteData : Type 0 where
  pub name : List ℕ
  pub operation : OperationData

pub record RewriteData : Type 0 where
  pub uri : Option UriRewriteData
  pub headers : Option (List HeaderRewriteData)

pub record RedirectData : Type 0 where
  pub status_code : ℕ
  pub target_url : DynamicData
  pub preserve_query_string : Bool

-- what a rule does
pub data ActData : Type 0 where
  blocks : Option Response → ActData
  challenges : Plain → ActData
  logs : ActData
  skips : Skips → ActData
  executes : ℕ → Overrides → ActData
  rewrites : RewriteData → ActData
  redirects : RedirectData → ActData

-- a limit: the texts of its characteristics, its numbers in milliseconds, requests and milliseconds, and the text of the
-- expression that says what it counts
pub record LimitData : Type 0 where
  pub characteristics : List (List ℕ)
  pub period : ℕ
  pub threshold : ℕ
  pub timeout : ℕ
  pub counting : Option (List ℕ)

pub record RuleData : Type 0 where
  pub id : List ℕ
  pub label : List ℕ
  pub description : List ℕ
  pub source : List ℕ
  pub tags : List (List ℕ)
  pub enabled : Bool
  pub act : ActData
  pub limit : Option LimitData

pub record RulesetData : Type 0 where
  pub id : List ℕ
  pub name : List ℕ
  pub kind : RulesetKind
  pub phase : Phase
  pub rules : List RuleData

pub record ConfigData : Type 0 where
  pub lists : List ListPart
  pub rulesets : List RulesetData

-- ---- the data of what is kept

abbrev pub dynamic_data : Dynamic → DynamicData
dynamic_data (dynamic.Fixed text) = fixed text
dynamic_data (dynamic.Computed built source) = computed source

abbrev pub uri_data : UriRewrite → UriRewriteData
uri_data uri = record { path = option_map dynamic_data uri.path; query = option_map dynamic_data uri.query }

abbrev pub operation_data : Operation → OperationData
operation_data (operation.Set value) = sets (dynamic_data value)
operation_data (operation.Add value) = adds (dynamic_data value)
operation_data operation.Remove = removes

abbrev pub header_data : HeaderRewrite → HeaderRewriteData
header_data header = record { name = header.name; operation = operation_data header.operation }

abbrev pub rewrite_data : Rewrite → RewriteData
rewrite_data rewrite = record { uri = option_map uri_data rewrite.uri; headers = option_map (map header_data) rewrite.headers }

abbrev pub redirect_data : Redirect → RedirectData
redirect_data redirect = record {
  status_code = redirect.status_code;
  target_url = dynamic_data redirect.target_url;
  preserve_query_string = redirect.preserve_query_string;
}

abbrev pub act_data : Act → ActData
act_data (act.Block response) = blocks response
act_data (act.Challenge plain) = challenges plain
act_data act.Log = logs
act_data (act.Skip skipped) = skips skipped
act_data (act.Execute place overrides) = executes place overrides
act_data (act.Rewrite rewrite) = rewrites (rewrite_data rewrite)
act_data (act.Redirect redirect) = redirects (redirect_data redirect)

abbrev pub limit_data : Limit → LimitData
limit_data limit = record {
  characteristics = map (λ (one : Characteristic). one.source) limit.characteristics;
  period = limit.period;
  threshold = limit.threshold;
  timeout = limit.timeout;
  counting = option_map (λ (one : Counting). one.source) limit.counting;
}

abbrev pub rule_data : Rule → RuleData
rule_data rule = record {
  id = rule.id;
  label = rule.label;
  description = rule.description;
  source = rule.source;
  tags = rule.tags;
  enabled = rule.enabled;
  act = act_data rule.act;
  limit = option_map limit_data rule.limit;
}

abbrev pub set_data : Ruleset → RulesetData
set_data set = record { id = set.id; name = set.name; kind = set.kind; phase = set.phase; rules = map rule_data set.rules }

-- the data of a configuration
abbrev pub config_data : ConfigParts → ConfigData
config_data config = record { lists = config.lists; rulesets = map set_data config.rulesets }
