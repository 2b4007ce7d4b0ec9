-- Working vocabulary, which no public clause cites.
-- What stands at the places that the judge keeps, and that its filters may be run.
use Rattle.std.specs.Prelude.{◌≡◌, ℕ, ◌<◌, Bool, false, List, [], ◌∷◌, ◌++◌, Option, None, Some, slice_get}
use Rattle.std.specs.Prelude.{IfSome}
use Rattle.std.specs.List.{All, list_any, filter_map}
use Rattle.edge_base.specs.declared.message.Request.{Request}
use Rattle.list_store.specs.Listed.{list_kinds_of}
use Rattle.rewrite_apply.specs.declared.changes.Changes.{Changes}
use Rattle.rewrite_apply.specs.declared.changes.HeaderChange.{HeaderChange}
use Rattle.ruleset_model.specs.ConfigParts.{ConfigParts}
use Rattle.ruleset_model.specs.FilterParts.{FilterParts}
use Rattle.ruleset_model.specs.declared.act.Act.{Act}
use Rattle.ruleset_model.specs.declared.act.Act.TheVariants as act
use Rattle.ruleset_model.specs.declared.dynamic.Dynamic.{Dynamic}
use Rattle.ruleset_model.specs.declared.dynamic.Dynamic.TheVariants as dynamic
use Rattle.ruleset_model.specs.declared.limit.Characteristic.{Characteristic}
use Rattle.ruleset_model.specs.declared.limit.Counting.{Counting}
use Rattle.ruleset_model.specs.declared.limit.Limit.{Limit}
use Rattle.ruleset_model.specs.declared.rewrite.HeaderRewrite.{HeaderRewrite}
use Rattle.ruleset_model.specs.declared.rewrite.Operation.{Operation}
use Rattle.ruleset_model.specs.declared.rewrite.Operation.TheVariants as operation
use Rattle.ruleset_model.specs.declared.rewrite.Rewrite.{Rewrite}
use Rattle.ruleset_model.specs.declared.rewrite.UriRewrite.{UriRewrite}
use Rattle.ruleset_model.specs.declared.ruleset.Rule.{Rule}
use Rattle.ruleset_model.specs.declared.ruleset.Ruleset.{Ruleset}
use Rattle.ruleset_model.specs.declared.skips.Skips.{Skips}
use Rattle.judge_core.specs.declared.carried.RulePlace.{RulePlace}
use Rattle.judge_core.specs.declared.carried.State.{State}
use Rattle.judge_core.specs.Carried.{Carried}
use Rattle.judge_core.specs.Judging.{rule_in}

-- the rule at the places
abbrev pub rule_at : ConfigParts → RulePlace → Option Rule
rule_at config place = rule_in (slice_get config.rulesets place.set) place.rule

-- what an action skips
abbrev pub skips_by : Act → Option Skips
skips_by (act.Skip skips) = Some skips
skips_by other = None

-- what a rule skips
abbrev pub skips_in : Option Rule → Option Skips
skips_in None = None
skips_in (Some rule) = skips_by rule.act

-- whether there is one, and it passes the test
abbrev pub is_one : {X : Type 0} → (X → Bool) → Option X → Bool
is_one test None = false
is_one test (Some x) = test x

abbrev pub earlier_skips : Option Skips → List Skips
earlier_skips None = []
earlier_skips (Some skips) = skips ∷ []

-- what the rules at some places skip
abbrev pub skips_at : ConfigParts → List RulePlace → List Skips
skips_at config places = filter_map (λ place. skips_in (rule_at config place)) places

-- whether one of them passes the test
abbrev pub any_added : (Skips → Bool) → ConfigParts → List RulePlace → Bool
any_added test config places = list_any (λ place. is_one test (skips_in (rule_at config place))) places

-- all skips so far
abbrev pub skips_of : ConfigParts → State → List Skips
skips_of config state = earlier_skips state.earlier ++ skips_at config state.skipping

-- what is carried
abbrev pub carried_of : ConfigParts → State → Carried
carried_of config state = record {
  request = state.request;
  reply = state.reply;
  skips = skips_of config state;
  changes = state.changes;
  noted = state.noted;
  kept = state.kept;
}

-- the same state but for its request, or for what is changed of one part
abbrev pub with_request : Request → State → State
with_request request state = record state { request = request }

abbrev pub with_changes : Changes → State → State
with_changes changes state = record state { changes = changes }

abbrev pub with_uri : Option (List ℕ) → Option (List ℕ) → State → State
with_uri path query state = with_changes (record state.changes { path = path; query = query }) state

abbrev pub with_headers : List HeaderChange → State → State
with_headers headers state = with_changes (record state.changes { headers = headers }) state

-- ---- what may be run
-- the filter was built under the lists of the configuration
abbrev pub Suits : ConfigParts → FilterParts → Type 0
Suits config filter = filter.lists ≡ list_kinds_of config.lists

abbrev pub DynamicSuits : ConfigParts → Dynamic → Type 0
DynamicSuits config (dynamic.Fixed text) = Unit {0}
DynamicSuits config (dynamic.Computed filter source) = Suits config filter

pub record UriSuits (config : ConfigParts) (uri : UriRewrite) : Type 0 where
  pub path : IfSome uri.path (DynamicSuits config)
  pub query : IfSome uri.query (DynamicSuits config)

abbrev pub OperationSuits : ConfigParts → Operation → Type 0
OperationSuits config (operation.Set value) = DynamicSuits config value
OperationSuits config (operation.Add value) = DynamicSuits config value
OperationSuits config operation.Remove = Unit {0}

abbrev pub HeadersSuit : ConfigParts → List HeaderRewrite → Type 0
HeadersSuit config headers = All (λ (header : HeaderRewrite). OperationSuits config header.operation) headers

pub record RewriteSuits (config : ConfigParts) (rewrite : Rewrite) : Type 0 where
  pub uri : IfSome rewrite.uri (UriSuits config)
  pub headers : IfSome rewrite.headers (HeadersSuit config)

abbrev pub ActSuits : ConfigParts → Act → Type 0
ActSuits config (act.Rewrite rewrite) = RewriteSuits config rewrite
ActSuits config (act.Redirect redirect) = DynamicSuits config redirect.target_url
ActSuits config other = Unit {0}

pub record LimitSuits (config : ConfigParts) (limit : Limit) : Type 0 where
  pub characteristics : All (λ (one : Characteristic). Suits config one.filter) limit.characteristics
  pub counting : IfSome limit.counting (λ (counting : Counting). Suits config counting.filter)

pub record RuleSuits (config : ConfigParts) (rule : Rule) : Type 0 where
  pub condition : Suits config rule.filter
  pub act : ActSuits config rule.act
  pub limit : IfSome rule.limit (LimitSuits config)

-- the rule stands at the places, in this ruleset, not too far down, and what it has may be run
pub record Reaches (config : ConfigParts) (place : RulePlace) (set : Ruleset) (rule : Rule) : Type 0 where
  pub set_there : slice_get config.rulesets place.set ≡ Some set
  pub rule_there : slice_get set.rules place.rule ≡ Some rule
  pub within : place.rule < 1000
  pub suits : RuleSuits config rule
