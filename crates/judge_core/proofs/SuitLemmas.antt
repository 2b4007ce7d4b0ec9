-- What a valid configuration keeps may be run.
use Rattle.std.proofs.Common.{◌≡◌, ℕ, zero, suc, List, [], ◌∷◌, ◌++◌, Option, None, Some, slice_get, IfSome, subst, arith}
use Rattle.std.proofs.lemmas.Option.{slice_get_within}
use Rattle.ruleset_model.specs.ConfigParts.{ConfigParts}
use Rattle.ruleset_model.specs.declared.act.Act.{Act}
use Rattle.ruleset_model.specs.declared.act.Act.TheVariants as act
use Rattle.ruleset_model.specs.declared.dynamic.Dynamic.{Dynamic}
use Rattle.ruleset_model.specs.declared.dynamic.Dynamic.TheVariants as dynamic
use Rattle.ruleset_model.specs.declared.limit.Limit.{Limit}
use Rattle.ruleset_model.specs.declared.phase.Phase.{Phase}
use Rattle.ruleset_model.specs.declared.rewrite.HeaderRewrite.{HeaderRewrite}
use Rattle.ruleset_model.specs.declared.rewrite.Operation.{Operation}
use Rattle.ruleset_model.specs.declared.rewrite.Operation.TheVariants as operation
use Rattle.ruleset_model.specs.declared.rewrite.Rewrite.{Rewrite}
use Rattle.ruleset_model.specs.declared.rewrite.UriRewrite.{UriRewrite}
use Rattle.ruleset_model.specs.declared.ruleset.Rule.{Rule}
use Rattle.ruleset_model.specs.declared.ruleset.Ruleset.{Ruleset}
use Rattle.ruleset_model.specs.declared.ruleset.RulesetKind.{RulesetKind}
use Rattle.ruleset_model.specs.Acts.{IsDynamicValid, IsUriValid, IsOperationValid, AreHeadersValid, IsRewriteValid, IsActValid}
use Rattle.ruleset_model.specs.Valid.{EachAfter, IsCountingValid, IsLimitValid, IsRuleValid, IsRulesetValid, IsValid}
use Rattle.judge_core.specs.declared.carried.RulePlace.{RulePlace}
use Rattle.judge_core.specs.Places.{DynamicSuits, UriSuits, OperationSuits, HeadersSuit, RewriteSuits, ActSuits, LimitSuits, RuleSuits, Reaches}

-- what holds of each element and those before it holds of the one at a place
each_found : {X : Type 0} (Fact : List X → X → Type 0) (earlier xs : List X) (n : ℕ) (x : X) → EachAfter Fact earlier xs
    → slice_get xs n ≡ Some x → (before : List X) × Fact before x
each_found Fact earlier [] n x each there = absurd (cc)
each_found Fact earlier (y ∷ xs) zero x each there = let same : y ≡ x = cc in (earlier, subst (Fact earlier) same each.0)
each_found Fact earlier (y ∷ xs) (suc n) x each there = each_found Fact (earlier ++ y ∷ []) xs n x each.1 there

if_some : {X : Type 0} (o : Option X) (P Q : X → Type 0) → ((x : X) → P x → Q x) → IfSome o P → IfSome o Q
if_some None P Q f h = tt
if_some (Some x) P Q f h = f x h

dynamic_suits : (config : ConfigParts) (phase : Phase) (value : Dynamic) → IsDynamicValid config.lists phase value → DynamicSuits config value
dynamic_suits config phase (dynamic.Fixed text) valid = tt
dynamic_suits config phase (dynamic.Computed filter source) valid = valid.same_lists

uri_suits : (config : ConfigParts) (phase : Phase) (uri : UriRewrite) → IsUriValid config.lists phase uri → UriSuits config uri
uri_suits config phase uri valid = record {
  path = if_some uri.path (IsDynamicValid config.lists phase) (DynamicSuits config) (dynamic_suits config phase) valid.path;
  query = if_some uri.query (IsDynamicValid config.lists phase) (DynamicSuits config) (dynamic_suits config phase) valid.query;
}

operation_suits : (config : ConfigParts) (phase : Phase) (one : Operation) → IsOperationValid config.lists phase one → OperationSuits config one
operation_suits config phase (operation.Set value) valid = dynamic_suits config phase value valid
operation_suits config phase (operation.Add value) valid = dynamic_suits config phase value valid
operation_suits config phase operation.Remove valid = tt

headers_suit : (config : ConfigParts) (phase : Phase) (headers : List HeaderRewrite) → AreHeadersValid config.lists phase headers → HeadersSuit config headers
headers_suit config phase headers valid = λ k d below. operation_suits config phase _ (valid.operations k d below)

rewrite_suits : (config : ConfigParts) (phase : Phase) (rewrite : Rewrite) → IsRewriteValid config.lists phase rewrite → RewriteSuits config rewrite
rewrite_suits config phase rewrite valid = record {
  uri = if_some rewrite.uri (IsUriValid config.lists phase) (UriSuits config) (uri_suits config phase) valid.uri;
  headers = if_some rewrite.headers (AreHeadersValid config.lists phase) (HeadersSuit config) (headers_suit config phase) valid.headers;
}

act_suits : (config : ConfigParts) (all : List Ruleset) (phase : Phase) (a : Act) → IsActValid config.lists all phase a → ActSuits config a
act_suits config all phase (act.Block response) valid = tt
act_suits config all phase (act.Challenge plain) valid = tt
act_suits config all phase act.Log valid = tt
act_suits config all phase (act.Skip skips) valid = tt
act_suits config all phase (act.Execute place overrides) valid = tt
act_suits config all phase (act.Rewrite rewrite) valid = rewrite_suits config phase rewrite valid
act_suits config all phase (act.Redirect redirect) valid = dynamic_suits config phase redirect.target_url valid.target

limit_suits : (config : ConfigParts) (limit : Limit) → IsLimitValid config.lists limit → LimitSuits config limit
limit_suits config limit valid = record {
  characteristics = λ k d below. (valid.characteristics k d below).same_lists;
  counting = if_some limit.counting (IsCountingValid config.lists) _ (λ counting is. is.built.same_lists) valid.counting;
}

rule_suits : (config : ConfigParts) (all : List Ruleset) (kind : RulesetKind) (phase : Phase) (earlier : List Rule) (rule : Rule)
    → IsRuleValid config.lists all kind phase earlier rule → RuleSuits config rule
rule_suits config all kind phase earlier rule valid = record {
  condition = valid.condition.same_lists;
  act = act_suits config all phase rule.act valid.act;
  limit = if_some rule.limit (IsLimitValid config.lists) (LimitSuits config) (limit_suits config) valid.limit;
}

-- a rule that stands at a place of a valid configuration is reached there
pub reaches : (config : ConfigParts) (place : RulePlace) (set : Ruleset) (rule : Rule) → IsValid config.lists config.rulesets
    → slice_get config.rulesets place.set ≡ Some set → slice_get set.rules place.rule ≡ Some rule → Reaches config place set rule
reaches config place set rule valid set_there rule_there =
    let of_set = each_found (IsRulesetValid config.lists config.rulesets) [] config.rulesets place.set set valid.each_ruleset set_there in
    let of_rule = each_found (IsRuleValid config.lists config.rulesets set.kind set.phase) [] set.rules place.rule rule of_set.1.rules rule_there in
    record {
      set_there = set_there;
      rule_there = rule_there;
      within = omega (arith, slice_get_within set.rules place.rule rule rule_there, of_set.1.few);
      suits = rule_suits config config.rulesets set.kind set.phase of_rule.0 rule of_rule.1;
    }
