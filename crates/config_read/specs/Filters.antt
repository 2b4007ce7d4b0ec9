-- That what was built is built of its text: each filter is that of the text beside it, where it stands.
use Rattle.std.specs.Prelude.{◌≡◌, ℕ, List, map, None, Some, Ok, IfSome}
use Rattle.std.specs.List.{AllByRecursion}
use Rattle.edge_base.specs.declared.expression.Expr.{Expr}
use Rattle.edge_fields.specs.declared.kind.Basic.{Basic}
use Rattle.expr_parser.specs.Parsed.{IsAnswer}
use Rattle.type_check.specs.declared.fault.Place.{Place}
use Rattle.type_check.specs.declared.fault.Place.TheVariants as stand
use Rattle.type_check.specs.declared.typed.Typed.{Typed}
use Rattle.type_check.specs.Checking.{IsAnswer as IsFound}
use Rattle.type_check.specs.Places.{findings_of, kind_at, tree_at}
use Rattle.type_check.specs.Trees.{tree_of}
use Rattle.ruleset_model.specs.declared.act.Act.{Act}
use Rattle.ruleset_model.specs.declared.act.Act.TheVariants as act
use Rattle.ruleset_model.specs.declared.dynamic.Dynamic.{Dynamic}
use Rattle.ruleset_model.specs.declared.dynamic.Dynamic.TheVariants as dynamic
use Rattle.ruleset_model.specs.declared.limit.Characteristic.{Characteristic}
use Rattle.ruleset_model.specs.declared.limit.Counting.{Counting}
use Rattle.ruleset_model.specs.declared.limit.Limit.{Limit}
use Rattle.ruleset_model.specs.declared.phase.Phase.{Phase}
use Rattle.ruleset_model.specs.declared.rewrite.HeaderRewrite.{HeaderRewrite}
use Rattle.ruleset_model.specs.declared.rewrite.Operation.{Operation}
use Rattle.ruleset_model.specs.declared.rewrite.Operation.TheVariants as operation
use Rattle.ruleset_model.specs.declared.rewrite.Rewrite.{Rewrite}
use Rattle.ruleset_model.specs.declared.rewrite.UriRewrite.{UriRewrite}
use Rattle.ruleset_model.specs.declared.ruleset.Rule.{Rule}
use Rattle.ruleset_model.specs.declared.ruleset.Ruleset.{Ruleset}
use Rattle.ruleset_model.specs.Acts.{AreInOrder}
use Rattle.ruleset_model.specs.Built.{speaks_of_reply}
use Rattle.ruleset_model.specs.FilterParts.{FilterParts}
use Rattle.ruleset_model.specs.Phases.{condition_place, value_place}

-- the lists that expressions may speak of, by their names
abbrev pub Lists : Type 0
Lists = List (List ℕ × Basic)

-- what was checked at a place is what an expression is checked to there
pub record IsTypedOf (lists : Lists) (at : Place) (e : Expr) (typed : Typed) : Type 0 where
  pub kind : kind_at lists at e ≡ Some typed.kind
  pub tree : tree_of typed.root ≡ tree_at at e
  pub same_lists : typed.lists ≡ lists

-- the same of what a text is read to
pub record IsReadAndTyped (lists : Lists) (at : Place) (text : List ℕ) (typed : Typed) : Type 0 where
  pub expression : Expr
  pub is_read : IsAnswer text (Ok expression)
  pub is_sound : IsFound (findings_of lists at expression) None
  pub is_typed : IsTypedOf lists at expression typed

-- a filter is that of the text at the place
pub record IsFilterOf (lists : Lists) (at : Place) (text : List ℕ) (built : FilterParts) : Type 0 where
  pub expression : Expr
  pub is_read : IsAnswer text (Ok expression)
  pub is_sound : IsFound (findings_of lists at expression) None
  pub kind : kind_at lists at expression ≡ Some built.kind
  pub tree : built.tree ≡ tree_at at expression
  pub same_lists : built.lists ≡ lists

-- what a limit counts is built of its text, and whether it speaks of a reply is kept
pub record IsCountingBuilt (lists : Lists) (counting : Counting) : Type 0 where
  pub filter : IsFilterOf lists stand.Count counting.source counting.filter
  pub reply : counting.reply ≡ speaks_of_reply counting.filter.tree

abbrev pub IsCharacteristicBuilt : Lists → Characteristic → Type 0
IsCharacteristicBuilt lists one = IsFilterOf lists stand.Characteristic one.source one.filter

pub record IsLimitBuilt (lists : Lists) (limit : Limit) : Type 0 where
  pub characteristics : AllByRecursion (IsCharacteristicBuilt lists) limit.characteristics
  pub counting : IfSome limit.counting (IsCountingBuilt lists)

-- a text that is computed at the place
abbrev pub IsDynamicBuilt : Lists → Place → Dynamic → Type 0
IsDynamicBuilt lists at (dynamic.Fixed text) = Unit {0}
IsDynamicBuilt lists at (dynamic.Computed built source) = IsFilterOf lists at source built

abbrev pub IsOperationBuilt : Lists → Place → Operation → Type 0
IsOperationBuilt lists at (operation.Set value) = IsDynamicBuilt lists at value
IsOperationBuilt lists at (operation.Add value) = IsDynamicBuilt lists at value
IsOperationBuilt lists at operation.Remove = Unit {0}

abbrev pub IsHeaderBuilt : Lists → Place → HeaderRewrite → Type 0
IsHeaderBuilt lists at header = IsOperationBuilt lists at header.operation

pub record IsUriBuilt (lists : Lists) (at : Place) (uri : UriRewrite) : Type 0 where
  pub path : IfSome uri.path (IsDynamicBuilt lists at)
  pub query : IfSome uri.query (IsDynamicBuilt lists at)

pub record IsRewriteBuilt (lists : Lists) (at : Place) (rewrite : Rewrite) : Type 0 where
  pub uri : IfSome rewrite.uri (IsUriBuilt lists at)
  pub headers : IfSome rewrite.headers (AllByRecursion (IsHeaderBuilt lists at))

-- the ids of the rulesets of which rules are skipped
abbrev pub skipped_names : List (List ℕ × List (List ℕ)) → List (List ℕ)
skipped_names rules = map (λ (entry : List ℕ × List (List ℕ)). entry.0) rules

-- the expressions of what a rule does are built of their texts, and what it skips is in order
abbrev pub IsActBuilt : Lists → Phase → Act → Type 0
IsActBuilt lists phase (act.Rewrite rewrite) = IsRewriteBuilt lists (value_place phase) rewrite
IsActBuilt lists phase (act.Skip skipped) = AreInOrder (skipped_names skipped.rules)
IsActBuilt lists phase (act.Redirect redirect) = IsDynamicBuilt lists (value_place phase) redirect.target_url
IsActBuilt lists phase other = Unit {0}

pub record IsRuleBuilt (lists : Lists) (phase : Phase) (rule : Rule) : Type 0 where
  pub condition : IsFilterOf lists (condition_place phase) rule.source rule.filter
  pub act : IsActBuilt lists phase rule.act
  pub limit : IfSome rule.limit (IsLimitBuilt lists)

abbrev pub AreRulesBuilt : Lists → Phase → List Rule → Type 0
AreRulesBuilt lists phase rules = AllByRecursion (IsRuleBuilt lists phase) rules

abbrev pub IsRulesetBuilt : Lists → Ruleset → Type 0
IsRulesetBuilt lists set = AreRulesBuilt lists set.phase set.rules

abbrev pub AreRulesetsBuilt : Lists → List Ruleset → Type 0
AreRulesetsBuilt lists sets = AllByRecursion (IsRulesetBuilt lists) sets
