-- Each document is taken or refused.
use Rattle.std.specs.Prelude.{◌⊎◌, ℕ, List, None, Some, IfSome, Ok, Err}
use Rattle.std.specs.List.{AllByRecursion}
use Rattle.serde_json.specs.Data.{Data}
use Rattle.ruleset_model.specs.ConfigParts.{ConfigParts}
use Rattle.ruleset_model.specs.Data.{config_data}
use Rattle.ruleset_model.specs.Phases.{condition_place, value_place}
use Rattle.ruleset_model.specs.declared.act.Act.{Act}
use Rattle.ruleset_model.specs.declared.act.Act.TheVariants as act
use Rattle.ruleset_model.specs.declared.phase.Phase.{Phase}
use Rattle.ruleset_model.specs.declared.ruleset.Rule.{Rule}
use Rattle.ruleset_model.specs.declared.ruleset.Ruleset.{Ruleset}
use Rattle.list_store.specs.Listed.{list_kinds_of}
use Rattle.config_read.specs.declared.fault.Cause.{Cause}
use Rattle.config_read.specs.declared.fault.ConfigFault.TheVariants as fault
use Rattle.config_read.specs.Filters.{Lists, IsFilterOf, IsLimitBuilt, IsDynamicBuilt, IsRewriteBuilt}
use Rattle.config_read.specs.Reads.{Reads}
use Rattle.config_read.specs.Refusals.{Refusal, Table}

-- a reading comes to something: nothing is refused, or something is refused first
pub record IsMet (table : Table) : Type 0 where
  pub found : table None ⊎ ((refused : Refusal) × table (Some refused))

-- the expressions of what a rule does are built of their texts
abbrev pub IsActOfTexts : Lists → Phase → Act → Type 0
IsActOfTexts lists phase (act.Rewrite rewrite) = IsRewriteBuilt lists (value_place phase) rewrite
IsActOfTexts lists phase (act.Redirect redirect) = IsDynamicBuilt lists (value_place phase) redirect.target_url
IsActOfTexts lists phase other = Unit {0}

-- each filter of a rule is built of the text beside it
pub record IsRuleOfTexts (lists : Lists) (phase : Phase) (rule : Rule) : Type 0 where
  pub condition : IsFilterOf lists (condition_place phase) rule.source rule.filter
  pub act : IsActOfTexts lists phase rule.act
  pub limit : IfSome rule.limit (IsLimitBuilt lists)

abbrev pub IsRulesetOfTexts : Lists → Ruleset → Type 0
IsRulesetOfTexts lists set = AllByRecursion (IsRuleOfTexts lists set.phase) set.rules

abbrev pub AreRulesetsOfTexts : Lists → List Ruleset → Type 0
AreRulesetsOfTexts lists sets = AllByRecursion (IsRulesetOfTexts lists) sets

-- the same of a configuration
abbrev pub IsBuiltOfTexts : ConfigParts → Type 0
IsBuiltOfTexts config = AreRulesetsOfTexts (list_kinds_of config.lists) config.rulesets

-- the document stands for this configuration
pub record StandsFor (d : Data) (config : ConfigParts) : Type 0 where
  pub built : IsBuiltOfTexts config
  pub reads : Reads d (Ok (config_data config))

abbrev pub IsTaken : Data → Type 0
IsTaken d = (config : ConfigParts) × StandsFor d config

-- the document is refused
abbrev pub IsRefused : Data → Type 0
IsRefused d = (place : List ℕ) × (cause : Cause) × Reads d (Err (fault.Refused place cause))

-- each document is taken or refused
abbrev pub DocumentsAreRead : Type 0
DocumentsAreRead = (d : Data) → IsTaken d ⊎ IsRefused d
