-- What was built of its texts, with the order of what is skipped left out.
use Rattle.std.proofs.Common.{List, [], ◌∷◌}
use Rattle.ruleset_model.specs.declared.act.Act.{Act}
use Rattle.ruleset_model.specs.declared.act.Act.TheVariants as act
use Rattle.ruleset_model.specs.declared.phase.Phase.{Phase}
use Rattle.ruleset_model.specs.declared.ruleset.Rule.{Rule}
use Rattle.ruleset_model.specs.declared.ruleset.Ruleset.{Ruleset}
use Rattle.config_read.specs.Filters.{Lists, IsActBuilt, AreRulesBuilt, AreRulesetsBuilt}
use Rattle.config_read.specs.Answered.{IsActOfTexts, IsRuleOfTexts, AreRulesetsOfTexts}
use Rattle.std.specs.List.{AllByRecursion}

act_of_texts : (lists : Lists) (phase : Phase) (a : Act) → IsActBuilt lists phase a → IsActOfTexts lists phase a
act_of_texts lists phase (act.Block response) built = tt
act_of_texts lists phase (act.Challenge plain) built = tt
act_of_texts lists phase act.Log built = tt
act_of_texts lists phase (act.Skip skipped) built = tt
act_of_texts lists phase (act.Execute at overrides) built = tt
act_of_texts lists phase (act.Rewrite rewrite) built = built
act_of_texts lists phase (act.Redirect redirect) built = built

rules_of_texts : (lists : Lists) (phase : Phase) (rules : List Rule) → AreRulesBuilt lists phase rules → AllByRecursion (IsRuleOfTexts lists phase) rules
rules_of_texts lists phase [] built = tt
rules_of_texts lists phase (rule ∷ rules) built = (
  record { condition = built.0.condition; act = act_of_texts lists phase rule.act built.0.act; limit = built.0.limit },
  rules_of_texts lists phase rules built.1,
)

pub rulesets_of_texts : (lists : Lists) (sets : List Ruleset) → AreRulesetsBuilt lists sets → AreRulesetsOfTexts lists sets
rulesets_of_texts lists [] built = tt
rulesets_of_texts lists (set ∷ sets) built = (rules_of_texts lists set.phase set.rules built.0, rulesets_of_texts lists sets built.1)
