-- Working vocabulary, which no public clause cites.
-- All skips as one, rule by rule.
use Rattle.std.specs.Prelude.{List, [], ◌∷◌, Option, None, Some}
use Rattle.ruleset_model.specs.ConfigParts.{ConfigParts}
use Rattle.ruleset_model.specs.declared.skips.Skips.{Skips}
use Rattle.judge_core.specs.declared.carried.RulePlace.{RulePlace}
use Rattle.judge_core.specs.Places.{rule_at, skips_in}
use Rattle.judge_core.specs.Skipping.{with_skips}

-- the same with what one skips, where there is one
abbrev pub with_one : Option Skips → Skips → Skips
with_one None all = all
with_one (Some one) all = with_skips one all

-- the same with what the rules at some places skip
abbrev pub onto_skipping : ConfigParts → List RulePlace → Skips → Skips
onto_skipping config [] all = all
onto_skipping config (place ∷ places) all =
    onto_skipping config places (with_one (skips_in (rule_at config place)) all)
