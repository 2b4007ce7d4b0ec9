-- Which ruleset a phase begins with, and which ruleset has an id.
use Rattle.std.specs.Prelude.{ℕ, Bool, true, false, ◌&&◌, List, Option, bytes_eq}
use Rattle.std.specs.List.{list_any, position_from}
use Rattle.ruleset_model.specs.declared.phase.Phase.{Phase}
use Rattle.ruleset_model.specs.declared.ruleset.RulesetKind.{RulesetKind}
use Rattle.ruleset_model.specs.declared.ruleset.RulesetKind.TheVariants as kind
use Rattle.ruleset_model.specs.declared.ruleset.Rule.{Rule}
use Rattle.ruleset_model.specs.declared.ruleset.Ruleset.{Ruleset}
use Rattle.ruleset_model.specs.Phases.{same_phase}

abbrev pub is_zone : RulesetKind → Bool
is_zone kind.Managed = false
is_zone kind.Custom = false
is_zone kind.Zone = true

-- whether the ruleset is the entry point of the phase
abbrev pub is_entry : Phase → Ruleset → Bool
is_entry phase set = is_zone set.kind && same_phase set.phase phase

-- the place of the phase's entry point
abbrev pub entry_of : List Ruleset → Phase → Option ℕ
entry_of sets phase = position_from (is_entry phase) 0 sets

-- whether one of these rulesets has the id
abbrev pub has_ruleset : List Ruleset → List ℕ → Bool
has_ruleset sets id = list_any (λ set. bytes_eq id set.id) sets

-- whether one of these rules has the id
abbrev pub has_rule : List Rule → List ℕ → Bool
has_rule rules id = list_any (λ rule. bytes_eq id rule.id) rules
