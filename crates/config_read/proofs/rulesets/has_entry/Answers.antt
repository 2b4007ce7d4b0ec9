use Rattle.std.proofs.Common.{◌∙◌, ◌&&◌}
use Rattle.ruleset_model.specs.Data.{RulesetData, set_data}
use Rattle.ruleset_model.specs.Entries.{is_zone}
use Rattle.ruleset_model.specs.Phases.{same_phase}
use Rattle.config_read.proofs.MappedLemmas.{any_map}
use Rattle.config_read.proofs.rulesets.has_entry.Goals as goal

pub returns : goal.returns
returns c =
    c.has_own_entry.ensures
    ∙ any_map (λ (set : RulesetData). is_zone set.kind && same_phase set.phase c.args.phase) set_data c.args.sets.now
