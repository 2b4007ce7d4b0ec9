-- What holds of configurations and their data.
use Rattle.std.specs.Prelude.{◌≡◌}
use Rattle.ruleset_model.specs.ConfigParts.{ConfigParts}
use Rattle.ruleset_model.specs.Data.{config_data}
use Rattle.ruleset_model.specs.Valid.{IsValid}
use Rattle.config_read.specs.Answered.{IsBuiltOfTexts}

-- a valid configuration is determined by its data: what is built of the texts is nothing of its own
abbrev pub ConfigurationsAreTheirData : Type 0
ConfigurationsAreTheirData = (a b : ConfigParts) → IsValid a.lists a.rulesets → IsValid b.lists b.rulesets
    → config_data a ≡ config_data b → a ≡ b

-- and so is each whose filters are built of the texts beside them
abbrev pub BuiltConfigurationsAreTheirData : Type 0
BuiltConfigurationsAreTheirData = (a b : ConfigParts) → IsBuiltOfTexts a → IsBuiltOfTexts b → config_data a ≡ config_data b → a ≡ b
