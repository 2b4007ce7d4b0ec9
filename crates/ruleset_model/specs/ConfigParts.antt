-- What contracts see of a configuration.
use Rattle.std.specs.Prelude.{List}
use Rattle.list_store.specs.declared.part.ListPart.{ListPart}
use Rattle.ruleset_model.specs.declared.ruleset.Ruleset.{Ruleset}

-- its lists as they were handed in, and its rulesets
pub record ConfigParts : Type 0 where
  pub lists : List ListPart
  pub rulesets : List Ruleset
