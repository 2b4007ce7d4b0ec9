-- What the conditions and the computed texts of a rule give, on what is carried.
use Rattle.std.specs.Prelude.{ℕ, Bool, List, Option, Some}
use Rattle.std.specs.Option.{option_and_then}
use Rattle.edge_fields.specs.declared.value.Value.{Value}
use Rattle.type_check.specs.Meaning.{value_of, is_met}
use Rattle.edge_fields.specs.Values.{text_in}
use Rattle.tree_eval.specs.Settings.{setting_of}
use Rattle.list_store.specs.Listed.{TellsLists}
use Rattle.ruleset_model.specs.ConfigParts.{ConfigParts}
use Rattle.ruleset_model.specs.FilterParts.{FilterParts}
use Rattle.ruleset_model.specs.declared.dynamic.Dynamic.{Dynamic}
use Rattle.ruleset_model.specs.declared.dynamic.Dynamic.TheVariants as dynamic
use Rattle.judge_core.specs.Carried.{Carried}

-- which values a named list has
abbrev pub Listed : Type 0
Listed = List ℕ → Value → Bool

-- the value of an expression, or none
abbrev pub value_on : Listed → FilterParts → Carried → Option Value
value_on listed filter c = value_of (setting_of listed c.request c.reply) filter.tree

-- whether a condition is true; a missing value is false
abbrev pub is_true_on : Listed → FilterParts → Carried → Bool
is_true_on listed filter c = is_met (setting_of listed c.request c.reply) filter.tree

-- a text that is written out, or what an expression gives, or none
abbrev pub text_on : Listed → Dynamic → Carried → Option (List ℕ)
text_on listed (dynamic.Fixed text) c = Some text
text_on listed (dynamic.Computed filter source) c = option_and_then text_in (value_on listed filter c)

-- the test tells which values the lists of the configuration have
pub record AreTold (listed : Listed) (config : ConfigParts) : Type 0 where
  pub told : TellsLists listed config.lists
