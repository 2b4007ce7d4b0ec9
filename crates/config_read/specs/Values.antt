-- Dynamic values: a text that is written out, or an expression that gives one.
use Rattle.std.specs.Prelude.{ℕ, Bool, not, is_some, is_none, if◌then◌else◌, List, codes, Option, None, Some, option_map, option_and_then}
use Rattle.serde_json.specs.Data.{Data}
use Rattle.serde_json.specs.Find.{get, as_str}
use Rattle.type_check.specs.declared.fault.Place.{Place}
use Rattle.ruleset_model.specs.Data.{DynamicData, fixed, computed}
use Rattle.config_read.specs.declared.fault.Cause.TheVariants as cause
use Rattle.config_read.specs.Places.{child}
use Rattle.config_read.specs.Refusals.{Table, ◌▸◌, refuse}
use Rattle.config_read.specs.Members.{text, if_there, an_object, needed, typed}
use Rattle.config_read.specs.Judged.{Judgement, an_expression}

-- exactly one of `value` and `expression`
abbrev pub has_one_form : Data → Bool
has_one_form d =
    if is_some (get (codes "value") d) then is_none (get (codes "expression") d) else is_some (get (codes "expression") d)

unfoldable pub dynamic_table : Judgement → Place → List ℕ → Data → Table
dynamic_table judge at place d =
    an_object place d
    ▸ refuse place cause.Shape (not (has_one_form d))
    ▸ typed as_str place (codes "value") d
    ▸ typed as_str place (codes "expression") d
    ▸ an_expression (judge at) (child place (codes "expression")) (option_and_then as_str (get (codes "expression") d))

-- a member that is one, where it is there
abbrev pub typed_dynamic : Judgement → Place → List ℕ → List ℕ → Data → Table
typed_dynamic judge at place name d = if_there (dynamic_table judge at (child place name)) (get name d)

abbrev pub needed_dynamic : Judgement → Place → List ℕ → List ℕ → Data → Table
needed_dynamic judge at place name d = needed place name d ▸ typed_dynamic judge at place name d

-- the value that an object stands for
abbrev pub dynamic_of : Option (List ℕ) → List ℕ → DynamicData
dynamic_of None written = fixed written
dynamic_of (Some source) written = computed source

abbrev pub dynamic_at : Data → DynamicData
dynamic_at d = dynamic_of (option_and_then as_str (get (codes "expression") d)) (text (codes "value") d)

-- the value of a member, where it is there
abbrev pub dynamic_under : List ℕ → Data → Option DynamicData
dynamic_under name d = option_map dynamic_at (get name d)
