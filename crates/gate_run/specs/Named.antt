-- Which values the named lists of a configuration have.
use Rattle.std.specs.Prelude.{◌≡◌, ℕ, false, List}
use Rattle.edge_fields.specs.declared.value.Value.{Value}
use Rattle.list_store.specs.declared.part.ListPart.{ListPart}
use Rattle.list_store.specs.Listed.{TellsLists}
use Rattle.list_store.specs.Parts.{is_named}
use Rattle.judge_core.specs.Values.{Listed}

-- each list has the values that it is said to have, and a name that no list has stands for none
pub record IsMeaningOf (lists : List ListPart) (listed : Listed) : Type 0 where
  pub told : TellsLists listed lists
  pub others : (name : List ℕ) (v : Value) → is_named lists name ≡ false → listed name v ≡ false
