-- Whether a value passes a test.
use Rattle.std.specs.Prelude.{◌≡◌, ℕ, Bool, List}
use Rattle.edge_fields.specs.declared.value.Value.{Value}
use Rattle.list_store.specs.declared.part.ListPart.{ListPart}
use Rattle.list_store.specs.Listed.{TellsLists}
use Rattle.type_check.specs.declared.node.BuiltTest.{BuiltTest}
use Rattle.type_check.specs.Tests.{is_passed}
use Rattle.type_check.specs.Trees.{test_of}

-- whether the value passes the test, whatever tells the lists
abbrev pub IsPassed : List ListPart → BuiltTest → Value → Bool → Type 0
IsPassed lists test v found =
    (is_listed : List ℕ → Value → Bool) → TellsLists is_listed lists → found ≡ is_passed is_listed (test_of test) v
