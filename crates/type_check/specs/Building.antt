-- What building a pattern or a test gives.
use Rattle.std.specs.Prelude.{◌≡◌, ℕ, true, List, Option, None, Some, Result, Ok, Err}
use Rattle.edge_base.specs.declared.expression.Test.{Test}
use Rattle.edge_fields.specs.declared.kind.Basic.{Basic}
use Rattle.text_match.specs.Patterns.{IsPattern}
use Rattle.type_check.specs.declared.fault.TypeCause.{TypeCause}
use Rattle.type_check.specs.declared.node.BuiltTest.{BuiltTest}
use Rattle.type_check.specs.Checking.{IsRefusal, test_pattern}
use Rattle.type_check.specs.Trees.{test_of, is_placed}

-- the pattern of the text was built, or it was refused
abbrev pub IsBuilt : List ℕ → Result (List ℕ) TypeCause → Type 0
IsBuilt text (Ok pattern) = (pattern ≡ text) × IsPattern text
IsBuilt text (Err cause) = IsRefusal text cause

-- why the pattern, if there is one, was refused; none where it was built
abbrev pub IsRefusedOrNot : Option (List ℕ) → Option TypeCause → Type 0
IsRefusedOrNot None refused = refused ≡ None
IsRefusedOrNot (Some text) None = IsPattern text
IsRefusedOrNot (Some text) (Some cause) = IsRefusal text cause

-- the test was built, or its pattern was refused
abbrev pub IsMade : List (List ℕ × Basic) → Test → Result BuiltTest TypeCause → Type 0
IsMade lists t (Ok built) = IsRefusedOrNot (test_pattern t) None × (test_of built ≡ t) × (is_placed lists built ≡ true)
IsMade lists t (Err cause) = IsRefusedOrNot (test_pattern t) (Some cause)
