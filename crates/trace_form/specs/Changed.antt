-- Headers count as changed exactly where they differ.
use Rattle.std.specs.Prelude.{◌≡◌, List}
use Rattle.std.specs.Bool.{Decides}
use Rattle.edge_base.specs.declared.message.Header.{Header}
use Rattle.trace_form.specs.Line.{are_same_headers}

-- the test says so exactly where they are equal
abbrev pub ChangeIsADifference : Type 0
ChangeIsADifference = (before after : List Header) → Decides (are_same_headers before after) (before ≡ after)
