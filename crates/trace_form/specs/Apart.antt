-- A line is an item, or no item for one cause alone.
use Rattle.std.specs.Prelude.{◌≡◌, ℕ, List}
use Rattle.trace_form.specs.declared.item.LineItem.{LineItem}
use Rattle.trace_form.specs.declared.refusal.BadCause.{BadCause}
use Rattle.trace_form.specs.Item.{IsItem, IsNoItem}

-- an item has no cause why it is none
abbrev pub ItemsHaveNoCause : Type 0
ItemsHaveNoCause = (line : List ℕ) (held : LineItem) (why : BadCause) → IsItem line held → ¬ (IsNoItem line why)

-- what is no item is none for one cause
abbrev pub CausesAreUnique : Type 0
CausesAreUnique = (line : List ℕ) (a b : BadCause) → IsNoItem line a → IsNoItem line b → a ≡ b
