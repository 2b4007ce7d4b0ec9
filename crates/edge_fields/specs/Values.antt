-- What a value is, if it is of a kind.
use Rattle.std.specs.Prelude.{ℕ, ℤ, Bool, List, Option, None, Some}
use Rattle.edge_base.specs.declared.address.Addr.{Addr}
use Rattle.edge_base.specs.declared.expression.Lit.{Lit}
use Rattle.edge_base.specs.declared.expression.Lit.TheVariants as lit
use Rattle.edge_fields.specs.declared.value.Value.{Value, out-Value}
use Rattle.edge_fields.specs.declared.value.Value.TheVariants as value
use Rattle.edge_fields.specs.declared.value.Value.TheOpen as open_value

abbrev pub text_shown : open_value.Value-F Value → Option (List ℕ)
text_shown (open_value.Text text) = Some text
text_shown other = None

-- the text that a value is
abbrev pub text_in : Value → Option (List ℕ)
text_in v = text_shown (out-Value v)

abbrev pub number_shown : open_value.Value-F Value → Option ℤ
number_shown (open_value.Num number) = Some number
number_shown other = None

-- the number that a value is
abbrev pub number_in : Value → Option ℤ
number_in v = number_shown (out-Value v)

abbrev pub addr_shown : open_value.Value-F Value → Option Addr
addr_shown (open_value.Addr addr) = Some addr
addr_shown other = None

-- the address that a value is
abbrev pub addr_in : Value → Option Addr
addr_in v = addr_shown (out-Value v)

abbrev pub truth_shown : open_value.Value-F Value → Option Bool
truth_shown (open_value.Bool truth) = Some truth
truth_shown other = None

-- the truth value that a value is
abbrev pub truth_in : Value → Option Bool
truth_in v = truth_shown (out-Value v)

abbrev pub items_shown : open_value.Value-F Value → Option (List Value)
items_shown (open_value.Array items) = Some items
items_shown other = None

-- the elements of the array that a value is
abbrev pub items_in : Value → Option (List Value)
items_in v = items_shown (out-Value v)

abbrev pub entries_shown : open_value.Value-F Value → Option (List (List ℕ × List (List ℕ)))
entries_shown (open_value.Map entries) = Some entries
entries_shown other = None

-- the pairs of the map that a value is
abbrev pub entries_in : Value → Option (List (List ℕ × List (List ℕ)))
entries_in v = entries_shown (out-Value v)

-- the value of a literal
abbrev pub value_of_lit : Lit → Value
value_of_lit (lit.Text text) = value.Text text
value_of_lit (lit.Num number) = value.Num number
value_of_lit (lit.Addr addr) = value.Addr addr
value_of_lit (lit.Bool truth) = value.Bool truth
