-- When a test of a value is true.
use Rattle.std.specs.Prelude.{ℕ, ◌==◌, int_le, Bool, true, false, not, ◌&&◌, List, Option, is_some}
use Rattle.std.specs.List.{list_any}
use Rattle.std.specs.Option.{option_map_or}
use Rattle.std.specs.Cmp.Lexicographic.{slice_cmp}
use Rattle.std.specs.declared.cmp.Ordering.{Ordering}
use Rattle.std.specs.Ordering.{is_eq, is_lt, is_gt, nat_cmp, int_cmp}
use Rattle.edge_base.specs.declared.address.Addr.{Addr}
use Rattle.edge_base.specs.declared.address.Addr.TheVariants as addr
use Rattle.edge_base.specs.declared.expression.Lit.{Lit}
use Rattle.edge_base.specs.declared.expression.Lit.TheVariants as lit
use Rattle.edge_base.specs.declared.expression.Order.{Order}
use Rattle.edge_base.specs.declared.expression.Order.TheVariants as order
use Rattle.edge_base.specs.declared.expression.Item.{Item}
use Rattle.edge_base.specs.declared.expression.Item.TheVariants as item
use Rattle.edge_base.specs.declared.expression.Test.{Test}
use Rattle.edge_base.specs.declared.expression.Test.TheVariants as test
use Rattle.edge_base.specs.Ranges.{is_from_to, shares_bits}
use Rattle.edge_fields.specs.declared.value.Value.{Value}
use Rattle.text_match.specs.Patterns.{first_match}
use Rattle.text_match.specs.Wildcards.{pieces_of}
use Rattle.text_match.specs.Matching.{has_part, is_matched}
use Rattle.edge_fields.specs.Values.{text_in, number_in, addr_in}

-- there is one, and it passes
abbrev pub is_some_and : {A : Type 0} → (A → Bool) → Option A → Bool
is_some_and passes found = option_map_or passes found false

-- whether what is compared stands in this order
abbrev pub is_so : Order → Ordering → Bool
is_so order.Eq found = is_eq found
is_so order.Ne found = not (is_eq found)
is_so order.Lt found = is_lt found
is_so order.Le found = not (is_gt found)
is_so order.Gt found = is_gt found
is_so order.Ge found = not (is_lt found)

-- whether two addresses are equal, which are those of one family and one number
abbrev pub is_same_addr : Addr → Addr → Bool
is_same_addr (addr.V4 one) (addr.V4 other) = one == other
is_same_addr (addr.V6 one) (addr.V6 other) = one == other
is_same_addr one other = false

-- what `eq` and `ne` say; there are no other orders of addresses
abbrev pub is_so_same : Order → Bool → Bool
is_so_same order.Eq same = same
is_so_same order.Ne same = not same
is_so_same other same = false

-- whether a value stands in this order to a literal: texts byte by byte, numbers as numbers
abbrev pub is_ordered : Order → Lit → Value → Bool
is_ordered o (lit.Text text) v = is_some_and (λ own. is_so o (slice_cmp nat_cmp own text)) (text_in v)
is_ordered o (lit.Num number) v = is_some_and (λ own. is_so o (int_cmp own number)) (number_in v)
is_ordered o (lit.Addr one) v = is_some_and (λ own. is_so_same o (is_same_addr own one)) (addr_in v)
is_ordered o (lit.Bool truth) v = false

-- whether a value is one of an item
abbrev pub is_of_item : Value → Item → Bool
is_of_item v (item.One l) = is_ordered order.Eq l v
is_of_item v (item.Nums first last) = is_some_and (λ own. int_le first own && int_le own last) (number_in v)
is_of_item v (item.Addrs first last) = is_some_and (is_from_to first last) (addr_in v)
is_of_item v (item.Block one bits) = is_some_and (shares_bits one bits) (addr_in v)

-- whether a value passes a test; `is_listed` says which values a named list has
abbrev pub is_passed : (List ℕ → Value → Bool) → Test → Value → Bool
is_passed is_listed (test.Order o l) v = is_ordered o l v
is_passed is_listed (test.Contains part) v = is_some_and (λ own. has_part own part) (text_in v)
is_passed is_listed (test.Matches pattern) v = is_some_and (λ own. is_some (first_match pattern own)) (text_in v)
is_passed is_listed (test.Wild pattern) v = is_some_and (is_matched (pieces_of pattern) false) (text_in v)
is_passed is_listed (test.StrictWild pattern) v = is_some_and (is_matched (pieces_of pattern) true) (text_in v)
is_passed is_listed (test.Among items) v = list_any (is_of_item v) items
is_passed is_listed (test.Listed name) v = is_listed name v
