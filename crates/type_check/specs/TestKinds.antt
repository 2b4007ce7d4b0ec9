-- Which values a test takes, and the faults of its own.
use Rattle.std.specs.Prelude.{ℕ, nat_le, int_le, Bool, true, false, not, ◌&&◌, if◌then◌else◌, List, [], ◌∷◌, ◌++◌, Option, None, Some, is_some, is_none, bytes_eq}
use Rattle.std.specs.List.{list_all, list_any}
use Rattle.std.specs.Map.{lookup}
use Rattle.std.specs.Option.{option_map_or}
use Rattle.edge_base.specs.declared.address.Addr.TheVariants as addr
use Rattle.edge_base.specs.declared.expression.Order.{Order}
use Rattle.edge_base.specs.declared.expression.Order.TheVariants as order
use Rattle.edge_base.specs.declared.expression.Item.{Item}
use Rattle.edge_base.specs.declared.expression.Item.TheVariants as item
use Rattle.edge_base.specs.declared.expression.Test.{Test}
use Rattle.edge_base.specs.declared.expression.Test.TheVariants as test
use Rattle.edge_fields.specs.declared.kind.Basic.{Basic}
use Rattle.edge_fields.specs.declared.kind.Basic.TheVariants as basic
use Rattle.edge_fields.specs.declared.kind.Kind.TheVariants as kind
use Rattle.text_match.specs.Wildcards.{fault_of}
use Rattle.type_check.specs.declared.fault.TypeCause.{TypeCause}
use Rattle.type_check.specs.declared.fault.TypeCause.TheVariants as cause
use Rattle.type_check.specs.declared.sort.Sort.{Sort}
use Rattle.type_check.specs.declared.sort.Sort.TheVariants as sort
use Rattle.type_check.specs.Sorts.{basic_of, one, array}

-- whether two basic kinds are one
abbrev pub is_kind : Basic → Basic → Bool
is_kind basic.Text basic.Text = true
is_kind basic.Num basic.Num = true
is_kind basic.Addr basic.Addr = true
is_kind basic.Bool basic.Bool = true
is_kind k other = false

-- `eq` and `ne` take texts, numbers and addresses, the other orders texts and numbers
abbrev pub order_takes : Order → Basic → Bool
order_takes o basic.Text = true
order_takes o basic.Num = true
order_takes order.Eq basic.Addr = true
order_takes order.Ne basic.Addr = true
order_takes o of = false

-- the kind of values that an item holds
abbrev pub item_basic : Item → Basic
item_basic (item.One l) = basic_of l
item_basic (item.Nums first last) = basic.Num
item_basic (item.Addrs first last) = basic.Addr
item_basic (item.Block one bits) = basic.Addr

-- whether a block counts more bits than its address has
abbrev pub is_bad_block : Item → Bool
is_bad_block (item.Block (addr.V4 one) bits) = not (nat_le bits 32)
is_bad_block (item.Block (addr.V6 one) bits) = not (nat_le bits 128)
is_bad_block other = false

-- whether a range has its first above its last, or is of two families
abbrev pub is_bad_range : Item → Bool
is_bad_range (item.Nums first last) = not (int_le first last)
is_bad_range (item.Addrs (addr.V4 first) (addr.V4 last)) = not (nat_le first last)
is_bad_range (item.Addrs (addr.V6 first) (addr.V6 last)) = not (nat_le first last)
is_bad_range (item.Addrs first last) = true
is_bad_range other = false

-- the kind of the list of a name
abbrev pub list_kind : List (List ℕ × Basic) → List ℕ → Option Basic
list_kind lists name = lookup (bytes_eq name) lists

-- whether a test takes values of a kind; the kind of an unknown list is no fault of the test
abbrev pub takes_test : List (List ℕ × Basic) → Test → Basic → Bool
takes_test lists (test.Order o l) of = order_takes o of && is_kind (basic_of l) of
takes_test lists (test.Contains part) of = is_kind basic.Text of
takes_test lists (test.Matches pattern) of = is_kind basic.Text of
takes_test lists (test.Wild pattern) of = is_kind basic.Text of
takes_test lists (test.StrictWild pattern) of = is_kind basic.Text of
takes_test lists (test.Among items) of = order_takes order.Eq of && list_all (λ i. is_kind (item_basic i) of) items
takes_test lists (test.Listed name) of = order_takes order.Eq of && option_map_or (λ k. is_kind k of) (list_kind lists name) true

-- a test gives a truth value, and of an unpacked operand an array of truth values
abbrev pub test_sort : List (List ℕ × Basic) → Test → Option Sort → Option Sort
test_sort lists t (Some (sort.Plain (kind.One of))) = if takes_test lists t of then one basic.Bool else None
test_sort lists t (Some (sort.Each of)) = if takes_test lists t of then array basic.Bool else None
test_sort lists t other = None

-- no list has the name
abbrev pub list_causes : List (List ℕ × Basic) → Test → List TypeCause
list_causes lists (test.Listed name) = if is_none (list_kind lists name) then cause.UnknownList ∷ [] else []
list_causes lists other = []

abbrev pub where_so : Bool → TypeCause → List TypeCause
where_so so c = if so then c ∷ [] else []

-- the first, if there is one
abbrev pub head_of : {A : Type 0} → List A → Option A
head_of [] = None
head_of (a ∷ rest) = Some a

abbrev pub items_causes : List Item → List TypeCause
items_causes items = where_so (list_any is_bad_block items) cause.BadPrefix ++ where_so (list_any is_bad_range items) cause.BadRange

-- the faults of a test that are of its text alone
abbrev pub text_causes : Test → List TypeCause
text_causes (test.Among items) = items_causes items
text_causes (test.Wild pattern) = where_so (is_some (fault_of pattern)) cause.BadWildcard
text_causes (test.StrictWild pattern) = where_so (is_some (fault_of pattern)) cause.BadWildcard
text_causes other = []
