-- The expression that a checked tree stands for.
use Rattle.std.specs.Prelude.{ℕ, Bool, true, ◌&&◌, List, slice_get, bytes_eq}
use Rattle.std.specs.List.{list_all}
use Rattle.edge_base.specs.declared.expression.Test.{Test}
use Rattle.edge_base.specs.declared.expression.Test.TheVariants as test
use Rattle.edge_base.specs.declared.expression.Expr.{Expr}
use Rattle.edge_base.specs.declared.expression.Expr.TheVariants as expr
use Rattle.edge_fields.specs.declared.kind.Basic.{Basic}
use Rattle.edge_fields.specs.Names.{field_name, function_name}
use Rattle.type_check.specs.declared.node.BuiltTest.{BuiltTest}
use Rattle.type_check.specs.declared.node.BuiltTest.TheVariants as built
use Rattle.type_check.specs.declared.node.Node.{Node}
use Rattle.type_check.specs.declared.node.Node.TheOpen as open_node
use Rattle.type_check.specs.declared.node.Node.TheFolds.{fold-Node}
use Rattle.type_check.specs.Tests.{is_some_and}

abbrev pub test_of : BuiltTest → Test
test_of (built.Order o l) = test.Order o l
test_of (built.Contains text) = test.Contains text
test_of (built.Matches pattern) = test.Matches pattern
test_of (built.Wild pattern) = test.Wild pattern
test_of (built.StrictWild pattern) = test.StrictWild pattern
test_of (built.Among items) = test.Among items
test_of (built.Listed place name) = test.Listed name

-- one node, with the expression of each child in its place
abbrev pub tree_step : open_node.Node-F Expr → Expr
tree_step (open_node.Lit l) = expr.Lit l
tree_step (open_node.Field id) = expr.Field (field_name id)
tree_step (open_node.Call id args) = expr.Call (function_name id) args
tree_step (open_node.At of place) = expr.At of place
tree_step (open_node.Key of key) = expr.Key of key
tree_step (open_node.Each of) = expr.Each of
tree_step (open_node.Test of t) = expr.Test of (test_of t)
tree_step (open_node.Not of) = expr.Not of
tree_step (open_node.And members) = expr.And members
tree_step (open_node.Xor members) = expr.Xor members
tree_step (open_node.Or members) = expr.Or members

-- the expression of a tree
abbrev pub tree_of : Node → Expr
tree_of = fold-Node Expr tree_step

-- whether a test names a list by the place where the scheme has it
abbrev pub is_placed : List (List ℕ × Basic) → BuiltTest → Bool
is_placed lists (built.Listed place name) = is_some_and (λ (list : List ℕ × Basic). bytes_eq list.0 name) (slice_get lists place)
is_placed lists other = true

abbrev pub placed_step : List (List ℕ × Basic) → open_node.Node-F Bool → Bool
placed_step lists (open_node.Lit l) = true
placed_step lists (open_node.Field id) = true
placed_step lists (open_node.Call id args) = list_all (λ one. one) args
placed_step lists (open_node.At of place) = of
placed_step lists (open_node.Key of key) = of
placed_step lists (open_node.Each of) = of
placed_step lists (open_node.Test of t) = of && is_placed lists t
placed_step lists (open_node.Not of) = of
placed_step lists (open_node.And members) = list_all (λ one. one) members
placed_step lists (open_node.Xor members) = list_all (λ one. one) members
placed_step lists (open_node.Or members) = list_all (λ one. one) members

-- whether each test of a tree names its list by the place where the scheme has it
abbrev pub are_placed : List (List ℕ × Basic) → Node → Bool
are_placed lists = fold-Node Bool (placed_step lists)
