-- Which expressions are plain: their fields stand in a request or its reply as they are, their tests take no memory.
use Rattle.std.specs.Prelude.{ℕ, zero, suc, Bool, true, false, ◌&&◌}
use Rattle.std.specs.List.{list_all}
use Rattle.edge_base.specs.declared.expression.Expr.{Expr}
use Rattle.edge_base.specs.declared.expression.Expr.TheOpen as open_expr
use Rattle.edge_base.specs.declared.expression.Expr.TheFolds.{fold-Expr}
use Rattle.edge_base.specs.declared.expression.Test.{Test}
use Rattle.edge_base.specs.declared.expression.Test.TheVariants as test
use Rattle.edge_fields.specs.declared.field_id.FieldId.{FieldId}
use Rattle.edge_fields.specs.declared.field_id.FieldId.TheVariants as id
use Rattle.type_check.specs.NamesFound.{field_of_name}
use Rattle.type_check.specs.Tests.{is_some_and}
use Rattle.type_check.specs.declared.node.Node.{Node}
use Rattle.type_check.specs.Trees.{tree_of}

-- the fields that can be read in place
abbrev pub is_plain_field : FieldId → Bool
is_plain_field id.Method = true
is_plain_field id.Path = true
is_plain_field id.Query = true
is_plain_field id.Host = true
is_plain_field id.Source = true
is_plain_field id.Ssl = true
is_plain_field id.Timestamp = true
is_plain_field id.ResponseCode = true
is_plain_field other = false

-- all tests but `matches`
abbrev pub is_plain_test : Test → Bool
is_plain_test (test.Matches pattern) = false
is_plain_test other = true

-- one node, with each child's answer in its place: no function, no map, no `matches`, no other field, and no more `xor`
-- chains one within another than there is room for
abbrev pub plain_step : open_expr.Expr-F (ℕ → Bool) → ℕ → Bool
plain_step (open_expr.Lit l) room = true
plain_step (open_expr.Field name) room = is_some_and is_plain_field (field_of_name name)
plain_step (open_expr.Call name args) room = false
plain_step (open_expr.At of place) room = of room
plain_step (open_expr.Key of key) room = false
plain_step (open_expr.Each of) room = of room
plain_step (open_expr.Test of t) room = is_plain_test t && of room
plain_step (open_expr.Not of) room = of room
plain_step (open_expr.And members) room = list_all (λ (member : ℕ → Bool). member room) members
plain_step (open_expr.Xor members) zero = false
plain_step (open_expr.Xor members) (suc room) = list_all (λ (member : ℕ → Bool). member room) members
plain_step (open_expr.Or members) room = list_all (λ (member : ℕ → Bool). member room) members

-- whether an expression is plain, with at most so many `xor` chains one within another
abbrev pub is_plain_within : ℕ → Expr → Bool
is_plain_within room e = fold-Expr (ℕ → Bool) plain_step e room

-- whether an expression is plain
abbrev pub is_plain : Expr → Bool
is_plain e = is_plain_within 33 e

-- the same of a checked tree
abbrev pub is_plain_node : ℕ → Node → Bool
is_plain_node room n = is_plain_within room (tree_of n)
