-- The expression of each form of tree, by those of its parts.
use Rattle.std.proofs.Common.{◌≡◌, ℕ, ℤ, List, map, ap, ◌∙◌, sym}
use Rattle.edge_base.specs.declared.expression.Lit.{Lit}
use Rattle.edge_base.specs.declared.expression.Expr.{Expr}
use Rattle.edge_base.specs.declared.expression.Expr.TheVariants as expr
use Rattle.edge_fields.specs.declared.field_id.FieldId.{FieldId}
use Rattle.edge_fields.specs.declared.function_id.FunctionId.{FunctionId}
use Rattle.edge_fields.specs.Names.{field_name, function_name}
use Rattle.type_check.specs.declared.node.BuiltTest.{BuiltTest}
use Rattle.type_check.specs.declared.node.Node.{Node}
use Rattle.type_check.specs.declared.node.Node.TheVariants as node
use Rattle.type_check.specs.declared.node.Node.TheOpen as open_node
use Rattle.type_check.specs.declared.node.Node.TheFolds as folds
use Rattle.type_check.specs.Trees.{test_of, tree_step, tree_of}

pub tree-lit : (l : Lit) → tree_of (node.Lit l) ≡ expr.Lit l
tree-lit l = ap tree_of (sym (node.rolls-Lit l)) ∙ folds.fold-roll-Node Expr tree_step (open_node.Lit l)

pub tree-field : (id : FieldId) → tree_of (node.Field id) ≡ expr.Field (field_name id)
tree-field id = ap tree_of (sym (node.rolls-Field id)) ∙ folds.fold-roll-Node Expr tree_step (open_node.Field id)

pub tree-call : (id : FunctionId) (args : List Node) → tree_of (node.Call id args) ≡ expr.Call (function_name id) (map tree_of args)
tree-call id args = ap tree_of (sym (node.rolls-Call id args)) ∙ folds.fold-roll-Node Expr tree_step (open_node.Call id args)

pub tree-at : (of : Node) (place : ℤ) → tree_of (node.At of place) ≡ expr.At (tree_of of) place
tree-at of place = ap tree_of (sym (node.rolls-At of place)) ∙ folds.fold-roll-Node Expr tree_step (open_node.At of place)

pub tree-key : (of : Node) (key : List ℕ) → tree_of (node.Key of key) ≡ expr.Key (tree_of of) key
tree-key of key = ap tree_of (sym (node.rolls-Key of key)) ∙ folds.fold-roll-Node Expr tree_step (open_node.Key of key)

pub tree-each : (of : Node) → tree_of (node.Each of) ≡ expr.Each (tree_of of)
tree-each of = ap tree_of (sym (node.rolls-Each of)) ∙ folds.fold-roll-Node Expr tree_step (open_node.Each of)

pub tree-test : (of : Node) (t : BuiltTest) → tree_of (node.Test of t) ≡ expr.Test (tree_of of) (test_of t)
tree-test of t = ap tree_of (sym (node.rolls-Test of t)) ∙ folds.fold-roll-Node Expr tree_step (open_node.Test of t)

pub tree-not : (of : Node) → tree_of (node.Not of) ≡ expr.Not (tree_of of)
tree-not of = ap tree_of (sym (node.rolls-Not of)) ∙ folds.fold-roll-Node Expr tree_step (open_node.Not of)

pub tree-and : (members : List Node) → tree_of (node.And members) ≡ expr.And (map tree_of members)
tree-and members = ap tree_of (sym (node.rolls-And members)) ∙ folds.fold-roll-Node Expr tree_step (open_node.And members)

pub tree-xor : (members : List Node) → tree_of (node.Xor members) ≡ expr.Xor (map tree_of members)
tree-xor members = ap tree_of (sym (node.rolls-Xor members)) ∙ folds.fold-roll-Node Expr tree_step (open_node.Xor members)

pub tree-or : (members : List Node) → tree_of (node.Or members) ≡ expr.Or (map tree_of members)
tree-or members = ap tree_of (sym (node.rolls-Or members)) ∙ folds.fold-roll-Node Expr tree_step (open_node.Or members)
