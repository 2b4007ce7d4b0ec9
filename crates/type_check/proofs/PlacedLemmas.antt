-- Which trees name their lists by place, by their parts.
use Rattle.std.proofs.Common.{◌≡◌, ℕ, ℤ, Bool, true, ◌&&◌, List, [], ◌∷◌, map, refl, ap, ◌∙◌, sym}
use Rattle.std.specs.List.{list_all}
use Rattle.edge_base.specs.declared.expression.Lit.{Lit}
use Rattle.edge_fields.specs.declared.field_id.FieldId.{FieldId}
use Rattle.edge_fields.specs.declared.function_id.FunctionId.{FunctionId}
use Rattle.edge_fields.specs.declared.kind.Basic.{Basic}
use Rattle.type_check.specs.declared.node.BuiltTest.{BuiltTest}
use Rattle.type_check.specs.declared.node.Node.{Node}
use Rattle.type_check.specs.declared.node.Node.TheVariants as node
use Rattle.type_check.specs.declared.node.Node.TheOpen as open_node
use Rattle.type_check.specs.declared.node.Node.TheFolds as folds
use Rattle.type_check.specs.Trees.{placed_step, are_placed, is_placed}

list_all-map : {A : Type 0} (f : A → Bool) (xs : List A) → list_all (λ (one : Bool). one) (map f xs) ≡ list_all f xs
list_all-map f [] = refl
list_all-map f (x ∷ xs) = ap (λ rest. f x && rest) (list_all-map f xs)

module _ (lists : List (List ℕ × Basic)) where
  pub placed-lit : (l : Lit) → are_placed lists (node.Lit l) ≡ true
  placed-lit l = ap (are_placed lists) (sym (node.rolls-Lit l)) ∙ folds.fold-roll-Node Bool (placed_step lists) (open_node.Lit l)

  pub placed-field : (id : FieldId) → are_placed lists (node.Field id) ≡ true
  placed-field id = ap (are_placed lists) (sym (node.rolls-Field id)) ∙ folds.fold-roll-Node Bool (placed_step lists) (open_node.Field id)

  pub placed-call : (id : FunctionId) (args : List Node) → are_placed lists (node.Call id args) ≡ list_all (are_placed lists) args
  placed-call id args = ap (are_placed lists) (sym (node.rolls-Call id args)) ∙ folds.fold-roll-Node Bool (placed_step lists) (open_node.Call id args) ∙ list_all-map (are_placed lists) args

  pub placed-at : (of : Node) (place : ℤ) → are_placed lists (node.At of place) ≡ are_placed lists of
  placed-at of place = ap (are_placed lists) (sym (node.rolls-At of place)) ∙ folds.fold-roll-Node Bool (placed_step lists) (open_node.At of place)

  pub placed-key : (of : Node) (key : List ℕ) → are_placed lists (node.Key of key) ≡ are_placed lists of
  placed-key of key = ap (are_placed lists) (sym (node.rolls-Key of key)) ∙ folds.fold-roll-Node Bool (placed_step lists) (open_node.Key of key)

  pub placed-each : (of : Node) → are_placed lists (node.Each of) ≡ are_placed lists of
  placed-each of = ap (are_placed lists) (sym (node.rolls-Each of)) ∙ folds.fold-roll-Node Bool (placed_step lists) (open_node.Each of)

  pub placed-test : (of : Node) (t : BuiltTest) → are_placed lists (node.Test of t) ≡ (are_placed lists of && is_placed lists t)
  placed-test of t = ap (are_placed lists) (sym (node.rolls-Test of t)) ∙ folds.fold-roll-Node Bool (placed_step lists) (open_node.Test of t)

  pub placed-not : (of : Node) → are_placed lists (node.Not of) ≡ are_placed lists of
  placed-not of = ap (are_placed lists) (sym (node.rolls-Not of)) ∙ folds.fold-roll-Node Bool (placed_step lists) (open_node.Not of)

  pub placed-and : (members : List Node) → are_placed lists (node.And members) ≡ list_all (are_placed lists) members
  placed-and members = ap (are_placed lists) (sym (node.rolls-And members)) ∙ folds.fold-roll-Node Bool (placed_step lists) (open_node.And members) ∙ list_all-map (are_placed lists) members

  pub placed-xor : (members : List Node) → are_placed lists (node.Xor members) ≡ list_all (are_placed lists) members
  placed-xor members = ap (are_placed lists) (sym (node.rolls-Xor members)) ∙ folds.fold-roll-Node Bool (placed_step lists) (open_node.Xor members) ∙ list_all-map (are_placed lists) members

  pub placed-or : (members : List Node) → are_placed lists (node.Or members) ≡ list_all (are_placed lists) members
  placed-or members = ap (are_placed lists) (sym (node.rolls-Or members)) ∙ folds.fold-roll-Node Bool (placed_step lists) (open_node.Or members) ∙ list_all-map (are_placed lists) members
