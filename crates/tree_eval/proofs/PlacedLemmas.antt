-- The tests of a tree name their lists by place where those of its parts do.
use Rattle.std.proofs.Common.{◌≡◌, ℕ, ℤ, Bool, true, false, ◌&&◌, List, refl, sym, ap, ◌∙◌}
use Rattle.std.specs.List.{list_all}
use Rattle.std.proofs.lemmas.List.Folds.{list_all-map}
use Rattle.edge_fields.specs.declared.kind.Basic.{Basic}
use Rattle.edge_fields.specs.declared.function_id.FunctionId.{FunctionId}
use Rattle.type_check.specs.declared.node.BuiltTest.{BuiltTest}
use Rattle.type_check.specs.declared.node.Node.{Node}
use Rattle.type_check.specs.declared.node.Node.TheVariants as node
use Rattle.type_check.specs.declared.node.Node.TheOpen as open_node
use Rattle.type_check.specs.declared.node.Node.TheFolds as folds
use Rattle.type_check.specs.Trees.{is_placed, placed_step, are_placed}

both : (a b : Bool) → (a && b) ≡ true → (a ≡ true) × (b ≡ true)
both true b h = (refl, h)
both false b h = cc

module _ (lists : List (List ℕ × Basic)) (n : Node) (placed : are_placed lists n ≡ true) where
  pub placed-call : (id : FunctionId) (args : List Node) → n ≡ node.Call id args → list_all (are_placed lists) args ≡ true
  placed-call id args is =
      sym (ap (are_placed lists) is ∙ ap (are_placed lists) (sym (node.rolls-Call id args))
      ∙ folds.fold-roll-Node Bool (placed_step lists) (open_node.Call id args) ∙ list_all-map (λ one. one) (are_placed lists) args)
      ∙ placed

  pub placed-at : (of : Node) (place : ℤ) → n ≡ node.At of place → are_placed lists of ≡ true
  placed-at of place is =
      sym (ap (are_placed lists) is ∙ ap (are_placed lists) (sym (node.rolls-At of place)) ∙ folds.fold-roll-Node Bool (placed_step lists) (open_node.At of place)) ∙ placed

  pub placed-key : (of : Node) (key : List ℕ) → n ≡ node.Key of key → are_placed lists of ≡ true
  placed-key of key is =
      sym (ap (are_placed lists) is ∙ ap (are_placed lists) (sym (node.rolls-Key of key)) ∙ folds.fold-roll-Node Bool (placed_step lists) (open_node.Key of key)) ∙ placed

  pub placed-each : (of : Node) → n ≡ node.Each of → are_placed lists of ≡ true
  placed-each of is =
      sym (ap (are_placed lists) is ∙ ap (are_placed lists) (sym (node.rolls-Each of)) ∙ folds.fold-roll-Node Bool (placed_step lists) (open_node.Each of)) ∙ placed

  pub placed-test : (of : Node) (t : BuiltTest) → n ≡ node.Test of t → (are_placed lists of ≡ true) × (is_placed lists t ≡ true)
  placed-test of t is =
      both (are_placed lists of) (is_placed lists t)
      (sym (ap (are_placed lists) is ∙ ap (are_placed lists) (sym (node.rolls-Test of t)) ∙ folds.fold-roll-Node Bool (placed_step lists) (open_node.Test of t)) ∙ placed)

  pub placed-not : (of : Node) → n ≡ node.Not of → are_placed lists of ≡ true
  placed-not of is =
      sym (ap (are_placed lists) is ∙ ap (are_placed lists) (sym (node.rolls-Not of)) ∙ folds.fold-roll-Node Bool (placed_step lists) (open_node.Not of)) ∙ placed

  pub placed-and : (members : List Node) → n ≡ node.And members → list_all (are_placed lists) members ≡ true
  placed-and members is =
      sym (ap (are_placed lists) is ∙ ap (are_placed lists) (sym (node.rolls-And members))
      ∙ folds.fold-roll-Node Bool (placed_step lists) (open_node.And members) ∙ list_all-map (λ one. one) (are_placed lists) members)
      ∙ placed

  pub placed-xor : (members : List Node) → n ≡ node.Xor members → list_all (are_placed lists) members ≡ true
  placed-xor members is =
      sym (ap (are_placed lists) is ∙ ap (are_placed lists) (sym (node.rolls-Xor members))
      ∙ folds.fold-roll-Node Bool (placed_step lists) (open_node.Xor members) ∙ list_all-map (λ one. one) (are_placed lists) members)
      ∙ placed

  pub placed-or : (members : List Node) → n ≡ node.Or members → list_all (are_placed lists) members ≡ true
  placed-or members is =
      sym (ap (are_placed lists) is ∙ ap (are_placed lists) (sym (node.rolls-Or members))
      ∙ folds.fold-roll-Node Bool (placed_step lists) (open_node.Or members) ∙ list_all-map (λ one. one) (are_placed lists) members)
      ∙ placed
