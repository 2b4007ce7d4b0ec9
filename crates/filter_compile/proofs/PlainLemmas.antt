-- Which trees are plain, by their parts.
use Rattle.std.proofs.Common.{◌≡◌, ℕ, zero, suc, ℤ, ◌≤◌, nat_lt, Bool, true, false, ◌&&◌, List, [], ◌∷◌, map, refl, sym, ap, ap₂, ◌∙◌, arith}
use Rattle.std.specs.List.{list_all}
use Rattle.std.proofs.lemmas.List.Folds.{list_all-map}
use Rattle.edge_base.specs.declared.expression.Lit.{Lit}
use Rattle.edge_base.specs.declared.expression.Expr.{Expr}
use Rattle.edge_base.specs.declared.expression.Expr.TheVariants as expr
use Rattle.edge_base.specs.declared.expression.Expr.TheOpen as open_expr
use Rattle.edge_base.specs.declared.expression.Expr.TheFolds as folds
use Rattle.edge_fields.specs.Names.{field_name, function_name}
use Rattle.edge_fields.specs.declared.field_id.FieldId.{FieldId}
use Rattle.edge_fields.specs.declared.field_id.FieldId.TheVariants as id
use Rattle.edge_fields.specs.declared.function_id.FunctionId.{FunctionId}
use Rattle.type_check.specs.Tests.{is_some_and}
use Rattle.type_check.specs.Trees.{test_of, tree_of}
use Rattle.type_check.specs.declared.node.BuiltTest.{BuiltTest}
use Rattle.type_check.specs.declared.node.Node.{Node}
use Rattle.type_check.specs.declared.node.Node.TheVariants as node
use Rattle.type_check.specs.NamesFound.{field_of_name}
use Rattle.type_check.proofs.NodeTrees.{tree-lit, tree-field, tree-call, tree-at, tree-key, tree-each, tree-test, tree-not, tree-and, tree-xor, tree-or}
use Rattle.filter_compile.specs.Plain.{is_plain_field, is_plain_test, plain_step, is_plain_within, is_plain_node}

abbrev whole : Expr → ℕ → Bool
whole = folds.fold-Expr (ℕ → Bool) plain_step

members_plain : (room : ℕ) (nodes : List Node) → list_all (λ (member : ℕ → Bool). member room) (map whole (map tree_of nodes)) ≡ list_all (is_plain_node room) nodes
members_plain room [] = refl
members_plain room (n ∷ nodes) = ap (λ rest. is_plain_node room n && rest) (members_plain room nodes)

-- a field is found by its name
plain_named : (f : FieldId) → is_some_and is_plain_field (field_of_name (field_name f)) ≡ is_plain_field f
unfolding field_of_name
plain_named id.Host = refl
plain_named id.Cookie = refl
plain_named id.Referer = refl
plain_named id.UserAgent = refl
plain_named id.Method = refl
plain_named id.Uri = refl
plain_named id.Path = refl
plain_named id.Query = refl
plain_named id.FullUri = refl
plain_named id.Version = refl
plain_named id.Source = refl
plain_named id.Ssl = refl
plain_named id.Timestamp = refl
plain_named id.Headers = refl
plain_named id.HeaderNames = refl
plain_named id.HeaderValues = refl
plain_named id.Args = refl
plain_named id.ArgNames = refl
plain_named id.ArgValues = refl
plain_named id.ResponseCode = refl
plain_named id.ResponseHeaders = refl

module _ (room : ℕ) where
  at_room : (n : Node) (e : Expr) (answer : ℕ → Bool) → tree_of n ≡ e → whole e ≡ answer → is_plain_node room n ≡ answer room
  at_room n e answer tree is = ap (λ t. whole t room) tree ∙ ap (λ f. f room) is

  pub plain-lit : (l : Lit) → is_plain_node room (node.Lit l) ≡ true
  plain-lit l = at_room (node.Lit l) _ _ (tree-lit l ∙ sym (expr.rolls-Lit l)) (folds.fold-roll-Expr (ℕ → Bool) plain_step (open_expr.Lit l))

  pub plain-field : (f : FieldId) → is_plain_node room (node.Field f) ≡ is_plain_field f
  plain-field f =
      at_room (node.Field f) _ _ (tree-field f ∙ sym (expr.rolls-Field (field_name f))) (folds.fold-roll-Expr (ℕ → Bool) plain_step (open_expr.Field (field_name f)))
      ∙ plain_named f

  pub plain-call : (f : FunctionId) (args : List Node) → is_plain_node room (node.Call f args) ≡ false
  plain-call f args =
      at_room (node.Call f args) _ _ (tree-call f args ∙ sym (expr.rolls-Call (function_name f) (map tree_of args)))
      (folds.fold-roll-Expr (ℕ → Bool) plain_step (open_expr.Call (function_name f) (map tree_of args)))

  pub plain-at : (of : Node) (place : ℤ) → is_plain_node room (node.At of place) ≡ is_plain_node room of
  plain-at of place = at_room (node.At of place) _ _ (tree-at of place ∙ sym (expr.rolls-At (tree_of of) place)) (folds.fold-roll-Expr (ℕ → Bool) plain_step (open_expr.At (tree_of of) place))

  pub plain-key : (of : Node) (key : List ℕ) → is_plain_node room (node.Key of key) ≡ false
  plain-key of key = at_room (node.Key of key) _ _ (tree-key of key ∙ sym (expr.rolls-Key (tree_of of) key)) (folds.fold-roll-Expr (ℕ → Bool) plain_step (open_expr.Key (tree_of of) key))

  pub plain-each : (of : Node) → is_plain_node room (node.Each of) ≡ is_plain_node room of
  plain-each of = at_room (node.Each of) _ _ (tree-each of ∙ sym (expr.rolls-Each (tree_of of))) (folds.fold-roll-Expr (ℕ → Bool) plain_step (open_expr.Each (tree_of of)))

  pub plain-test : (of : Node) (t : BuiltTest) → is_plain_node room (node.Test of t) ≡ (is_plain_test (test_of t) && is_plain_node room of)
  plain-test of t =
      at_room (node.Test of t) _ _ (tree-test of t ∙ sym (expr.rolls-Test (tree_of of) (test_of t))) (folds.fold-roll-Expr (ℕ → Bool) plain_step (open_expr.Test (tree_of of) (test_of t)))

  pub plain-not : (of : Node) → is_plain_node room (node.Not of) ≡ is_plain_node room of
  plain-not of = at_room (node.Not of) _ _ (tree-not of ∙ sym (expr.rolls-Not (tree_of of))) (folds.fold-roll-Expr (ℕ → Bool) plain_step (open_expr.Not (tree_of of)))

  pub plain-and : (members : List Node) → is_plain_node room (node.And members) ≡ list_all (is_plain_node room) members
  plain-and members =
      at_room (node.And members) _ _ (tree-and members ∙ sym (expr.rolls-And (map tree_of members))) (folds.fold-roll-Expr (ℕ → Bool) plain_step (open_expr.And (map tree_of members)))
      ∙ members_plain room members

  pub plain-or : (members : List Node) → is_plain_node room (node.Or members) ≡ list_all (is_plain_node room) members
  plain-or members =
      at_room (node.Or members) _ _ (tree-or members ∙ sym (expr.rolls-Or (map tree_of members))) (folds.fold-roll-Expr (ℕ → Bool) plain_step (open_expr.Or (map tree_of members)))
      ∙ members_plain room members

xor_step : (members : List Node) (room : ℕ) → is_plain_node room (node.Xor members) ≡ plain_step (open_expr.Xor (map whole (map tree_of members))) room
xor_step members room =
    at_room room (node.Xor members) _ _ (tree-xor members ∙ sym (expr.rolls-Xor (map tree_of members))) (folds.fold-roll-Expr (ℕ → Bool) plain_step (open_expr.Xor (map tree_of members)))

pub plain-xor_none : (members : List Node) → is_plain_node 0 (node.Xor members) ≡ false
plain-xor_none members = xor_step members 0

pub plain-xor : (room : ℕ) (members : List Node) → is_plain_node (suc room) (node.Xor members) ≡ list_all (is_plain_node room) members
plain-xor room members = xor_step members (suc room) ∙ members_plain room members

-- ---- what is found of a test and of an `xor` chain

pub plain-then : (room : ℕ) (n of : Node) (t : BuiltTest) (first second : Bool) → n ≡ node.Test of t → first ≡ is_plain_test (test_of t) → first ≡ true → second ≡ is_plain_node room of → second ≡ is_plain_node room n
plain-then room n of t first second is test holds part =
    part ∙ ap (λ b. b && is_plain_node room of) (sym holds ∙ test) ∙ sym (ap (is_plain_node room) is ∙ plain-test room of t)

pub plain-else : (room : ℕ) (n of : Node) (t : BuiltTest) (first : Bool) → n ≡ node.Test of t → first ≡ is_plain_test (test_of t) → first ≡ false → first ≡ is_plain_node room n
plain-else room n of t first is test fails =
    fails ∙ ap (λ b. b && is_plain_node room of) (sym fails ∙ test) ∙ sym (ap (is_plain_node room) is ∙ plain-test room of t)

pub plain-xor_more : (room left : ℕ) (n : Node) (members : List Node) → n ≡ node.Xor members → room ≡ suc left → list_all (is_plain_node left) members ≡ is_plain_node room n
plain-xor_more room left n members is more = sym (ap₂ is_plain_node more is ∙ plain-xor left members)

pub plain-xor_over : (room : ℕ) (n : Node) (members : List Node) → n ≡ node.Xor members → room ≤ 0 → nat_lt 0 room ≡ is_plain_node room n
plain-xor_over zero n members is none = sym (ap (is_plain_node 0) is ∙ plain-xor_none members)
plain-xor_over (suc room) n members is none = absurd (omega arith)
