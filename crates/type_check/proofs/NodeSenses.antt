-- What each form of checked tree gives, by what its parts give.
use Rattle.std.proofs.Common.{◌≡◌, ℕ, ℤ, ◌%◌, ◌==◌, not, List, [], ◌∷◌, map, Some, option_and_then, refl, ap, ◌∙◌, count_by}
use Rattle.std.specs.List.{list_all, list_any}
use Rattle.edge_base.specs.declared.expression.Lit.{Lit}
use Rattle.edge_fields.specs.Fields.{field_of}
use Rattle.edge_fields.specs.declared.field_id.FieldId.{FieldId}
use Rattle.edge_fields.specs.declared.function_id.FunctionId.{FunctionId}
use Rattle.edge_fields.specs.Names.{field_name, function_name}
use Rattle.type_check.specs.declared.node.BuiltTest.{BuiltTest}
use Rattle.type_check.specs.declared.node.Node.{Node}
use Rattle.type_check.specs.declared.node.Node.TheVariants as node
use Rattle.type_check.specs.Trees.{test_of, tree_of}
use Rattle.edge_fields.specs.Values.{items_in, value_of_lit}
use Rattle.type_check.specs.Meaning.{Setting, Sense, single, spread, alone, element_at, array_at, is_true, truth, tested, called, sense_of}
use Rattle.type_check.proofs.NamesLemmas.{field_found, function_found}
use Rattle.type_check.proofs.NodeTrees.{tree-lit, tree-field, tree-call, tree-at, tree-key, tree-each, tree-test, tree-not, tree-and, tree-xor, tree-or}
use Rattle.type_check.proofs.Senses.{sense-lit, sense-field, sense-call, sense-at, sense-key, sense-each, sense-test, sense-not, sense-and, sense-xor, sense-or}

map-twice : {A B C : Type 0} (f : B → C) (g : A → B) (xs : List A) → map f (map g xs) ≡ map (λ x. f (g x)) xs
map-twice f g [] = refl
map-twice f g (x ∷ xs) = ap (λ rest. f (g x) ∷ rest) (map-twice f g xs)

module _ (s : Setting) where
  abbrev pub means : Node → Sense
  means n = sense_of s (tree_of n)

  abbrev all_mean : (members : List Node) → map (sense_of s) (map tree_of members) ≡ map means members
  all_mean members = map-twice (sense_of s) tree_of members

  pub means-lit : (l : Lit) → means (node.Lit l) ≡ single (Some (value_of_lit l))
  means-lit l = ap (sense_of s) (tree-lit l) ∙ sense-lit s l

  pub means-field : (f : FieldId) → means (node.Field f) ≡ single (field_of s.request s.reply f)
  means-field f = ap (sense_of s) (tree-field f) ∙ sense-field s (field_name f) ∙ ap (λ found. single (option_and_then (field_of s.request s.reply) found)) (field_found f)

  pub means-call : (f : FunctionId) (args : List Node) → means (node.Call f args) ≡ single (called s f (map means args))
  means-call f args =
      ap (sense_of s) (tree-call f args) ∙ sense-call s (function_name f) (map tree_of args)
      ∙ ap (λ found. single (option_and_then (λ id. called s id (map (sense_of s) (map tree_of args))) found)) (function_found f)
      ∙ ap (λ senses. single (called s f senses)) (all_mean args)

  pub means-at : (of : Node) (place : ℤ) → means (node.At of place) ≡ single (option_and_then (element_at place) (alone (means of)))
  means-at of place = ap (sense_of s) (tree-at of place) ∙ sense-at s (tree_of of) place

  pub means-key : (of : Node) (key : List ℕ) → means (node.Key of key) ≡ single (option_and_then (array_at key) (alone (means of)))
  means-key of key = ap (sense_of s) (tree-key of key) ∙ sense-key s (tree_of of) key

  pub means-each : (of : Node) → means (node.Each of) ≡ spread (option_and_then items_in (alone (means of)))
  means-each of = ap (sense_of s) (tree-each of) ∙ sense-each s (tree_of of)

  pub means-test : (of : Node) (t : BuiltTest) → means (node.Test of t) ≡ tested s (test_of t) (means of)
  means-test of t = ap (sense_of s) (tree-test of t) ∙ sense-test s (tree_of of) (test_of t)

  pub means-not : (of : Node) → means (node.Not of) ≡ truth (not (is_true (means of)))
  means-not of = ap (sense_of s) (tree-not of) ∙ sense-not s (tree_of of)

  pub means-and : (members : List Node) → means (node.And members) ≡ truth (list_all is_true (map means members))
  means-and members = ap (sense_of s) (tree-and members) ∙ sense-and s (map tree_of members) ∙ ap (λ senses. truth (list_all is_true senses)) (all_mean members)

  pub means-xor : (members : List Node) → means (node.Xor members) ≡ truth (count_by is_true (map means members) % 2 == 1)
  means-xor members = ap (sense_of s) (tree-xor members) ∙ sense-xor s (map tree_of members) ∙ ap (λ senses. truth (count_by is_true senses % 2 == 1)) (all_mean members)

  pub means-or : (members : List Node) → means (node.Or members) ≡ truth (list_any is_true (map means members))
  means-or members = ap (sense_of s) (tree-or members) ∙ sense-or s (map tree_of members) ∙ ap (λ senses. truth (list_any is_true senses)) (all_mean members)
