-- What holds of a request, its reply and lists as they are handed down to each node.
use Rattle.std.specs.Prelude.{◌≡◌, Bool, true, List, map}
use Rattle.std.specs.List.{list_all}
use Rattle.std.specs.Option.{option_copied}
use Rattle.edge_base.specs.declared.expression.Test.{Test}
use Rattle.edge_fields.specs.declared.value.Value.{Value}
use Rattle.edge_fields.specs.declared.value.Value.TheVariants as value
use Rattle.list_store.specs.Listed.{list_kinds_of}
use Rattle.type_check.specs.declared.node.Node.{Node}
use Rattle.type_check.specs.Meaning.{Setting, Sense, is_true, sense_of}
use Rattle.type_check.specs.Tests.{is_passed}
use Rattle.type_check.specs.Trees.{tree_of, are_placed}
use Rattle.tree_eval.specs.declared.sense.Given.{Given}
use Rattle.tree_eval.specs.Settings.{InEach}

-- what a checked tree gives
abbrev pub node_sense : Setting → Node → Sense
node_sense s n = sense_of s (tree_of n)

-- what each of some checked trees gives
abbrev pub node_senses : Setting → List Node → List Sense
node_senses s nodes = map (node_sense s) nodes

-- the tests of some values
abbrev pub tests_of : Setting → Test → List Value → List Value
tests_of s t vs = map (λ v. value.Bool (is_passed s.is_listed t v)) vs

-- whether a checked tree is a condition that is true
abbrev pub is_true_node : Setting → Node → Bool
is_true_node s n = is_true (node_sense s n)

-- the fact holds in each setting with what was handed down
abbrev pub InEachOf : Given → (Setting → Type 0) → Type 0
InEachOf given Fact = InEach given.lists.now given.request.now (option_copied given.reply) Fact

-- the tests of a tree name their lists by their places among those that were handed down
abbrev pub IsPlacedIn : Given → Node → Type 0
IsPlacedIn given n = are_placed (list_kinds_of given.lists.now) n ≡ true

-- the same of each of some trees
abbrev pub ArePlacedIn : Given → List Node → Type 0
ArePlacedIn given nodes = list_all (are_placed (list_kinds_of given.lists.now)) nodes ≡ true
