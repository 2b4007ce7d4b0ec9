-- What steps stand for: the node, or the nodes, whose senses they load.
use Rattle.std.specs.Prelude.{◌≡◌, ℕ, Bool, true, not, List, [], ◌∷◌, ◌++◌, map, ◌%◌, ◌==◌, if◌then◌else◌}
use Rattle.std.specs.List.{list_all, count_by}
use Rattle.edge_base.specs.declared.expression.Expr.{Expr}
use Rattle.edge_fields.specs.declared.kind.Basic.{Basic}
use Rattle.type_check.specs.declared.node.Node.{Node}
use Rattle.type_check.specs.Meaning.{Setting, Sense, truth, sense_of}
use Rattle.type_check.specs.Trees.{are_placed}
use Rattle.tree_eval.specs.Given.{node_sense, is_true_node}
use Rattle.filter_compile.specs.declared.program.Step.{Step}
use Rattle.filter_compile.specs.declared.program.Filter.{Filter}
use Rattle.filter_compile.specs.Steps.{last_slot, left_by, is_same, are_steps_placed}

-- the steps load these senses into new slots, the first of them last, and then the steps behind them are run
abbrev pub Loads : List Step → (Setting → List Sense) → Type 0
Loads steps senses =
    (s : Setting) (further : List Step) (slots : List Sense)
    → left_by s 0 (steps ++ further) slots ≡ left_by s 0 further (senses s ++ slots)

-- the truth of a chain that ends at its first member of this truth
abbrev pub chain_truth : Bool → (Node → Bool) → List Node → Bool
chain_truth at holds [] = not at
chain_truth at holds (member ∷ members) = if is_same at (holds member) then at else chain_truth at holds members

-- the steps load these senses, and their tests name lists by place where those of the tree do
pub record IsCode (steps : List Step) (senses : Setting → List Sense) (is_fine : List (List ℕ × Basic) → Bool) : Type 0 where
  pub loads : Loads steps senses
  pub placed : (lists : List (List ℕ × Basic)) → is_fine lists ≡ true → are_steps_placed lists steps ≡ true

-- the steps load what a node gives
abbrev pub IsCodeOf : List Step → Node → Type 0
IsCodeOf steps node = IsCode steps (λ s. node_sense s node ∷ []) (λ lists. are_placed lists node)

-- the steps load what each node gives
abbrev pub IsCodeOfAll : List Step → List Node → Type 0
IsCodeOfAll steps nodes = IsCode steps (λ s. map (node_sense s) nodes) (λ lists. list_all (are_placed lists) nodes)

-- the steps load the truth of a chain that ends at its first member of this truth
abbrev pub IsCodeOfChain : List Step → Bool → List Node → Type 0
IsCodeOfChain steps at members =
    IsCode steps (λ s. truth (chain_truth at (is_true_node s) members) ∷ []) (λ lists. list_all (are_placed lists) members)

-- the steps load the truth of an `xor` chain
abbrev pub IsCodeOfXor : List Step → List Node → Type 0
IsCodeOfXor steps members =
    IsCode steps (λ s. truth (count_by (is_true_node s) members % 2 == 1) ∷ []) (λ lists. list_all (are_placed lists) members)

-- what the steps of a filter give
abbrev pub filter_sense : Setting → Filter → Sense
filter_sense s filter = last_slot (left_by s 0 filter.steps [])

-- the filter gives what the expression means, whatever it is asked in
abbrev pub StandsFor : Filter → Expr → Type 0
StandsFor filter e = (s : Setting) → filter_sense s filter ≡ sense_of s e
