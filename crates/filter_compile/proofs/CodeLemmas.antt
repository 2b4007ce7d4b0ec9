-- Steps that load senses, put together.
use Rattle.std.proofs.Common.{◌≡◌, ℕ, ℤ, ◌%◌, ◌==◌, Bool, true, false, cond, not, ◌&&◌, ◌||◌, List, [], ◌∷◌, ◌++◌, length, map, refl, sym, ap, ap₂, subst, ◌∙◌, append_assoc, count_by}
use Rattle.std.specs.List.{list_all, list_any}
use Rattle.std.proofs.lemmas.List.{append-nil}
use Rattle.edge_base.specs.declared.expression.Lit.{Lit}
use Rattle.edge_base.specs.declared.expression.Lit.TheVariants as lit
use Rattle.edge_fields.specs.declared.kind.Basic.{Basic}
use Rattle.edge_fields.specs.declared.field_id.FieldId.{FieldId}
use Rattle.edge_fields.specs.declared.function_id.FunctionId.{FunctionId}
use Rattle.edge_fields.specs.declared.value.Value.TheVariants as value
use Rattle.edge_fields.specs.Values.{truth_shown}
use Rattle.type_check.specs.declared.node.BuiltTest.{BuiltTest}
use Rattle.type_check.specs.declared.node.Node.{Node}
use Rattle.type_check.specs.declared.node.Node.TheVariants as node
use Rattle.type_check.specs.Meaning.{Setting, Sense, single, is_true, truth, called}
use Rattle.type_check.specs.Tests.{is_some_and}
use Rattle.type_check.specs.Trees.{tree_of, are_placed}
use Rattle.type_check.proofs.NodeSenses.{means-lit, means-field, means-call, means-at, means-key, means-each, means-test, means-not}
use Rattle.tree_eval.specs.Given.{node_sense, is_true_node}
use Rattle.tree_eval.proofs.NodeLemmas.{sense-and, sense-xor, sense-or}
use Rattle.tree_eval.proofs.PlacedLemmas.{placed-call, placed-at, placed-key, placed-each, placed-test, placed-not, placed-and, placed-xor, placed-or}
use Rattle.filter_compile.specs.declared.program.Filter.{Filter}
use Rattle.filter_compile.specs.declared.program.Step.{Step}
use Rattle.filter_compile.specs.declared.program.Step.TheVariants as step
use Rattle.filter_compile.specs.Steps.{last_slot, slots_after, passed_over, left_by, is_same, taken, without, is_step_placed, are_steps_placed}
use Rattle.filter_compile.specs.Compiled.{IsCode, IsCodeOf, IsCodeOfAll, IsCodeOfChain, IsCodeOfXor, StandsFor, chain_truth}
use Rattle.filter_compile.proofs.ParityLemmas.{odd_more}
use Rattle.filter_compile.proofs.PlacedLemmas.{both, placed-append, placed-one}

-- all of some steps are passed over
passed : (s : Setting) (steps further : List Step) (slots : List Sense) → left_by s (length steps) (steps ++ further) slots ≡ left_by s 0 further slots
passed s [] further slots = refl
passed s (one ∷ steps) further slots = passed s steps further slots

-- ---- one step more

with_one : (steps all : List Step) (last : Step) (f g : Setting → List Sense) (fine okay : List (List ℕ × Basic) → Bool) → IsCode steps f fine → all ≡ steps ++ last ∷ []
    → ((s : Setting) (slots : List Sense) → slots_after s last (f s ++ slots) ≡ g s ++ slots)
    → ((s : Setting) (slots : List Sense) → passed_over last (f s ++ slots) ≡ 0)
    → ((lists : List (List ℕ × Basic)) → okay lists ≡ true → (fine lists ≡ true) × (is_step_placed lists last ≡ true))
    → IsCode all g okay
with_one steps all last f g fine okay c is after over placed = record {
  loads = λ s further slots.
      ap (λ given. left_by s 0 (given ++ further) slots) is
      ∙ ap (λ given. left_by s 0 given slots) (append_assoc steps (last ∷ []) further)
      ∙ c.loads s (last ∷ further) slots
      ∙ ap₂ (λ n given. left_by s n further given) (over s slots) (after s slots);
  placed = λ lists h.
      let parts = placed lists h in
      ap (are_steps_placed lists) is ∙ placed-append lists steps (last ∷ []) (c.placed lists parts.0) (placed-one lists last parts.1);
}

alone_code : (all : List Step) (last : Step) (g : Setting → List Sense) (okay : List (List ℕ × Basic) → Bool) → all ≡ last ∷ []
    → ((s : Setting) (slots : List Sense) → slots_after s last slots ≡ g s ++ slots)
    → ((s : Setting) (slots : List Sense) → passed_over last slots ≡ 0)
    → ((lists : List (List ℕ × Basic)) → is_step_placed lists last ≡ true)
    → IsCode all g okay
alone_code all last g okay is after over placed = record {
  loads = λ s further slots.
      ap (λ given. left_by s 0 (given ++ further) slots) is ∙ ap₂ (λ n given. left_by s n further given) (over s slots) (after s slots);
  placed = λ lists h. ap (are_steps_placed lists) is ∙ placed-one lists last (placed lists);
}

onto : (slots : List Sense) (a b : Sense) → a ≡ b → a ∷ slots ≡ b ∷ slots
onto slots a b h = ap (λ v. v ∷ slots) h

module _ (n : Node) (all : List Step) where
  pub code-lit : (l : Lit) → n ≡ node.Lit l → all ≡ step.Lit l ∷ [] → IsCodeOf all n
  code-lit l is made =
      alone_code all (step.Lit l) (λ s. node_sense s n ∷ []) (λ lists. are_placed lists n) made (λ s slots. onto slots _ _ (sym (ap (node_sense s) is ∙ means-lit s l))) (λ s slots. refl) (λ lists. refl)

  pub code-field : (id : FieldId) → n ≡ node.Field id → all ≡ step.Field id ∷ [] → IsCodeOf all n
  code-field id is made =
      alone_code all (step.Field id) (λ s. node_sense s n ∷ []) (λ lists. are_placed lists n) made (λ s slots. onto slots _ _ (sym (ap (node_sense s) is ∙ means-field s id))) (λ s slots. refl) (λ lists. refl)

module _ (n of given : Node) (steps all : List Step) (same : given ≡ of) (own : IsCodeOf steps given) where
  c : IsCodeOf steps of
  c = subst (IsCodeOf steps) same own

  after_one : (last : Step) → all ≡ steps ++ last ∷ []
      → ((s : Setting) (slots : List Sense) → slots_after s last (node_sense s of ∷ slots) ≡ node_sense s n ∷ slots)
      → ((s : Setting) (slots : List Sense) → passed_over last (node_sense s of ∷ slots) ≡ 0)
      → ((lists : List (List ℕ × Basic)) → are_placed lists n ≡ true → (are_placed lists of ≡ true) × (is_step_placed lists last ≡ true))
      → IsCodeOf all n
  after_one last made after over placed =
      with_one steps all last (λ s. node_sense s of ∷ []) (λ s. node_sense s n ∷ []) (λ lists. are_placed lists of) (λ lists. are_placed lists n) c made after over placed

  pub code-at : (place : ℤ) → n ≡ node.At of place → all ≡ steps ++ step.At place ∷ [] → IsCodeOf all n
  code-at place is made =
      after_one (step.At place) made (λ s slots. onto slots _ _ (sym (ap (node_sense s) is ∙ means-at s of place))) (λ s slots. refl)
      (λ lists h. (placed-at lists n h of place is, refl))

  pub code-key : (key : List ℕ) → n ≡ node.Key of key → all ≡ steps ++ step.Key key ∷ [] → IsCodeOf all n
  code-key key is made =
      after_one (step.Key key) made (λ s slots. onto slots _ _ (sym (ap (node_sense s) is ∙ means-key s of key))) (λ s slots. refl)
      (λ lists h. (placed-key lists n h of key is, refl))

  pub code-each : n ≡ node.Each of → all ≡ steps ++ step.Each ∷ [] → IsCodeOf all n
  code-each is made =
      after_one step.Each made (λ s slots. onto slots _ _ (sym (ap (node_sense s) is ∙ means-each s of))) (λ s slots. refl)
      (λ lists h. (placed-each lists n h of is, refl))

  pub code-test : (t : BuiltTest) → n ≡ node.Test of t → all ≡ steps ++ step.Test t ∷ [] → IsCodeOf all n
  code-test t is made =
      after_one (step.Test t) made (λ s slots. onto slots _ _ (sym (ap (node_sense s) is ∙ means-test s of t))) (λ s slots. refl)
      (λ lists h. placed-test lists n h of t is)

  pub code-not : n ≡ node.Not of → all ≡ steps ++ step.Not ∷ [] → IsCodeOf all n
  code-not is made =
      after_one step.Not made (λ s slots. onto slots _ _ (sym (ap (node_sense s) is ∙ means-not s of))) (λ s slots. refl)
      (λ lists h. (placed-not lists n h of is, refl))

-- ---- many nodes

pub code-none : (all : List Step) → all ≡ [] → IsCodeOfAll all []
code-none all is = record {
  loads = λ s further slots. ap (λ given. left_by s 0 (given ++ further) slots) is;
  placed = λ lists h. ap (are_steps_placed lists) is;
}

pub code-more : (one : Node) (nodes : List Node) (further steps all : List Step) → IsCodeOfAll further nodes → IsCodeOf steps one → all ≡ further ++ steps → IsCodeOfAll all (one ∷ nodes)
code-more one nodes further steps all d c is = record {
  loads = λ s more slots.
      ap (λ given. left_by s 0 (given ++ more) slots) is
      ∙ ap (λ given. left_by s 0 given slots) (append_assoc further steps more)
      ∙ d.loads s (steps ++ more) slots
      ∙ c.loads s more (map (node_sense s) nodes ++ slots);
  placed = λ lists h.
      let parts = both (are_placed lists one) (list_all (are_placed lists) nodes) h in
      ap (are_steps_placed lists) is ∙ placed-append lists further steps (d.placed lists parts.1) (c.placed lists parts.0);
}

taken_all : (f : Node → Sense) (args : List Node) (slots : List Sense) → taken (length args) (map f args ++ slots) ≡ map f args
taken_all f [] slots = refl
taken_all f (one ∷ args) slots = ap (λ rest. f one ∷ rest) (taken_all f args slots)

without_all : (f : Node → Sense) (args : List Node) (slots : List Sense) → without (length args) (map f args ++ slots) ≡ slots
without_all f [] slots = refl
without_all f (one ∷ args) slots = without_all f args slots

pub code-call : (n : Node) (id : FunctionId) (args : List Node) (count : ℕ) (steps all : List Step) → n ≡ node.Call id args → count ≡ length args → IsCodeOfAll steps args
    → all ≡ steps ++ step.Call id count ∷ [] → IsCodeOf all n
code-call n id args count steps all is counted c made =
    with_one steps all (step.Call id count) (λ s. map (node_sense s) args) (λ s. node_sense s n ∷ []) (λ lists. list_all (are_placed lists) args) (λ lists. are_placed lists n) c made
    (λ s slots.
    ap (λ m. single (called s id (taken m (map (node_sense s) args ++ slots))) ∷ without m (map (node_sense s) args ++ slots)) counted
    ∙ ap₂ (λ xs rest. single (called s id xs) ∷ rest) (taken_all (node_sense s) args slots) (without_all (node_sense s) args slots)
    ∙ onto slots _ _ (sym (ap (node_sense s) is ∙ means-call s id args)))
    (λ s slots. refl)
    (λ lists h. (placed-call lists n h id args is, refl))

-- ---- chains that end at a member

pub chain-none : (at : Bool) (all : List Step) → all ≡ step.Lit (lit.Bool (not at)) ∷ [] → IsCodeOfChain all at []
chain-none at all is =
    alone_code all (step.Lit (lit.Bool (not at))) (λ s. truth (chain_truth at (is_true_node s) []) ∷ []) (λ lists. true) is (λ s slots. refl) (λ s slots. refl) (λ lists. refl)

decided : (s : Setting) (b at rest : Bool) (further more : List Step) (slots : List Sense) → left_by s 0 (further ++ more) slots ≡ left_by s 0 more (truth rest ∷ slots)
    → left_by s (cond b (length further) 0) (further ++ more) (cond b (truth at ∷ slots) slots) ≡ left_by s 0 more (truth (cond b at rest) ∷ slots)
decided s true at rest further more slots h = passed s further more (truth at ∷ slots)
decided s false at rest further more slots h = h

pub chain-more : (at : Bool) (one : Node) (nodes : List Node) (steps further all : List Step) → IsCodeOf steps one → IsCodeOfChain further at nodes
    → all ≡ (steps ++ step.Leave at (length further) ∷ []) ++ further → IsCodeOfChain all at (one ∷ nodes)
chain-more at one nodes steps further all c d is = record {
  loads = λ s more slots.
      ap (λ given. left_by s 0 (given ++ more) slots) is
      ∙ ap (λ given. left_by s 0 given slots)
      (append_assoc (steps ++ step.Leave at (length further) ∷ []) further more ∙ append_assoc steps (step.Leave at (length further) ∷ []) (further ++ more))
      ∙ c.loads s (step.Leave at (length further) ∷ (further ++ more)) slots
      ∙ decided s (is_same at (is_true_node s one)) at (chain_truth at (is_true_node s) nodes) further more slots (d.loads s more slots);
  placed = λ lists h.
      let parts = both (are_placed lists one) (list_all (are_placed lists) nodes) h in
      ap (are_steps_placed lists) is
      ∙ placed-append lists (steps ++ step.Leave at (length further) ∷ []) further
      (placed-append lists steps (step.Leave at (length further) ∷ []) (c.placed lists parts.0) refl) (d.placed lists parts.1);
}

chain_all : (p : Node → Bool) (nodes : List Node) → chain_truth false p nodes ≡ list_all p nodes
chain_all p [] = refl
chain_all p (one ∷ nodes) = all_one (p one) (chain_truth false p nodes) ∙ ap (λ rest. p one && rest) (chain_all p nodes)
  where
    all_one : (b rest : Bool) → cond (not b) false rest ≡ (b && rest)
    all_one true rest = refl
    all_one false rest = refl

chain_any : (p : Node → Bool) (nodes : List Node) → chain_truth true p nodes ≡ list_any p nodes
chain_any p [] = refl
chain_any p (one ∷ nodes) = any_one (p one) (chain_truth true p nodes) ∙ ap (λ rest. p one || rest) (chain_any p nodes)
  where
    any_one : (b rest : Bool) → cond b true rest ≡ (b || rest)
    any_one true rest = refl
    any_one false rest = refl

pub code-and : (n : Node) (members : List Node) (steps : List Step) → n ≡ node.And members → IsCodeOfChain steps false members → IsCodeOf steps n
code-and n members steps is c = record {
  loads = λ s further slots.
      c.loads s further slots
      ∙ ap (λ v. left_by s 0 further (v ∷ slots)) (sense-and s n members (truth (chain_truth false (is_true_node s) members)) (chain_truth false (is_true_node s) members) is (chain_all (is_true_node s) members) refl);
  placed = λ lists h. c.placed lists (placed-and lists n h members is);
}

pub code-or : (n : Node) (members : List Node) (steps : List Step) → n ≡ node.Or members → IsCodeOfChain steps true members → IsCodeOf steps n
code-or n members steps is c = record {
  loads = λ s further slots.
      c.loads s further slots
      ∙ ap (λ v. left_by s 0 further (v ∷ slots)) (sense-or s n members (truth (chain_truth true (is_true_node s) members)) (chain_truth true (is_true_node s) members) is (chain_any (is_true_node s) members) refl);
  placed = λ lists h. c.placed lists (placed-or lists n h members is);
}

-- ---- `xor` chains

pub xor-none : (all : List Step) → all ≡ step.Lit (lit.Bool false) ∷ [] → IsCodeOfXor all []
xor-none all is =
    alone_code all (step.Lit (lit.Bool false)) (λ s. truth (count_by (is_true_node s) [] % 2 == 1) ∷ []) (λ lists. true) is (λ s slots. refl) (λ s slots. refl) (λ lists. refl)

is_true-truth : (b : Bool) → is_true (truth b) ≡ b
is_true-truth b = ap (λ shown. is_some_and (λ t. t) (truth_shown shown)) (value.outs-Bool b)

pub xor-more : (one : Node) (nodes : List Node) (further steps both_steps all : List Step) → IsCodeOfXor further nodes → IsCodeOf steps one → both_steps ≡ further ++ steps
    → all ≡ both_steps ++ step.Differ ∷ [] → IsCodeOfXor all (one ∷ nodes)
xor-more one nodes further steps both_steps all d c is made =
    with_one both_steps all step.Differ (λ s. node_sense s one ∷ (truth (count_by (is_true_node s) nodes % 2 == 1) ∷ [])) (λ s. truth (count_by (is_true_node s) (one ∷ nodes) % 2 == 1) ∷ [])
    (λ lists. list_all (are_placed lists) (one ∷ nodes)) (λ lists. list_all (are_placed lists) (one ∷ nodes))
    (record {
      loads = λ s more slots.
          ap (λ given. left_by s 0 (given ++ more) slots) is
          ∙ ap (λ given. left_by s 0 given slots) (append_assoc further steps more)
          ∙ d.loads s (steps ++ more) slots
          ∙ c.loads s more (truth (count_by (is_true_node s) nodes % 2 == 1) ∷ slots);
      placed = λ lists h.
          let parts = both (are_placed lists one) (list_all (are_placed lists) nodes) h in
          ap (are_steps_placed lists) is ∙ placed-append lists further steps (d.placed lists parts.1) (c.placed lists parts.0);
    })
    made
    (λ s slots. onto slots _ _
    (ap (λ b. truth (not (is_same (is_true_node s one) b))) (is_true-truth (count_by (is_true_node s) nodes % 2 == 1))
    ∙ ap truth (odd_more (is_true_node s) one nodes)))
    (λ s slots. refl)
    (λ lists h. (h, refl))

pub code-xor : (n : Node) (members : List Node) (steps : List Step) → n ≡ node.Xor members → IsCodeOfXor steps members → IsCodeOf steps n
code-xor n members steps is c = record {
  loads = λ s further slots.
      c.loads s further slots
      ∙ ap (λ v. left_by s 0 further (v ∷ slots)) (sense-xor s n members (truth (count_by (is_true_node s) members % 2 == 1)) (count_by (is_true_node s) members) is refl refl);
  placed = λ lists h. c.placed lists (placed-xor lists n h members is);
}

-- ---- a filter

pub stands : (filter : Filter) (root given : Node) (steps : List Step) → given ≡ root → IsCodeOf steps given → filter.steps ≡ steps → StandsFor filter (tree_of root)
stands filter root given steps same c is s =
    ap (λ own. last_slot (left_by s 0 own [])) (is ∙ sym (append-nil steps))
    ∙ ap last_slot (c.loads s [] [])
    ∙ ap (node_sense s) same

pub code_placed : (lists : List (List ℕ × Basic)) (root given : Node) (steps : List Step) → given ≡ root → IsCodeOf steps given → are_placed lists root ≡ true → are_steps_placed lists steps ≡ true
code_placed lists root given steps same c placed = c.placed lists (ap (are_placed lists) same ∙ placed)
