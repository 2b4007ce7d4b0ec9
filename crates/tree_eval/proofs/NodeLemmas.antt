-- What the evaluator keeps of a node, by what it keeps of the node's parts.
use Rattle.std.proofs.Common.{◌≡◌, ℕ, ℤ, ◌+◌, ◌%◌, ◌==◌, ◌<◌, Bool, true, false, cond, not, ◌&&◌, ◌||◌, List, [], ◌∷◌, ◌++◌, length, get_or, take, map, count_by, Option, Some, option_and_then, refl, sym, ap, ap₂, ◌∙◌}
use Rattle.std.specs.List.{list_all, list_any}
use Rattle.std.proofs.lemmas.List.{take_more, map-append}
use Rattle.std.proofs.lemmas.List.Sums.{sum_by-cons, count_by_more_yes, count_by_more_no}
use Rattle.std.proofs.lemmas.List.Folds.{list_all-map, list_all_more, list_any_more}
use Rattle.edge_base.specs.declared.expression.Lit.{Lit}
use Rattle.edge_fields.specs.Fields.{field_of}
use Rattle.edge_fields.specs.declared.field_id.FieldId.{FieldId}
use Rattle.edge_fields.specs.declared.function_id.FunctionId.{FunctionId}
use Rattle.edge_base.specs.declared.expression.Test.{Test}
use Rattle.edge_fields.specs.declared.value.Value.{Value}
use Rattle.edge_fields.specs.declared.value.Value.TheVariants as value
use Rattle.type_check.specs.Tests.{is_passed}
use Rattle.func_lib.specs.Functions.{function_of}
use Rattle.type_check.specs.declared.node.BuiltTest.{BuiltTest}
use Rattle.type_check.specs.declared.node.Node.{Node}
use Rattle.type_check.specs.declared.node.Node.TheVariants as node
use Rattle.type_check.specs.Trees.{test_of}
use Rattle.edge_fields.specs.Values.{items_in, value_of_lit}
use Rattle.type_check.specs.Meaning.{Setting, Sense, single, spread, alone, element_at, array_at, is_true, truth, tested, called}
use Rattle.type_check.proofs.NodeSenses.{means-lit, means-field, means-call, means-at, means-key, means-each, means-test, means-not, means-and, means-xor, means-or}
use Rattle.tree_eval.specs.Calls.{call_of}
use Rattle.tree_eval.specs.Given.{node_sense, is_true_node}
use Rattle.tree_eval.proofs.CallLemmas.{called_is}

any_map : {X Y : Type 0} (p : Y → Bool) (f : X → Y) (xs : List X) → list_any p (map f xs) ≡ list_any (λ x. p (f x)) xs
any_map p f [] = refl
any_map p f (x ∷ xs) = ap (λ b. p (f x) || b) (any_map p f xs)

count_map : {X Y : Type 0} (p : Y → Bool) (f : X → Y) (xs : List X) → count_by p (map f xs) ≡ count_by (λ x. p (f x)) xs
count_map p f [] = refl
count_map p f (x ∷ xs) =
    sum_by-cons (λ y. cond (p y) 1 0) (f x) (map f xs) ∙ ap (λ rest. cond (p (f x)) 1 0 + rest) (count_map p f xs) ∙ sym (sum_by-cons (λ x. cond (p (f x)) 1 0) x xs)

module _ (s : Setting) (n : Node) where
  pub sense-lit : (l : Lit) (v : Value) → n ≡ node.Lit l → v ≡ value_of_lit l → single (Some v) ≡ node_sense s n
  sense-lit l v is made = ap (λ v. single (Some v)) made ∙ sym (ap (node_sense s) is ∙ means-lit s l)

  pub sense-field : (id : FieldId) (found : Option Value) → n ≡ node.Field id → found ≡ field_of s.request s.reply id → single found ≡ node_sense s n
  sense-field id found is made = ap single made ∙ sym (ap (node_sense s) is ∙ means-field s id)

  pub sense-call : (id : FunctionId) (args : List Node) (senses : List Sense) (found : Option Value) → s.function ≡ function_of → n ≡ node.Call id args
      → senses ≡ map (node_sense s) args → found ≡ call_of id senses → single found ≡ node_sense s n
  sense-call id args senses found functions is given made =
      ap single (made ∙ sym (called_is s functions id senses) ∙ ap (called s id) given)
      ∙ sym (ap (node_sense s) is ∙ means-call s id args)

  pub sense-at : (of : Node) (place : ℤ) (sense : Sense) (array found : Option Value) → n ≡ node.At of place → sense ≡ node_sense s of → array ≡ alone sense
      → found ≡ option_and_then (element_at place) array → single found ≡ node_sense s n
  sense-at of place sense array found is part whole made =
      ap single (made ∙ ap (option_and_then (element_at place)) (whole ∙ ap alone part)) ∙ sym (ap (node_sense s) is ∙ means-at s of place)

  pub sense-key : (of : Node) (key : List ℕ) (sense : Sense) (entries found : Option Value) → n ≡ node.Key of key → sense ≡ node_sense s of → entries ≡ alone sense
      → found ≡ option_and_then (array_at key) entries → single found ≡ node_sense s n
  sense-key of key sense entries found is part whole made =
      ap single (made ∙ ap (option_and_then (array_at key)) (whole ∙ ap alone part)) ∙ sym (ap (node_sense s) is ∙ means-key s of key)

  pub sense-each : (of : Node) (sense : Sense) (array : Option Value) (found : Option (List Value)) → n ≡ node.Each of → sense ≡ node_sense s of → array ≡ alone sense
      → found ≡ option_and_then items_in array → spread found ≡ node_sense s n
  sense-each of sense array found is part whole made =
      ap spread (made ∙ ap (option_and_then items_in) (whole ∙ ap alone part)) ∙ sym (ap (node_sense s) is ∙ means-each s of)

  pub sense-test : (of : Node) (t : BuiltTest) (sense found : Sense) → n ≡ node.Test of t → sense ≡ node_sense s of → found ≡ tested s (test_of t) sense → found ≡ node_sense s n
  sense-test of t sense found is part made =
      made ∙ ap (tested s (test_of t)) part ∙ sym (ap (node_sense s) is ∙ means-test s of t)

  pub sense-not : (of : Node) (sense found : Sense) (holds : Bool) → n ≡ node.Not of → sense ≡ node_sense s of → holds ≡ is_true sense → found ≡ truth (not holds) → found ≡ node_sense s n
  sense-not of sense found holds is part whole made =
      made ∙ ap (λ b. truth (not b)) (whole ∙ ap is_true part) ∙ sym (ap (node_sense s) is ∙ means-not s of)

  pub sense-and : (members : List Node) (found : Sense) (holds : Bool) → n ≡ node.And members → holds ≡ list_all (is_true_node s) members → found ≡ truth holds → found ≡ node_sense s n
  sense-and members found holds is given made =
      made ∙ ap truth (given ∙ sym (list_all-map is_true (node_sense s) members)) ∙ sym (ap (node_sense s) is ∙ means-and s members)

  pub sense-xor : (members : List Node) (found : Sense) (count : ℕ) → n ≡ node.Xor members → count ≡ count_by (is_true_node s) members → found ≡ truth (count % 2 == 1) → found ≡ node_sense s n
  sense-xor members found count is given made =
      made ∙ ap (λ c. truth (c % 2 == 1)) (given ∙ sym (count_map is_true (node_sense s) members)) ∙ sym (ap (node_sense s) is ∙ means-xor s members)

  pub sense-or : (members : List Node) (found : Sense) (holds : Bool) → n ≡ node.Or members → holds ≡ list_any (is_true_node s) members → found ≡ truth holds → found ≡ node_sense s n
  sense-or members found holds is given made =
      made ∙ ap truth (given ∙ sym (any_map is_true (node_sense s) members)) ∙ sym (ap (node_sense s) is ∙ means-or s members)

-- one more node
pub map_step : {X Y : Type 0} (f : X → Y) (xs : List X) (i : ℕ) (x : X) (y : Y) (ys : List Y) → i < length xs → x ≡ get_or xs i x → y ≡ f x → ys ≡ map f (take i xs)
    → ys ++ y ∷ [] ≡ map f (take (i + 1) xs)
map_step f xs i x y ys within is here past =
    ap₂ (λ front last. front ++ last ∷ []) past (here ∙ ap f is)
    ∙ sym (ap (map f) (take_more xs i x within) ∙ map-append f (take i xs) (get_or xs i x ∷ []))

pub all_step : {X : Type 0} (p : X → Bool) (xs : List X) (i : ℕ) (x : X) → i < length xs → x ≡ get_or xs i x → p x ≡ true → list_all p (take i xs) ≡ true → list_all p (take (i + 1) xs) ≡ true
all_step p xs i x within is here past = list_all_more p xs i x within ∙ ap₂ (λ a b. a && b) past (sym (ap p is) ∙ here)

pub any_step : {X : Type 0} (p : X → Bool) (xs : List X) (i : ℕ) (x : X) → i < length xs → x ≡ get_or xs i x → p x ≡ false → list_any p (take i xs) ≡ false → list_any p (take (i + 1) xs) ≡ false
any_step p xs i x within is here past = list_any_more p xs i x within ∙ ap₂ (λ a b. a || b) past (sym (ap p is) ∙ here)

pub count_yes : {X : Type 0} (p : X → Bool) (xs : List X) (i : ℕ) (x : X) (count : ℕ) → i < length xs → x ≡ get_or xs i x → p x ≡ true → count ≡ count_by p (take i xs) → count + 1 ≡ count_by p (take (i + 1) xs)
count_yes p xs i x count within is here past = ap (λ n. n + 1) past ∙ sym (count_by_more_yes p xs i x within (sym (ap p is) ∙ here))

pub count_no : {X : Type 0} (p : X → Bool) (xs : List X) (i : ℕ) (x : X) (count : ℕ) → i < length xs → x ≡ get_or xs i x → p x ≡ false → count ≡ count_by p (take i xs) → count ≡ count_by p (take (i + 1) xs)
count_no p xs i x count within is here past = past ∙ sym (count_by_more_no p xs i x within (sym (ap p is) ∙ here))

-- the tests of the elements of an unpacked array
pub sense-tests : (s : Setting) (t : Test) (of : Sense) (vs given tests : List Value) → of ≡ spread (Some vs) → given ≡ vs
    → tests ≡ map (λ v. value.Bool (is_passed s.is_listed t v)) given → single (Some (value.Array tests)) ≡ tested s t of
sense-tests s t of vs given tests is same made =
    ap (λ ts. single (Some (value.Array ts))) (made ∙ ap (map (λ v. value.Bool (is_passed s.is_listed t v))) same) ∙ sym (ap (tested s t) is)

-- whether a node is true, by what was kept of it
pub node_truth : (s : Setting) (n : Node) (sense : Sense) (holds told : Bool) → sense ≡ node_sense s n → holds ≡ is_true sense → holds ≡ told → is_true_node s n ≡ told
node_truth s n sense holds told part whole is = sym (ap is_true part) ∙ sym whole ∙ is
