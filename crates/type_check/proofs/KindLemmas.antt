-- What has a sort gives values of that sort.
use Rattle.std.proofs.Common.{◌≡◌, ℕ, zero, suc, ℤ, pos, negsuc, Bool, true, false, if◌then◌else◌, List, [], ◌∷◌, map, All, Option, None, Some, IfSome, slice_get, refl, sym, ap, subst, ◌∙◌, arith, bytes_eq}
use Rattle.std.specs.List.{filter_map, cons_option}
use Rattle.std.specs.Map.{lookup}
use Rattle.std.specs.Option.{option_map, option_and_then}
use Rattle.edge_base.specs.declared.expression.Lit.{Lit}
use Rattle.edge_base.specs.declared.expression.Lit.TheVariants as lit
use Rattle.edge_base.specs.declared.expression.Test.{Test}
use Rattle.edge_base.specs.declared.expression.Expr.{Expr}
use Rattle.edge_base.specs.declared.expression.Expr.TheVariants as expr
use Rattle.edge_base.specs.declared.expression.Expr.TheOpen as open_expr
use Rattle.edge_base.specs.declared.expression.Expr.TheViews.{roll-Expr}
use Rattle.edge_base.specs.declared.expression.Expr.TheFolds as folds
use Rattle.edge_fields.specs.declared.kind.Basic.{Basic}
use Rattle.edge_fields.specs.declared.kind.Basic.TheVariants as basic
use Rattle.edge_fields.specs.declared.kind.Kind.{Kind}
use Rattle.edge_fields.specs.declared.kind.Kind.TheVariants as kind
use Rattle.edge_fields.specs.declared.field_id.FieldId.{FieldId}
use Rattle.edge_fields.specs.declared.function_id.FunctionId.{FunctionId}
use Rattle.edge_fields.specs.declared.function_id.FunctionId.TheVariants as function
use Rattle.edge_fields.specs.declared.value.Value.{Value}
use Rattle.edge_fields.specs.declared.value.Value.TheVariants as value
use Rattle.edge_fields.specs.declared.value.Value.TheOpen as open_value
use Rattle.edge_fields.specs.declared.value.Value.TheViews.{out-roll-Value}
use Rattle.edge_fields.specs.Fields.{field_of, texts}
use Rattle.edge_fields.specs.Kinds.{HasBasic, HasKind}
use Rattle.edge_fields.specs.Names.{field_kind, function_kind}
use Rattle.edge_fields.proofs.KindsLemmas.{HasKind-field_of}
use Rattle.type_check.specs.declared.sort.Sort.{Sort}
use Rattle.type_check.specs.declared.sort.Sort.TheVariants as sort
use Rattle.type_check.specs.Checking.{Judge, judge_step, judge_of, call_sort, sorts_of, literals_of}
use Rattle.type_check.specs.Meaning.{Setting, Sense, single, spread, alone, element_at, array_at, truth, tested, all_of, takes_whole, applied, or_false, mapped, called, sense_step, sense_of, value_of, KeepsKinds}
use Rattle.type_check.specs.NamesFound.{field_of_name, function_of_name}
use Rattle.type_check.specs.Parameters.{args_fit}
use Rattle.type_check.specs.Places.{is_colo, allows_reply, kind_of_sort, tree_at, CheckedTreesHaveTheirKinds}
use Rattle.type_check.specs.Sorts.{basic_of, one, array, element_sort, array_sort, unpacked_sort, truth_sort, mapped_sort, result_sort}
use Rattle.type_check.specs.TestKinds.{takes_test, test_sort}
use Rattle.type_check.specs.Tests.{is_passed}
use Rattle.edge_fields.specs.Values.{items_in, items_shown, entries_in, entries_shown, value_of_lit}
use Rattle.type_check.proofs.Senses.{sense-lit}

-- what is given is of the sort, if there is one
abbrev Fits : Option Sort → Sense → Type 0
Fits None sense = Unit {0}
Fits (Some (sort.Plain k)) sense = (v : Option Value) × (sense ≡ single v) × IfSome v (HasKind k)
Fits (Some (sort.Each of)) sense = (items : Option (List Value)) × (sense ≡ spread items) × IfSome items (All (HasBasic of))

lit_kind : (l : Lit) → HasKind (kind.One (basic_of l)) (value_of_lit l)
lit_kind (lit.Text text) = (text, refl)
lit_kind (lit.Num number) = (number, refl)
lit_kind (lit.Addr addr) = (addr, refl)
lit_kind (lit.Bool b) = (b, refl)

-- ---- arrays

get_fits : (P : Value → Type 0) (xs : List Value) (n : ℕ) → All P xs → IfSome (slice_get xs n) P
get_fits P [] n h = tt
get_fits P (x ∷ xs) zero h = h 0 x (omega arith)
get_fits P (x ∷ xs) (suc n) h = get_fits P xs n (λ k d below. h (suc k) d (omega arith))

all_none : (P : Value → Type 0) → All P []
all_none P k d below = absurd (omega arith)

all_more : (P : Value → Type 0) (x : Value) (xs : List Value) → P x → All P xs → All P (x ∷ xs)
all_more P x xs p h zero d below = p
all_more P x xs p h (suc k) d below = h k d (omega arith)

all_map : {A : Type 0} (P : Value → Type 0) (f : A → Value) → ((a : A) → P (f a)) → (xs : List A) → All P (map f xs)
all_map P f each [] = all_none P
all_map P f each (x ∷ xs) = all_more P (f x) (map f xs) (each x) (all_map P f each xs)

all_filtered : (P : Value → Type 0) (f : Value → Option Value) → ((v : Value) → IfSome (f v) P) → (xs : List Value) → All P (filter_map f xs)
all_filtered P f each [] = all_none P
all_filtered P f each (x ∷ xs) = put (f x) (filter_map f xs) (each x) (all_filtered P f each xs)
  where
    put : (o : Option Value) (ys : List Value) → IfSome o P → All P ys → All P (cons_option o ys)
    put None ys p h = h
    put (Some y) ys p h = all_more P y ys p h

items_of_array : (xs : List Value) → items_in (value.Array xs) ≡ Some xs
items_of_array xs = ap items_in (sym (value.rolls-Array xs)) ∙ ap items_shown (out-roll-Value (open_value.Array xs))

entries_of_map : (entries : List (List ℕ × List (List ℕ))) → entries_in (value.Map entries) ≡ Some entries
entries_of_map entries = ap entries_in (sym (value.rolls-Map entries)) ∙ ap entries_shown (out-roll-Value (open_value.Map entries))

-- ---- parts

element_fits : (of : Basic) (n : ℤ) (v : Option Value) → IfSome v (HasKind (kind.Array of)) → IfSome (option_and_then (element_at n) v) (HasKind (kind.One of))
element_fits of n None h = tt
element_fits of (pos n) (Some v) h = subst (λ x. IfSome (element_at (pos n) x) (HasBasic of)) (sym h.2)
    (subst (λ o. IfSome (option_and_then (λ items. slice_get items n) o) (HasBasic of)) (sym (items_of_array h.0)) (get_fits (HasBasic of) h.0 n h.1))
element_fits of (negsuc n) (Some v) h = tt

at_fits : (s : Option Sort) (sense : Sense) (n : ℤ) → Fits s sense → Fits (element_sort s) (single (option_and_then (element_at n) (alone sense)))
at_fits None sense n h = tt
at_fits (Some (sort.Each of)) sense n h = tt
at_fits (Some (sort.Plain (kind.One of))) sense n h = tt
at_fits (Some (sort.Plain kind.Map)) sense n h = tt
at_fits (Some (sort.Plain (kind.Array of))) sense n h = (_, ap (λ x. single (option_and_then (element_at n) (alone x))) h.1, element_fits of n h.0 h.2)

found_texts : (found : Option (List (List ℕ))) → IfSome (option_map texts found) (HasKind (kind.Array basic.Text))
found_texts None = tt
found_texts (Some ts) = (_, all_map (HasBasic basic.Text) value.Text (λ t. (t, refl)) ts, refl)

key_fits_value : (key : List ℕ) (v : Option Value) → IfSome v (HasKind kind.Map) → IfSome (option_and_then (array_at key) v) (HasKind (kind.Array basic.Text))
key_fits_value key None h = tt
key_fits_value key (Some v) h = subst (λ x. IfSome (array_at key x) (HasKind (kind.Array basic.Text))) (sym h.2)
    (subst (λ o. IfSome (option_and_then (λ entries. option_map texts (lookup (bytes_eq key) entries)) o) (HasKind (kind.Array basic.Text))) (sym (entries_of_map h.0)) (found_texts (lookup (bytes_eq key) h.0)))

key_fits : (s : Option Sort) (sense : Sense) (key : List ℕ) → Fits s sense → Fits (array_sort s) (single (option_and_then (array_at key) (alone sense)))
key_fits None sense key h = tt
key_fits (Some (sort.Each of)) sense key h = tt
key_fits (Some (sort.Plain (kind.One of))) sense key h = tt
key_fits (Some (sort.Plain (kind.Array of))) sense key h = tt
key_fits (Some (sort.Plain kind.Map)) sense key h = (_, ap (λ x. single (option_and_then (array_at key) (alone x))) h.1, key_fits_value key h.0 h.2)

items_fit : (of : Basic) (v : Option Value) → IfSome v (HasKind (kind.Array of)) → IfSome (option_and_then items_in v) (All (HasBasic of))
items_fit of None h = tt
items_fit of (Some v) h = subst (λ x. IfSome (items_in x) (All (HasBasic of))) (sym h.2) (subst (λ o. IfSome o (All (HasBasic of))) (sym (items_of_array h.0)) h.1)

each_fits : (s : Option Sort) (sense : Sense) → Fits s sense → Fits (unpacked_sort s) (spread (option_and_then items_in (alone sense)))
each_fits None sense h = tt
each_fits (Some (sort.Each of)) sense h = tt
each_fits (Some (sort.Plain (kind.One of))) sense h = tt
each_fits (Some (sort.Plain kind.Map)) sense h = tt
each_fits (Some (sort.Plain (kind.Array of))) sense h = (_, ap (λ x. spread (option_and_then items_in (alone x))) h.1, items_fit of h.0 h.2)

truth_fits : (b : Bool) → Fits (one basic.Bool) (truth b)
truth_fits b = (_, refl, (b, refl))

negation_fits : (s : Option Sort) (b : Bool) → Fits (truth_sort s) (truth b)
negation_fits None b = tt
negation_fits (Some (sort.Each of)) b = tt
negation_fits (Some (sort.Plain kind.Map)) b = tt
negation_fits (Some (sort.Plain (kind.Array of))) b = tt
negation_fits (Some (sort.Plain (kind.One basic.Text))) b = tt
negation_fits (Some (sort.Plain (kind.One basic.Num))) b = tt
negation_fits (Some (sort.Plain (kind.One basic.Addr))) b = tt
negation_fits (Some (sort.Plain (kind.One basic.Bool))) b = truth_fits b

chosen_fits : (so : Bool) (b : Bool) → Fits (if so then one basic.Bool else None) (truth b)
chosen_fits true b = truth_fits b
chosen_fits false b = tt

module _ (s : Setting) where
  tests_fit : (t : Test) (items : Option (List Value)) → IfSome (option_map (λ vs. value.Array (map (λ v. value.Bool (is_passed s.is_listed t v)) vs)) items) (HasKind (kind.Array basic.Bool))
  tests_fit t None = tt
  tests_fit t (Some vs) = (_, all_map (HasBasic basic.Bool) (λ v. value.Bool (is_passed s.is_listed t v)) (λ v. (_, refl)) vs, refl)

  one_test : (so : Bool) (t : Test) (sense : Sense) (v : Option Value) → sense ≡ single v → Fits (if so then one basic.Bool else None) (tested s t sense)
  one_test true t sense v is = (_, ap (tested s t) is, (_, refl))
  one_test false t sense v is = tt

  each_test : (so : Bool) (t : Test) (sense : Sense) (items : Option (List Value)) → sense ≡ spread items → Fits (if so then array basic.Bool else None) (tested s t sense)
  each_test true t sense items is = (_, ap (tested s t) is, tests_fit t items)
  each_test false t sense items is = tt

  test_fits : (lists : List (List ℕ × Basic)) (t : Test) (so : Option Sort) (sense : Sense) → Fits so sense → Fits (test_sort lists t so) (tested s t sense)
  test_fits lists t None sense h = tt
  test_fits lists t (Some (sort.Each of)) sense h = each_test (takes_test lists t of) t sense h.0 h.1
  test_fits lists t (Some (sort.Plain (kind.One of))) sense h = one_test (takes_test lists t of) t sense h.0 h.1
  test_fits lists t (Some (sort.Plain (kind.Array of))) sense h = tt
  test_fits lists t (Some (sort.Plain kind.Map)) sense h = tt

  field_fits : (found : Option FieldId) → Fits (option_map (λ id. sort.Plain (field_kind id)) found) (single (option_and_then (field_of s.request s.reply) found))
  field_fits None = tt
  field_fits (Some id) = (_, refl, HasKind-field_of s.request s.reply id)

  -- ---- calls

  module _ (keeps : KeepsKinds s) where
    given_kind : (id : FunctionId) (vs : List Value) (o : Option Value) → s.function id vs ≡ o → IfSome o (HasKind (function_kind id))
    given_kind id vs None is = tt
    given_kind id vs (Some v) is = keeps id vs v is

    applied_kind : (id : FunctionId) (args : Option (List Value)) → IfSome (option_and_then (s.function id) args) (HasKind (function_kind id))
    applied_kind id None = tt
    applied_kind id (Some vs) = given_kind id vs (s.function id vs) refl

    false_kind : (id : FunctionId) → IfSome (or_false id None) (HasKind (function_kind id))
    false_kind function.Any = (false, refl)
    false_kind function.All = (false, refl)
    false_kind other = tt

    or_false_kind : (id : FunctionId) (o : Option Value) → IfSome o (HasKind (function_kind id)) → IfSome (or_false id o) (HasKind (function_kind id))
    or_false_kind id None h = false_kind id
    or_false_kind id (Some v) h = h

    basic_value : (id : FunctionId) (of : Basic) (o : Option Value) → function_kind id ≡ kind.One of → IfSome o (HasKind (function_kind id)) → IfSome o (HasBasic of)
    basic_value id of None is h = tt
    basic_value id of (Some v) is h = subst (λ k. HasKind k v) is h

    mapped_value : (id : FunctionId) (of : Basic) (further : List (Option Value)) (items : Option (List Value)) → function_kind id ≡ kind.One of → IfSome (option_map (mapped s id further) items) (HasKind (kind.Array of))
    mapped_value id of further None is = tt
    mapped_value id of further (Some vs) is =
        (_, all_filtered (HasBasic of) (λ v. applied s id (Some v ∷ further)) (λ v. basic_value id of (applied s id (Some v ∷ further)) is (applied_kind id (all_of (Some v ∷ further)))) vs, refl)

    whole_or_mapped : (whole : Bool) (id : FunctionId) (of : Basic) (further : List (Option Value)) (items : Option (List Value)) → function_kind id ≡ kind.One of
        → IfSome (if whole then None else option_map (mapped s id further) items) (HasKind (kind.Array of))
    whole_or_mapped true id of further items is = tt
    whole_or_mapped false id of further items is = mapped_value id of further items is

    mapped_fits : (id : FunctionId) (k : Kind) (sense : Sense) (items : Option (List Value)) (further : List Sense) → function_kind id ≡ k → sense ≡ spread items → Fits (mapped_sort k) (single (called s id (sense ∷ further)))
    mapped_fits id (kind.One of) sense items further is same = (_, ap (λ x. single (called s id (x ∷ further))) same, whole_or_mapped (takes_whole id) id of (map alone further) items is)
    mapped_fits id (kind.Array of) sense items further is same = tt
    mapped_fits id kind.Map sense items further is same = tt

    result_fits : (id : FunctionId) (so : Option Sort) (sense : Sense) (further : List Sense) → Fits so sense → Fits (result_sort id so) (single (called s id (sense ∷ further)))
    result_fits id None sense further h = tt
    result_fits id (Some (sort.Plain k)) sense further h =
        (_, ap (λ x. single (called s id (x ∷ further))) h.1, or_false_kind id (applied s id (h.0 ∷ map alone further)) (applied_kind id (all_of (h.0 ∷ map alone further))))
    result_fits id (Some (sort.Each of)) sense further h = mapped_fits id (function_kind id) sense h.0 further refl h.1

    taken_fits : (fits : Bool) (id : FunctionId) (so : Option Sort) (sense : Sense) (further : List Sense) → Fits so sense → Fits (if fits then result_sort id so else None) (single (called s id (sense ∷ further)))
    taken_fits true id so sense further h = result_fits id so sense further h
    taken_fits false id so sense further h = tt

    never_fits : (fits : Bool) (sense : Sense) → Fits (if fits then None else None) sense
    never_fits true sense = tt
    never_fits false sense = tt

    module _ (lists : List (List ℕ × Basic)) (replies : Bool) where
      abbrev j : Expr → Judge
      j = judge_of lists replies

      abbrev IsSound : Expr → Type 0
      IsSound e = Fits (j e).sort (sense_of s e)

      -- by the form of the expression
      sound_roll : (x : open_expr.Expr-F Expr) → Fits (judge_step lists replies (folds.map-Expr Expr Judge j x)).sort (sense_step s (folds.map-Expr Expr Sense (sense_of s) x)) → IsSound (roll-Expr x)
      sound_roll x h =
          subst (λ (k : Judge). Fits k.sort (sense_of s (roll-Expr x))) (sym (folds.fold-roll-Expr Judge (judge_step lists replies) x))
          (subst (Fits (judge_step lists replies (folds.map-Expr Expr Judge j x)).sort) (sym (folds.fold-roll-Expr Sense (sense_step s) x)) h)

      call_sound : (found : Option FunctionId) (args : List ((e : Expr) × IsSound e))
          → Fits (option_and_then (λ id. call_sort id (literals_of (map j (map (λ p. p.0) args))) (sorts_of (map j (map (λ p. p.0) args)))) found)
          (single (option_and_then (λ id. called s id (map (sense_of s) (map (λ p. p.0) args))) found))
      call_sound None args = tt
      call_sound (Some id) [] = never_fits (args_fit id [] []) (single (called s id []))
      call_sound (Some id) (p ∷ args) =
          taken_fits (args_fit id (literals_of (map j (map (λ q. q.0) (p ∷ args)))) (sorts_of (map j (map (λ q. q.0) (p ∷ args))))) id (j p.0).sort (sense_of s p.0) (map (sense_of s) (map (λ q. q.0) args)) p.1

      layer : (y : open_expr.Expr-F ((e : Expr) × IsSound e)) → IsSound (roll-Expr (folds.map-Expr ((e : Expr) × IsSound e) Expr (λ e. e.0) y))
      layer (open_expr.Lit l) = sound_roll (open_expr.Lit l) (_, refl, lit_kind l)
      layer (open_expr.Field name) = sound_roll (open_expr.Field name) (field_fits (field_of_name name))
      layer (open_expr.Call name args) = sound_roll (open_expr.Call name (map (λ e. e.0) args)) (call_sound (function_of_name name) args)
      layer (open_expr.At of n) = sound_roll (open_expr.At of.0 n) (at_fits (j of.0).sort (sense_of s of.0) n of.1)
      layer (open_expr.Key of key) = sound_roll (open_expr.Key of.0 key) (key_fits (j of.0).sort (sense_of s of.0) key of.1)
      layer (open_expr.Each of) = sound_roll (open_expr.Each of.0) (each_fits (j of.0).sort (sense_of s of.0) of.1)
      layer (open_expr.Test of t) = sound_roll (open_expr.Test of.0 t) (test_fits lists t (j of.0).sort (sense_of s of.0) of.1)
      layer (open_expr.Not of) = sound_roll (open_expr.Not of.0) (negation_fits (j of.0).sort _)
      layer (open_expr.And members) = sound_roll (open_expr.And (map (λ e. e.0) members)) (chosen_fits _ _)
      layer (open_expr.Xor members) = sound_roll (open_expr.Xor (map (λ e. e.0) members)) (chosen_fits _ _)
      layer (open_expr.Or members) = sound_roll (open_expr.Or (map (λ e. e.0) members)) (chosen_fits _ _)

      pub sound : (e : Expr) → IsSound e
      sound = folds.ind-Expr IsSound (λ x y is. subst (λ z. IsSound (roll-Expr z)) is (layer y))

abbrev OfKind : Option Value → Option Kind → Type 0
OfKind v None = Unit {0}
OfKind v (Some k) = IfSome v (HasKind k)

fits_kind : (so : Option Sort) (sense : Sense) → Fits so sense → OfKind (alone sense) (kind_of_sort so)
fits_kind None sense h = tt
fits_kind (Some (sort.Each of)) sense h = tt
fits_kind (Some (sort.Plain k)) sense h = subst (λ x. IfSome (alone x) (HasKind k)) (sym h.1) h.2

colo_kind : (s : Setting) → OfKind (value_of s (expr.Lit (lit.Num (pos 0)))) (Some (kind.One basic.Num))
colo_kind s = subst (λ (x : Sense). IfSome (alone x) (HasKind (kind.One basic.Num))) (sym (sense-lit s (lit.Num (pos 0)))) (pos 0, refl)

either : (s : Setting) → KeepsKinds s → (lists : List (List ℕ × Basic)) (replies : Bool) (e : Expr) (colo : Bool)
    → OfKind (value_of s (if colo then expr.Lit (lit.Num (pos 0)) else e)) (if colo then Some (kind.One basic.Num) else kind_of_sort (judge_of lists replies e).sort)
either s keeps lists replies e true = colo_kind s
either s keeps lists replies e false = fits_kind (judge_of lists replies e).sort (sense_of s e) (sound s keeps lists replies e)

pub kinds_hold : CheckedTreesHaveTheirKinds
kinds_hold lists p e k is = λ s keeps. subst (OfKind (value_of s (tree_at p e))) is (either s keeps lists (allows_reply p) e (is_colo p e))
