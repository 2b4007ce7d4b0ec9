-- What a step does to the slots, and what is left to run behind it.
use Rattle.std.proofs.Common.{◌≡◌, ℕ, zero, suc, ℤ, ◌<◌, Bool, true, false, cond, not, List, [], ◌∷◌, ◌++◌, length, get_or, drop, map, Option, Some, option_and_then, refl, sym, ap, ap₂, ◌∙◌, append_assoc, arith}
use Rattle.std.proofs.lemmas.List.{append-nil, map-append}
use Rattle.edge_base.specs.declared.expression.Expr.{Expr}
use Rattle.edge_base.specs.declared.expression.Lit.{Lit}
use Rattle.edge_fields.specs.declared.field_id.FieldId.{FieldId}
use Rattle.edge_fields.specs.declared.function_id.FunctionId.{FunctionId}
use Rattle.edge_fields.specs.declared.value.Value.{Value}
use Rattle.edge_fields.specs.Fields.{field_of}
use Rattle.edge_fields.specs.Values.{items_in, value_of_lit}
use Rattle.func_lib.specs.Functions.{function_of}
use Rattle.type_check.specs.declared.node.BuiltTest.{BuiltTest}
use Rattle.type_check.specs.Meaning.{Setting, Sense, single, spread, alone, element_at, array_at, is_true, truth, tested, called, value_of}
use Rattle.type_check.specs.Trees.{test_of}
use Rattle.tree_eval.specs.Calls.{call_of}
use Rattle.tree_eval.specs.declared.sense.Sense.{Sense as Kept}
use Rattle.tree_eval.specs.Seen.{seen}
use Rattle.tree_eval.proofs.CallLemmas.{called_is}
use Rattle.filter_compile.specs.declared.program.Filter.{Filter}
use Rattle.filter_compile.specs.declared.program.Step.{Step}
use Rattle.filter_compile.specs.declared.program.Step.TheVariants as step
use Rattle.filter_compile.specs.Steps.{last_slot, other_slots, taken, without, is_same, slots_after, passed_over, left_by}
use Rattle.filter_compile.specs.Compiled.{StandsFor}

-- ---- the slots after a step, by what was taken and loaded

module _ (s : Setting) (st : Step) (old others new : List Sense) where
  pub after_lit : (l : Lit) (v : Value) → st ≡ step.Lit l → v ≡ value_of_lit l → new ≡ single (Some v) ∷ old → new ≡ slots_after s st old
  after_lit l v is made now = now ∙ ap (λ v. single (Some v) ∷ old) made ∙ sym (ap (λ x. slots_after s x old) is)

  pub after_field : (id : FieldId) (found : Option Value) → st ≡ step.Field id → found ≡ field_of s.request s.reply id → new ≡ single found ∷ old → new ≡ slots_after s st old
  after_field id found is made now = now ∙ ap (λ o. single o ∷ old) made ∙ sym (ap (λ x. slots_after s x old) is)

  pub after_at : (place : ℤ) (of : Sense) (array found : Option Value) → st ≡ step.At place → of ≡ last_slot old → others ≡ other_slots old → array ≡ alone of
      → found ≡ option_and_then (element_at place) array → new ≡ single found ∷ others → new ≡ slots_after s st old
  after_at place of array found is last before whole made now =
      now ∙ ap₂ (λ o rest. single o ∷ rest) (made ∙ ap (option_and_then (element_at place)) (whole ∙ ap alone last)) before ∙ sym (ap (λ x. slots_after s x old) is)

  pub after_key : (key : List ℕ) (of : Sense) (entries found : Option Value) → st ≡ step.Key key → of ≡ last_slot old → others ≡ other_slots old → entries ≡ alone of
      → found ≡ option_and_then (array_at key) entries → new ≡ single found ∷ others → new ≡ slots_after s st old
  after_key key of entries found is last before whole made now =
      now ∙ ap₂ (λ o rest. single o ∷ rest) (made ∙ ap (option_and_then (array_at key)) (whole ∙ ap alone last)) before ∙ sym (ap (λ x. slots_after s x old) is)

  pub after_each : (of : Sense) (array : Option Value) (found : Option (List Value)) → st ≡ step.Each → of ≡ last_slot old → others ≡ other_slots old → array ≡ alone of
      → found ≡ option_and_then items_in array → new ≡ spread found ∷ others → new ≡ slots_after s st old
  after_each of array found is last before whole made now =
      now ∙ ap₂ (λ o rest. spread o ∷ rest) (made ∙ ap (option_and_then items_in) (whole ∙ ap alone last)) before ∙ sym (ap (λ x. slots_after s x old) is)

  pub after_call : (id : FunctionId) (count : ℕ) (senses : List Sense) (found : Option Value) → s.function ≡ function_of → st ≡ step.Call id count → senses ≡ taken count old
      → others ≡ without count old → found ≡ call_of id senses → new ≡ single found ∷ others → new ≡ slots_after s st old
  after_call id count senses found functions is given before made now =
      now ∙ ap₂ (λ o rest. single o ∷ rest) (made ∙ sym (called_is s functions id senses) ∙ ap (called s id) given) before ∙ sym (ap (λ x. slots_after s x old) is)

  pub after_test : (t : BuiltTest) (of found : Sense) → st ≡ step.Test t → of ≡ last_slot old → others ≡ other_slots old → found ≡ tested s (test_of t) of → new ≡ found ∷ others
      → new ≡ slots_after s st old
  after_test t of found is last before made now =
      now ∙ ap₂ (λ v rest. v ∷ rest) (made ∙ ap (tested s (test_of t)) last) before ∙ sym (ap (λ x. slots_after s x old) is)

  pub after_not : (of found : Sense) (holds : Bool) → st ≡ step.Not → of ≡ last_slot old → others ≡ other_slots old → holds ≡ is_true of → found ≡ truth (not holds) → new ≡ found ∷ others
      → new ≡ slots_after s st old
  after_not of found holds is last before whole made now =
      now ∙ ap₂ (λ v rest. v ∷ rest) (made ∙ ap (λ b. truth (not b)) (whole ∙ ap is_true last)) before ∙ sym (ap (λ x. slots_after s x old) is)

  pub after_differ : (middle : List Sense) (one two found : Sense) (first second : Bool) → st ≡ step.Differ → one ≡ last_slot old → middle ≡ other_slots old → two ≡ last_slot middle
      → others ≡ other_slots middle → first ≡ is_true one → second ≡ is_true two → found ≡ truth (not (is_same first second)) → new ≡ found ∷ others → new ≡ slots_after s st old
  after_differ middle one two found first second is last before last2 before2 a b made now =
      now
      ∙ ap₂ (λ v rest. v ∷ rest)
      (made ∙ ap₂ (λ x y. truth (not (is_same x y))) (a ∙ ap is_true last) (b ∙ ap is_true (last2 ∙ ap last_slot before)))
      (before2 ∙ ap other_slots before)
      ∙ sym (ap (λ x. slots_after s x old) is)

-- a step that is no jump passes over none
pub over_none : (st form : Step) (old : List Sense) (over : ℕ) → st ≡ form → passed_over form old ≡ 0 → over ≡ 0 → over ≡ passed_over st old
over_none st form old over is none now = now ∙ sym none ∙ sym (ap (λ x. passed_over x old) is)

pub over_leave : (st : Step) (at : Bool) (by : ℕ) (old : List Sense) (over : ℕ) → st ≡ step.Leave at by → over ≡ passed_over (step.Leave at by) old → over ≡ passed_over st old
over_leave st at by old over is now = now ∙ sym (ap (λ x. passed_over x old) is)

pub after_leave : (s : Setting) (st : Step) (at : Bool) (by : ℕ) (old new : List Sense) → st ≡ step.Leave at by → new ≡ slots_after s (step.Leave at by) old → new ≡ slots_after s st old
after_leave s st at by old new is now = now ∙ sym (ap (λ x. slots_after s x old) is)

-- ---- many slots are taken

pub taken_more : (xs more : List Kept) (x : Kept) (count left : ℕ) (old now all : List Sense) → more ≡ xs ++ x ∷ [] → count ≡ suc left → map seen xs ++ taken count old ≡ all → seen x ≡ last_slot old
    → now ≡ other_slots old → map seen more ++ taken left now ≡ all
taken_more xs more x count left old now all put is past last before =
    ap₂ (λ front rest. front ++ taken left rest) (ap (map seen) put ∙ map-append seen xs (x ∷ [])) before
    ∙ append_assoc (map seen xs) (seen x ∷ []) (taken left (other_slots old))
    ∙ ap (λ v. map seen xs ++ v ∷ taken left (other_slots old)) last
    ∙ sym (ap (λ n. map seen xs ++ taken n old) is)
    ∙ past

pub without_more : (count left : ℕ) (old now all : List Sense) → count ≡ suc left → without count old ≡ all → now ≡ other_slots old → without left now ≡ all
without_more count left old now all is past before = ap (without left) before ∙ sym (ap (λ n. without n old) is) ∙ past

pub all_taken : (xs : List Kept) (left : ℕ) (slots all : List Sense) → left ≡ 0 → map seen xs ++ taken left slots ≡ all → map seen xs ≡ all
all_taken xs left slots all none h = sym (append-nil (map seen xs)) ∙ sym (ap (λ n. map seen xs ++ taken n slots) none) ∙ h

pub none_left : (left : ℕ) (slots all : List Sense) → left ≡ 0 → without left slots ≡ all → slots ≡ all
none_left left slots all none h = sym (ap (λ n. without n slots) none) ∙ h

-- ---- a chain is left, or it goes on

module _ (s : Setting) (at holds : Bool) (over : ℕ) (old others new : List Sense) (of : Sense) (last : of ≡ last_slot old) (before : others ≡ other_slots old) (whole : holds ≡ is_true of) where
  decides : (told : Bool) → is_same at holds ≡ told → is_same at (is_true (last_slot old)) ≡ told
  decides told is = ap (is_same at) (sym (whole ∙ ap is_true last)) ∙ is

  pub leaves_over : is_same at holds ≡ true → over ≡ passed_over (step.Leave at over) old
  leaves_over is = sym (ap (λ b. cond b over 0) (decides true is))

  pub leaves_slots : (made : Sense) → is_same at holds ≡ true → made ≡ truth at → new ≡ made ∷ others → new ≡ slots_after s (step.Leave at over) old
  leaves_slots made is loads now =
      now ∙ ap₂ (λ v rest. v ∷ rest) loads before ∙ sym (ap (λ b. cond b (truth at ∷ other_slots old) (other_slots old)) (decides true is))

  pub goes_over : is_same at holds ≡ false → 0 ≡ passed_over (step.Leave at over) old
  goes_over is = sym (ap (λ b. cond b over 0) (decides false is))

  pub goes_slots : is_same at holds ≡ false → others ≡ slots_after s (step.Leave at over) old
  goes_slots is = before ∙ sym (ap (λ b. cond b (truth at ∷ other_slots old) (other_slots old)) (decides false is))

-- ---- what is left to run

pub first_is : (steps : List Step) (one : Step) → 0 < length steps → one ≡ get_or steps 0 one → steps ≡ one ∷ drop 1 steps
first_is [] one within is = absurd (omega arith)
first_is (other ∷ steps) one within is = ap (λ x. x ∷ steps) (sym is)

pub skipped : (s : Setting) (over : ℕ) (steps : List Step) (slots : List Sense) → left_by s over steps slots ≡ left_by s 0 (drop over steps) slots
skipped s zero steps slots = refl
skipped s (suc over) [] slots = refl
skipped s (suc over) (one ∷ steps) slots = skipped s over steps slots

pub run_more : (s : Setting) (steps further rest : List Step) (one : Step) (over : ℕ) (old new end : List Sense) → 0 < length steps → one ≡ get_or steps 0 one → further ≡ drop 1 steps
    → rest ≡ drop over further → over ≡ passed_over one old → new ≡ slots_after s one old → left_by s 0 steps old ≡ end → left_by s 0 rest new ≡ end
run_more s steps further rest one over old new end within is cut passes by after past =
    ap (λ xs. left_by s 0 xs new) passes
    ∙ sym (skipped s over further new)
    ∙ ap₂ (λ n slots. left_by s n further slots) by after
    ∙ ap (λ xs. left_by s (passed_over one old) xs (slots_after s one old)) cut
    ∙ sym (ap (λ xs. left_by s 0 xs old) (first_is steps one within is))
    ∙ past

pub run_ends : (s : Setting) (filter : Filter) (e : Expr) (steps : List Step) (slots : List Sense) (last : Kept) (found : Option Value) → StandsFor filter e → length steps ≡ 0
    → left_by s 0 steps slots ≡ left_by s 0 filter.steps [] → seen last ≡ last_slot slots → found ≡ alone (seen last) → found ≡ value_of s e
run_ends s filter e [] slots last found stands none past is gives =
    gives ∙ ap alone (is ∙ ap last_slot past) ∙ ap alone (stands s)
run_ends s filter e (one ∷ steps) slots last found stands none past is gives = absurd (omega arith)
