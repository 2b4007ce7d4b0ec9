use Rattle.std.proofs.Common.{◌≡◌, ◌∙◌, ℕ, Bool, List, option_and_then, map, not, refl, ap, rules}
use Rattle.std.specs.Option.{option_copied}
use Rattle.std.proofs.lemmas.Result.{IfOk-weaker, on_ok_weaker}
use Rattle.edge_fields.specs.declared.value.Value.{Value}
use Rattle.type_check.specs.Meaning.{Setting, element_at, truth}
use Rattle.tree_eval.specs.declared.sense.Given.{Given}
use Rattle.tree_eval.specs.Seen.{seen}
use Rattle.tree_eval.specs.Settings.{setting_of}
use Rattle.filter_compile.specs.declared.program.Step.TheVariants as step
use Rattle.filter_compile.specs.Steps.{is_same}
use Rattle.filter_compile.specs.Slots.{slots_of}
use Rattle.filter_compile.proofs.RunLemmas.{after_lit, after_field, after_at, after_key, after_each, after_call, after_test, after_not, after_differ, after_leave, over_leave, over_none}
use Rattle.filter_compile.proofs.running.done.Goals as goal

abbrev within : Given → (List ℕ → Value → Bool) → Setting
within given is_listed = setting_of is_listed given.request.now (option_copied given.reply)

pub returns-in_ok-value_of_lit-in-Lit : goal.returns-in_ok-value_of_lit-in-Lit
returns-in_ok-value_of_lit-in-Lit c =
    record {
      over = IfOk-weaker c.load_value.result _ _ (λ over now. over_none c.args.step.now (step.Lit c.in-Lit.lit) (slots_of c.args.slots.now) over c.in-Lit.is refl now) c.load_value.ensures.next;
      slots = on_ok_weaker c.load_value.result (λ now is_listed tells. after_lit (within c.args.given.now is_listed) c.args.step.now (slots_of c.args.slots.now) (slots_of c.args.slots.now) (slots_of c.load_value.new.slots) c.in-Lit.lit c.in_ok-value_of_lit-in-Lit.field-0 c.in-Lit.is c.in_ok-value_of_lit-in-Lit.ensures now) c.load_value.ensures.slots;
    }

pub returns-in_ok-field-in-Field : goal.returns-in_ok-field-in-Field
returns-in_ok-field-in-Field c =
    record {
      over = IfOk-weaker c.load_value-in-Field.result _ _ (λ over now. over_none c.args.step.now (step.Field c.in-Field.id) (slots_of c.args.slots.now) over c.in-Field.is refl now) c.load_value-in-Field.ensures.next;
      slots = on_ok_weaker c.load_value-in-Field.result (λ now is_listed tells. after_field (within c.args.given.now is_listed) c.args.step.now (slots_of c.args.slots.now) (slots_of c.args.slots.now) (slots_of c.load_value-in-Field.new.slots) c.in-Field.id c.in_ok-field-in-Field.field-0 c.in-Field.is c.in_ok-field-in-Field.ensures.value now) c.load_value-in-Field.ensures.slots;
    }

pub returns-in-At : goal.returns-in-At
returns-in-At c =
    let made : c.element_at.result ≡ option_and_then (element_at c.in-At.place) c.alone.result = search rules in
    record {
      over = IfOk-weaker c.load_value-in-At.result _ _ (λ over now. over_none c.args.step.now (step.At c.in-At.place) (slots_of c.args.slots.now) over c.in-At.is refl now) c.load_value-in-At.ensures.next;
      slots = on_ok_weaker c.load_value-in-At.result (λ now is_listed tells. after_at (within c.args.given.now is_listed) c.args.step.now (slots_of c.args.slots.now) (slots_of c.take_last-of.new.slots) (slots_of c.load_value-in-At.new.slots) c.in-At.place (seen c.take_last-of.result) c.alone.result c.element_at.result c.in-At.is c.take_last-of.ensures.value c.take_last-of.ensures.others c.alone.ensures made now) c.load_value-in-At.ensures.slots;
    }

pub returns-in_ok-array_at-in-Key : goal.returns-in_ok-array_at-in-Key
returns-in_ok-array_at-in-Key c =
    record {
      over = IfOk-weaker c.load_value-in-Key.result _ _ (λ over now. over_none c.args.step.now (step.Key c.in-Key.key) (slots_of c.args.slots.now) over c.in-Key.is refl now) c.load_value-in-Key.ensures.next;
      slots = on_ok_weaker c.load_value-in-Key.result (λ now is_listed tells. after_key (within c.args.given.now is_listed) c.args.step.now (slots_of c.args.slots.now) (slots_of c.take_last-of-in-Key.new.slots) (slots_of c.load_value-in-Key.new.slots) c.in-Key.key (seen c.take_last-of-in-Key.result) c.alone-in-Key.result c.in_ok-array_at-in-Key.field-0 c.in-Key.is c.take_last-of-in-Key.ensures.value c.take_last-of-in-Key.ensures.others c.alone-in-Key.ensures c.in_ok-array_at-in-Key.ensures now) c.load_value-in-Key.ensures.slots;
    }

pub returns-in-Each : goal.returns-in-Each
returns-in-Each c =
    record {
      over = IfOk-weaker c.load.result _ _ (λ over now. over_none c.args.step.now (step.Each) (slots_of c.args.slots.now) over c.in-Each.is refl now) c.load.ensures.next;
      slots = on_ok_weaker c.load.result (λ now is_listed tells. after_each (within c.args.given.now is_listed) c.args.step.now (slots_of c.args.slots.now) (slots_of c.take_last-of-in-Each.new.slots) (slots_of c.load.new.slots) (seen c.take_last-of-in-Each.result) c.alone-in-Each.result c.items_in.result c.in-Each.is c.take_last-of-in-Each.ensures.value c.take_last-of-in-Each.ensures.others c.alone-in-Each.ensures c.items_in.ensures now) c.load.ensures.slots;
    }

pub returns-in_ok-value_of_call-in-Call : goal.returns-in_ok-value_of_call-in-Call
returns-in_ok-value_of_call-in-Call c =
    record {
      over = IfOk-weaker c.load_value-in-Call.result _ _ (λ over now. over_none c.args.step.now (step.Call c.in-Call.id c.in-Call.count) (slots_of c.args.slots.now) over c.in-Call.is refl now) c.load_value-in-Call.ensures.next;
      slots = on_ok_weaker c.load_value-in-Call.result (λ now is_listed tells. after_call (within c.args.given.now is_listed) c.args.step.now (slots_of c.args.slots.now) (slots_of c.take_many.new.slots) (slots_of c.load_value-in-Call.new.slots) c.in-Call.id c.in-Call.count (map seen c.in_ok-args-in-Call.args.items) c.in_ok-value_of_call-in-Call.field-0 refl c.in-Call.is c.in_ok-args-in-Call.ensures.taken c.in_ok-args-in-Call.ensures.others c.in_ok-value_of_call-in-Call.ensures now) c.load_value-in-Call.ensures.slots;
    }

pub returns-in_ok-tested-in-Test : goal.returns-in_ok-tested-in-Test
returns-in_ok-tested-in-Test c =
    record {
      over = IfOk-weaker c.load-in-Test.result _ _ (λ over now. over_none c.args.step.now (step.Test c.in-Test.test) (slots_of c.args.slots.now) over c.in-Test.is refl now) c.load-in-Test.ensures.next;
      slots = on_ok_weaker c.load-in-Test.result (λ now is_listed tells. after_test (within c.args.given.now is_listed) c.args.step.now (slots_of c.args.slots.now) (slots_of c.take_last-of-in-Test.new.slots) (slots_of c.load-in-Test.new.slots) c.in-Test.test (seen c.take_last-of-in-Test.result) (seen c.in_ok-tested-in-Test.field-0) c.in-Test.is c.take_last-of-in-Test.ensures.value c.take_last-of-in-Test.ensures.others (c.in_ok-tested-in-Test.ensures is_listed tells) now) c.load-in-Test.ensures.slots;
    }

pub returns-in-Not : goal.returns-in-Not
returns-in-Not c =
    record {
      over = IfOk-weaker c.load-in-Not.result _ _ (λ over now. over_none c.args.step.now (step.Not) (slots_of c.args.slots.now) over c.in-Not.is refl now) c.load-in-Not.ensures.next;
      slots = on_ok_weaker c.load-in-Not.result (λ now is_listed tells. after_not (within c.args.given.now is_listed) c.args.step.now (slots_of c.args.slots.now) (slots_of c.take_last.new.slots) (slots_of c.load-in-Not.new.slots) (seen c.take_last.result) (seen c.of_truth.result) c.is_true-holds.result c.in-Not.is c.take_last.ensures.value c.take_last.ensures.others c.is_true-holds.ensures c.of_truth.ensures now) c.load-in-Not.ensures.slots;
    }

pub returns-in-Differ : goal.returns-in-Differ
returns-in-Differ c =
    let differs : seen c.of_truth-in-Differ.result ≡ truth (not (is_same c.is_true-one.result c.is_true-other.result)) = c.of_truth-in-Differ.ensures ∙ ap (λ b. truth (not b)) c.is_same.ensures in
    record {
      over = IfOk-weaker c.load-in-Differ.result _ _ (λ over now. over_none c.args.step.now (step.Differ) (slots_of c.args.slots.now) over c.in-Differ.is refl now) c.load-in-Differ.ensures.next;
      slots = on_ok_weaker c.load-in-Differ.result (λ now is_listed tells. after_differ (within c.args.given.now is_listed) c.args.step.now (slots_of c.args.slots.now) (slots_of c.take_last-in-Differ-2.new.slots) (slots_of c.load-in-Differ.new.slots) (slots_of c.take_last-in-Differ.new.slots) (seen c.take_last-in-Differ.result) (seen c.take_last-in-Differ-2.result) (seen c.of_truth-in-Differ.result) c.is_true-one.result c.is_true-other.result c.in-Differ.is c.take_last-in-Differ.ensures.value c.take_last-in-Differ.ensures.others c.take_last-in-Differ-2.ensures.value c.take_last-in-Differ-2.ensures.others c.is_true-one.ensures c.is_true-other.ensures differs now) c.load-in-Differ.ensures.slots;
    }

pub returns-in-Leave : goal.returns-in-Leave
returns-in-Leave c = record {
  over = IfOk-weaker c.left.result _ _ (λ over now. over_leave c.args.step.now c.in-Leave.at c.in-Leave.over (slots_of c.args.slots.now) over c.in-Leave.is now) c.left.ensures.over;
  slots = on_ok_weaker c.left.result
      (λ now is_listed tells. after_leave (within c.args.given.now is_listed) c.args.step.now c.in-Leave.at c.in-Leave.over (slots_of c.args.slots.now) (slots_of c.left.new.slots) c.in-Leave.is
      (now (within c.args.given.now is_listed)))
      c.left.ensures.slots;
}
