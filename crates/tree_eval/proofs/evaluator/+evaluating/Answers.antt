use Rattle.std.proofs.Common.{◌≡◌, ◌∙◌, ◌∷◌, [], ℕ, Bool, List, ap, sym, map, refl, rules, arith, count_by}
use Rattle.std.specs.List.{list_all, list_any}
use Rattle.std.proofs.lemmas.List.{map-append}
use Rattle.std.proofs.lemmas.Result.{IfOk-weaker}
use Rattle.std.proofs.lemmas.List.Folds.{list_all_at, list_any_at}
use Rattle.std.specs.Option.{option_copied, option_and_then}
use Rattle.edge_fields.specs.declared.value.Value.{Value}
use Rattle.list_store.specs.Listed.{list_kinds_of}
use Rattle.type_check.specs.Meaning.{Setting}
use Rattle.tree_eval.specs.declared.sense.Given.{Given}
use Rattle.tree_eval.specs.Given.{node_sense, is_true_node}
use Rattle.tree_eval.specs.Seen.{seen}
use Rattle.tree_eval.specs.Settings.{setting_of}
use Rattle.tree_eval.proofs.NodeLemmas.{sense-lit, sense-field, sense-call, sense-at, sense-key, sense-each, sense-test, sense-not, sense-and, sense-xor, sense-or, map_step, count_yes, count_no, all_step, any_step, node_truth}
use Rattle.tree_eval.proofs.PlacedLemmas.{placed-call, placed-and, placed-xor, placed-or}
use Rattle.type_check.specs.declared.node.Node.{the_lemmas}
use Rattle.type_check.specs.Meaning.{element_at}
use Rattle.tree_eval.proofs.evaluator.+evaluating.Goals as goal
use Rattle.tree_eval.proofs.evaluator.+evaluating.Goals.{count_true-then-is_true, count_true-else-is_true}

abbrev within : Given → (List ℕ → Value → Bool) → Setting
within given is_listed = setting_of is_listed given.request.now (option_copied given.reply)

pub senses_of-loop-node-preserved : goal.senses_of-loop-node-preserved
senses_of-loop-node-preserved t c is_listed tells =
    let s = within c.args.given.now is_listed in
    ap (map seen) c.in_ok-push.ensures.items ∙ map-append seen c.loop-node.senses.items (c.in_ok-sense_of.field-0 ∷ [])
    ∙ map_step (node_sense s) c.args.nodes.now c.loop-node.node-index c.node-item.result _ (map seen c.loop-node.senses.items) c.loop-node-test.true c.node-item.is
    (c.in_ok-sense_of.ensures is_listed tells) (c.loop-node.invariant is_listed tells)

pub are_true-loop-member-preserved : goal.are_true-loop-member-preserved
are_true-loop-member-preserved t c is_listed tells =
    let s = within c.args.given.now is_listed in
    all_step (is_true_node s) c.args.members.now c.loop-member.member-index c.member-item.result c.loop-member-test.true c.member-item.is
    (node_truth s c.member-item.result (seen c.in_ok-sense_of.field-0) c.is_true.result _ (c.in_ok-sense_of.ensures is_listed tells) c.is_true.ensures c.if-not-is_true.false)
    (c.loop-member.invariant is_listed tells)

pub are_true-returns-then-not-is_true : goal.are_true-returns-then-not-is_true
are_true-returns-then-not-is_true t c is_listed tells =
    let s = within c.args.given.now is_listed in
    sym (list_all_at (is_true_node s) c.args.members.now c.loop-member.member-index c.member-item.result c.loop-member-test.true
    (sym (ap (is_true_node s) c.member-item.is) ∙ (node_truth s c.member-item.result (seen c.in_ok-sense_of.field-0) c.is_true.result _ (c.in_ok-sense_of.ensures is_listed tells) c.is_true.ensures c.if-not-is_true.true)))

pub is_one_true-loop-member-preserved : goal.is_one_true-loop-member-preserved
is_one_true-loop-member-preserved t c is_listed tells =
    let s = within c.args.given.now is_listed in
    any_step (is_true_node s) c.args.members.now c.loop-member.member-index c.member-item.result c.loop-member-test.true c.member-item.is
    (node_truth s c.member-item.result (seen c.in_ok-sense_of.field-0) c.is_true.result _ (c.in_ok-sense_of.ensures is_listed tells) c.is_true.ensures c.if-is_true.false)
    (c.loop-member.invariant is_listed tells)

pub is_one_true-returns-then-is_true : goal.is_one_true-returns-then-is_true
is_one_true-returns-then-is_true t c is_listed tells =
    let s = within c.args.given.now is_listed in
    sym (list_any_at (is_true_node s) c.args.members.now c.loop-member.member-index c.member-item.result c.loop-member-test.true
    (sym (ap (is_true_node s) c.member-item.is) ∙ (node_truth s c.member-item.result (seen c.in_ok-sense_of.field-0) c.is_true.result _ (c.in_ok-sense_of.ensures is_listed tells) c.is_true.ensures c.if-is_true.true)))

pub count_true-loop-member-preserved : goal.count_true-loop-member-preserved
count_true-loop-member-preserved t c = elim c.if-is_true.branch [
  | count_true-then-is_true w ↦ record {
    few = let more = w.count-is in omega arith;
    counted = λ is_listed tells.
        let s = within c.args.given.now is_listed in
        w.count-is ∙ count_yes (is_true_node s) c.args.members.now c.loop-member.member-index c.member-item.result c.loop-member.count c.loop-member-test.true c.member-item.is
        (node_truth s c.member-item.result (seen c.in_ok-sense_of.field-0) c.is_true.result _ (c.in_ok-sense_of.ensures is_listed tells) c.is_true.ensures w.if-is_true.true)
        (c.loop-member.invariant.counted is_listed tells);
  }
  | count_true-else-is_true w ↦ record {
    few = let same = w.count-is in omega arith;
    counted = λ is_listed tells.
        let s = within c.args.given.now is_listed in
        w.count-is ∙ count_no (is_true_node s) c.args.members.now c.loop-member.member-index c.member-item.result c.loop-member.count c.loop-member-test.true c.member-item.is
        (node_truth s c.member-item.result (seen c.in_ok-sense_of.field-0) c.is_true.result _ (c.in_ok-sense_of.ensures is_listed tells) c.is_true.ensures w.if-is_true.false)
        (c.loop-member.invariant.counted is_listed tells);
  }
]

pub sense_of-senses_of-requires : goal.sense_of-senses_of-requires
sense_of-senses_of-requires t c =
    (search (rules, the_lemmas), rw c.as_slice.ensures (placed-call (list_kinds_of c.args.given.now.lists.now) c.args.node.now c.requires c.in-Call.id c.in-Call.args c.in-Call.is))

pub sense_of-are_true-requires : goal.sense_of-are_true-requires
sense_of-are_true-requires t c =
    (search (rules, the_lemmas), rw c.as_slice-in-And.ensures (placed-and (list_kinds_of c.args.given.now.lists.now) c.args.node.now c.requires c.in-And.members c.in-And.is))

pub sense_of-count_true-requires : goal.sense_of-count_true-requires
sense_of-count_true-requires t c =
    (search (rules, the_lemmas), rw c.as_slice-in-Xor.ensures (placed-xor (list_kinds_of c.args.given.now.lists.now) c.args.node.now c.requires c.in-Xor.members c.in-Xor.is))

pub sense_of-is_one_true-requires : goal.sense_of-is_one_true-requires
sense_of-is_one_true-requires t c =
    (search (rules, the_lemmas), rw c.as_slice-in-Or.ensures (placed-or (list_kinds_of c.args.given.now.lists.now) c.args.node.now c.requires c.in-Or.members c.in-Or.is))

pub sense_of-returns-in_ok-value_of_lit-in-Lit : goal.sense_of-returns-in_ok-value_of_lit-in-Lit
sense_of-returns-in_ok-value_of_lit-in-Lit t c is_listed tells = sense-lit (within c.args.given.now is_listed) c.args.node.now c.in-Lit.lit _ c.in-Lit.is c.in_ok-value_of_lit-in-Lit.ensures

pub sense_of-returns-in_ok-field-in-Field : goal.sense_of-returns-in_ok-field-in-Field
sense_of-returns-in_ok-field-in-Field t c is_listed tells = sense-field (within c.args.given.now is_listed) c.args.node.now c.in-Field.id _ c.in-Field.is c.in_ok-field-in-Field.ensures.value

pub sense_of-returns-in_ok-value_of_call-in-Call : goal.sense_of-returns-in_ok-value_of_call-in-Call
sense_of-returns-in_ok-value_of_call-in-Call t c is_listed tells =
    let s = within c.args.given.now is_listed in
    sense-call s c.args.node.now c.in-Call.id c.in-Call.args (map seen c.in_ok-args-in-Call.args.items) _ refl c.in-Call.is
    (c.in_ok-args-in-Call.ensures is_listed tells ∙ ap (map (node_sense s)) c.as_slice.ensures) c.in_ok-value_of_call-in-Call.ensures

pub sense_of-returns-in_ok-sense_of-in-At : goal.sense_of-returns-in_ok-sense_of-in-At
sense_of-returns-in_ok-sense_of-in-At t c is_listed tells =
    let s = within c.args.given.now is_listed in
    let made : c.element_at.result ≡ option_and_then (element_at c.in-At.place) c.alone-array.result = search rules in
    sense-at s c.args.node.now c.in-At.of c.in-At.place (seen c.in_ok-sense_of-in-At.field-0) c.alone-array.result c.element_at.result c.in-At.is
    (c.in_ok-sense_of-in-At.ensures is_listed tells ∙ ap (node_sense s) c.get.ensures) c.alone-array.ensures made

pub sense_of-returns-in_ok-array_at-in-Key : goal.sense_of-returns-in_ok-array_at-in-Key
sense_of-returns-in_ok-array_at-in-Key t c is_listed tells =
    let s = within c.args.given.now is_listed in
    sense-key s c.args.node.now c.in-Key.of c.in-Key.key (seen c.in_ok-sense_of-in-Key.field-0) c.alone-map.result _ c.in-Key.is
    (c.in_ok-sense_of-in-Key.ensures is_listed tells ∙ ap (node_sense s) c.get-in-Key.ensures) c.alone-map.ensures c.in_ok-array_at-in-Key.ensures

pub sense_of-returns-in_ok-sense_of-in-Each : goal.sense_of-returns-in_ok-sense_of-in-Each
sense_of-returns-in_ok-sense_of-in-Each t c is_listed tells =
    let s = within c.args.given.now is_listed in
    sense-each s c.args.node.now c.in-Each.of (seen c.in_ok-sense_of-in-Each.field-0) c.alone-array-in-Each.result _ c.in-Each.is
    (c.in_ok-sense_of-in-Each.ensures is_listed tells ∙ ap (node_sense s) c.get-in-Each.ensures) c.alone-array-in-Each.ensures c.items_in.ensures

pub sense_of-returns-in_ok-of-in-Test : goal.sense_of-returns-in_ok-of-in-Test
sense_of-returns-in_ok-of-in-Test t c =
    IfOk-weaker c.tested.result _ _ (λ found tests is_listed tells.
    let s = within c.args.given.now is_listed in
    sense-test s c.args.node.now c.in-Test.of c.in-Test.test (seen c.in_ok-of-in-Test.of) (seen found) c.in-Test.is
    (c.in_ok-of-in-Test.ensures is_listed tells ∙ ap (node_sense s) c.get-in-Test.ensures) (tests is_listed tells))
    c.tested.ensures

pub sense_of-returns-in_ok-sense_of-in-Not : goal.sense_of-returns-in_ok-sense_of-in-Not
sense_of-returns-in_ok-sense_of-in-Not t c is_listed tells =
    let s = within c.args.given.now is_listed in
    sense-not s c.args.node.now c.in-Not.of (seen c.in_ok-sense_of-in-Not.field-0) _ c.is_true-holds.result c.in-Not.is
    (c.in_ok-sense_of-in-Not.ensures is_listed tells ∙ ap (node_sense s) c.get-in-Not.ensures) c.is_true-holds.ensures c.of_truth.ensures

pub sense_of-returns-in_ok-are_true-in-And : goal.sense_of-returns-in_ok-are_true-in-And
sense_of-returns-in_ok-are_true-in-And t c is_listed tells =
    let s = within c.args.given.now is_listed in
    sense-and s c.args.node.now c.in-And.members _ c.in_ok-are_true-in-And.field-0 c.in-And.is
    (c.in_ok-are_true-in-And.ensures is_listed tells ∙ ap (list_all (is_true_node s)) c.as_slice-in-And.ensures) c.of_truth-in-And.ensures

pub sense_of-returns-in_ok-count-in-Xor : goal.sense_of-returns-in_ok-count-in-Xor
sense_of-returns-in_ok-count-in-Xor t c is_listed tells =
    let s = within c.args.given.now is_listed in
    sense-xor s c.args.node.now c.in-Xor.members _ c.in_ok-count-in-Xor.count c.in-Xor.is
    (c.in_ok-count-in-Xor.ensures is_listed tells ∙ ap (count_by (is_true_node s)) c.as_slice-in-Xor.ensures) c.of_truth-in-Xor.ensures

pub sense_of-returns-in_ok-is_one_true-in-Or : goal.sense_of-returns-in_ok-is_one_true-in-Or
sense_of-returns-in_ok-is_one_true-in-Or t c is_listed tells =
    let s = within c.args.given.now is_listed in
    sense-or s c.args.node.now c.in-Or.members _ c.in_ok-is_one_true-in-Or.field-0 c.in-Or.is
    (c.in_ok-is_one_true-in-Or.ensures is_listed tells ∙ ap (list_any (is_true_node s)) c.as_slice-in-Or.ensures) c.of_truth-in-Or.ensures
