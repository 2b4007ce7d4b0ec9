-- Each form of expression is told by its lemma.
use Rattle.std.proofs.Common.{Ok, refl, ap, sym, subst, ◌∙◌}
use Rattle.type_check.specs.declared.fault.TypeCause.TheVariants as cause
use Rattle.type_check.specs.declared.sort.Stand.TheVariants as stand
use Rattle.type_check.specs.Checking.{judge_of, chain_sort}
use Rattle.type_check.specs.Judging.{IsCalled}
use Rattle.type_check.specs.NamesFound.{function_of_name}
use Rattle.type_check.specs.TestKinds.{where_so}
use Rattle.type_check.proofs.AllLemmas.{fault_here, one_more}
use Rattle.type_check.proofs.CallLemmas.{call_tells, test_tells, chain_tells, each_tells, same_all, same_one}
use Rattle.type_check.proofs.JudgeForms.{judge-lit, judge-field, judge-call, judge-key, judge-each, judge-test, judge-not, judge-and, judge-xor, judge-or}
use Rattle.type_check.proofs.ToldLemmas.{told_as}
use Rattle.type_check.proofs.judging.+judging.Goals as goal

pub judge-returns-in-Lit : goal.judge-returns-in-Lit
judge-returns-in-Lit t c = told_as _ _ _ _ _ _ _ _ c.in-Lit.is (judge-lit c.args.scheme.now c.args.replies _) (c.judge_lit.ensures c.args.scheme.now c.args.replies)

pub judge-returns-in-Field : goal.judge-returns-in-Field
judge-returns-in-Field t c = told_as _ _ _ _ _ _ _ _ c.in-Field.is (judge-field c.args.scheme.now c.args.replies _) (c.judge_field.ensures c.args.scheme.now)

pub judge-returns-in-Call : goal.judge-returns-in-Call
judge-returns-in-Call t c = told_as _ _ _ _ _ _ _ _ c.in-Call.is (judge-call c.args.scheme.now c.args.replies _ _) c.judge_call.ensures

pub judge-returns-in-Key : goal.judge-returns-in-Key
judge-returns-in-Key t c = told_as _ _ _ _ _ _ _ _ c.in-Key.is (judge-key c.args.scheme.now c.args.replies _ _) c.judge_key.ensures

pub judge-returns-in-Each : goal.judge-returns-in-Each
judge-returns-in-Each t c = told_as _ _ _ _ _ _ _ _ c.in-Each.is (judge-each c.args.scheme.now c.args.replies _) c.judge_each.ensures

pub judge-returns-in-Test : goal.judge-returns-in-Test
judge-returns-in-Test t c = told_as _ _ _ _ _ _ _ _ c.in-Test.is (judge-test c.args.scheme.now c.args.replies _ _) c.judge_test.ensures

pub judge-returns-in-Not : goal.judge-returns-in-Not
judge-returns-in-Not t c = told_as _ _ _ _ _ _ _ _ c.in-Not.is (judge-not c.args.scheme.now c.args.replies _) c.judge_not.ensures

pub judge-returns-in-And : goal.judge-returns-in-And
judge-returns-in-And t c = told_as _ _ _ _ _ _ _ _ c.in-And.is (judge-and c.args.scheme.now c.args.replies _) c.judge_chain.ensures

pub judge-returns-in-Xor : goal.judge-returns-in-Xor
judge-returns-in-Xor t c = told_as _ _ _ _ _ _ _ _ c.in-Xor.is (judge-xor c.args.scheme.now c.args.replies _) c.judge_chain-in-Xor.ensures

pub judge-returns-in-Or : goal.judge-returns-in-Or
judge-returns-in-Or t c = told_as _ _ _ _ _ _ _ _ c.in-Or.is (judge-or c.args.scheme.now c.args.replies _) c.judge_chain-in-Or.ensures

pub judge_call-returns : goal.judge_call-returns
judge_call-returns t c =
    call_tells c.args.scheme.now c.args.replies c.args.name.now c.in-Some.id c.args.args.now c.args.stand c.args.mark c.judge_all-all.result c.judge_called.result
    (ap function_of_name (sym c.bytes.ensures) ∙ sym c.find_function.ensures ∙ c.in-Some.is)
    (sym c.is_second.ensures ∙ c.if-is_second.false)
    (same_all c.args.scheme.now c.args.replies _ _ _ _ _ _ c.judge_all-all.result c.as_slice.ensures c.first_stand.ensures c.in_ok-inner.ensures c.judge_all-all.ensures)
    (subst (λ args. IsCalled c.in-Some.id args c.judge_all-all.result c.args.stand c.args.mark c.judge_called.result) c.as_slice-2.ensures c.judge_called.ensures)

pub judge_chain-returns : goal.judge_chain-returns
judge_chain-returns t c =
    chain_tells c.args.scheme.now c.args.replies c.args.chain c.args.members.now c.args.stand c.args.mark c.in_ok-sorts.field-0 c.chain_sort-sort.result c.in_ok-chain_node.field-0 c.around.result
    (same_all c.args.scheme.now c.args.replies _ _ _ stand.Part _ _ (Ok c.in_ok-sorts.field-0) c.as_slice.ensures refl c.in_ok-inner.ensures c.in_ok-sorts.ensures)
    (c.chain_sort-sort.ensures ∙ ap chain_sort c.as_slice-2.ensures.value) c.in_ok-chain_node.ensures c.around.ensures

pub judge_each-returns : goal.judge_each-returns
judge_each-returns t c =
    each_tells c.args.scheme.now c.args.replies c.args.of.now c.args.stand c.args.mark c.in_ok-sort.field-0 c.unpacked_sort.result c.in_ok-each_node.field-0 c.around.result
    (c.is_misplaced.ensures ∙ ap (λ so. where_so so cause.Misplaced) c.if-is_misplaced.false)
    (same_one c.args.scheme.now c.args.replies _ _ _ stand.Part _ _ (Ok c.in_ok-sort.field-0) c.get.ensures refl c.in_ok-inner.ensures c.in_ok-sort.ensures)
    c.unpacked_sort.ensures c.in_ok-each_node.ensures c.around.ensures

pub judge_test-returns : goal.judge_test-returns
judge_test-returns t c =
    test_tells c.args.scheme.now c.args.test.now (judge_of c.args.scheme.now c.args.replies c.args.of.now) c.args.of.now c.args.stand c.args.mark c.judge-of.result c.judge_tested.result
    (c.has_unknown_list.ensures ∙ ap (λ so. where_so so cause.UnknownList) c.if-has_unknown_list.false)
    (same_one c.args.scheme.now c.args.replies _ _ _ _ _ _ c.judge-of.result c.get.ensures c.test_stand.ensures c.in_ok-inner.ensures c.judge-of.ensures)
    c.judge_tested.ensures

pub judge_all-returns-in-Err : goal.judge_all-returns-in-Err
judge_all-returns-in-Err t c =
    fault_here c.args.scheme.now c.args.replies c.args.exprs.now c.args.first c.args.mark c.loop-expr.expr-index c.loop-expr.all c.expr-item.result
    c.loop-expr-test.true c.expr-item.is c.loop-expr.invariant c.in-Err.fault c.before-in-Err.result c.in-Err.ensures c.before-in-Err.ensures

pub judge_all-loop-expr-preserved : goal.judge_all-loop-expr-preserved
judge_all-loop-expr-preserved t c =
    one_more c.args.scheme.now c.args.replies c.args.exprs.now c.args.first c.args.mark c.loop-expr.expr-index c.loop-expr.all c.expr-item.result
    c.loop-expr-test.true c.expr-item.is c.loop-expr.invariant c.in-Ok.judged c.add.new.self c.in-Ok.ensures c.in_ok-add-in-Ok.ensures
