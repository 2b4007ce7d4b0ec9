use Rattle.std.proofs.Common.{◌≡◌, ◌++◌, ◌∷◌, [], IfOk, refl, rules}
use Rattle.std.proofs.lemmas.Result.{IfOk-weaker}
use Rattle.filter_compile.specs.declared.program.Step.TheVariants as step
use Rattle.filter_compile.proofs.CodeLemmas.{code-lit, code-field, code-call, code-at, code-key, code-each, code-test, code-not, code-and, code-xor, code-or, code-none, code-more, chain-none, chain-more, xor-none, xor-more}
use Rattle.filter_compile.proofs.PartLemmas.{begun, goes_on, ended, falls, no_deeper}
use Rattle.filter_compile.proofs.compiler.+compiling.Goals as goal

pub steps_of-returns-in-Lit : goal.steps_of-returns-in-Lit
steps_of-returns-in-Lit t c =
    IfOk-weaker c.one.result _ _ (λ all made. code-lit c.args.node all c.in-Lit.lit c.in-Lit.is made) c.one.ensures

pub steps_of-returns-in-Field : goal.steps_of-returns-in-Field
steps_of-returns-in-Field t c =
    IfOk-weaker c.one-in-Field.result _ _ (λ all made. code-field c.args.node all c.in-Field.id c.in-Field.is made) c.one-in-Field.ensures

pub steps_of-returns-in_ok-steps_of_all-in-Call : goal.steps_of-returns-in_ok-steps_of_all-in-Call
steps_of-returns-in_ok-steps_of_all-in-Call t c =
    IfOk-weaker c.and_then.result _ _
    (λ all made. code-call c.args.node c.in-Call.id c.in-Call.args c.len-count.result c.in_ok-steps_of_all-in-Call.field-0 all c.in-Call.is c.len-count.ensures c.in_ok-steps_of_all-in-Call.ensures made)
    c.and_then.ensures

pub steps_of-returns-in_ok-steps_of-in-At : goal.steps_of-returns-in_ok-steps_of-in-At
steps_of-returns-in_ok-steps_of-in-At t c =
    let made : IfOk c.and_then-in-At.result (λ all. all ≡ c.in_ok-steps_of-in-At.field-0 ++ step.At c.in-At.place ∷ []) = search rules in
    IfOk-weaker c.and_then-in-At.result _ _
    (λ all made. code-at c.args.node c.in-At.of c.into_inner.result c.in_ok-steps_of-in-At.field-0 all c.into_inner.ensures c.in_ok-steps_of-in-At.ensures c.in-At.place c.in-At.is made)
    made

pub steps_of-returns-in_ok-steps_of-in-Key : goal.steps_of-returns-in_ok-steps_of-in-Key
steps_of-returns-in_ok-steps_of-in-Key t c =
    IfOk-weaker c.and_then-in-Key.result _ _
    (λ all made. code-key c.args.node c.in-Key.of c.into_inner-in-Key.result c.in_ok-steps_of-in-Key.field-0 all c.into_inner-in-Key.ensures c.in_ok-steps_of-in-Key.ensures c.in-Key.key c.in-Key.is made)
    c.and_then-in-Key.ensures

pub steps_of-returns-in_ok-steps_of-in-Each : goal.steps_of-returns-in_ok-steps_of-in-Each
steps_of-returns-in_ok-steps_of-in-Each t c =
    IfOk-weaker c.and_then-in-Each.result _ _
    (λ all made. code-each c.args.node c.in-Each.of c.into_inner-in-Each.result c.in_ok-steps_of-in-Each.field-0 all c.into_inner-in-Each.ensures c.in_ok-steps_of-in-Each.ensures c.in-Each.is made)
    c.and_then-in-Each.ensures

pub steps_of-returns-in_ok-steps_of-in-Test : goal.steps_of-returns-in_ok-steps_of-in-Test
steps_of-returns-in_ok-steps_of-in-Test t c =
    IfOk-weaker c.and_then-in-Test.result _ _
    (λ all made. code-test c.args.node c.in-Test.of c.into_inner-in-Test.result c.in_ok-steps_of-in-Test.field-0 all c.into_inner-in-Test.ensures c.in_ok-steps_of-in-Test.ensures c.in-Test.test c.in-Test.is made)
    c.and_then-in-Test.ensures

pub steps_of-returns-in_ok-steps_of-in-Not : goal.steps_of-returns-in_ok-steps_of-in-Not
steps_of-returns-in_ok-steps_of-in-Not t c =
    IfOk-weaker c.and_then-in-Not.result _ _
    (λ all made. code-not c.args.node c.in-Not.of c.into_inner-in-Not.result c.in_ok-steps_of-in-Not.field-0 all c.into_inner-in-Not.ensures c.in_ok-steps_of-in-Not.ensures c.in-Not.is made)
    c.and_then-in-Not.ensures

pub steps_of-returns-in-And : goal.steps_of-returns-in-And
steps_of-returns-in-And t c =
    IfOk-weaker c.steps_of_chain.result _ _ (λ steps code. code-and c.args.node c.in-And.members steps c.in-And.is code) c.steps_of_chain.ensures

pub steps_of-returns-in-Xor : goal.steps_of-returns-in-Xor
steps_of-returns-in-Xor t c =
    IfOk-weaker c.steps_of_xor.result _ _ (λ steps code. code-xor c.args.node c.in-Xor.members steps c.in-Xor.is code) c.steps_of_xor.ensures

pub steps_of-returns-in-Or : goal.steps_of-returns-in-Or
steps_of-returns-in-Or t c =
    IfOk-weaker c.steps_of_chain-in-Or.result _ _ (λ steps code. code-or c.args.node c.in-Or.members steps c.in-Or.is code) c.steps_of_chain-in-Or.ensures

pub steps_of_all-nodes-init : goal.steps_of_all-nodes-init
steps_of_all-nodes-init t c =
    record { depth = search rules; code = begun _ _ (code-none _ c.new-steps.ensures) }

pub steps_of_all-nodes-smaller : goal.steps_of_all-nodes-smaller
steps_of_all-nodes-smaller t c =
    falls _ _ _ c.in-Some.ensures

pub steps_of_all-nodes-preserved : goal.steps_of_all-nodes-preserved
steps_of_all-nodes-preserved t c =
    record {
      depth = no_deeper _ _ _ _ _ c.in-Some.ensures c.nodes.invariant.depth;
      code = goes_on _ _ _ c.in-Some.node _ _ c.nodes.invariant.code c.in-Some.ensures
          (λ others code. code-more c.in-Some.node others c.nodes.steps c.in_ok-steps_of.field-0 c.in_ok-steps.steps code c.in_ok-steps_of.ensures c.in_ok-steps.ensures);
    }

pub steps_of_all-returns : goal.steps_of_all-returns
steps_of_all-returns t c =
    ended _ _ _ c.nodes.invariant.code (search rules)

pub steps_of_chain-members-init : goal.steps_of_chain-members-init
steps_of_chain-members-init t c =
    record { depth = search rules; code = begun _ _ (chain-none c.args.at _ c.in_ok-steps.ensures) }

pub steps_of_chain-members-smaller : goal.steps_of_chain-members-smaller
steps_of_chain-members-smaller t c =
    falls _ _ _ c.in-Some.ensures

pub steps_of_chain-members-preserved : goal.steps_of_chain-members-preserved
steps_of_chain-members-preserved t c =
    record {
      depth = no_deeper _ _ _ _ _ c.in-Some.ensures c.members.invariant.depth;
      code = goes_on _ _ _ c.in-Some.member _ _ c.members.invariant.code c.in-Some.ensures
          (λ others code. chain-more c.args.at c.in-Some.member others c.in_ok-steps_of.field-0 c.members.steps c.in_ok-steps-2.steps c.in_ok-steps_of.ensures code c.in_ok-steps-2.ensures);
    }

pub steps_of_chain-returns : goal.steps_of_chain-returns
steps_of_chain-returns t c =
    ended _ _ _ c.members.invariant.code (search rules)

pub steps_of_xor-members-init : goal.steps_of_xor-members-init
steps_of_xor-members-init t c =
    record { depth = search rules; code = begun _ _ (xor-none _ c.in_ok-steps.ensures) }

pub steps_of_xor-members-smaller : goal.steps_of_xor-members-smaller
steps_of_xor-members-smaller t c =
    falls _ _ _ c.in-Some.ensures

pub steps_of_xor-members-preserved : goal.steps_of_xor-members-preserved
steps_of_xor-members-preserved t c =
    record {
      depth = no_deeper _ _ _ _ _ c.in-Some.ensures c.members.invariant.depth;
      code = goes_on _ _ _ c.in-Some.member _ _ c.members.invariant.code c.in-Some.ensures
          (λ others code. xor-more c.in-Some.member others c.members.steps c.in_ok-steps_of.field-0 _ c.in_ok-steps-2.steps code c.in_ok-steps_of.ensures refl c.in_ok-steps-2.ensures);
    }

pub steps_of_xor-returns : goal.steps_of_xor-returns
steps_of_xor-returns t c =
    ended _ _ _ c.members.invariant.code (search rules)
