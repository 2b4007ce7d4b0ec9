use Rattle.std.proofs.Common.{refl, subst}
use Rattle.serde_json.specs.View.{view}
use Rattle.trace_form.specs.Item.{IsItem}
use Rattle.edge_main.specs.Answered.{passed_by}
use Rattle.edge_main.specs.Output as answered
use Rattle.edge_main.proofs.RunLemmas.{deployment-taken, refusal-taken, request-taken, spent-on}
use Rattle.edge_main.proofs.TalkedLemmas.{same_fault}
use Rattle.edge_main.proofs.run.Run.take.Goals as goal

pub returns-in-Ok-Blank-clause-took : goal.returns-in-Ok-Blank-clause-took
returns-in-Ok-Blank-clause-took c s at =
    let blank = subst (IsItem c.args.given.now) c.in-Ok-Blank.field-0-is c.in-Ok-Blank.ensures.ok in
    (passed_by s, answered.blank blank refl, refl, c.pass_by.ensures.came s at)

pub returns-in_ok-deploy-in-Ok-Deploy-clause-took : goal.returns-in_ok-deploy-in-Ok-Deploy-clause-took
returns-in_ok-deploy-in-Ok-Deploy-clause-took c s at =
    let deploy = subst (IsItem c.args.given.now) c.in-Ok-Deploy.field-0-is c.in-Ok-Deploy.ensures.ok in
    deployment-taken s c.args.given.now (view c.in-Ok-Deploy.value) _ _ deploy (c.in_ok-deploy-in-Ok-Deploy.ensures.answered s at)

pub returns-in_ok-judge-in-Ok-Ask-clause-took : goal.returns-in_ok-judge-in-Ok-Ask-clause-took
returns-in_ok-judge-in-Ok-Ask-clause-took c s at =
    let ask = subst (IsItem c.args.given.now) c.in-Ok-Ask.field-0-is c.in-Ok-Ask.ensures.ok in
    request-taken s c.args.given.now c.in-Ok-Ask.recorded _ c.args.answer.now _ ask (c.in_ok-judge-in-Ok-Ask.ensures.judged s at)

pub returns-in_err-judge-in-Ok-Ask-clause-spent : goal.returns-in_err-judge-in-Ok-Ask-clause-spent
returns-in_err-judge-in-Ok-Ask-clause-spent c is s at =
    let ask = subst (IsItem c.args.given.now) c.in-Ok-Ask.field-0-is c.in-Ok-Ask.ensures.ok in
    spent-on s c.args.given.now c.in-Ok-Ask.recorded ask
    (c.in_err-judge-in-Ok-Ask.ensures.spent (same_fault c.from_residual-in_err-judge-in-Ok-Ask.result _ c.from_residual-in_err-judge-in-Ok-Ask.ensures.1 is) s at)

pub returns-in_ok-refuse_for-in-Err-clause-took : goal.returns-in_ok-refuse_for-in-Err-clause-took
returns-in_ok-refuse_for-in-Err-clause-took c s at =
    refusal-taken s c.args.given.now c.in-Err.fault _ _ c.in-Err.ensures.bad (c.in_ok-refuse_for-in-Err.ensures.refused s at)
