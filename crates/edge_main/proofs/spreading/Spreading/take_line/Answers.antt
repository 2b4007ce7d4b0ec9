use Rattle.std.proofs.Common.{subst}
use Rattle.serde_json.specs.View.{view}
use Rattle.trace_form.specs.Item.{IsItem, IsBlank, IsDeploy, IsAsk, IsNoItem, SaysWhy}
use Rattle.edge_outside.specs.Reading.{line_of}
use Rattle.edge_main.proofs.RunLemmas.{OnOk-said}
use Rattle.edge_main.proofs.spreading.Spreading.take_line.Goals as goal

pub returns-in_ok-deal-in-Ok-Ask-clause-takes : goal.returns-in_ok-deal-in-Ok-Ask-clause-takes
returns-in_ok-deal-in-Ok-Ask-clause-takes g c =
    let ask = subst (IsItem c.line.result.now) c.in-Ok-Ask.field-0-is c.in-Ok-Ask.ensures.ok in
    c.in_ok-deal-in-Ok-Ask.ensures.takes (line_of c.args.self.now.reader)
    (subst (λ given. IsAsk given c.in-Ok-Ask.recorded) c.line.ensures ask)

pub returns-in_ok-deal-in-Ok-Ask-clause-goes : goal.returns-in_ok-deal-in-Ok-Ask-clause-goes
returns-in_ok-deal-in-Ok-Ask-clause-goes g c =
    let ask = subst (IsItem c.line.result.now) c.in-Ok-Ask.field-0-is c.in-Ok-Ask.ensures.ok in
    c.in_ok-deal-in-Ok-Ask.ensures.goes c.line.result.now ask

pub returns-in-Ok-Blank-clause-takes : goal.returns-in-Ok-Blank-clause-takes
returns-in-Ok-Blank-clause-takes g c =
    let blank = subst (IsItem c.line.result.now) c.in-Ok-Blank.field-0-is c.in-Ok-Blank.ensures.ok in
    OnOk-said c.pass_by.result _ _ (λ takes. takes (line_of c.args.self.now.reader) (subst IsBlank c.line.ensures blank)) c.pass_by.ensures.takes

pub returns-in-Ok-Deploy-clause-takes : goal.returns-in-Ok-Deploy-clause-takes
returns-in-Ok-Deploy-clause-takes g c =
    let deploy = subst (IsItem c.line.result.now) c.in-Ok-Deploy.field-0-is c.in-Ok-Deploy.ensures.ok in
    OnOk-said c.deploy.result _ _
    (λ takes. takes (line_of c.args.self.now.reader) (subst (λ given. IsDeploy given (view c.in-Ok-Deploy.value)) c.line.ensures deploy))
    c.deploy.ensures.takes

pub returns-in-Err-Bad-clause-takes : goal.returns-in-Err-Bad-clause-takes
returns-in-Err-Bad-clause-takes g c =
    let bad = subst (SaysWhy (IsNoItem c.line.result.now)) c.in-Err-Bad.field-0-is c.in-Err-Bad.ensures.bad in
    OnOk-said c.refuse.result _ _
    (λ takes. takes (line_of c.args.self.now.reader) (subst (λ given. IsNoItem given c.in-Err-Bad.why) c.line.ensures bad))
    c.refuse.ensures.takes
