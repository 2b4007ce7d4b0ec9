use Rattle.std.proofs.Common.{Err, subst}
use Rattle.serde_json.specs.View.{view}
use Rattle.config_read.specs.declared.fault.ConfigFault.{ConfigFault}
use Rattle.config_read.specs.Reads.{Reads}
use Rattle.edge_main.specs.Running as deployed
use Rattle.edge_main.proofs.RunLemmas.{OnOk-said}
use Rattle.edge_main.proofs.run.Run.deploy.Goals as goal

pub returns-in-Ok-clause-answered : goal.returns-in-Ok-clause-answered
returns-in-Ok-clause-answered c =
    OnOk-said c.put_in_force.result _ _
    (λ came s at. deployed.taken c.in-Ok.config (record { built = c.in-Ok.ensures.built; reads = c.in-Ok.ensures.reads }) (came s at))
    c.put_in_force.ensures.came

pub returns-in-Err-Refused-clause-answered : goal.returns-in-Err-Refused-clause-answered
returns-in-Err-Refused-clause-answered c =
    let cause = c.in-Err-Refused.cause in
    let refused = subst (λ (f : ConfigFault). Reads (view c.args.value.now) (Err f)) c.in-Err-Refused.field-0-is c.in-Err-Refused.ensures.reads in
    OnOk-said c.turn_down.result _ _
    (λ came s at. deployed.no_deployment c.in-Err-Refused.place cause refused (rw c.in-Err-Refused.field-0-is at (came s at)))
    c.turn_down.ensures.came
