use Rattle.std.proofs.Common.{◌≡◌, ◌≤◌, ◌+◌, ◌++◌, arith, refl, sym, ap, ap₂, subst, ◌∙◌}
use Rattle.serde_json.specs.View.{view}
use Rattle.config_read.specs.Causes.{cause_name}
use Rattle.trace_form.specs.Line.{deploy_line}
use Rattle.gate_run.specs.Deployments.{IsRefusedFor}
use Rattle.gate_run.specs.Passes.{page_of}
use Rattle.gate_run.specs.declared.desk.DeployFault.{DeployFault}
use Rattle.edge_main.specs.Answered.{refused_deploy_line}
use Rattle.edge_main.specs.Crewed as deployed
use Rattle.edge_main.proofs.CrewPlaceLemmas.{next-number, force-put, force-stays}
use Rattle.edge_main.proofs.crew.Crew.deploy.Goals as goal

pub invariant_of-self-in-Ok : goal.invariant_of-self-in-Ok
invariant_of-self-in-Ok g c =
    let now = c.args.self.now in
    let (history, s, latest, at) = c.requires.somewhere in
    let next = next-number now.desk c.deploy.new.desk s (view c.args.value.now) c.in-Ok.number c.in-Ok.ensures.deployed at.in_force in
    record {
      few_requests = omega (arith, now.few_requests);
      few_versions = omega (arith, now.few_versions, next, at.version);
    }

pub returns-in_ok-push_deploy_line-in-Ok-clause-deploys : goal.returns-in_ok-push_deploy_line-in-Ok-clause-deploys
returns-in_ok-push_deploy_line-in-Ok-clause-deploys g c history s latest at =
    let now = c.args.self.now in
    let value = view c.args.value.now in
    let put = c.in-Ok.ensures.deployed in
    let next = next-number now.desk c.deploy.new.desk s value c.in-Ok.number put at.in_force in
    deployed.taken put.config put.stands
    (record {
      text_is = c.in_ok-push_deploy_line-in-Ok.ensures.ok ∙ ap₂ (λ xs n. xs ++ deploy_line n) c.clear.ensures next;
      now = record {
        size = at.size;
        workers = at.workers;
        dealt = at.dealt;
        count = at.count;
        few = at.few;
        in_force = force-put now.desk c.deploy.new.desk s value c.in-Ok.number put at.in_force;
        lines = ap (λ n. n + 1) at.lines;
        requests = at.requests;
        version = next;
        any_bad = at.any_bad;
      };
    })

pub returns-in_ok-push_refused_deploy-in-Err-Refused-clause-deploys : goal.returns-in_ok-push_refused_deploy-in-Err-Refused-clause-deploys
returns-in_ok-push_refused_deploy-in-Err-Refused-clause-deploys g c history s latest at =
    let now = c.args.self.now in
    let cause = c.in-Err-Refused.cause in
    let refused =
    subst (λ (fault : DeployFault). IsRefusedFor (view c.args.value.now) (page_of now.desk) fault) c.in-Err-Refused.field-0-is
    c.in-Err-Refused.ensures.refused in
    deployed.no_deployment c.in-Err-Refused.place cause refused
    (record {
      text_is =
          c.in_ok-push_refused_deploy-in-Err-Refused.ensures
          ∙ ap₂ (λ xs place. xs ++ refused_deploy_line place (cause_name cause)) c.clear.ensures c.bytes.ensures;
      now = record {
        size = at.size;
        workers = at.workers;
        dealt = at.dealt;
        count = at.count;
        few = at.few;
        in_force = force-stays now.desk c.deploy.new.desk s c.in-Err-Refused.ensures.err at.in_force;
        lines = ap (λ n. n + 1) at.lines;
        requests = at.requests;
        version = at.version;
        any_bad = at.any_bad;
      };
    })
