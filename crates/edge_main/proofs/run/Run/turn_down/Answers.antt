use Rattle.std.proofs.Common.{◌+◌, ◌++◌, refl, ap, ap₂, ◌∙◌}
use Rattle.config_read.specs.Causes.{cause_name}
use Rattle.edge_main.specs.Answered.{refused_deploy_line}
use Rattle.edge_main.proofs.run.Run.turn_down.Goals as goal

pub returns-clause-came : goal.returns-clause-came
returns-clause-came c s at =
    let run = c.args.self.now in (
      c.in_ok-push_refused_deploy.ensures
          ∙ ap₂ (λ xs place. xs ++ refused_deploy_line place (cause_name c.args.cause)) c.clear.ensures c.bytes.ensures,
      record {
        lines = ap (λ n. n + 1) at.lines;
        requests = at.requests;
        version = at.version;
        config = at.config;
        any_bad = at.any_bad;
        counter = at.counter;
      },
    )
