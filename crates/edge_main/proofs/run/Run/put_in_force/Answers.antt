use Rattle.std.proofs.Common.{◌+◌, ◌++◌, refl, ap, ◌∙◌}
use Rattle.trace_form.specs.Line.{deploy_line}
use Rattle.edge_main.proofs.run.Run.put_in_force.Goals as goal

pub returns-clause-came : goal.returns-clause-came
returns-clause-came c s at =
    let run = c.args.self.now in (
      c.in_ok-push_deploy_line.ensures.ok ∙ ap (λ xs. xs ++ deploy_line (run.version + 1)) c.clear.ensures
          ∙ ap (λ n. deploy_line (n + 1)) at.version,
      record {
        lines = ap (λ n. n + 1) at.lines;
        requests = at.requests;
        version = ap (λ n. n + 1) at.version;
        config = c.in_ok-self.ensures.ok;
        any_bad = at.any_bad;
        counter = at.counter;
      },
    )
