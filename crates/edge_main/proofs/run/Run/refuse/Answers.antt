use Rattle.std.proofs.Common.{◌+◌, ◌++◌, refl, ap, ◌∙◌}
use Rattle.trace_form.specs.Line.{bad_line}
use Rattle.edge_main.proofs.run.Run.refuse.Goals as goal

pub returns-clause-came : goal.returns-clause-came
returns-clause-came c s at =
    let run = c.args.self.now in (
      c.in_ok-push_bad_line.ensures.ok ∙ ap (λ xs. xs ++ bad_line (run.lines + 1) c.args.why) c.clear.ensures
          ∙ ap (λ n. bad_line (n + 1) c.args.why) at.lines,
      record {
        lines = ap (λ n. n + 1) at.lines;
        requests = at.requests;
        version = at.version;
        config = at.config;
        any_bad = refl;
        counter = at.counter;
      },
    )
