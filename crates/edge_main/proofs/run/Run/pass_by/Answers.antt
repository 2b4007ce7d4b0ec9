use Rattle.std.proofs.Common.{◌+◌, ap}
use Rattle.edge_main.proofs.run.Run.pass_by.Goals as goal

pub returns-clause-came : goal.returns-clause-came
returns-clause-came c s at = (
  c.clear.ensures,
  record {
    lines = ap (λ n. n + 1) at.lines;
    requests = at.requests;
    version = at.version;
    config = at.config;
    any_bad = at.any_bad;
    counter = at.counter;
  },
)
