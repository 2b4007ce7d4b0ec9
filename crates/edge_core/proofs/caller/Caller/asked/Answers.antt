use Rattle.std.proofs.Common.{sym, ap, ◌∙◌}
use Rattle.edge_core.specs.Stands.{asked_now}
use Rattle.edge_core.proofs.caller.Caller.asked.Goals as goal

pub returns-in-Judging : goal.returns-in-Judging
returns-in-Judging c = c.asked_by_turn.ensures ∙ sym (ap asked_now c.in-Judging.is)

pub returns-in-Backing : goal.returns-in-Backing
returns-in-Backing c = c.asked_by_back.ensures ∙ sym (ap asked_now c.in-Backing.is)
