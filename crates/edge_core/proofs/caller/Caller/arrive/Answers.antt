use Rattle.std.proofs.Common.{sym, subst}
use Rattle.edge_core.specs.Stands.{MovesBy}
use Rattle.edge_core.specs.Steps.{arriving}
use Rattle.edge_core.specs.declared.caller.Caller.{Caller}
use Rattle.edge_core.specs.declared.caller.Caller.TheVariants as caller
use Rattle.edge_core.specs.declared.event.Shown.TheVariants as shown
use Rattle.edge_core.proofs.MoveLemmas.{arrives_idle, arrives_judged, arriving_unfit}
use Rattle.edge_core.proofs.caller.Caller.arrive.Goals as goal

pub returns-in-Idle : goal.returns-in-Idle
returns-in-Idle c = λ meaning.
    subst (λ (one : Caller). MovesBy meaning (arriving c.args.request) one (caller.Came c.args.request, shown.Nothing)) (sym c.in-Idle.is)
    (arrives_idle meaning c.args.request)

pub returns-in-Judged : goal.returns-in-Judged
returns-in-Judged c = λ meaning.
    subst (λ (one : Caller). MovesBy meaning (arriving c.args.request) one (caller.Came c.args.request, shown.Nothing)) (sym c.in-Judged.is)
    (arrives_judged meaning c.args.request c.in-Judged.field-0)

pub returns-in_default : goal.returns-in_default
returns-in_default c = λ meaning. arriving_unfit meaning c.args.request c.args.self c.in_default.not-Idle c.in_default.not-Judged
