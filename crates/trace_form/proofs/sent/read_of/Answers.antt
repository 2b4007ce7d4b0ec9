use Rattle.std.proofs.Common.{◌≡◌, sym, subst}
use Rattle.trace_form.specs.Item.{SaysWhy}
use Rattle.trace_form.specs.Sent.{IsUnread}
use Rattle.trace_form.specs.declared.refusal.BadCause.TheVariants as cause
use Rattle.trace_form.proofs.SentLemmas.{refusal-says}
use Rattle.trace_form.proofs.sent.read_of.Goals as goal

pub returns-in-Err-clause-bad : goal.returns-in-Err-clause-bad
returns-in-Err-clause-bad c =
    let bytes = c.args.bytes.now in
    subst (SaysWhy (λ why. (why ≡ cause.BadHead) × IsUnread bytes c.args.from c.args.ssl c.args.at)) (sym c.head_fault.ensures)
    (refusal-says bytes c.args.from c.args.ssl c.args.at c.in-Err.refused c.in-Err.ensures.reads)
