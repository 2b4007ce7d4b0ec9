use Rattle.std.proofs.Common.{sym}
use Rattle.serde_json.specs.View.{view}
use Rattle.trace_form.proofs.PairLemmas.{no_pair}
use Rattle.trace_form.proofs.headers.pair_of.Goals as goal

pub returns-in_err-first : goal.returns-in_err-first
returns-in_err-first c =
    rw c.from_residual-in_err-first.ensures (sym (no_pair (view c.args.value) c.in_ok-items_of.field-0.items c.in_ok-items_of.ensures c.in_err-first.ensures))
