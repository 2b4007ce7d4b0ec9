use Rattle.std.proofs.Common.{sym}
use Rattle.trace_form.proofs.ItemLemmas.{none-of_is_some}
use Rattle.trace_form.proofs.reader.item_of.Goals as goal

pub asked_of-requires : goal.asked_of-requires
asked_of-requires c = none-of_is_some _ (sym c.if-has_member.ensures)
