use Rattle.expr_parser.proofs.NeededPairs.{pair_is_needed}
use Rattle.expr_parser.proofs.printer.pairs_are_needed.Goals as goal

pub returns : goal.returns
returns c = pair_is_needed c.address_is_unique.ensures c.cuts_are_unique.ensures
