use Rattle.std.proofs.Common.{sym, subst}
use Rattle.expr_lexer.specs.Fronts.{IsLongestAmong, is_scanned, is_address, is_block}
use Rattle.expr_lexer.proofs.LongestLemmas.{longer_is, longest_of_all, either}
use Rattle.expr_lexer.proofs.fronts.longest_token.Goals as goal

pub returns : goal.returns
returns c =
    let two : IsLongestAmong (either is_scanned is_address) c.args.text.now c.longer.result
    = subst (IsLongestAmong (either is_scanned is_address) c.args.text.now) (sym c.longer.ensures)
    (longer_is is_scanned is_address c.args.text.now c.longest_scanned.result c.longest_address.result c.longest_scanned.ensures c.longest_address.ensures) in
    longest_of_all c.args.text.now c.longer-2.result (subst (IsLongestAmong (either (either is_scanned is_address) is_block) c.args.text.now) (sym c.longer-2.ensures)
    (longer_is (either is_scanned is_address) is_block c.args.text.now c.longer.result c.longest_block.result two c.longest_block.ensures))
