-- The first occurrence is the first split.
use Rattle.std.proofs.Common.{◌+◌, length, subst, sym}
use Rattle.std.proofs.Common.{take, true}
use Rattle.text_match.specs.Splits.{IsFirstSplit}
use Rattle.text_match.proofs.SplitLemmas.{exact_none, exact_first, take_rest}
use Rattle.text_match.proofs.splitting.exact_split.Goals as goal

pub returns-in-Some : goal.returns-in-Some
returns-in-Some c =
    let text = c.args.text.now in let piece = c.args.piece.now in let at = c.in-Some.at in
    subst (λ after. IsFirstSplit true piece text (take at text) after) (sym (take_rest (at + length piece) text)) (exact_first piece text at c.in-Some.ensures)

pub returns-in-None : goal.returns-in-None
returns-in-None c = exact_none c.args.piece.now c.args.text.now c.in-None.ensures
