-- The first place of the piece is where the text is first split at it.
use Rattle.std.proofs.Common.{◌≡◌, ◌+◌, ◌-◌, false, take, drop, length, subst, sym, ◌∙◌, List, ℕ}
use Rattle.text_match.specs.Splits.{IsNowhere, IsFirstSplit}
use Rattle.text_match.proofs.SplitLemmas.{take_rest}
use Rattle.text_match.proofs.NeedleLemmas.{first_split, no_split}
use Rattle.text_match.proofs.needle.Needle.folded_split.Goals as goal

pub returns-in-Some : goal.returns-in-Some
returns-in-Some c =
    let text = c.args.text.now in let piece : List ℕ = c.bytes-piece.result.now in let at : ℕ = c.in-Some.at in
    let after : List ℕ = take (length text - (at + length piece)) (drop (at + length piece) text) in
    subst (λ now. IsFirstSplit false now text (take at text) after) (c.bytes-piece.ensures ∙ c.self.view_is) (
    subst (λ after. IsFirstSplit false piece text (take at text) after) (sym (take_rest (at + length piece) text)) (first_split piece text at c.in-Some.ensures))

pub returns-in-None : goal.returns-in-None
returns-in-None c =
    subst (λ now. IsNowhere false now c.args.text.now) (c.bytes-piece.ensures ∙ c.self.view_is) (no_split c.bytes-piece.result.now c.args.text.now c.in-None.ensures)
