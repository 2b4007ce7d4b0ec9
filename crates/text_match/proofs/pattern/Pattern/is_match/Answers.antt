-- What the matcher finds is what the reading of the pattern's text finds.
use Rattle.std.proofs.Common.{◌∙◌, ap, is_some}
use Rattle.regex.specs.Patterns.{find}
use Rattle.regex.specs.Bytes.{regex_pattern}
use Rattle.text_match.specs.Patterns.{first_match}
use Rattle.text_match.proofs.PatternLemmas.{match_same}
use Rattle.text_match.proofs.pattern.Pattern.is_match.Goals as goal

pub returns : goal.returns
returns c =
    let text = c.args.text.now in
    c.is_match.ensures.found
    ∙ ap (λ re. is_some (find re text 0)) (c.in_ok-matcher.ensures.pattern ∙ ap regex_pattern c.get.ensures)
    ∙ match_same c.self.inside.built c.self.invariant text (λ k. (c.type_inv.text k).fits)
    ∙ ap (λ pattern. is_some (first_match pattern text)) c.self.view_is
