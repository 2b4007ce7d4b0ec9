-- The match of the matcher is the first match of the pattern's text.
use Rattle.std.proofs.Common.{◌≡◌, IfOk, sym, ap, subst, ◌∙◌}
use Rattle.regex.specs.Patterns.{find}
use Rattle.regex.specs.Bytes.{regex_pattern, matcher_pattern}
use Rattle.text_match.specs.Patterns.{first_match, replaced}
use Rattle.text_match.proofs.PatternLemmas.{replaced_same, replaced_with, kept_same}
use Rattle.text_match.proofs.pattern.Pattern.replace_first.Goals as goal

pub returns-in-Some : goal.returns-in-Some
returns-in-Some c =
    let text = c.args.text.now in let replacement = c.args.replacement.now in let built = c.self.inside.built in
    let same : matcher_pattern c.in_ok-matcher.matcher ≡ regex_pattern built = c.in_ok-matcher.ensures.pattern ∙ ap regex_pattern c.get.ensures in
    let found = c.in-Some.ensures.found in
    let out = replaced_same built c.self.invariant text (λ k. (c.type_inv.text k).fits) replacement found.0 (ap (λ re. find re text 0) (sym same) ∙ found.1)
    ∙ ap (λ pattern. replaced text replacement (first_match pattern text)) c.self.view_is in
    subst (λ whole. IfOk c.replace.result (λ given. given ≡ whole)) out (replaced_with text replacement c.in-Some.captures found.0 found.2 c.replace.result c.replace.ensures)

pub returns : goal.returns
returns c =
    let text = c.args.text.now in let replacement = c.args.replacement.now in let built = c.self.inside.built in
    let same : matcher_pattern c.in_ok-matcher.matcher ≡ regex_pattern built = c.in_ok-matcher.ensures.pattern ∙ ap regex_pattern c.get.ensures in
    let out = kept_same built c.self.invariant text (λ k. (c.type_inv.text k).fits) replacement (ap (λ re. find re text 0) (sym same) ∙ c.in-None.ensures.found)
    ∙ ap (λ pattern. replaced text replacement (first_match pattern text)) c.self.view_is in
    subst (λ whole. IfOk c.of.result (λ given. given ≡ whole)) out c.of.ensures
