-- The front, the filled replacement and the end are put one after the other.
use Rattle.std.proofs.Common.{◌≡◌, ℕ, ◌++◌, List, take, drop, map, ap, ap₂, ◌∙◌, append_assoc}
use Rattle.std.specs.List.{range_with_len}
use Rattle.regex.specs.Bytes.{captures_haystack, captures_span}
use Rattle.text_match.specs.Patterns.{text_at}
use Rattle.text_match.specs.Replacement.{filled}
use Rattle.text_match.proofs.SplitLemmas.{take_rest}
use Rattle.text_match.proofs.PatternLemmas.{replace_is}
use Rattle.text_match.proofs.pattern.replace.Goals as goal

pub returns : goal.returns
returns c =
    let text : List ℕ = c.args.text.now in let replacement : List ℕ = c.args.replacement.now in let captures = c.args.captures.now in
    let start : ℕ = c.get_match-found.result.start in let end : ℕ = c.get_match-found.result.end in
    let groups : List (List ℕ) = c.as_slice.result.now in
    let groups_are : groups ≡ map (λ n. text_at (captures_haystack captures) (captures_span captures n)) (range_with_len 1 8) = c.as_slice.ensures ∙ c.in_ok-groups.ensures in
    let middle : c.bytes.result.now ≡ filled groups replacement = c.bytes.ensures ∙ c.in_ok-filled.ensures in
    let front : c.push.new.self ≡ take start text = c.in_ok-push.ensures.ok ∙ ap₂ (λ (w : List ℕ) (n : ℕ). w ++ take n text) c.new-whole.ensures c.start.ensures in
    let both : c.push-2.new.self ≡ take start text ++ filled groups replacement = c.in_ok-push-2.ensures.ok ∙ ap₂ (λ (w f : List ℕ). w ++ f) front middle in
    let whole : c.push-3.new.self ≡ (take start text ++ filled groups replacement) ++ drop end text =
    c.in_ok-push-3.ensures.ok ∙ ap₂ (λ (w f : List ℕ). w ++ f) both (take_rest c.end.result text ∙ ap (λ n. drop n text) c.end.ensures) in
    λ m are.
    c.into_text.ensures ∙ whole ∙ append_assoc (take start text) (filled groups replacement) (drop end text)
    ∙ replace_is text replacement captures m (start, end) groups are c.get_match-found.ensures.found groups_are
