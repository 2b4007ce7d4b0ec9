-- Each turn adds the next group.
use Rattle.std.proofs.Common.{◌≡◌, ◌+◌, ◌-◌, [], ◌∷◌, ◌++◌, map, sym, ap, ap₂, ◌∙◌, arith, List, ℕ}
use Rattle.std.specs.List.{range_with_len}
use Rattle.std.proofs.lemmas.List.FromFn.{map-range_with_len_more}
use Rattle.regex.specs.Bytes.{captures_haystack, captures_span}
use Rattle.text_match.specs.Patterns.{text_at}
use Rattle.text_match.proofs.pattern.group_texts.Goals as goal

pub loop-group-preserved : goal.loop-group-preserved
loop-group-preserved c =
    let f : ℕ → List ℕ = λ n. text_at (captures_haystack c.args.captures.now) (captures_span c.args.captures.now n) in
    let n = c.loop-group.group in
    let next : (n - 1) + 1 ≡ (n + 1) - 1 = omega arith in
    c.in_ok-push.ensures.ok
    ∙ ap₂ (λ texts text. texts ++ text ∷ []) c.loop-group.invariant (c.in_ok-of.ensures ∙ c.group_text.ensures)
    ∙ sym (map-range_with_len_more f 1 (n - 1) n (omega arith))
    ∙ ap (λ count. map f (range_with_len 1 count)) next

pub returns : goal.returns
returns c =
    let f : ℕ → List ℕ = λ n. text_at (captures_haystack c.args.captures.now) (captures_span c.args.captures.now n) in
    let all : c.loop-group.group - 1 ≡ 8 = omega arith in
    c.loop-group.invariant ∙ ap (λ count. map f (range_with_len 1 count)) all
