-- the groups so far
use Rattle.std.proofs.Common.{◌≡◌, ◌-◌, map}
use Rattle.std.specs.List.{range_with_len}
use Rattle.regex.specs.Bytes.{captures_haystack, captures_span}
use Rattle.text_match.specs.Patterns.{text_at}
use Rattle.text_match.proofs.pattern.group_texts.Given as goal

abbrev pub invariant-loop-group : goal.invariant-loop-group
invariant-loop-group l =
    l.texts ≡ map (λ n. text_at (captures_haystack l.captures) (captures_span l.captures n)) (range_with_len 1 (l.group - 1))
