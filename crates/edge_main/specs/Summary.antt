-- The summary of a run: how many of its requests were judged how, how many of its steps found no room, how many it took,
-- and which rules ended how many judgings.
use Rattle.std.specs.Prelude.{◌≡◌, ℕ, ◌+◌, Bool, true, false, List, [], ◌∷◌, ◌++◌, length, codes, decimal, Option, None, Some}
use Rattle.std.specs.Cmp.Lexicographic.{slice_cmp}
use Rattle.std.specs.List.{count_by, sum_by}
use Rattle.std.specs.Ordering.{nat_cmp}
use Rattle.std.specs.declared.cmp.Ordering.{Ordering}
use Rattle.std.specs.declared.cmp.Ordering.TheVariants as order
use Rattle.edge_base.specs.Bytes.{newline}
use Rattle.edge_base.specs.declared.rule_name.RuleName.{RuleName}
use Rattle.rate_plain.specs.declared.entry.Answer.{Answer}
use Rattle.rate_plain.specs.declared.entry.Answer.TheVariants as answer
use Rattle.rate_plain.specs.declared.entry.Counted.{Counted}
use Rattle.ruleset_model.specs.declared.verdict.VerdictKind.{VerdictKind}
use Rattle.ruleset_model.specs.declared.verdict.VerdictKind.TheVariants as kind
use Rattle.trace_form.specs.Line.{rule_text}
use Rattle.trace_form.specs.declared.output.LineParts.{LineParts}
use Rattle.edge_main.specs.Answered.{LineKind, Answered}
use Rattle.edge_main.specs.Answered as line
use Rattle.edge_main.specs.declared.summary.Kinds.{Kinds}
use Rattle.edge_main.specs.declared.summary.NameCount.{NameCount}

-- ---- what is counted

-- the requests of a run, in order, as their lines tell of them
abbrev pub requests_in : LineKind → List LineParts
requests_in (line.request parts) = parts ∷ []
requests_in other = []

abbrev pub requests_of : List Answered → List LineParts
requests_of [] = []
requests_of (answered ∷ run) = requests_in answered.kind ++ requests_of run

-- requests by verdict
abbrev pub is_passed : VerdictKind → Bool
is_passed kind.Pass = true
is_passed other = false

abbrev pub is_blocked : VerdictKind → Bool
is_blocked (kind.Block response) = true
is_blocked other = false

abbrev pub is_challenged : VerdictKind → Bool
is_challenged kind.Challenge = true
is_challenged other = false

abbrev pub is_redirected : VerdictKind → Bool
is_redirected (kind.Redirect status target) = true
is_redirected other = false

-- how many of the requests were judged so
abbrev pub judged_so : (VerdictKind → Bool) → List LineParts → ℕ
judged_so is_so requests = count_by (λ (parts : LineParts). is_so parts.verdict.kind) requests

-- a step that found no room
abbrev pub is_full_answer : Answer → Bool
is_full_answer answer.Full = true
is_full_answer other = false

abbrev pub is_full : Counted → Bool
is_full step = is_full_answer step.answer

-- how many of a request's steps found no room
abbrev pub full_in : LineParts → ℕ
full_in parts = count_by is_full parts.counts

-- ---- the rules that ended a judging, in byte order of their names, each with how many it ended

-- one more of a name that comes so behind the first, or before it
abbrev pub one_more_by : Ordering → List ℕ → NameCount → List NameCount → List NameCount → List NameCount
one_more_by order.Less name first others rest = first ∷ rest
one_more_by order.Equal name first others rest = record first { count = first.count + 1 } ∷ others
one_more_by order.Greater name first others rest = record { name = name; count = 1 } ∷ first ∷ others

-- one more of this name
abbrev pub one_more : List ℕ → List NameCount → List NameCount
one_more name [] = record { name = name; count = 1 } ∷ []
one_more name (first ∷ others) = one_more_by (slice_cmp nat_cmp first.name name) name first others (one_more name others)

-- one more judging, which this rule ended, or none
abbrev pub with_ending : Option RuleName → List NameCount → List NameCount
with_ending None counts = counts
with_ending (Some rule) counts = one_more (rule_text rule) counts

-- after these requests, from what was counted before
abbrev pub endings_after : List NameCount → List LineParts → List NameCount
endings_after counts [] = counts
endings_after counts (parts ∷ requests) = endings_after (with_ending parts.verdict.rule counts) requests

-- ---- what is written

-- a line of a word and a number
abbrev pub count_line : List ℕ → ℕ → List ℕ
count_line word count = word ++ codes " " ++ decimal count ++ newline ∷ []

-- a line for each rule
abbrev pub rule_lines : List NameCount → List ℕ
rule_lines [] = []
rule_lines (first ∷ counts) = count_line (codes "rule " ++ first.name) first.count ++ rule_lines counts

-- seven lines with these numbers, and one for each rule that ended a judging
unfoldable pub text_by : (requests pass block challenge redirect full steps : ℕ) → List NameCount → List ℕ
text_by requests pass block challenge redirect full steps endings =
    count_line (codes "requests") requests
    ++ count_line (codes "pass") pass
    ++ count_line (codes "block") block
    ++ count_line (codes "challenge") challenge
    ++ count_line (codes "redirect") redirect
    ++ count_line (codes "full") full
    ++ count_line (codes "steps") steps
    ++ rule_lines endings

-- the summary of these requests, and of so many steps
abbrev pub summary_text : List LineParts → ℕ → List ℕ
summary_text requests steps =
    text_by (length requests) (judged_so is_passed requests) (judged_so is_blocked requests) (judged_so is_challenged requests)
    (judged_so is_redirected requests) (sum_by full_in requests) steps (endings_after [] requests)

-- ---- summing up; no public clause cites these words
-- how many judgings these rules ended
abbrev pub ended_in_all : List NameCount → ℕ
ended_in_all counts = sum_by (λ (one : NameCount). one.count) counts

-- requests of every verdict
abbrev pub all_of : Kinds → ℕ
all_of kinds = kinds.pass + (kinds.block + (kinds.challenge + kinds.redirect))
