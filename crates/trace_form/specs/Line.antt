-- The lines that answer a trace.
use Rattle.std.specs.Prelude.{ℕ, Bool, ◌&&◌, cond, List, [], ◌∷◌, ◌++◌, codes, decimal, bytes_eq, Option, Some, None}
use Rattle.std.specs.Cmp.Lexicographic.{pointwise}
use Rattle.edge_base.specs.Printed.{escaped}
use Rattle.edge_base.specs.declared.message.Header.{Header}
use Rattle.edge_base.specs.declared.rule_name.RuleName.{RuleName}
use Rattle.ruleset_model.specs.declared.verdict.VerdictKind.{VerdictKind}
use Rattle.ruleset_model.specs.declared.verdict.VerdictKind.TheVariants as kind
use Rattle.rate_plain.specs.declared.entry.Answer.{Answer}
use Rattle.rate_plain.specs.declared.entry.Answer.TheVariants as answer
use Rattle.rate_plain.specs.declared.entry.Counted.{Counted}
use Rattle.trace_form.specs.declared.refusal.BadCause.{BadCause}
use Rattle.trace_form.specs.declared.refusal.BadCause.TheVariants as cause
use Rattle.trace_form.specs.declared.output.LineParts.{LineParts}
use Rattle.edge_base.specs.Bytes.{newline}

-- the kind of a verdict, with its status
abbrev pub kind_text : VerdictKind → List ℕ
kind_text kind.Pass = codes "pass"
kind_text (kind.Block response) = codes "block:" ++ decimal response.status_code
kind_text kind.Challenge = codes "challenge"
kind_text (kind.Redirect status target) = codes "redirect:" ++ decimal status

-- the name of a rule: its ruleset and its own id
abbrev pub rule_text : RuleName → List ℕ
rule_text name = name.set_id ++ codes "/" ++ name.rule

-- the rule that ended the judging, or a dash
abbrev pub ending_text : Option RuleName → List ℕ
ending_text None = codes "-"
ending_text (Some name) = rule_text name

-- the names of more rules, each after a comma
abbrev pub names_text : List RuleName → List ℕ
names_text [] = []
names_text (name ∷ names) = codes "," ++ rule_text name ++ names_text names

-- the rules that were noted, where there are any
abbrev pub noted_text : List RuleName → List ℕ
noted_text [] = []
noted_text (name ∷ names) = codes " log=" ++ rule_text name ++ names_text names

-- where a redirect leads
abbrev pub location_text : VerdictKind → List ℕ
location_text kind.Pass = []
location_text (kind.Block response) = []
location_text kind.Challenge = []
location_text (kind.Redirect status target) = codes " to=" ++ escaped target

-- what a step was told
abbrev pub answer_text : Answer → List ℕ
answer_text answer.Pass = codes "pass"
answer_text (answer.Over until) = codes "over@" ++ decimal until
answer_text answer.Full = codes "full"

-- a step: its place in the history, and what it was told
abbrev pub step_text : Counted → List ℕ
step_text counted = decimal counted.position ++ codes ":" ++ answer_text counted.answer

-- more steps, each after a comma
abbrev pub steps_text : List Counted → List ℕ
steps_text [] = []
steps_text (counted ∷ counts) = codes "," ++ step_text counted ++ steps_text counts

-- the steps in order, or a dash where there are none
abbrev pub counts_text : List Counted → List ℕ
counts_text [] = codes "-"
counts_text (counted ∷ counts) = step_text counted ++ steps_text counts

-- a header, both parts escaped
abbrev pub header_text : Header → List ℕ
header_text header = escaped header.name ++ codes ":" ++ escaped header.value

-- more headers, each after a comma
abbrev pub more_headers_text : List Header → List ℕ
more_headers_text [] = []
more_headers_text (header ∷ headers) = codes "," ++ header_text header ++ more_headers_text headers

-- the headers in order, or a dash where there are none
abbrev pub headers_text : List Header → List ℕ
headers_text [] = codes "-"
headers_text (header ∷ headers) = header_text header ++ more_headers_text headers

-- the same name and the same value, with their spelling
abbrev pub is_same_header : Header → Header → Bool
is_same_header a b = bytes_eq a.name b.name && bytes_eq a.value b.value

-- the same headers in the same order
abbrev pub are_same_headers : List Header → List Header → Bool
are_same_headers before after = pointwise is_same_header before after

-- a word and the headers as they are now, where they were changed
abbrev pub changed_text : List ℕ → List Header → List Header → List ℕ
changed_text word before after = cond (are_same_headers before after) [] (word ++ headers_text after)

-- the headers of a reply, where there is a reply and they were changed
abbrev pub reply_text : Option (List Header × List Header) → List ℕ
reply_text None = []
reply_text (Some headers) = changed_text (codes " rep=") headers.0 headers.1

-- which request was judged by which version, and how: the number, the version, the kind, the ending rule, the target
unfoldable pub judged_text : LineParts → List ℕ
judged_text parts = decimal parts.number ++ codes " v" ++ decimal parts.version ++ codes " " ++ kind_text parts.verdict.kind
    ++ codes " " ++ ending_text parts.verdict.rule ++ codes " " ++ escaped parts.request.target

-- what stands behind the steps where it applies: the rules that were noted, where the request is sent, and the headers of
-- the request and of its reply
unfoldable pub further_text : LineParts → List ℕ
further_text parts = noted_text parts.verdict.noted ++ location_text parts.verdict.kind
    ++ changed_text (codes " req=") parts.came parts.request.headers ++ reply_text parts.reply

-- the line of a judged request: how it was judged, what was counted, and what else applies
unfoldable pub line : LineParts → List ℕ
line parts = judged_text parts ++ codes " " ++ counts_text parts.counts ++ further_text parts ++ newline ∷ []

-- the line of a deployment that was put in force as this version
abbrev pub deploy_line : ℕ → List ℕ
deploy_line version = codes "deploy v" ++ decimal version ++ newline ∷ []

-- the printed name of a cause
abbrev pub cause_name : BadCause → List ℕ
cause_name cause.LongLine = codes "LongLine"
cause_name cause.NotJson = codes "NotJson"
cause_name cause.Shape = codes "Shape"
cause_name cause.BadAddress = codes "BadAddress"
cause_name cause.BadMoment = codes "BadMoment"
cause_name cause.BadHead = codes "BadHead"

-- the line of an input line that is no item
abbrev pub bad_line : ℕ → BadCause → List ℕ
bad_line number cause = codes "bad " ++ decimal number ++ codes " " ++ cause_name cause ++ newline ∷ []
