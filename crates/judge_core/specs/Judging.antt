-- What is judged of a request, by the answers so far; and of a reply.
use Rattle.std.specs.Prelude.{ℕ, true, if◌then◌else◌, List, [], ◌∷◌, Option, None, Some, slice_get}
use Rattle.edge_base.specs.declared.message.Request.{Request}
use Rattle.edge_base.specs.declared.message.Reply.{Reply}
use Rattle.edge_base.specs.declared.rule_name.RuleName.{RuleName}
use Rattle.rate_plain.specs.declared.entry.Answer.{Answer}
use Rattle.ruleset_model.specs.ConfigParts.{ConfigParts}
use Rattle.ruleset_model.specs.Phases.{request_phases}
use Rattle.ruleset_model.specs.declared.limit.Counting.{Counting}
use Rattle.ruleset_model.specs.declared.limit.Limit.{Limit}
use Rattle.ruleset_model.specs.declared.phase.Phase.TheVariants as phase
use Rattle.ruleset_model.specs.declared.ruleset.Rule.{Rule}
use Rattle.ruleset_model.specs.declared.ruleset.Ruleset.{Ruleset}
use Rattle.ruleset_model.specs.declared.skips.Skips.{Skips}
use Rattle.ruleset_model.specs.declared.verdict.Verdict.{Verdict}
use Rattle.ruleset_model.specs.declared.verdict.VerdictKind.{VerdictKind}
use Rattle.ruleset_model.specs.declared.verdict.VerdictKind.TheVariants as kind
use Rattle.judge_core.specs.declared.kept.KeptCount.{KeptCount}
use Rattle.judge_core.specs.Carried.{Carried, End, Passed, Closed}
use Rattle.judge_core.specs.Changing.{unchanged}
use Rattle.judge_core.specs.Limits.{counts_reply}
use Rattle.judge_core.specs.Skipping.{merged}
use Rattle.judge_core.specs.Talk.{Talk, Asks, Stand, Counts, Done, Overtold, told}
use Rattle.judge_core.specs.Values.{Listed}
use Rattle.judge_core.specs.Walk.{phases}

-- ---- a request
-- what was judged: the verdict, the request as it was rewritten, the rules that count by the reply, and the skips
pub record Judgement : Type 0 where
  pub verdict : Verdict
  pub request : Request
  pub kept : List KeptCount
  pub skips : Skips

-- the request as it came, without skips, changes, notes and counts
abbrev pub came : Request → Carried
came request = record { request = request; reply = None; skips = []; changes = unchanged; noted = []; kept = [] }

-- the judging as a talk with the counter
abbrev pub judging : Listed → ConfigParts → Request → Talk End
judging listed config request = phases listed config request_phases (came request)

-- what was judged where this was carried in the end
abbrev pub judged_as : VerdictKind → Option RuleName → Carried → Judgement
judged_as verdict rule c = record {
  verdict = record { kind = verdict; rule = rule; noted = c.noted };
  request = c.request;
  kept = c.kept;
  skips = merged c.skips;
}

abbrev pub judgement : End → Judgement
judgement (Passed c) = judged_as kind.Pass None c
judgement (Closed verdict name c) = judged_as verdict (Some name) c

-- the same stand, with what it has come to seen in another way
abbrev pub seen_as : {A B : Type 0} → (A → B) → Stand A → Stand B
seen_as f (Counts ask) = Counts ask
seen_as f (Done a) = Done (f a)
seen_as f Overtold = Overtold

-- what is judged of the request by a configuration and the answers so far
abbrev pub judge : Listed → ConfigParts → Request → List Answer → Stand Judgement
judge listed config request answers = seen_as judgement (told (judging listed config request) answers)

-- ---- a reply
-- the rule at these places
abbrev pub rule_in : Option Ruleset → ℕ → Option Rule
rule_in None number = None
rule_in (Some set) number = slice_get set.rules number

abbrev pub limit_in : Option Rule → Option Limit
limit_in None = None
limit_in (Some rule) = rule.limit

abbrev pub counting_in : Option Limit → Option Counting
counting_in None = None
counting_in (Some limit) = limit.counting

-- how the rule at the places counts
abbrev pub counting_at : ConfigParts → KeptCount → Option Counting
counting_at config kept = counting_in (limit_in (rule_in (slice_get config.rulesets kept.holder) kept.rule))

-- each rule that was kept, in the order reached, asks a step that adds where its counting expression is true of the
-- request and the reply; the answers have no other effect. Then the phase of the reply is judged
unfoldable pub kept_then : Listed → ConfigParts → ℕ → Carried → List KeptCount → Talk End
kept_then listed config at c [] = phases listed config (phase.ResponseTransform ∷ []) c
kept_then listed config at c (kept ∷ rest) =
    if counts_reply listed (counting_at config kept) c
    then Asks (record { key = kept.key; asked = at; adds = true }) (λ answer. kept_then listed config at c rest)
    else kept_then listed config at c rest

-- the reply as it came, with what was judged of its request
abbrev pub replying : Judgement → Reply → Carried
replying judged reply = record {
  request = judged.request;
  reply = Some reply;
  skips = judged.skips ∷ [];
  changes = unchanged;
  noted = [];
  kept = [];
}

abbrev pub backing : Listed → ConfigParts → Judgement → Reply → ℕ → Talk End
backing listed config judged reply at = kept_then listed config at (replying judged reply) judged.kept

abbrev pub carried_at : End → Carried
carried_at (Passed c) = c
carried_at (Closed verdict name c) = c

-- what comes of the reply by the answers so far; the reply is there at each end
abbrev pub judge_reply : Listed → ConfigParts → Judgement → Reply → ℕ → List Answer → Stand (Option Reply)
judge_reply listed config judged reply at answers =
    seen_as (λ (end : End). (carried_at end).reply) (told (backing listed config judged reply at) answers)
