-- A line of the input that was answered: what it came to, and the run before and after it.
use Rattle.std.specs.Prelude.{ℕ, ◌+◌, Bool, true, false, List, [], ◌++◌, Option, Some, None, codes}
use Rattle.edge_base.specs.declared.message.Header.{Header}
use Rattle.edge_base.specs.declared.message.Reply.{Reply}
use Rattle.edge_base.specs.declared.message.Request.{Request}
use Rattle.rate_plain.specs.declared.entry.Counted.{Counted}
use Rattle.rate_plain.specs.declared.entry.Entry.{Entry}
use Rattle.ruleset_model.specs.ConfigParts.{ConfigParts}
use Rattle.ruleset_model.specs.declared.verdict.VerdictKind.{VerdictKind}
use Rattle.ruleset_model.specs.declared.verdict.VerdictKind.TheVariants as kinds
use Rattle.judge_core.specs.Carried.{End}
use Rattle.judge_core.specs.Judging.{Judgement, judging, judgement, backing, carried_at}
use Rattle.judge_core.specs.Values.{Listed}
use Rattle.config_read.specs.declared.fault.Cause.{Cause}
use Rattle.config_read.specs.Causes.{cause_name}
use Rattle.trace_form.specs.Line.{line, deploy_line, bad_line}
use Rattle.trace_form.specs.declared.item.Recorded.{Recorded}
use Rattle.trace_form.specs.declared.output.LineParts.{LineParts}
use Rattle.trace_form.specs.declared.refusal.BadCause.{BadCause}
use Rattle.edge_main.specs.Checked.{refused_line}
use Rattle.edge_main.specs.Counting.{Talked, talked}

-- how far a run has come: the lines and the requests so far, the version and its configuration, whether a line was no
-- item, and the steps of all requests and replies so far
pub record RunState : Type 0 where
  pub lines : ℕ
  pub requests : ℕ
  pub version : ℕ
  pub config : ConfigParts
  pub any_bad : Bool
  pub history : List Entry

-- nothing was read and no step was taken, and the configuration of version 0 is empty
abbrev pub opening : RunState
opening = record {
  lines = 0;
  requests = 0;
  version = 0;
  config = record { lists = []; rulesets = [] };
  any_bad = false;
  history = [];
}

-- what a line came to: nothing; no item, with the line's number and the cause; a version, and its configuration; a
-- deployment that was refused, with the place and the cause; or a request that was judged
pub data LineKind : Type 0 where
  blank : LineKind
  bad : ℕ → BadCause → LineKind
  deployment : ℕ → ConfigParts → LineKind
  no_deployment : List ℕ → Cause → LineKind
  request : LineParts → LineKind

-- the line of a deployment that is refused at a place for a cause
abbrev pub refused_deploy_line : List ℕ → List ℕ → List ℕ
refused_deploy_line place cause = codes "deploy " ++ refused_line place cause

-- what is written for a line
abbrev pub written_for : LineKind → List ℕ
written_for blank = []
written_for (bad number cause) = bad_line number cause
written_for (deployment version config) = deploy_line version
written_for (no_deployment place cause) = refused_deploy_line place (cause_name cause)
written_for (request parts) = line parts

-- a line that was answered
pub record Answered : Type 0 where
  pub kind : LineKind
  pub text : List ℕ
  pub before : RunState
  pub after : RunState

abbrev pub answered_as : LineKind → RunState → RunState → Answered
answered_as kind before after = record { kind = kind; text = written_for kind; before = before; after = after }

-- a blank line
abbrev pub passed_by : RunState → Answered
passed_by s = answered_as blank s (record s { lines = s.lines + 1 })

-- a line that is no item, for this cause
abbrev pub refused : RunState → BadCause → Answered
refused s why = answered_as (bad (s.lines + 1) why) s (record s { lines = s.lines + 1; any_bad = true })

-- a deployment that is taken: it becomes the next version
abbrev pub put_in_force : RunState → ConfigParts → Answered
put_in_force s config =
    answered_as (deployment (s.version + 1) config) s
    (record s { lines = s.lines + 1; version = s.version + 1; config = config })

-- a deployment that is refused changes nothing
abbrev pub turned_down : RunState → List ℕ → Cause → Answered
turned_down s place cause = answered_as (no_deployment place cause) s (record s { lines = s.lines + 1 })

-- ---- a request

-- the judging of a request by the configuration in force, each of its steps answered by the counter
abbrev pub request_talked : Listed → RunState → Request → Talked End
request_talked listed s asked = talked (judging listed s.config asked) s.history

-- the reply that is judged: one that was recorded, where the verdict is pass
abbrev pub reply_used : VerdictKind → Option (Reply × ℕ) → Option (Reply × ℕ)
reply_used kinds.Pass recorded = recorded
reply_used other recorded = None

-- what came of a reply: all steps then, those that it took, and its headers before and after
pub record Backed : Type 0 where
  pub history : List Entry
  pub counts : List Counted
  pub headers : Option (List Header × List Header)

-- the headers of a reply that is there at the end
abbrev pub headers_of : Option Reply → List Header
headers_of None = []
headers_of (Some reply) = reply.headers

abbrev pub backed_as : List Header → Talked End → Backed
backed_as before t = record {
  history = t.history;
  counts = t.counts;
  headers = Some (before, headers_of (carried_at t.ended).reply);
}

-- the judging of a reply with its moment, if there is one, by what was judged of the request
abbrev pub reply_backed : Listed → ConfigParts → Judgement → Option (Reply × ℕ) → List Entry → Backed
reply_backed listed config judged None history = record { history = history; counts = []; headers = None }
reply_backed listed config judged (Some used) history =
    backed_as used.0.headers (talked (backing listed config judged used.0 used.1) history)

-- the reply follows at once
abbrev pub followed : Listed → RunState → Option (Reply × ℕ) → Talked End → Backed
followed listed s recorded t =
    reply_backed listed s.config (judgement t.ended) (reply_used (judgement t.ended).verdict.kind recorded) t.history

-- what its line tells
abbrev pub judged_parts : RunState → Request → Talked End → Backed → LineParts
judged_parts s asked t back = record {
  number = s.requests + 1;
  version = s.version;
  verdict = (judgement t.ended).verdict;
  request = (judgement t.ended).request;
  came = asked.headers;
  counts = t.counts ++ back.counts;
  reply = back.headers;
}

abbrev pub judged_as : RunState → Request → Talked End → Backed → Answered
judged_as s asked t back =
    answered_as (request (judged_parts s asked t back)) s
    (record s { lines = s.lines + 1; requests = s.requests + 1; history = back.history })

-- a request, judged by the version in force, and its reply
abbrev pub judged : Listed → RunState → Recorded → Answered
judged listed s recorded =
    let t = request_talked listed s recorded.request in
    judged_as s recorded.request t (followed listed s recorded.reply t)
