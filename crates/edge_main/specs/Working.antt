-- What a worker does with the requests that were dealt to it. No public clause cites these words.
use Rattle.std.specs.Prelude.{◌≡◌, ℕ, List, [], ◌∷◌, ◌++◌, length, map, Option, None, Some}
use Rattle.std.specs.Arc.{arc_value}
use Rattle.edge_base.specs.declared.message.Reply.{Reply}
use Rattle.judge_core.specs.Stands.{judgement_of}
use Rattle.judge_core.specs.declared.judging.Judged.{Judged}
use Rattle.rate_plain.specs.History.{own_of}
use Rattle.rate_plain.specs.declared.entry.Counted.{Counted}
use Rattle.rate_plain.specs.declared.entry.Entry.{Entry}
use Rattle.rate_shared.specs.Callers.{history_of}
use Rattle.rate_shared.specs.declared.seen.Seen.{Seen}
use Rattle.trace_form.specs.Line.{line}
use Rattle.trace_form.specs.declared.output.LineParts.{LineParts}
use Rattle.gate_run.specs.Passes.{IsPassOf, IsSamePass, seen_by, caller_of}
use Rattle.gate_run.specs.Went.{counts_from}
use Rattle.gate_run.specs.declared.gate.Gate.{Gate}
use Rattle.edge_main.specs.Batched.{Asked, Did, IsDone, AreDone, took_by}
use Rattle.edge_main.specs.Spread.{IsFollowed}
use Rattle.edge_main.specs.declared.asking.Followed.{Followed}
use Rattle.edge_main.specs.declared.working.Job.{Job}
use Rattle.edge_main.specs.declared.working.Worker.{Worker}

-- ---- a request

-- what a job asks for
abbrev pub asked_of : Job → Asked
asked_of job = record {
  number = job.number;
  version = job.picked.number;
  config = arc_value job.picked.config;
  recorded = job.recorded;
}

-- the reply that was used was judged by the caller's own further entries, which are shown; verdict and request stay
pub record FollowsIn (before after : Seen) (judged : Judged) (used : Option (Reply × ℕ)) (shown shown' : List Counted) (followed : Followed) : Type 0 where
  pub took : List Entry
  pub grown : history_of after ≡ history_of before ++ took
  pub replied : IsFollowed (arc_value judged.config) (judgement_of judged) used (own_of took before.caller) followed.headers
  pub verdict : followed.verdict ≡ judged.verdict
  pub request : followed.request ≡ judged.request
  pub shows : shown' ≡ shown ++ counts_from before.caller (length (history_of before)) took

-- the job was done as its line tells, with these further entries
pub record JudgesIn (before after : Seen) (job : Job) (parts : LineParts) : Type 0 where
  pub took : List Entry
  pub grown : history_of after ≡ history_of before ++ took
  pub done : IsDone before.caller (length (history_of before)) (record { asked = asked_of job; parts = parts; took = took })

-- ---- a worker

-- the same worker of the same gate
pub record IsSameWorker (before after : Worker) : Type 0 where
  pub number : after.number ≡ before.number
  pub pass : IsSamePass before.pass after.pass

-- a worker with nothing to do, whose pass has seen so much
pub record IsNew (k : ℕ) (first : Seen) (worker : Worker) : Type 0 where
  pub number : worker.number ≡ k
  pub seen : worker.pass.seen ≡ first
  pub jobs : worker.jobs.items ≡ []
  pub lines : worker.lines.items ≡ []
  pub fault : worker.fault ≡ None

-- a worker that may begin: it has no line and no fault
pub record IsReady (gate : Gate) (worker : Worker) : Type 0 where
  pub of : IsPassOf gate worker.pass
  pub lines : worker.lines.items ≡ []
  pub fault : worker.fault ≡ None

-- the lines of what was done
abbrev pub lines_by : List Did → List (List ℕ)
lines_by dids = map (λ (did : Did). line did.parts) dids

-- it has done these: their lines stand behind those before, and it saw their entries
pub record HasDone (before after : Worker) (dids : List Did) : Type 0 where
  pub done : AreDone (caller_of before.pass) (length (seen_by before.pass)) dids
  pub seen : seen_by after.pass ≡ seen_by before.pass ++ took_by dids
  pub lines : after.lines.items ≡ before.lines.items ++ lines_by dids
  pub fault : after.fault ≡ before.fault

-- a job was done
pub record JudgesOne (before after : Worker) (job : Job) : Type 0 where
  pub did : Did
  pub asked : did.asked ≡ asked_of job
  pub has : HasDone before after (did ∷ [])

-- all jobs were done, in order
pub record JudgesAll (before after : Worker) : Type 0 where
  pub dids : List Did
  pub asked : map (λ (did : Did). did.asked) dids ≡ map asked_of before.jobs.items
  pub has : HasDone before after dids
  pub jobs : after.jobs.items ≡ []

-- the same, where no fault is told
pub record Works (before after : Worker) : Type 0 where
  pub same : IsSameWorker before after
  pub judged : after.fault ≡ None → JudgesAll before after
