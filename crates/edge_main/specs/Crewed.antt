-- The workers of `replay` and the gate at which they judge: what stands between two batches, what a meeting of all passes
-- tells, and what a batch comes to. No public clause cites these words.
use Rattle.std.specs.Prelude.{◌≡◌, ℕ, ◌+◌, ◌<◌, ◌≤◌, List, [], ◌∷◌, ◌++◌, length, map, reverse, All, ⊤, Bool, slice_index_or}
use Rattle.serde_json.specs.Data.{Data}
use mathlib.Core.List.{IsPrefix}
use Rattle.rate_plain.specs.History.{IsLegal, own_of}
use Rattle.rate_plain.specs.declared.entry.Entry.{Entry}
use Rattle.rate_shared.specs.declared.rule.Shape.{Shape}
use Rattle.rate_shared.specs.declared.seen.Seen.{Seen}
use Rattle.ruleset_model.specs.ConfigParts.{ConfigParts}
use Rattle.config_read.specs.declared.fault.Cause.{Cause}
use Rattle.trace_form.specs.Item.{IsAsk}
use Rattle.trace_form.specs.declared.item.Recorded.{Recorded}
use Rattle.trace_form.specs.declared.refusal.BadCause.{BadCause}
use Rattle.version_store.specs.Notices.{IsVersion}
use Rattle.gate_run.specs.Passes.{IsPassOf, IsSamePass, seen_by, caller_of, shape_in, page_of}
use Rattle.gate_run.specs.declared.gate.Gate.{Gate}
use Rattle.gate_run.specs.declared.desk.Desk.{Desk}
use Rattle.edge_main.specs.Answered.{LineKind, written_for}
use Rattle.edge_main.specs.Answered as line
use Rattle.edge_main.specs.Batched.{AreDealt, Asked, IsAskedBy, AreAskedBy, asked_behind, IsBatch}
use Rattle.edge_main.specs.Output.{IsTaken, IsTurnedDown}
use Rattle.edge_main.specs.Spread.{SpreadState, behind, written_by}
use Rattle.edge_main.specs.Working.{asked_of, IsNew, IsReady}
use Rattle.edge_main.specs.declared.crew.Crew.{Crew}
use Rattle.edge_main.specs.declared.working.Worker.{Worker}

-- ---- the workers at first

-- a new worker for each of these, numbered on from this one
abbrev pub AreNew : ℕ → List Seen → List Worker → Type 0
AreNew number [] [] = ⊤
AreNew number [] (worker ∷ workers) = ⊥
AreNew number (seen ∷ seens) [] = ⊥
AreNew number (seen ∷ seens) (worker ∷ workers) = IsNew number seen worker × AreNew (number + 1) seens workers

-- ---- a meeting

-- nothing but what its pass has seen is another
pub record IsSameButSeen (before after : Worker) : Type 0 where
  pub number : after.number ≡ before.number
  pub pass : IsSamePass before.pass after.pass
  pub jobs : after.jobs.items ≡ before.jobs.items
  pub lines : after.lines.items ≡ before.lines.items
  pub fault : after.fault ≡ before.fault

-- it took no step, and knows what it had seen
pub record HasWatched (before after : Worker) : Type 0 where
  pub same : IsSameButSeen before after
  pub seen : IsPrefix (seen_by before.pass) (seen_by after.pass)
  pub own : own_of (seen_by after.pass) (caller_of before.pass) ≡ own_of (seen_by before.pass) (caller_of before.pass)

-- and has told it: this history begins with it
pub record HasTold (history : List Entry) (before after : Worker) : Type 0 where
  pub watched : HasWatched before after
  pub told : IsPrefix (seen_by after.pass) history

-- and was told this history
pub record HasHeard (history : List Entry) (before after : Worker) : Type 0 where
  pub watched : HasWatched before after
  pub heard : IsPrefix history (seen_by after.pass)

-- the first so many of these went in this way, and the others stayed
pub record HaveGone {A : Type 0} (Went : A → A → Type 0) (count : ℕ) (before after : List A) : Type 0 where
  pub same : length after ≡ length before
  pub went : (k : ℕ) (d : A) → k < count → Went (slice_index_or before k d) (slice_index_or after k d)
  pub stayed : (k : ℕ) (d : A) → count ≤ k → slice_index_or after k d ≡ slice_index_or before k d

-- a legal history of the callers' entries
pub record IsShared (shape : Shape) (history : List Entry) : Type 0 where
  pub legal : IsLegal shape.lanes shape.cap history
  pub by_callers : All (λ (entry : Entry). entry.caller < shape.callers) history

-- the worker has told what it had seen, and was told this history; it took no step
pub record HasMet (history : List Entry) (before after : Worker) : Type 0 where
  pub same : IsSameButSeen before after
  pub told : IsPrefix (seen_by before.pass) history
  pub heard : IsPrefix history (seen_by after.pass)
  pub own : own_of (seen_by after.pass) (caller_of before.pass) ≡ own_of (seen_by before.pass) (caller_of before.pass)

abbrev pub EachHasMet : List Entry → List Worker → List Worker → Type 0
EachHasMet history before after = (k : ℕ) (d : Worker) → k < length before → HasMet history (slice_index_or before k d) (slice_index_or after k d)

-- there is one legal history of the callers' entries, which all have met in
pub record HaveMet (shape : Shape) (before after : List Worker) : Type 0 where
  pub history : List Entry
  pub legal : IsLegal shape.lanes shape.cap history
  pub by_callers : All (λ (entry : Entry). entry.caller < shape.callers) history
  pub each : EachHasMet history before after

-- nothing but their lines is another
pub record IsSameButLines (before after : Worker) : Type 0 where
  pub number : after.number ≡ before.number
  pub pass : after.pass ≡ before.pass
  pub jobs : after.jobs.items ≡ before.jobs.items
  pub fault : after.fault ≡ before.fault

-- the lines of each worker
abbrev pub lines_in : List Worker → List (List (List ℕ))
lines_in workers = map (λ (worker : Worker). worker.lines.items) workers

-- these lines were dealt to them, the latest first, and are so many
abbrev pub AreLinesOf : ℕ → List Worker → List (List ℕ) → Type 0
AreLinesOf dealt workers latest = AreDealt latest (lines_in workers) × (length latest ≡ dealt)

-- so many lines were dealt to them
abbrev pub HoldLines : ℕ → List Worker → Type 0
HoldLines dealt workers = (latest : List (List ℕ)) × AreLinesOf dealt workers latest

pub record HaveGivenLines (before after : List Worker) : Type 0 where
  pub count : length after ≡ length before
  pub each : (k : ℕ) (d : Worker) → k < length before → IsSameButLines (slice_index_or before k d) (slice_index_or after k d)

-- ---- between two batches

-- what a worker has seen of the history, with further entries of others alone
pub record IsWorkerAt (gate : Gate) (history : List Entry) (k : ℕ) (worker : Worker) : Type 0 where
  pub ready : IsReady gate worker
  pub number : worker.number ≡ k
  pub caller : caller_of worker.pass ≡ k
  pub idle : List Entry
  pub seen : seen_by worker.pass ≡ history ++ idle
  pub none : own_of idle k ≡ []

abbrev pub AreWorkersAt : Gate → List Entry → List Worker → Type 0
AreWorkersAt gate history workers = (k : ℕ) (d : Worker) → k < length workers → IsWorkerAt gate history k (slice_index_or workers k d)

-- the jobs of each worker
abbrev pub jobs_in : List Worker → List (List Asked)
jobs_in workers = map (λ (worker : Worker). map asked_of worker.jobs.items) workers

-- the desk has this version in force
abbrev pub IsInForce : Desk → SpreadState → Type 0
IsInForce desk s = (stop : Bool) × IsVersion (page_of desk).notices s.version stop s.config

-- 64 lanes with room for 4,096 live keys, and as many callers as workers
pub record IsCrew (gate : Gate) (workers : List Worker) : Type 0 where
  pub shape : shape_in gate ≡ record { lanes = 64; cap = 4096; callers = length workers }
  pub some : 1 ≤ length workers

-- the lines have come so far, behind this history; these requests, the latest first, were dealt since
pub record IsCrewAt (crew : Crew) (history : List Entry) (s : SpreadState) (latest : List Asked) : Type 0 where
  pub size : IsCrew crew.gate crew.workers.items
  pub workers : AreWorkersAt crew.gate history crew.workers.items
  pub dealt : AreDealt latest (jobs_in crew.workers.items)
  pub count : crew.dealt ≡ length latest
  pub few : length latest ≤ 256
  pub in_force : IsInForce crew.desk s
  pub lines : crew.lines ≡ s.lines
  pub requests : crew.requests ≡ s.requests
  pub version : crew.version ≡ s.version
  pub any_bad : crew.any_bad ≡ s.any_bad

-- it is somewhere
abbrev pub IsCrewSomewhere : Crew → Type 0
IsCrewSomewhere crew = (history : List Entry) × (s : SpreadState) × (latest : List Asked) × IsCrewAt crew history s latest

-- wherever it is, this holds
abbrev pub WhereCrew : Crew → (List Entry → SpreadState → List Asked → Type 0) → Type 0
WhereCrew crew Holds = (history : List Entry) (s : SpreadState) (latest : List Asked) → IsCrewAt crew history s latest → Holds history s latest

-- the requests that were dealt were judged: their lines were written, and nothing is dealt
pub record Settled (history : List Entry) (s : SpreadState) (latest : List Asked) (from : SpreadState) (lines : List (List ℕ)) (text : List ℕ) (after : Crew) : Type 0 where
  pub more : List Entry
  pub kinds : List LineKind
  pub batch : IsBatch history more from lines kinds s
  pub text_is : text ≡ written_by kinds
  pub now : IsCrewAt after (history ++ more) s []

-- whatever lines they were of
abbrev pub Settles : Crew → List ℕ → Crew → Type 0
Settles before text after = WhereCrew before (λ history s latest. (from : SpreadState) (lines : List (List ℕ)) → AreAskedBy from lines (reverse latest) s
    → Settled history s latest from lines text after)

-- ---- one line

-- the request was dealt, as whichever line it was of asks for it
pub record Dealt (history : List Entry) (s : SpreadState) (latest : List Asked) (recorded : Recorded) (after : Crew) : Type 0 where
  pub asked : Asked
  pub its : (given : List ℕ) → IsAsk given recorded → IsAskedBy s given asked
  pub now : IsCrewAt after history (asked_behind s) (asked ∷ latest)

abbrev pub Deals : Crew → Recorded → Crew → Type 0
Deals before recorded after = WhereCrew before (λ history s latest. Dealt history s latest recorded after)

-- the line came to this, which was written
pub record Came (history : List Entry) (s : SpreadState) (latest : List Asked) (kind : LineKind) (text : List ℕ) (after : Crew) : Type 0 where
  pub text_is : text ≡ written_for kind
  pub now : IsCrewAt after history (behind s kind) latest

abbrev pub PassesBy : Crew → List ℕ → Crew → Type 0
PassesBy before text after = WhereCrew before (λ history s latest. Came history s latest line.blank text after)

abbrev pub RefusesFor : BadCause → Crew → List ℕ → Crew → Type 0
RefusesFor why before text after =
    WhereCrew before (λ history s latest. Came history s latest (line.bad (s.lines + 1) why) text after)

-- a deployment was taken, or refused
pub data Deployed (value : Data) (history : List Entry) (s : SpreadState) (latest : List Asked) (text : List ℕ) (after : Crew) : Type 0 where
  taken : (config : ConfigParts) → IsTaken value config → Came history s latest (line.deployment (s.version + 1) config) text after
      → Deployed value history s latest text after
  no_deployment : (place : List ℕ) (cause : Cause) → IsTurnedDown value place cause
      → Came history s latest (line.no_deployment place cause) text after → Deployed value history s latest text after

abbrev pub Deploys : Data → Crew → List ℕ → Crew → Type 0
Deploys value before text after = WhereCrew before (λ history s latest. Deployed value history s latest text after)
