-- What `replay` writes for an input where several workers judge at once: each line is answered as by one thread, but that the
-- steps of all requests stand in one history, as the workers have taken them.
use Rattle.std.specs.Prelude.{◌≡◌, ℕ, ◌+◌, ◌<◌, ◌≤◌, Bool, true, false, cond, nat_eq, nat_lt, List, [], ◌∷◌, ◌++◌, length, All, ⊤, Option, None, Some, slice_get}
use Rattle.edge_base.specs.declared.message.Header.{Header}
use Rattle.edge_base.specs.declared.message.Reply.{Reply}
use Rattle.edge_outside.specs.Lines.{lines_of}
use Rattle.serde_json.specs.Data.{Data}
use Rattle.rate_plain.specs.History.{IsLegal}
use Rattle.rate_plain.specs.declared.entry.Counted.{Counted}
use Rattle.rate_plain.specs.declared.entry.Entry.{Entry}
use Rattle.ruleset_model.specs.ConfigParts.{ConfigParts}
use Rattle.judge_core.specs.Judging.{Judgement}
use Rattle.judge_core.specs.Values.{Listed}
use Rattle.config_read.specs.declared.fault.Cause.{Cause}
use Rattle.gate_run.specs.Named.{IsMeaningOf}
use Rattle.gate_run.specs.Went.{Went, WentBack}
use Rattle.trace_form.specs.Item.{IsBlank, IsDeploy, IsAsk, IsNoItem}
use Rattle.trace_form.specs.declared.item.Recorded.{Recorded}
use Rattle.trace_form.specs.declared.output.LineParts.{LineParts}
use Rattle.trace_form.specs.declared.refusal.BadCause.{BadCause}
use Rattle.edge_main.specs.Answered.{LineKind, reply_used, written_for}
use Rattle.edge_main.specs.Answered as line
use Rattle.edge_main.specs.Output.{IsOutput, IsTaken, IsTurnedDown}
use Rattle.edge_main.specs.Shown.{steps_in, positions_of}

-- ---- the steps that a line shows

-- the steps show these entries of the history: each stands at the position, with the answer, that its step shows
abbrev pub AreShown : List Entry → List Entry → List Counted → Type 0
AreShown history [] [] = ⊤
AreShown history [] (step ∷ steps) = ⊥
AreShown history (entry ∷ own) [] = ⊥
AreShown history (entry ∷ own) (step ∷ steps) =
    (slice_get history step.position ≡ Some entry) × (entry.answer ≡ step.answer) × AreShown history own steps

-- numbers that increase, from one that is at least this
abbrev pub AreIncreasing : ℕ → List ℕ → Type 0
AreIncreasing least [] = ⊤
AreIncreasing least (number ∷ numbers) = (least ≤ number) × AreIncreasing (number + 1) numbers

-- ---- a request, judged in a configuration by the answers that its line shows

-- the reply that was used was judged by its own steps; without one there are none
pub record IsRepliedTo (config : ConfigParts) (judged : Judgement) (used : Reply × ℕ) (own : List Entry) (headers : Option (List Header × List Header)) : Type 0 where
  pub listed : Listed
  pub meaning : IsMeaningOf config.lists listed
  pub backed : Reply
  pub went : WentBack listed config judged used.0 used.1 own backed
  pub its : headers ≡ Some (used.0.headers, backed.headers)

abbrev pub IsFollowed : ConfigParts → Judgement → Option (Reply × ℕ) → List Entry → Option (List Header × List Header) → Type 0
IsFollowed config judged None own headers = (own ≡ []) × (headers ≡ None)
IsFollowed config judged (Some used) own headers = IsRepliedTo config judged used own headers

-- the steps of the request are these entries, and behind them those of its reply are these
pub record IsJudgedBy (config : ConfigParts) (recorded : Recorded) (asked replied : List Entry) (parts : LineParts) : Type 0 where
  pub listed : Listed
  pub meaning : IsMeaningOf config.lists listed
  pub judged : Judgement
  pub went : Went listed config recorded.request asked judged
  pub followed : IsFollowed config judged (reply_used judged.verdict.kind recorded.reply) replied parts.reply
  pub verdict : parts.verdict ≡ judged.verdict
  pub request : parts.request ≡ judged.request
  pub came : parts.came ≡ recorded.request.headers

-- the line shows them, in the order of the history
pub record IsToldIn (history : List Entry) (config : ConfigParts) (recorded : Recorded) (parts : LineParts) : Type 0 where
  pub asked : List Entry
  pub replied : List Entry
  pub judged : IsJudgedBy config recorded asked replied parts
  pub shown : AreShown history (asked ++ replied) parts.counts
  pub increasing : AreIncreasing 0 (positions_of parts.counts)

-- ---- the lines, one after another

-- how far they have come: the lines and the requests so far, the version and its configuration, whether a line was no item
pub record SpreadState : Type 0 where
  pub lines : ℕ
  pub requests : ℕ
  pub version : ℕ
  pub config : ConfigParts
  pub any_bad : Bool

abbrev pub first : SpreadState
first = record { lines = 0; requests = 0; version = 0; config = record { lists = []; rulesets = [] }; any_bad = false }

-- behind a line that came to this
abbrev pub behind : SpreadState → LineKind → SpreadState
behind s line.blank = record s { lines = s.lines + 1 }
behind s (line.bad number why) = record s { lines = s.lines + 1; any_bad = true }
behind s (line.deployment version config) = record s { lines = s.lines + 1; version = s.version + 1; config = config }
behind s (line.no_deployment place cause) = record s { lines = s.lines + 1 }
behind s (line.request parts) = record s { lines = s.lines + 1; requests = s.requests + 1 }

-- what a line of the input comes to, where the steps of all requests are this history
pub data IsSpreadLine (history : List Entry) (s : SpreadState) (given : List ℕ) (kind : LineKind) : Type 0 where
  blank : IsBlank given → kind ≡ line.blank → IsSpreadLine history s given kind
  bad : (why : BadCause) → IsNoItem given why → kind ≡ line.bad (s.lines + 1) why → IsSpreadLine history s given kind
  deployment : (value : Data) (config : ConfigParts) → IsDeploy given value → IsTaken value config
      → kind ≡ line.deployment (s.version + 1) config → IsSpreadLine history s given kind
  no_deployment : (value : Data) (place : List ℕ) (cause : Cause) → IsDeploy given value → IsTurnedDown value place cause
      → kind ≡ line.no_deployment place cause → IsSpreadLine history s given kind
  request : (recorded : Recorded) (parts : LineParts) → IsAsk given recorded → IsToldIn history s.config recorded parts
      → parts.number ≡ s.requests + 1 → parts.version ≡ s.version → kind ≡ line.request parts
      → IsSpreadLine history s given kind

abbrev pub AreSpreadLines : List Entry → SpreadState → List (List ℕ) → List LineKind → SpreadState → Type 0
AreSpreadLines history from [] [] to = from ≡ to
AreSpreadLines history from [] (kind ∷ kinds) to = ⊥
AreSpreadLines history from (given ∷ lines) [] to = ⊥
AreSpreadLines history from (given ∷ lines) (kind ∷ kinds) to =
    IsSpreadLine history from given kind × AreSpreadLines history (behind from kind) lines kinds to

-- what is written for these
abbrev pub written_by : List LineKind → List ℕ
written_by [] = []
written_by (kind ∷ kinds) = written_for kind ++ written_by kinds

-- ---- the order of the steps

-- all steps that these show
abbrev pub steps_by : List LineKind → List Counted
steps_by [] = []
steps_by (kind ∷ kinds) = steps_in kind ++ steps_by kinds

-- how often a number stands in a list
abbrev pub times : ℕ → List ℕ → ℕ
times number [] = 0
times number (other ∷ numbers) = cond (nat_eq number other) 1 0 + times number numbers

-- each position of the history is shown once, and no other
abbrev pub IsEachOnce : ℕ → List Counted → Type 0
IsEachOnce count steps = (position : ℕ) → times position (positions_of steps) ≡ cond (nat_lt position count) 1 0

-- all positions that the one shows are below those that the other shows
abbrev pub IsBelow : LineKind → LineKind → Type 0
IsBelow a b = All (λ p. All (λ q. p < q) (positions_of (steps_in b))) (positions_of (steps_in a))

-- a line of a deployment, taken or refused
abbrev pub IsOfDeployment : LineKind → Type 0
IsOfDeployment (line.deployment version config) = ⊤
IsOfDeployment (line.no_deployment place cause) = ⊤
IsOfDeployment other = ⊥

-- the positions of a request before a deployment are below those of each one behind it
abbrev pub AreApartFrom : List LineKind → List LineKind → Type 0
AreApartFrom earlier [] = ⊤
AreApartFrom earlier (kind ∷ kinds) =
    (IsOfDeployment kind → All (λ a. All (IsBelow a) kinds) earlier) × AreApartFrom (earlier ++ kind ∷ []) kinds

-- the one is a request that comes at least 256 requests before the other
abbrev pub IsFarBefore : LineKind → LineKind → Type 0
IsFarBefore (line.request a) (line.request b) = a.number + 256 ≤ b.number
IsFarBefore (line.request a) other = ⊥
IsFarBefore other b = ⊥

-- the positions of a request are below those of each one that comes at least 256 requests after it
abbrev pub AreApartAfar : List LineKind → Type 0
AreApartAfar [] = ⊤
AreApartAfar (kind ∷ kinds) = All (λ b. IsFarBefore kind b → IsBelow kind b) kinds × AreApartAfar kinds

-- ---- the whole

-- these lines come to this, and the steps of their requests are a legal history of 64 lanes with room for 4,096 live keys
pub record IsSpreadOver (lines : List (List ℕ)) (kinds : List LineKind) (history : List Entry) (to : SpreadState) : Type 0 where
  pub spread : AreSpreadLines history first lines kinds to
  pub legal : IsLegal 64 4096 history
  pub once : IsEachOnce (length history) (steps_by kinds)
  pub deployments : AreApartFrom [] kinds
  pub afar : AreApartAfar kinds

-- an output of the input
pub record IsSpread (input out : List ℕ) : Type 0 where
  pub kinds : List LineKind
  pub history : List Entry
  pub to : SpreadState
  pub over : IsSpreadOver (lines_of input) kinds history to
  pub text : out ≡ written_by kinds

-- each output of one thread is one of several workers
abbrev pub OutputsAreSpreads : Type 0
OutputsAreSpreads = (input out : List ℕ) → IsOutput input out → IsSpread input out
