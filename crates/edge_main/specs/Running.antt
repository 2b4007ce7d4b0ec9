-- The loop of `replay`: what stands between two lines. No public clause cites these words.
use Rattle.std.specs.Prelude.{◌≡◌, ◌≢◌, ℕ, ◌+◌, ◌<◌, ◌≤◌, ◌^◌, List, [], ◌∷◌, ◌++◌, length, Option, None, Some, Result, Ok, Err}
use Rattle.std.specs.Arc.{arc_value}
use Rattle.std.specs.Io.KnownBytes.{Appends, Consumes}
use Rattle.edge_outside.specs.declared.line_reader.LineReader.{LineReader}
use Rattle.edge_outside.specs.Faults.{Rose}
use Rattle.edge_outside.specs.Lines.{lines_of}
use Rattle.edge_outside.specs.Reading.{Stands, weight}
use Rattle.edge_main.specs.declared.statuses.Status.{Status}
use Rattle.edge_main.specs.declared.statuses.Status.TheVariants as status
use Rattle.edge_main.specs.declared.replay.Replay.{Replay}
use Rattle.edge_main.specs.declared.replay.Turn.{Turn}
use Rattle.edge_main.specs.declared.replay.Turn.TheVariants as turn
use Rattle.edge_main.specs.declared.replay.RunFault.{RunFault}
use Rattle.edge_main.specs.declared.replay.RunFault.TheVariants as fault
use Rattle.edge_main.specs.declared.run.Run.{Run}
use Rattle.rate_lane.specs.Lanes.{AreLanesOf}
use Rattle.serde_json.specs.Data.{Data}
use Rattle.config_read.specs.declared.fault.Cause.{Cause}
use Rattle.judge_core.specs.Values.{Listed}
use Rattle.ruleset_model.specs.ConfigParts.{ConfigParts}
use Rattle.ruleset_model.specs.Valid.{IsValid}
use Rattle.ruleset_model.specs.declared.picked.Picked.{Picked}
use Rattle.trace_form.specs.declared.item.Recorded.{Recorded}
use Rattle.trace_form.specs.declared.output.LineParts.{LineParts}
use Rattle.trace_form.specs.declared.refusal.BadCause.TheVariants as cause
use Rattle.trace_form.specs.declared.refusal.LineFault.{LineFault}
use Rattle.trace_form.specs.declared.refusal.LineFault.TheVariants as bad
use Rattle.edge_main.specs.Answered.{RunState, opening, Answered, refused, put_in_force, turned_down, judged}
use Rattle.edge_main.specs.Answered as line
use Rattle.edge_main.specs.Output.{IsAnswered, IsRun, IsTaken, IsTurnedDown, texts_of}
use Rattle.gate_run.specs.Named.{IsMeaningOf}
use Rattle.edge_main.specs.Summary.{requests_in}
use Rattle.edge_main.specs.Spent.{IsSpentFor, IsSpentOn, WasSpent}
use Rattle.edge_main.specs.Ended.{Ended, WroteFront, WroteAnswers, WroteWhole, IsBegun}

-- a run has come so far: its counter stands for the steps
pub record HasCome (run : Run) (s : RunState) : Type 0 where
  pub lines : run.lines ≡ s.lines
  pub requests : run.requests ≡ s.requests
  pub version : run.version ≡ s.version
  pub config : arc_value run.config ≡ s.config
  pub any_bad : run.any_bad ≡ s.any_bad
  pub counter : AreLanesOf run.counter 64 4096 s.history

-- a run has come to somewhere
abbrev pub IsSomewhere : Run → Type 0
IsSomewhere run = (s : RunState) × HasCome run s

-- the version in force, whose configuration is valid
pub record IsPickedOf (run : Run) (picked : Picked) : Type 0 where
  pub number : picked.number ≡ run.version
  pub config : arc_value picked.config ≡ arc_value run.config
  pub valid : IsValid (arc_value picked.config).lists (arc_value picked.config).rulesets

-- wherever the run had come, this holds
abbrev pub Wherever : Run → (RunState → Type 0) → Type 0
Wherever run Holds = (s : RunState) → HasCome run s → Holds s

-- this is the text that was made, and so far the run has come
abbrev pub Came : Answered → List ℕ → Run → Type 0
Came answered text after = (text ≡ answered.text) × HasCome after answered.after

-- the run has refused a line, for the cause why no item was read of it
abbrev pub RefusedFor : LineFault → RunState → List ℕ → Run → Type 0
RefusedFor (bad.Bad why) before text after = Came (refused before why) text after
RefusedFor bad.Memory before text after = ⊥

-- the run has answered a deployment: it was taken, or refused
pub data AnsweredDeployment (before : RunState) (value : Data) (text : List ℕ) (after : Run) : Type 0 where
  taken : (config : ConfigParts) → IsTaken value config → Came (put_in_force before config) text after
      → AnsweredDeployment before value text after
  no_deployment : (place : List ℕ) (cause : Cause) → IsTurnedDown value place cause
      → Came (turned_down before place cause) text after → AnsweredDeployment before value text after

-- the run has answered a line
abbrev pub AnsweredLine : RunState → List ℕ → List ℕ → Run → Type 0
AnsweredLine before given text after = (answered : Answered) × IsAnswered before given answered × Came answered text after

-- the run has answered a line, and the answer was added to what is pending
abbrev pub TookLine : RunState → List ℕ → List ℕ → Run → List ℕ → Type 0
TookLine before given pending after pending' =
    (answered : Answered) × IsAnswered before given answered × HasCome after answered.after × (pending' ≡ pending ++ answered.text)

-- so far the run has come, and the line was a request that was answered as these parts tell
abbrev pub CameTelling : Answered → LineParts → Run → Type 0
CameTelling answered parts after = (answered.kind ≡ line.request parts) × HasCome after answered.after

-- the run has judged a request and its reply
abbrev pub JudgedSo : RunState → Recorded → LineParts → Run → Type 0
JudgedSo before recorded parts after =
    (listed : Listed) × IsMeaningOf before.config.lists listed × CameTelling (judged listed before recorded) parts after

-- the run has taken a line: a request, of which the parts are given, or another, of which the text is
abbrev pub TookSo : RunState → List ℕ → Option LineParts → List ℕ → Run → Type 0
TookSo before given (Some parts) text after =
    (answered : Answered) × IsAnswered before given answered × CameTelling answered parts after
TookSo before given None text after =
    (answered : Answered) × IsAnswered before given answered × (requests_in answered.kind ≡ []) × Came answered text after

-- a step of the request or its reply was one too many
abbrev pub SpendsSo : RunState → Recorded → Type 0
SpendsSo before recorded = (listed : Listed) × IsMeaningOf before.config.lists listed × IsSpentFor listed before recorded

-- all lines before this rest of the input were answered, which brought the run here; of the answers some were written,
-- and these are pending
pub record Reached (to : RunState) (before now : Option (List ℕ)) (pending text rest : List ℕ) : Type 0 where
  pub front : List (List ℕ)
  pub is_front : lines_of text ≡ front ++ lines_of rest
  pub run : List Answered
  pub is_run : IsRun opening front run to
  pub written : List ℕ
  pub appends : Appends before now written
  pub is_pending : written ++ pending ≡ texts_of run

-- the same, where the reader stands before the rest, of a run that has come there
abbrev pub Progress : Run → LineReader → Option (List ℕ) → Option (List ℕ) → Option (List ℕ) → List ℕ → List ℕ → Type 0
Progress run reader left before now pending text =
    (to : RunState) × (rest : List ℕ) × HasCome run to × Stands reader left rest × Reached to before now pending text rest

-- the whole input was answered
abbrev pub Finished : Run → Option (List ℕ) → Option (List ℕ) → List ℕ → List ℕ → Type 0
Finished run before now pending text = (to : RunState) × HasCome run to × Reached to before now pending text []

-- the run ended before its input did
abbrev pub StoppedBy : RunFault → Option (List ℕ) → Option (List ℕ) → Option (List ℕ) → List ℕ → List ℕ → Type 0
StoppedBy fault.Read left before now pending text =
    (rest : List ℕ) × (to : RunState) × Reached to before now pending text rest × IsBegun rest left
StoppedBy fault.Write left before now pending text = WroteFront text before now
StoppedBy fault.Memory left before now pending text = (rest : List ℕ) × (to : RunState) × Reached to before now pending text rest
StoppedBy fault.LongInput left before now pending text = (rest : List ℕ) × (to : RunState) × Reached to before now pending text rest
StoppedBy fault.Spent left before now pending text =
    (rest : List ℕ) × (to : RunState) × Reached to before now pending text rest × WasSpent text

-- what one turn came to
abbrev pub TurnOf : Result Turn RunFault → Run → LineReader → Option (List ℕ) → Option (List ℕ) → Option (List ℕ) → List ℕ → List ℕ → Type 0
TurnOf (Ok turn.Next) run reader left before now pending text = Progress run reader left before now pending text
TurnOf (Ok turn.End) run reader left before now pending text = Finished run before now pending text
TurnOf (Err fault) run reader left before now pending text = StoppedBy fault left before now pending text

-- the status that this ends the run with
abbrev pub status_of : RunFault → Status
status_of fault.Read = status.ReadFault
status_of fault.Write = status.WriteFault
status_of fault.Memory = status.Memory
status_of fault.LongInput = status.LongInput
status_of fault.Spent = status.Spent

-- a run that begins: nothing is read, pending or taken
pub record IsOpening (replay : Replay) : Type 0 where
  pub run : HasCome replay.run opening
  pub stands : (text : List ℕ) → Stands replay.reader (Some text) text
  pub taken : replay.reader.taken ≡ 0
  pub weight : weight replay.reader ≡ 2 ^ 40
  pub pending : replay.pending ≡ []

-- bytes were taken from the input, and the reader has counted them
pub record TookMore (left_before left_after taken_before taken_after : Option (List ℕ)) (before after : LineReader) : Type 0 where
  pub bytes : List ℕ
  pub left : Consumes left_before left_after bytes
  pub taken : Appends taken_before taken_after bytes
  pub counted : after.taken ≡ before.taken + length bytes

-- a run under way: what stands between two turns, since the run began
pub record IsUnderWay (replay : Replay) (left_before left taken_before taken got_before got : Option (List ℕ)) : Type 0 where
  pub progress : (text : List ℕ) → left_before ≡ Some text → Progress replay.run replay.reader left got_before got replay.pending text
  pub somewhere : IsSomewhere replay.run
  pub room : replay.run.lines + weight replay.reader ≤ 2 ^ 40
  pub bytes : List ℕ
  pub consumed : Consumes left_before left bytes
  pub appended : Appends taken_before taken bytes
  pub counted : replay.reader.taken ≡ length bytes

-- ---- the clauses of the loop, over what the outside tells

-- what is pending and was written is what was pending before
abbrev pub WrotePending : Option (List ℕ) → Option (List ℕ) → List ℕ → List ℕ → Type 0
WrotePending got got' pending pending' = (written : List ℕ) × Appends got got' written × (written ++ pending' ≡ pending)

-- a replay has answered a line and added the answer to what is pending
abbrev pub TakesLine : Replay → List ℕ → Replay → Type 0
TakesLine replay given replay' = Wherever replay.run (λ s. TookLine s given replay.pending replay'.run replay'.pending)

-- wherever the replay had come, a step of this line was one too many
abbrev pub SpendsOn : Replay → List ℕ → Type 0
SpendsOn replay given = Wherever replay.run (λ s. IsSpentOn s given)

-- the same of any line that is too long
abbrev pub TakesLong : Replay → Replay → Type 0
TakesLong replay replay' = (given : List ℕ) → 2 ^ 20 < length given → TakesLine replay given replay'

-- a replay has refused a line as too long
abbrev pub Refuses : Replay → Replay → Type 0
Refuses replay replay' = Wherever replay.run (λ s. HasCome replay'.run (refused s cause.LongLine).after)

-- what a turn makes of the answers so far
abbrev pub Turns : {I O : Type 0} → (I → Option (List ℕ)) → (O → Option (List ℕ)) → Result Turn RunFault → Replay → Replay → I → I → O → O → Type 0
Turns left got turn replay replay' input input' out out' = (before : Option (List ℕ)) (text : List ℕ)
    → Progress replay.run replay.reader (left input) before (got out) replay.pending text
    → TurnOf turn replay'.run replay'.reader (left input') before (got out') replay'.pending text

-- a turn that writes nothing
abbrev pub TurnsWithin : Result Turn RunFault → Replay → Replay → (left left' : Option (List ℕ)) → Type 0
TurnsWithin turn replay replay' left left' = (before now : Option (List ℕ)) (text : List ℕ)
    → Progress replay.run replay.reader left before now replay.pending text
    → TurnOf turn replay'.run replay'.reader left' before now replay'.pending text

-- bytes were taken from a source, and the reader has counted them
abbrev pub TookOf : {I : Type 0} → (I → Option (List ℕ)) → (I → Option (List ℕ)) → I → I → LineReader → LineReader → Type 0
TookOf left gone input input' reader reader' = TookMore (left input) (left input') (gone input) (gone input') reader reader'

-- the end of the input: what is pending is written, and the run ends as its status promises
abbrev pub ClosesAs : Replay → Status → (got got' : Option (List ℕ)) → Type 0
ClosesAs replay ended got got' = (before : Option (List ℕ)) (text : List ℕ)
    → Finished replay.run before got replay.pending text → Ended ended text before got'

-- where no write failed, the answers of all lines were written then
abbrev pub ClosesWhole : {O : Type 0} → (O → ℕ) → (O → Option (List ℕ)) → Replay → O → O → Type 0
ClosesWhole faults got replay out out' = ¬ (Rose (faults out) (faults out')) → (before : Option (List ℕ)) (text : List ℕ)
    → Finished replay.run before (got out) replay.pending text → WroteAnswers text [] before (got out')

-- a run that is cut off ends as its status promises
abbrev pub StopsAs : Replay → RunFault → Status → (got got' : Option (List ℕ)) → Type 0
StopsAs replay cause ended got got' = (left before : Option (List ℕ)) (text : List ℕ)
    → StoppedBy cause left before got replay.pending text → Ended ended text before got'

-- where no write failed, neither before nor now, the answers of whole lines were written then
abbrev pub StopsWhole : {O : Type 0} → (O → ℕ) → (O → Option (List ℕ)) → Replay → RunFault → Status → O → O → Type 0
StopsWhole faults got replay cause ended out out' =
    cause ≢ fault.Write → ¬ (Rose (faults out) (faults out')) → (left before : Option (List ℕ)) (text : List ℕ)
    → StoppedBy cause left before (got out) replay.pending text → WroteWhole ended text left before (got out')
