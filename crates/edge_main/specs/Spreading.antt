-- The loop of `replay` with several workers: what stands between two lines. No public clause cites these words.
use Rattle.std.specs.Prelude.{◌≡◌, ◌≢◌, ℕ, ◌+◌, ◌<◌, ◌≤◌, ◌^◌, List, [], ◌∷◌, ◌++◌, length, reverse, Option, Some, Result, Ok, Err}
use Rattle.std.specs.Io.KnownBytes.{Appends, Consumes}
use Rattle.rate_plain.specs.Laws.{LegalStepByStep}
use Rattle.rate_plain.specs.declared.entry.Entry.{Entry}
use Rattle.edge_outside.specs.Lines.{lines_of}
use Rattle.edge_outside.specs.Reading.{Stands, weight}
use Rattle.edge_outside.specs.declared.line_reader.LineReader.{LineReader}
use Rattle.edge_main.specs.declared.crew.Crew.{Crew}
use Rattle.edge_main.specs.declared.replay.Turn.{Turn}
use Rattle.edge_main.specs.declared.replay.Turn.TheVariants as turn
use Rattle.edge_main.specs.declared.replay.RunFault.{RunFault}
use Rattle.edge_main.specs.declared.replay.RunFault.TheVariants as fault
use Rattle.edge_main.specs.declared.spreading.Spreading.{Spreading}
use Rattle.edge_main.specs.declared.statuses.Status.{Status}
use Rattle.edge_main.specs.Answered.{LineKind}
use Rattle.edge_main.specs.Batched.{Asked, AreAskedBy}
use Rattle.edge_main.specs.Crewed.{IsCrewAt}
use Rattle.edge_main.specs.Spread.{SpreadState, first, IsSpreadOver, written_by}
use Rattle.edge_main.specs.SpreadEnded.{WroteSpreadFront, SpreadEnded}

-- all lines but these of the input were answered, behind this history; of the answers some were written, and these are pending
pub record HasReached (history : List Entry) (s : SpreadState) (before now : Option (List ℕ)) (pending text : List ℕ) (left : List (List ℕ)) : Type 0 where
  pub front : List (List ℕ)
  pub is_front : lines_of text ≡ front ++ left
  pub kinds : List LineKind
  pub over : IsSpreadOver front kinds history s
  pub written : List ℕ
  pub appends : Appends before now written
  pub is_pending : written ++ pending ≡ written_by kinds

-- the same of some lines that are left
abbrev pub WasCut : Option (List ℕ) → Option (List ℕ) → List ℕ → List ℕ → Type 0
WasCut before now pending text =
    (history : List Entry) × (s : SpreadState) × (left : List (List ℕ)) × HasReached history s before now pending text left

-- nothing is dealt
abbrev pub IsIdle : Crew → Type 0
IsIdle crew = (history : List Entry) × (s : SpreadState) × IsCrewAt crew history s []

-- the requests that were dealt are those of some lines
pub record IsSomewhere (crew : Crew) : Type 0 where
  pub history : List Entry
  pub from : SpreadState
  pub s : SpreadState
  pub latest : List Asked
  pub waiting : List (List ℕ)
  pub asked : AreAskedBy from waiting (reverse latest) s
  pub at : IsCrewAt crew history s latest

-- all lines but these were answered, or their requests were dealt
pub record IsUnder (crew : Crew) (before now : Option (List ℕ)) (pending text : List ℕ) (left : List (List ℕ)) : Type 0 where
  pub history : List Entry
  pub from : SpreadState
  pub s : SpreadState
  pub latest : List Asked
  pub waiting : List (List ℕ)
  pub reached : HasReached history from before now pending text (waiting ++ left)
  pub asked : AreAskedBy from waiting (reverse latest) s
  pub at : IsCrewAt crew history s latest

-- all lines but these were answered, and nothing is dealt
pub record IsSettled (crew : Crew) (before now : Option (List ℕ)) (pending text : List ℕ) (left : List (List ℕ)) : Type 0 where
  pub history : List Entry
  pub s : SpreadState
  pub reached : HasReached history s before now pending text left
  pub at : IsCrewAt crew history s []

-- what was dealt was judged
abbrev pub Settles : Spreading → Spreading → Type 0
Settles old new = (before now : Option (List ℕ)) (text : List ℕ) (left : List (List ℕ))
    → IsUnder old.crew before now old.pending text left → IsSettled new.crew before now new.pending text left

-- what was dealt stays dealt, or was judged
abbrev pub StaysUnder : Spreading → Spreading → Type 0
StaysUnder old new = (before now : Option (List ℕ)) (text : List ℕ) (left : List (List ℕ))
    → IsUnder old.crew before now old.pending text left → IsUnder new.crew before now new.pending text left

abbrev pub StaysSettled : Spreading → Spreading → Type 0
StaysSettled old new = (before now : Option (List ℕ)) (text : List ℕ) (left : List (List ℕ))
    → IsSettled old.crew before now old.pending text left → IsSettled new.crew before now new.pending text left

-- what is pending is of lines that were answered
abbrev pub Keeps : Spreading → Spreading → Type 0
Keeps old new = (before now : Option (List ℕ)) (text : List ℕ) (left : List (List ℕ))
    → IsUnder old.crew before now old.pending text left → WasCut before now new.pending text

-- this line was answered, or dealt
abbrev pub TakesLine : List ℕ → Spreading → Spreading → Type 0
TakesLine given old new = (before now : Option (List ℕ)) (text : List ℕ) (left : List (List ℕ))
    → IsUnder old.crew before now old.pending text (given ∷ left) → IsUnder new.crew before now new.pending text left

-- a line was taken
pub record GoesOn (old new : Crew) : Type 0 where
  pub lines : new.lines ≡ old.lines + 1
  pub dealt : new.dealt ≤ old.dealt + 1
  pub somewhere : IsSomewhere new

-- the next line may be read
pub record MayGoOn (old new : Spreading) : Type 0 where
  pub somewhere : IsSomewhere new.crew
  pub falls : weight new.reader < weight old.reader
  pub room : new.crew.lines + weight new.reader ≤ 2 ^ 40
  pub dealt : new.crew.dealt ≤ old.crew.dealt + 1

-- what stands before a turn: all lines before this rest of the input were answered or dealt
abbrev pub Progress : Crew → LineReader → Option (List ℕ) → Option (List ℕ) → Option (List ℕ) → List ℕ → List ℕ → Type 0
Progress crew reader left before now pending text =
    (rest : List ℕ) × Stands reader left rest × IsUnder crew before now pending text (lines_of rest)

-- the run ended before its input did
abbrev pub StoppedBy : RunFault → Option (List ℕ) → Option (List ℕ) → List ℕ → List ℕ → Type 0
StoppedBy fault.Read before now pending text = WasCut before now pending text
StoppedBy fault.Write before now pending text = LegalStepByStep → WroteSpreadFront text before now
StoppedBy fault.Memory before now pending text = WasCut before now pending text
StoppedBy fault.LongInput before now pending text = WasCut before now pending text
StoppedBy fault.Spent before now pending text = WasCut before now pending text

-- what one turn came to
abbrev pub TurnOf : Result Turn RunFault → Crew → LineReader → Option (List ℕ) → Option (List ℕ) → Option (List ℕ) → List ℕ → List ℕ → Type 0
TurnOf (Ok turn.Next) crew reader left before now pending text = Progress crew reader left before now pending text
TurnOf (Ok turn.End) crew reader left before now pending text = IsSettled crew before now pending text []
TurnOf (Err fault) crew reader left before now pending text = StoppedBy fault before now pending text

-- what a turn makes of the answers so far
abbrev pub Turns : {I O : Type 0} → (I → Option (List ℕ)) → (O → Option (List ℕ)) → Result Turn RunFault → Spreading → Spreading → I → I → O → O → Type 0
Turns left got turn old new input input' out out' = (before : Option (List ℕ)) (text : List ℕ)
    → Progress old.crew old.reader (left input) before (got out) old.pending text
    → TurnOf turn new.crew new.reader (left input') before (got out') new.pending text

-- a turn that writes nothing
abbrev pub TurnsWithin : Result Turn RunFault → Spreading → Spreading → (left left' : Option (List ℕ)) → Type 0
TurnsWithin turn old new left left' = (before now : Option (List ℕ)) (text : List ℕ)
    → Progress old.crew old.reader left before now old.pending text
    → TurnOf turn new.crew new.reader left' before now new.pending text

-- nothing is read, pending or dealt
pub record IsOpening (spreading : Spreading) : Type 0 where
  pub crew : IsCrewAt spreading.crew [] first []
  pub stands : (text : List ℕ) → Stands spreading.reader (Some text) text
  pub taken : spreading.reader.taken ≡ 0
  pub weight : weight spreading.reader ≡ 2 ^ 40
  pub pending : spreading.pending ≡ []

-- a run under way: what stands between two turns, since the run began
pub record IsUnderWay (spreading : Spreading) (left_before left taken_before taken got_before got : Option (List ℕ)) : Type 0 where
  pub progress : (text : List ℕ) → left_before ≡ Some text
      → Progress spreading.crew spreading.reader left got_before got spreading.pending text
  pub somewhere : IsSomewhere spreading.crew
  pub room : spreading.crew.lines + weight spreading.reader ≤ 2 ^ 40
  pub dealt : spreading.crew.dealt < 256
  pub bytes : List ℕ
  pub consumed : Consumes left_before left bytes
  pub appended : Appends taken_before taken bytes
  pub counted : spreading.reader.taken ≡ length bytes

-- the end of the input: what is pending is written, and the run ends as its status promises
abbrev pub ClosesAs : Spreading → Status → (got got' : Option (List ℕ)) → Type 0
ClosesAs spreading ended got got' = LegalStepByStep → (before : Option (List ℕ)) (text : List ℕ)
    → IsSettled spreading.crew before got spreading.pending text [] → SpreadEnded ended text before got'

-- a run that is cut off ends as its status promises
abbrev pub StopsAs : Spreading → RunFault → Status → (got got' : Option (List ℕ)) → Type 0
StopsAs spreading cause ended got got' = LegalStepByStep → (before : Option (List ℕ)) (text : List ℕ)
    → StoppedBy cause before got spreading.pending text → SpreadEnded ended text before got'
