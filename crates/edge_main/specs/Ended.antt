-- What the top call promises where it ended with a status: of what was written, and of what was taken.
use Rattle.std.specs.Prelude.{◌≡◌, ◌≢◌, ℕ, ◌<◌, ◌≤◌, ◌^◌, ◌↔◌, ◌⊎◌, Bool, true, false, List, [], ◌++◌, length, Option, None, Some}
use Rattle.std.specs.Io.KnownBytes.{Appends, Consumes}
use Rattle.edge_outside.specs.Faults.{Rose}
use Rattle.edge_outside.specs.Lines.{lines_of, NoNewline}
use Rattle.edge_main.specs.declared.statuses.Status.{Status}
use Rattle.edge_main.specs.declared.statuses.Status.TheVariants as status
use Rattle.edge_main.specs.declared.commands.Command.{Command}
use Rattle.edge_main.specs.declared.commands.Command.TheVariants as command
use Rattle.edge_main.specs.Answered.{RunState, opening, Answered}
use Rattle.edge_main.specs.CheckEnded.{ChecksAs}
use Rattle.edge_main.specs.Making.{MakesAs}
use Rattle.edge_main.specs.Output.{IsRun, IsRunOf, IsOutput, texts_of}
use Rattle.edge_main.specs.Spent.{WasSpent}
use Rattle.edge_main.specs.Tried.{TriesAs}

-- the output of a run over the whole input was written, and no step was one too many; `any_bad` says whether a line was
-- no item
pub record WroteOutput (any_bad : Bool) (text : List ℕ) (before now : Option (List ℕ)) : Type 0 where
  pub run : List Answered
  pub to : RunState
  pub is_run : IsRunOf text run to
  pub appends : Appends before now (texts_of run)
  pub is_bad : to.any_bad ≡ any_bad
  pub few : length to.history ≤ 2 ^ 50

-- the front, in bytes, of an output was written
abbrev pub WroteFront : List ℕ → Option (List ℕ) → Option (List ℕ) → Type 0
WroteFront text before now = (written more : List ℕ) × Appends before now written × IsOutput text (written ++ more)

-- the answers of all lines before this rest of the input were written, and nothing else
pub record WroteAnswers (text rest : List ℕ) (before now : Option (List ℕ)) : Type 0 where
  pub front : List (List ℕ)
  pub is_front : lines_of text ≡ front ++ lines_of rest
  pub run : List Answered
  pub to : RunState
  pub is_run : IsRun opening front run to
  pub appends : Appends before now (texts_of run)

-- of the rest no whole line was taken: what isn't left in the input has no newline
abbrev pub IsBegun : List ℕ → Option (List ℕ) → Type 0
IsBegun rest left = (begun after : List ℕ) × NoNewline begun × (left ≡ Some after) × (rest ≡ begun ++ after)

-- the answers of whole lines were written; where a read failed, of every line that was taken
abbrev pub WroteWhole : Status → List ℕ → Option (List ℕ) → Option (List ℕ) → Option (List ℕ) → Type 0
WroteWhole ended text left before now =
    (rest : List ℕ) × WroteAnswers text rest before now × (ended ≡ status.ReadFault → IsBegun rest left)

-- the run ended with this status
abbrev pub Ended : Status → List ℕ → Option (List ℕ) → Option (List ℕ) → Type 0
Ended status.Done text before now = WroteOutput false text before now
Ended status.BadItems text before now = WroteOutput true text before now
Ended status.ReadFault text before now = WroteFront text before now
Ended status.WriteFault text before now = WroteFront text before now
Ended status.Memory text before now = WroteFront text before now
Ended status.LongInput text before now = WroteFront text before now
Ended status.Usage text before now = Appends before now []
Ended status.AcceptFault text before now = ⊥
Ended status.Spent text before now = WroteFront text before now × WasSpent text

-- bytes were taken from the input; the run ended for the length of the input exactly where they are 2^40
pub record TookInput (left_before left_after taken_before taken_after : Option (List ℕ)) (ended : Status) : Type 0 where
  pub bytes : List ℕ
  pub left : Consumes left_before left_after bytes
  pub taken : Appends taken_before taken_after bytes
  pub limit : (ended ≡ status.LongInput) ↔ (length bytes ≡ 2 ^ 40)

-- the input was judged whole
abbrev pub IsJudged : Status → Type 0
IsJudged ended = (ended ≡ status.Done) ⊎ (ended ≡ status.BadItems)

-- ---- what the contract says of the outside, which is told by its counts of faults, by what is left to read and by what was got

-- this was said, where no write failed
abbrev pub Says : {E : Type 0} → (E → ℕ) → (E → Option (List ℕ)) → E → E → List ℕ → Type 0
Says faults got before after text = ¬ (Rose (faults before) (faults after)) → Appends (got before) (got after) text

-- what was written on this input is what the status promises
abbrev pub EndsAs : {I O : Type 0} → (I → Option (List ℕ)) → (O → Option (List ℕ)) → Status → I → O → O → Type 0
EndsAs left got ended input before after =
    (text : List ℕ) → left input ≡ Some text → Ended ended text (got before) (got after)

-- the same of the command that the words are; where they are none, nothing was written
abbrev pub EndsBy : {I O : Type 0} → Option Command → (I → Option (List ℕ)) → (O → Option (List ℕ)) → Status → I → O → O → Type 0
EndsBy None left got ended input before after = Appends (got before) (got after) []
EndsBy (Some command.Check) left got ended input before after = ChecksAs left got ended input before after
EndsBy (Some command.Replay) left got ended input before after = EndsAs left got ended input before after
EndsBy (Some (command.Make seed requests)) left got ended input before after = MakesAs got seed requests ended before after
EndsBy (Some (command.Trial seed requests)) left got ended input before after = TriesAs got seed requests ended before after

-- where no write failed, the answers of whole lines were written
abbrev pub AnswersWhole : {I O : Type 0} → (I → Option (List ℕ)) → (O → ℕ) → (O → Option (List ℕ)) → Status → I → I → O → O → Type 0
AnswersWhole left faults got ended input input' before after =
    ¬ (Rose (faults before) (faults after)) → (text : List ℕ) → left input ≡ Some text
    → WroteWhole ended text (left input') (got before) (got after)

-- the same of the command that the words are
abbrev pub AnswersBy : {I O : Type 0} → Option Command → (I → Option (List ℕ)) → (O → ℕ) → (O → Option (List ℕ)) → Status → I → I → O → O → Type 0
AnswersBy None left faults got ended input input' before after = Unit {0}
AnswersBy (Some command.Check) left faults got ended input input' before after = Unit {0}
AnswersBy (Some command.Replay) left faults got ended input input' before after =
    AnswersWhole left faults got ended input input' before after
AnswersBy (Some (command.Make seed requests)) left faults got ended input input' before after = Unit {0}
AnswersBy (Some (command.Trial seed requests)) left faults got ended input input' before after = Unit {0}

-- where the words are a command, no read and no write failed and the input had fewer than 2^40 bytes, it was judged whole,
-- or a step was one too many, or memory was refused
abbrev pub IsComplete : {I O : Type 0} → (I → ℕ) → (I → Option (List ℕ)) → (O → ℕ) → Status → I → I → O → O → Type 0
IsComplete reads left writes ended input input' before after =
    ended ≢ status.Usage → ¬ (Rose (reads input) (reads input')) → ¬ (Rose (writes before) (writes after))
    → (text rest : List ℕ) → left input ≡ Some text → left input' ≡ Some rest → length text < 2 ^ 40
    → IsJudged ended ⊎ ((ended ≡ status.Memory) ⊎ (ended ≡ status.Spent))
