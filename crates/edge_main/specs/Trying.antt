-- A trial under way. No public clause cites these words.
use Rattle.std.specs.Prelude.{◌≡◌, ◌≤◌, ℕ, List, [], ◌∷◌, ◌++◌, length, Option}
use Rattle.edge_outside.specs.Lines.{lines_of}
use Rattle.edge_main.specs.declared.statuses.Status.{Status}
use Rattle.edge_main.specs.declared.trial.Trial.{Trial}
use Rattle.edge_main.specs.Answered.{RunState, opening, Answered}
use Rattle.edge_main.specs.Output.{IsRun}
use Rattle.edge_main.specs.Running.{HasCome}
use Rattle.edge_main.specs.Spent.{IsSpentOn}
use Rattle.edge_main.specs.Summary.{requests_of, summary_text}
use Rattle.edge_main.specs.Summing.{IsOfRequests}
use Rattle.edge_main.specs.Tried.{EndedTrial}

-- the lines that were taken brought the run to a state, and its requests were counted
pub record IsTriedTo (trial : Trial) (lines : List (List ℕ)) (to : RunState) : Type 0 where
  pub run : List Answered
  pub is_run : IsRun opening lines run to
  pub come : HasCome trial.run to
  pub counted : IsOfRequests trial.summary (requests_of run)
  pub few_requests : trial.summary.requests ≤ to.lines
  pub few_full : trial.summary.full ≤ length to.history

abbrev pub IsTriedBy : Trial → List (List ℕ) → Type 0
IsTriedBy trial lines = (to : RunState) × IsTriedTo trial lines to

-- it has come so far by some lines
abbrev pub IsTriedSo : Trial → Type 0
IsTriedSo trial = (lines : List (List ℕ)) × IsTriedBy trial lines

-- whatever lines brought it so far, then this is one more
abbrev pub TriesLine : Trial → List ℕ → Trial → Type 0
TriesLine before line after = (lines : List (List ℕ)) → IsTriedBy before lines → IsTriedBy after (lines ++ line ∷ [])

-- wherever it had come, a step of this line was one too many
abbrev pub SpendsOnLine : Trial → List ℕ → Type 0
SpendsOnLine trial line = (lines : List (List ℕ)) (to : RunState) → IsTriedTo trial lines to → IsSpentOn to line

-- the text is the summary of what was tried
abbrev pub IsSummaryFor : Trial → List ℕ → Type 0
IsSummaryFor trial text = (lines : List (List ℕ)) (to : RunState) (t : IsTriedTo trial lines to) → text ≡ summary_text (requests_of t.run) (length to.history)

-- the summary of what was tried over an input was written, as the status promises
abbrev pub WritesSummary : Trial → Status → Option (List ℕ) → Option (List ℕ) → Type 0
WritesSummary trial ended before now = (input : List ℕ) → IsTriedBy trial (lines_of input) → EndedTrial ended input before now
