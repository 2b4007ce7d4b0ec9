-- What `make --run` promises where it ended with a status.
use Rattle.std.specs.Prelude.{◌≡◌, ◌≤◌, ◌^◌, ℕ, Bool, true, false, List, [], ◌++◌, length, Option}
use Rattle.std.specs.Io.KnownBytes.{Appends}
use Rattle.edge_main.specs.declared.statuses.Status.{Status}
use Rattle.edge_main.specs.declared.statuses.Status.TheVariants as status
use Rattle.edge_main.specs.Answered.{RunState, Answered}
use Rattle.edge_main.specs.Making.{made_trace, WroteFrontOf}
use Rattle.edge_main.specs.Output.{IsRunOf}
use Rattle.edge_main.specs.Spent.{WasSpent}
use Rattle.edge_main.specs.Summary.{requests_of, summary_text}

-- the text is the summary of a run over this input; `any_bad` says whether a line was no item
pub record IsSummary (any_bad : Bool) (input text : List ℕ) : Type 0 where
  pub run : List Answered
  pub to : RunState
  pub is_run : IsRunOf input run to
  pub is_text : text ≡ summary_text (requests_of run) (length to.history)
  pub is_bad : to.any_bad ≡ any_bad
  pub few : length to.history ≤ 2 ^ 50

-- the summary was written
abbrev pub WroteSummary : Bool → List ℕ → Option (List ℕ) → Option (List ℕ) → Type 0
WroteSummary any_bad input before now = (text : List ℕ) × IsSummary any_bad input text × Appends before now text

-- a front of the summary was written
abbrev pub WroteSummaryFront : List ℕ → Option (List ℕ) → Option (List ℕ) → Type 0
WroteSummaryFront input before now = (any_bad : Bool) × (text : List ℕ) × IsSummary any_bad input text × WroteFrontOf text before now

-- the run ended with this status
abbrev pub EndedTrial : Status → List ℕ → Option (List ℕ) → Option (List ℕ) → Type 0
EndedTrial status.Done input before now = WroteSummary false input before now
EndedTrial status.BadItems input before now = WroteSummary true input before now
EndedTrial status.WriteFault input before now = WroteSummaryFront input before now
EndedTrial status.Memory input before now = Appends before now []
EndedTrial status.Spent input before now = Appends before now [] × WasSpent input
EndedTrial status.Usage input before now = ⊥
EndedTrial status.ReadFault input before now = ⊥
EndedTrial status.AcceptFault input before now = ⊥
EndedTrial status.LongInput input before now = ⊥

-- what was written for this seed and so many requests is what the status promises
abbrev pub TriesAs : {O : Type 0} → (O → Option (List ℕ)) → ℕ → ℕ → Status → O → O → Type 0
TriesAs got seed requests ended before after = EndedTrial ended (made_trace seed requests) (got before) (got after)
