-- What `replay` with several workers promises where it ended with a status.
use Rattle.std.specs.Prelude.{◌≡◌, ℕ, Bool, true, false, List, [], ◌++◌, Option, Some}
use Rattle.std.specs.Io.KnownBytes.{Appends}
use Rattle.rate_plain.specs.declared.entry.Entry.{Entry}
use Rattle.edge_outside.specs.Lines.{lines_of}
use Rattle.edge_main.specs.declared.statuses.Status.{Status}
use Rattle.edge_main.specs.declared.statuses.Status.TheVariants as status
use Rattle.edge_main.specs.Answered.{LineKind}
use Rattle.edge_main.specs.Spread.{SpreadState, IsSpread, IsSpreadOver, written_by}

-- an output of the whole input was written; `any_bad` says whether a line was no item
pub record WroteSpread (any_bad : Bool) (text : List ℕ) (before now : Option (List ℕ)) : Type 0 where
  pub kinds : List LineKind
  pub history : List Entry
  pub to : SpreadState
  pub over : IsSpreadOver (lines_of text) kinds history to
  pub appends : Appends before now (written_by kinds)
  pub is_bad : to.any_bad ≡ any_bad

-- the front, in bytes, of an output was written
abbrev pub WroteSpreadFront : List ℕ → Option (List ℕ) → Option (List ℕ) → Type 0
WroteSpreadFront text before now = (written more : List ℕ) × Appends before now written × IsSpread text (written ++ more)

-- the run ended with this status
abbrev pub SpreadEnded : Status → List ℕ → Option (List ℕ) → Option (List ℕ) → Type 0
SpreadEnded status.Done text before now = WroteSpread false text before now
SpreadEnded status.BadItems text before now = WroteSpread true text before now
SpreadEnded status.Usage text before now = Appends before now []
SpreadEnded status.AcceptFault text before now = ⊥
SpreadEnded status.ReadFault text before now = WroteSpreadFront text before now
SpreadEnded status.WriteFault text before now = WroteSpreadFront text before now
SpreadEnded status.Memory text before now = WroteSpreadFront text before now
SpreadEnded status.LongInput text before now = WroteSpreadFront text before now
SpreadEnded status.Spent text before now = WroteSpreadFront text before now

-- what was written on this input is what the status promises
abbrev pub SpreadEndsAs : {I O : Type 0} → (I → Option (List ℕ)) → (O → Option (List ℕ)) → Status → I → O → O → Type 0
SpreadEndsAs left got ended input before after =
    (text : List ℕ) → left input ≡ Some text → SpreadEnded ended text (got before) (got after)
