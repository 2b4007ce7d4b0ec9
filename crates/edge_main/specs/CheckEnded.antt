-- What `check` promises where it ended with a status.
use Rattle.std.specs.Prelude.{◌≡◌, ◌⊎◌, ◌<◌, ℕ, List, [], ◌++◌, length, Option, Some}
use Rattle.std.specs.List.{sum_by}
use Rattle.std.specs.Io.KnownBytes.{Appends}
use Rattle.edge_outside.specs.Told.{AppendsFront}
use Rattle.ruleset_model.specs.declared.ruleset.Ruleset.{Ruleset}
use Rattle.edge_main.specs.declared.statuses.Status.{Status}
use Rattle.edge_main.specs.declared.statuses.Status.TheVariants as status
use Rattle.edge_main.specs.Checked.{IsChecked}
use Rattle.edge_main.specs.Document.{kept_of}

-- the line of the text was written
abbrev pub WroteLine : Status → List ℕ → Option (List ℕ) → Option (List ℕ) → Type 0
WroteLine ended text before now = (line : List ℕ) × IsChecked text line ended × Appends before now line

-- the front, in bytes, of a line of the text was written
abbrev pub WroteLineFront : List ℕ → Option (List ℕ) → Option (List ℕ) → Type 0
WroteLineFront text before now =
    (written more : List ℕ) × (ended : Status) × Appends before now written × IsChecked text (written ++ more) ended

-- the run ended with this status
abbrev pub EndedCheck : Status → List ℕ → Option (List ℕ) → Option (List ℕ) → Type 0
EndedCheck status.Done text before now = WroteLine status.Done text before now
EndedCheck status.BadItems text before now = WroteLine status.BadItems text before now
EndedCheck status.ReadFault text before now = Appends before now []
EndedCheck status.WriteFault text before now = WroteLineFront text before now
EndedCheck status.Memory text before now = Appends before now []
EndedCheck status.LongInput text before now = Appends before now []
EndedCheck status.Usage text before now = Appends before now []
EndedCheck status.AcceptFault text before now = ⊥
EndedCheck status.Spent text before now = ⊥

-- what was written on this input is what the status promises
abbrev pub ChecksAs : {I O : Type 0} → (I → Option (List ℕ)) → (O → Option (List ℕ)) → Status → I → O → O → Type 0
ChecksAs left got ended input before after =
    (text : List ℕ) → left input ≡ Some text → EndedCheck ended text (got before) (got after)

-- ---- inside a check; no public clause cites these words
-- the rules of all rulesets
abbrev pub rules_kept : List Ruleset → ℕ
rules_kept sets = sum_by (λ (set : Ruleset). length set.rules) sets

-- the line of any text of which this is kept
abbrev pub IsLine : Option (List ℕ) → List ℕ → Status → Type 0
IsLine kept line ended = (text : List ℕ) → kept ≡ kept_of text → IsChecked text line ended

-- the line was written, and the run ends so; or a front of it, and a write failed
abbrev pub WritesLine : List ℕ → Status → Option (List ℕ) → Option (List ℕ) → Status → Type 0
WritesLine line ended before now result =
    ((result ≡ ended) × Appends before now line) ⊎ ((result ≡ status.WriteFault) × AppendsFront before now line)
