-- What `check` says of the text of a document: the line that it writes, and the status that it ends with.
use Rattle.std.specs.Prelude.{◌≡◌, ℕ, List, [], ◌∷◌, ◌++◌, length, codes, decimal, Result, Ok, Err}
use Rattle.std.specs.List.{sum_by}
use Rattle.edge_base.specs.Bytes.{newline}
use Rattle.ruleset_model.specs.Data.{ConfigData, RulesetData}
use Rattle.config_read.specs.declared.fault.ConfigFault.{ConfigFault}
use Rattle.config_read.specs.declared.fault.ConfigFault.TheVariants as fault
use Rattle.config_read.specs.Causes.{cause_name}
use Rattle.config_read.specs.Reads.{ReadsBytes}
use Rattle.edge_main.specs.declared.statuses.Status.{Status}
use Rattle.edge_main.specs.declared.statuses.Status.TheVariants as status

-- the line of a configuration with so many rulesets, and so many rules in all of them
abbrev pub ok_line : ℕ → ℕ → List ℕ
ok_line rulesets rules = codes "ok " ++ decimal rulesets ++ codes " " ++ decimal rules ++ newline ∷ []

-- the line of a document that is refused at a place for a cause
abbrev pub refused_line : List ℕ → List ℕ → List ℕ
refused_line place cause = codes "refused " ++ place ++ codes " " ++ cause ++ newline ∷ []

-- the rules of all rulesets
abbrev pub rules_in : List RulesetData → ℕ
rules_in sets = sum_by (λ (set : RulesetData). length set.rules) sets

-- an answer to a document: its line, and the status that the run ends with
abbrev pub IsTold : Result ConfigData ConfigFault → List ℕ → Status → Type 0
IsTold (Ok config) line ended = (line ≡ ok_line (length config.rulesets) (rules_in config.rulesets)) × (ended ≡ status.Done)
IsTold (Err (fault.Refused place cause)) line ended = (line ≡ refused_line place (cause_name cause)) × (ended ≡ status.BadItems)
IsTold (Err fault.Memory) line ended = ⊥

-- the line of a text, and how the run ends: what may be answered for its bytes
abbrev pub IsChecked : List ℕ → List ℕ → Status → Type 0
IsChecked text line ended = (answer : Result ConfigData ConfigFault) × ReadsBytes text answer × IsTold answer line ended
