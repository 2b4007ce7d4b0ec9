-- What a document stands for, what of it is refused first, and what may be answered for it.
use Rattle.std.specs.Prelude.{◌≡◌, ◌⊎◌, ℕ, nat_lt, List, map, length, Option, Some, None, Result, Ok, Err, IsUtf8}
use Rattle.serde_json.specs.Data.{Data}
use Rattle.serde_json.specs.Read.{read}
use Rattle.edge_fields.specs.declared.kind.Basic.{Basic}
use Rattle.list_store.specs.Listed.{list_kinds_of}
use Rattle.ruleset_model.specs.ConfigParts.{ConfigParts}
use Rattle.ruleset_model.specs.Data.{ConfigData, set_data, config_data}
use Rattle.config_read.specs.declared.document.Document.{Document}
use Rattle.config_read.specs.declared.fault.Cause.TheVariants as cause
use Rattle.config_read.specs.declared.fault.ConfigFault.{ConfigFault}
use Rattle.config_read.specs.declared.fault.ConfigFault.TheVariants as fault
use Rattle.config_read.specs.Places.{whole}
use Rattle.config_read.specs.Refusals.{Refusal, Table, ◌▸◌, refuse, refuse_unless, Refuses, IsSettled}
use Rattle.config_read.specs.Members.{an_object}
use Rattle.config_read.specs.Judged.{Judgement, judged, judged_without_patterns}
use Rattle.config_read.specs.ListsOf.{form_table, lists_table, lists_at}
use Rattle.config_read.specs.RulesetsOf.{rulesets_table, rulesets_at}

-- the whole document, in the reading order; expressions may speak of its lists
unfoldable pub document_table : (List (List ℕ × Basic) → Judgement) → Data → Table
document_table judge d =
    an_object whole d ▸ form_table d ▸ lists_table d ▸ rulesets_table (judge (list_kinds_of (lists_at d))) d

-- the configuration that a document stands for, where nothing of it is refused
abbrev pub stands : Data → ConfigData
stands d = record { lists = lists_at d; rulesets = rulesets_at d }

-- what of the document is refused first, patterns left out: none, or this
abbrev pub IsFirstRefusal : Data → Option Refusal → Type 0
IsFirstRefusal d = document_table judged_without_patterns d

-- no document has two first refusals, nor one where nothing is refused
abbrev pub FirstRefusalIsOne : Type 0
FirstRefusalIsOne = (d : Data) → IsSettled (IsFirstRefusal d)

-- what may be answered for a document: the configuration that it stands for, where nothing of it is refused, or what is
-- refused first; a pattern may be refused before other things
abbrev pub Reads : Data → Result ConfigData ConfigFault → Type 0
Reads d (Ok config) = document_table judged d None × (config ≡ stands d)
Reads d (Err e) = Refuses e (document_table judged d)

-- what was read, as data
abbrev pub given_of : Result Document ConfigFault → Result ConfigData ConfigFault
given_of (Ok made) = Ok (record { lists = made.lists; rulesets = map set_data made.rulesets })
given_of (Err e) = Err e

-- the same of a configuration
abbrev pub config_of : Result ConfigParts ConfigFault → Result ConfigData ConfigFault
config_of (Ok config) = Ok (config_data config)
config_of (Err e) = Err e

-- the text is UTF-8, and is this JSON value
abbrev pub IsJson : List ℕ → Data → Type 0
IsJson bytes d = IsUtf8 bytes × (read bytes ≡ Some d)

-- the bytes of a document: too many, no JSON, or a document
abbrev pub bytes_table : List ℕ → Table
bytes_table bytes =
    refuse whole cause.TooLong (nat_lt 1048576 (length bytes))
    ▸ refuse_unless whole cause.NotJson ((d : Data) × IsJson bytes d)

-- what may be answered for the bytes of a document
abbrev pub ReadsBytes : List ℕ → Result ConfigData ConfigFault → Type 0
ReadsBytes bytes (Ok config) = bytes_table bytes None × ((d : Data) × IsJson bytes d × Reads d (Ok config))
ReadsBytes bytes (Err e) = Refuses e (bytes_table bytes) ⊎ (bytes_table bytes None × ((d : Data) × IsJson bytes d × Reads d (Err e)))
