-- The rulesets of a document, as rules speak of them.
use Rattle.std.specs.Prelude.{List, map}
use Rattle.serde_json.specs.Data.{Data}
use Rattle.serde_json.specs.View.{view}
use Rattle.config_read.specs.declared.sets.Sets.{Sets}

-- as JSON
abbrev pub data_of : Sets → List Data
data_of sets = map view sets.values.now
