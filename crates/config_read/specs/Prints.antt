-- What the text of a printed configuration is.
use Rattle.std.specs.Prelude.{ℕ, List, None, Ok}
use Rattle.serde_json.specs.Data.{Data}
use Rattle.ruleset_model.specs.ConfigParts.{ConfigParts}
use Rattle.ruleset_model.specs.Data.{config_data}
use Rattle.config_read.specs.Reads.{IsJson, IsFirstRefusal, Reads}

-- the text is a document of which nothing is refused, and which is read as the configuration
pub record IsPrintOf (text : List ℕ) (config : ConfigParts) : Type 0 where
  pub document : Data
  pub is_json : IsJson text document
  pub is_refused_nowhere : IsFirstRefusal document None
  pub is_read : Reads document (Ok (config_data config))
