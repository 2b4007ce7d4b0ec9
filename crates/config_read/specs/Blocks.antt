-- The parameters of `block`: the response.
use Rattle.std.specs.Prelude.{ℕ, ◌++◌, [], ◌∷◌, if◌then◌else◌, List, codes, Option, option_map}
use Rattle.serde_json.specs.Data.{Data}
use Rattle.serde_json.specs.Find.{get, as_str, as_object}
use Rattle.edge_base.specs.Bytes.{newline}
use Rattle.ruleset_model.specs.declared.phase.Phase.{Phase}
use Rattle.ruleset_model.specs.declared.verdict.Response.{Response}
use Rattle.ruleset_model.specs.Phases.{is_limiting}
use Rattle.config_read.specs.Places.{child}
use Rattle.config_read.specs.Refusals.{Table, ◌▸◌}
use Rattle.config_read.specs.Members.{member, value_or, typed}
use Rattle.config_read.specs.Forms.{block_status, header_value}

unfoldable pub response_table : List ℕ → Data → Table
response_table place d =
    typed block_status place (codes "status_code") d
    ▸ typed as_str place (codes "content") d
    ▸ typed header_value place (codes "content_type") d

unfoldable pub block_table : List ℕ → Data → Table
block_table place d =
    typed as_object place (codes "response") d
    ▸ response_table (child place (codes "response")) (member (codes "response") d)

-- the status with which rules of the phase block
abbrev pub default_status : Phase → ℕ
default_status phase = if is_limiting phase then 429 else 403

-- the status of a response, and its type
abbrev pub status_at : Phase → Data → ℕ
status_at phase d = value_or block_status (default_status phase) (codes "status_code") d

abbrev pub content_type_at : Data → List ℕ
content_type_at d = value_or header_value (codes "text/plain") (codes "content_type") d

-- the response that an object stands for
unfoldable pub response_at : Phase → Data → Response
response_at phase d = record {
  status_code = status_at phase d;
  content = value_or as_str (codes "blocked" ++ newline ∷ []) (codes "content") d;
  content_type = content_type_at d;
}

abbrev pub block_at : Phase → Data → Option Response
block_at phase d = option_map (response_at phase) (get (codes "response") d)
