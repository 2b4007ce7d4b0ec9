-- What each field of a request and of its reply is.
use Rattle.std.specs.Prelude.{◌≡◌, ℕ, pos, ◌/◌, ◌==◌, Bool, List, [], ◌++◌, Option, None, Some, IsTrue, map, find, codes, if◌then◌else◌}
use Rattle.std.specs.Option.{option_map, option_map_or}
use Rattle.std.specs.Map.{keys_of, values_of}
use Rattle.std.specs.Str.{str_eq_ignore_ascii_case, str_to_ascii_lowercase}
use Rattle.edge_base.specs.Version.{version_text}
use Rattle.edge_base.specs.declared.message.Header.{Header}
use Rattle.edge_base.specs.declared.message.Request.{Request}
use Rattle.edge_base.specs.declared.message.Reply.{Reply}
use Rattle.edge_fields.specs.declared.field_id.FieldId.{FieldId}
use Rattle.edge_fields.specs.declared.field_id.FieldId.TheVariants as id
use Rattle.edge_fields.specs.declared.value.Value.{Value}
use Rattle.edge_fields.specs.declared.value.Value.TheVariants as value
use Rattle.edge_fields.specs.Target.{uri_of, path_of, query_of, arguments_of}
use Rattle.edge_fields.specs.Maps.{map_of}
use Rattle.edge_fields.specs.Names.{is_response}

-- whether a header has a name, ASCII case ignored
abbrev pub has_name : List ℕ → Header → Bool
has_name name header = str_eq_ignore_ascii_case header.name name

-- the value of the first header of a name, or the empty text
abbrev pub first_value : List ℕ → List Header → List ℕ
first_value name headers = option_map_or (λ (header : Header). header.value) (find (has_name name) headers) []

-- the headers as pairs of a name in lower case and a value
abbrev pub pairs_of : List Header → List (List ℕ × List ℕ)
pairs_of headers = map (λ (header : Header). (str_to_ascii_lowercase header.name, header.value)) headers

-- the host as the client names it
abbrev pub host_of : Request → List ℕ
host_of request = first_value (codes "host") request.headers

-- the scheme that the listener tells
abbrev pub scheme_of : Request → List ℕ
scheme_of request = if request.ssl then codes "https" else codes "http"

-- the version of HTTP
abbrev pub version_of : Request → List ℕ
version_of request = version_text request.minor

-- the uri with its scheme and its host in front
abbrev pub full_uri_of : Request → List ℕ
full_uri_of request = scheme_of request ++ codes "://" ++ host_of request ++ uri_of request.target

-- an array of texts
abbrev pub texts : List (List ℕ) → Value
texts items = value.Array (map value.Text items)

-- a field of a request and of its reply, if there is one
abbrev pub field_of : Request → Option Reply → FieldId → Option Value
field_of request reply id.Host = Some (value.Text (host_of request))
field_of request reply id.Cookie = Some (value.Text (first_value (codes "cookie") request.headers))
field_of request reply id.Referer = Some (value.Text (first_value (codes "referer") request.headers))
field_of request reply id.UserAgent = Some (value.Text (first_value (codes "user-agent") request.headers))
field_of request reply id.Method = Some (value.Text request.method)
field_of request reply id.Uri = Some (value.Text (uri_of request.target))
field_of request reply id.Path = Some (value.Text (path_of request.target))
field_of request reply id.Query = Some (value.Text (query_of request.target))
field_of request reply id.FullUri = Some (value.Text (full_uri_of request))
field_of request reply id.Version = Some (value.Text (version_of request))
field_of request reply id.Source = Some (value.Addr request.from)
field_of request reply id.Ssl = Some (value.Bool request.ssl)
field_of request reply id.Timestamp = Some (value.Num (pos (request.at / 1000)))
field_of request reply id.Headers = Some (value.Map (map_of (pairs_of request.headers)))
field_of request reply id.HeaderNames = Some (texts (keys_of (pairs_of request.headers)))
field_of request reply id.HeaderValues = Some (texts (values_of (pairs_of request.headers)))
field_of request reply id.Args = Some (value.Map (map_of (arguments_of (query_of request.target))))
field_of request reply id.ArgNames = Some (texts (keys_of (arguments_of (query_of request.target))))
field_of request reply id.ArgValues = Some (texts (values_of (arguments_of (query_of request.target))))
field_of request reply id.ResponseCode = option_map (λ (given : Reply). value.Num (pos given.status)) reply
field_of request reply id.ResponseHeaders =
    option_map (λ (given : Reply). value.Map (map_of (pairs_of given.headers))) reply

-- a field of a reply, where there is none
abbrev pub LacksReply : Option Reply → FieldId → Type 0
LacksReply reply id = IsTrue (is_response id) × (reply ≡ None)
