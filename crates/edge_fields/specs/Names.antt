-- The names and the kinds of fields and of functions.
use Rattle.std.specs.Prelude.{◌≢◌, ℕ, Bool, true, false, List, All, codes}
use Rattle.edge_fields.specs.declared.kind.Basic.TheVariants as basic
use Rattle.edge_fields.specs.declared.kind.Kind.{Kind}
use Rattle.edge_fields.specs.declared.kind.Kind.TheVariants as kind
use Rattle.edge_fields.specs.declared.field_id.FieldId.{FieldId}
use Rattle.edge_fields.specs.declared.field_id.FieldId.TheVariants as id
use Rattle.edge_fields.specs.declared.function_id.FunctionId.{FunctionId}
use Rattle.edge_fields.specs.declared.function_id.FunctionId.TheVariants as function

-- the name of a field
abbrev pub field_name : FieldId → List ℕ
field_name id.Host = codes "http.host"
field_name id.Cookie = codes "http.cookie"
field_name id.Referer = codes "http.referer"
field_name id.UserAgent = codes "http.user_agent"
field_name id.Method = codes "http.request.method"
field_name id.Uri = codes "http.request.uri"
field_name id.Path = codes "http.request.uri.path"
field_name id.Query = codes "http.request.uri.query"
field_name id.FullUri = codes "http.request.full_uri"
field_name id.Version = codes "http.request.version"
field_name id.Source = codes "ip.src"
field_name id.Ssl = codes "ssl"
field_name id.Timestamp = codes "http.request.timestamp.sec"
field_name id.Headers = codes "http.request.headers"
field_name id.HeaderNames = codes "http.request.headers.names"
field_name id.HeaderValues = codes "http.request.headers.values"
field_name id.Args = codes "http.request.uri.args"
field_name id.ArgNames = codes "http.request.uri.args.names"
field_name id.ArgValues = codes "http.request.uri.args.values"
field_name id.ResponseCode = codes "http.response.code"
field_name id.ResponseHeaders = codes "http.response.headers"

-- the kind of a field's values
abbrev pub field_kind : FieldId → Kind
field_kind id.Host = kind.One basic.Text
field_kind id.Cookie = kind.One basic.Text
field_kind id.Referer = kind.One basic.Text
field_kind id.UserAgent = kind.One basic.Text
field_kind id.Method = kind.One basic.Text
field_kind id.Uri = kind.One basic.Text
field_kind id.Path = kind.One basic.Text
field_kind id.Query = kind.One basic.Text
field_kind id.FullUri = kind.One basic.Text
field_kind id.Version = kind.One basic.Text
field_kind id.Source = kind.One basic.Addr
field_kind id.Ssl = kind.One basic.Bool
field_kind id.Timestamp = kind.One basic.Num
field_kind id.Headers = kind.Map
field_kind id.HeaderNames = kind.Array basic.Text
field_kind id.HeaderValues = kind.Array basic.Text
field_kind id.Args = kind.Map
field_kind id.ArgNames = kind.Array basic.Text
field_kind id.ArgValues = kind.Array basic.Text
field_kind id.ResponseCode = kind.One basic.Num
field_kind id.ResponseHeaders = kind.Map

-- whether a field is one of the reply
abbrev pub is_response : FieldId → Bool
is_response id.ResponseCode = true
is_response id.ResponseHeaders = true
is_response other = false

-- the name of a function
abbrev pub function_name : FunctionId → List ℕ
function_name function.Any = codes "any"
function_name function.All = codes "all"
function_name function.Lower = codes "lower"
function_name function.Upper = codes "upper"
function_name function.Len = codes "len"
function_name function.Substring = codes "substring"
function_name function.RemoveBytes = codes "remove_bytes"
function_name function.StartsWith = codes "starts_with"
function_name function.EndsWith = codes "ends_with"
function_name function.Concat = codes "concat"
function_name function.ToString = codes "to_string"
function_name function.HasKey = codes "has_key"
function_name function.HasValue = codes "has_value"
function_name function.Split = codes "split"
function_name function.Join = codes "join"
function_name function.LookupJsonString = codes "lookup_json_string"
function_name function.LookupJsonInteger = codes "lookup_json_integer"
function_name function.EncodeBase64 = codes "encode_base64"
function_name function.DecodeBase64 = codes "decode_base64"
function_name function.UrlDecode = codes "url_decode"
function_name function.WildcardReplace = codes "wildcard_replace"
function_name function.RegexReplace = codes "regex_replace"

-- none of these functions has the name
abbrev pub AreUnnamed : List FunctionId → List ℕ → Type 0
AreUnnamed functions name = All (λ id. function_name id ≢ name) functions

-- the kind of what a function gives, applied to values
abbrev pub function_kind : FunctionId → Kind
function_kind function.Any = kind.One basic.Bool
function_kind function.All = kind.One basic.Bool
function_kind function.Lower = kind.One basic.Text
function_kind function.Upper = kind.One basic.Text
function_kind function.Len = kind.One basic.Num
function_kind function.Substring = kind.One basic.Text
function_kind function.RemoveBytes = kind.One basic.Text
function_kind function.StartsWith = kind.One basic.Bool
function_kind function.EndsWith = kind.One basic.Bool
function_kind function.Concat = kind.One basic.Text
function_kind function.ToString = kind.One basic.Text
function_kind function.HasKey = kind.One basic.Bool
function_kind function.HasValue = kind.One basic.Bool
function_kind function.Split = kind.Array basic.Text
function_kind function.Join = kind.One basic.Text
function_kind function.LookupJsonString = kind.One basic.Text
function_kind function.LookupJsonInteger = kind.One basic.Num
function_kind function.EncodeBase64 = kind.One basic.Text
function_kind function.DecodeBase64 = kind.One basic.Text
function_kind function.UrlDecode = kind.One basic.Text
function_kind function.WildcardReplace = kind.One basic.Text
function_kind function.RegexReplace = kind.One basic.Text
