-- The field and the function of a name.
use Rattle.std.specs.Prelude.{ℕ, List, [], ◌∷◌, Option, bytes_eq}
use Rattle.std.specs.List.{find}
use Rattle.edge_fields.specs.declared.field_id.FieldId.{FieldId}
use Rattle.edge_fields.specs.declared.field_id.FieldId.TheVariants as id
use Rattle.edge_fields.specs.declared.function_id.FunctionId.{FunctionId}
use Rattle.edge_fields.specs.declared.function_id.FunctionId.TheVariants as function
use Rattle.edge_fields.specs.Names.{field_name, function_name}

-- every field
abbrev pub fields : List FieldId
fields =
    id.Host ∷ id.Cookie ∷ id.Referer ∷ id.UserAgent ∷ id.Method ∷ id.Uri ∷ id.Path ∷ id.Query ∷ id.FullUri ∷
    id.Version ∷ id.Source ∷ id.Ssl ∷ id.Timestamp ∷ id.Headers ∷ id.HeaderNames ∷ id.HeaderValues ∷ id.Args ∷
    id.ArgNames ∷ id.ArgValues ∷ id.ResponseCode ∷ id.ResponseHeaders ∷ []

-- the field of a name, if there is one
unfoldable pub field_of_name : List ℕ → Option FieldId
field_of_name name = find (λ id. bytes_eq (field_name id) name) fields

-- every function
abbrev pub functions : List FunctionId
functions =
    function.Any ∷ function.All ∷ function.Lower ∷ function.Upper ∷ function.Len ∷ function.Substring ∷
    function.RemoveBytes ∷ function.StartsWith ∷ function.EndsWith ∷ function.Concat ∷ function.ToString ∷
    function.HasKey ∷ function.HasValue ∷ function.Split ∷ function.Join ∷ function.LookupJsonString ∷
    function.LookupJsonInteger ∷ function.EncodeBase64 ∷ function.DecodeBase64 ∷ function.UrlDecode ∷
    function.WildcardReplace ∷ function.RegexReplace ∷ []

-- the function of a name, if there is one
unfoldable pub function_of_name : List ℕ → Option FunctionId
function_of_name name = find (λ id. bytes_eq (function_name id) name) functions
