-- A table of names has no other rows than its type has variants.
use Rattle.std.proofs.Common.{◌≡◌, ◌≢◌, ℕ, List, [], ◌∷◌, All, Option, None, Some, MatchOption, lit<}
use Rattle.edge_fields.specs.declared.field_id.FieldId.{FieldId}
use Rattle.edge_fields.specs.declared.field_id.FieldId.TheVariants as id
use Rattle.edge_fields.specs.declared.function_id.FunctionId.{FunctionId}
use Rattle.edge_fields.specs.declared.function_id.FunctionId.TheVariants as function
use Rattle.edge_fields.specs.Names.{field_name, function_name}

abbrev pub fields : List FieldId
fields =
    id.Host ∷ id.Cookie ∷ id.Referer ∷ id.UserAgent ∷ id.Method ∷ id.Uri ∷ id.Path ∷ id.Query ∷ id.FullUri ∷
    id.Version ∷ id.Source ∷ id.Ssl ∷ id.Timestamp ∷ id.Headers ∷ id.HeaderNames ∷ id.HeaderValues ∷ id.Args ∷
    id.ArgNames ∷ id.ArgValues ∷ id.ResponseCode ∷ id.ResponseHeaders ∷ []

-- what holds of each row holds of each variant
All-fields : (P : FieldId → Type 0) → All P fields → (x : FieldId) → P x
All-fields P h id.Host = h 0 id.Host (lit< tt)
All-fields P h id.Cookie = h 1 id.Cookie (lit< tt)
All-fields P h id.Referer = h 2 id.Referer (lit< tt)
All-fields P h id.UserAgent = h 3 id.UserAgent (lit< tt)
All-fields P h id.Method = h 4 id.Method (lit< tt)
All-fields P h id.Uri = h 5 id.Uri (lit< tt)
All-fields P h id.Path = h 6 id.Path (lit< tt)
All-fields P h id.Query = h 7 id.Query (lit< tt)
All-fields P h id.FullUri = h 8 id.FullUri (lit< tt)
All-fields P h id.Version = h 9 id.Version (lit< tt)
All-fields P h id.Source = h 10 id.Source (lit< tt)
All-fields P h id.Ssl = h 11 id.Ssl (lit< tt)
All-fields P h id.Timestamp = h 12 id.Timestamp (lit< tt)
All-fields P h id.Headers = h 13 id.Headers (lit< tt)
All-fields P h id.HeaderNames = h 14 id.HeaderNames (lit< tt)
All-fields P h id.HeaderValues = h 15 id.HeaderValues (lit< tt)
All-fields P h id.Args = h 16 id.Args (lit< tt)
All-fields P h id.ArgNames = h 17 id.ArgNames (lit< tt)
All-fields P h id.ArgValues = h 18 id.ArgValues (lit< tt)
All-fields P h id.ResponseCode = h 19 id.ResponseCode (lit< tt)
All-fields P h id.ResponseHeaders = h 20 id.ResponseHeaders (lit< tt)

pub named_of_fields : (name : List ℕ) (found : Option FieldId) → MatchOption found (All (λ x. field_name x ≢ name) fields) (λ x. field_name x ≡ name) → MatchOption found ((x : FieldId) → field_name x ≢ name) (λ x. field_name x ≡ name)
named_of_fields name None h = All-fields _ h
named_of_fields name (Some x) h = h

abbrev pub functions : List FunctionId
functions =
    function.Any ∷ function.All ∷ function.Lower ∷ function.Upper ∷ function.Len ∷ function.Substring ∷
    function.RemoveBytes ∷ function.StartsWith ∷ function.EndsWith ∷ function.Concat ∷ function.ToString ∷
    function.HasKey ∷ function.HasValue ∷ function.Split ∷ function.Join ∷ function.LookupJsonString ∷
    function.LookupJsonInteger ∷ function.EncodeBase64 ∷ function.DecodeBase64 ∷ function.UrlDecode ∷
    function.WildcardReplace ∷ function.RegexReplace ∷ []

-- what holds of each row holds of each variant
All-functions : (P : FunctionId → Type 0) → All P functions → (x : FunctionId) → P x
All-functions P h function.Any = h 0 function.Any (lit< tt)
All-functions P h function.All = h 1 function.All (lit< tt)
All-functions P h function.Lower = h 2 function.Lower (lit< tt)
All-functions P h function.Upper = h 3 function.Upper (lit< tt)
All-functions P h function.Len = h 4 function.Len (lit< tt)
All-functions P h function.Substring = h 5 function.Substring (lit< tt)
All-functions P h function.RemoveBytes = h 6 function.RemoveBytes (lit< tt)
All-functions P h function.StartsWith = h 7 function.StartsWith (lit< tt)
All-functions P h function.EndsWith = h 8 function.EndsWith (lit< tt)
All-functions P h function.Concat = h 9 function.Concat (lit< tt)
All-functions P h function.ToString = h 10 function.ToString (lit< tt)
All-functions P h function.HasKey = h 11 function.HasKey (lit< tt)
All-functions P h function.HasValue = h 12 function.HasValue (lit< tt)
All-functions P h function.Split = h 13 function.Split (lit< tt)
All-functions P h function.Join = h 14 function.Join (lit< tt)
All-functions P h function.LookupJsonString = h 15 function.LookupJsonString (lit< tt)
All-functions P h function.LookupJsonInteger = h 16 function.LookupJsonInteger (lit< tt)
All-functions P h function.EncodeBase64 = h 17 function.EncodeBase64 (lit< tt)
All-functions P h function.DecodeBase64 = h 18 function.DecodeBase64 (lit< tt)
All-functions P h function.UrlDecode = h 19 function.UrlDecode (lit< tt)
All-functions P h function.WildcardReplace = h 20 function.WildcardReplace (lit< tt)
All-functions P h function.RegexReplace = h 21 function.RegexReplace (lit< tt)

pub named_of_functions : (name : List ℕ) (found : Option FunctionId) → MatchOption found (All (λ x. function_name x ≢ name) functions) (λ x. function_name x ≡ name) → MatchOption found ((x : FunctionId) → function_name x ≢ name) (λ x. function_name x ≡ name)
named_of_functions name None h = All-functions _ h
named_of_functions name (Some x) h = h
