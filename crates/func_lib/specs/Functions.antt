-- What each function of the Rules language gives: a line a function. It gives nothing where its result is missing, where
-- the arguments are of another number or kind, and where a literal is none that the function takes.
use Rattle.std.specs.Prelude.{◌≡◌, List, Option, Some}
use Rattle.edge_fields.specs.declared.function_id.FunctionId.{FunctionId}
use Rattle.edge_fields.specs.declared.function_id.FunctionId.TheVariants as function
use Rattle.edge_fields.specs.declared.value.Value.{Value}
use Rattle.edge_fields.specs.Kinds.{HasKind}
use Rattle.edge_fields.specs.Names.{function_kind}
use Rattle.func_lib.specs.Arrays.{any_of, every_of, len_of, has_key_of, has_value_of, split_of, join_of}
use Rattle.func_lib.specs.Base64.{encode_base64_of, decode_base64_of}
use Rattle.func_lib.specs.Json.{lookup_json_string_of, lookup_json_integer_of}
use Rattle.func_lib.specs.Replacing.{wildcard_replace_of, regex_replace_of}
use Rattle.func_lib.specs.Texts.{lower_of, upper_of, substring_of, remove_bytes_of, starts_with_of, ends_with_of, concat_of, to_string_of}
use Rattle.func_lib.specs.Urls.{url_decode_of}

-- what a function gives of some arguments, or nothing where its result is missing
abbrev pub function_of : FunctionId → List Value → Option Value
function_of function.Any vs = any_of vs
function_of function.All vs = every_of vs
function_of function.Lower vs = lower_of vs
function_of function.Upper vs = upper_of vs
function_of function.Len vs = len_of vs
function_of function.Substring vs = substring_of vs
function_of function.RemoveBytes vs = remove_bytes_of vs
function_of function.StartsWith vs = starts_with_of vs
function_of function.EndsWith vs = ends_with_of vs
function_of function.Concat vs = concat_of vs
function_of function.ToString vs = to_string_of vs
function_of function.HasKey vs = has_key_of vs
function_of function.HasValue vs = has_value_of vs
function_of function.Split vs = split_of vs
function_of function.Join vs = join_of vs
function_of function.LookupJsonString vs = lookup_json_string_of vs
function_of function.LookupJsonInteger vs = lookup_json_integer_of vs
function_of function.EncodeBase64 vs = encode_base64_of vs
function_of function.DecodeBase64 vs = decode_base64_of vs
function_of function.UrlDecode vs = url_decode_of vs
function_of function.WildcardReplace vs = wildcard_replace_of vs
function_of function.RegexReplace vs = regex_replace_of vs

-- what a function gives is of the function's kind
abbrev pub FunctionsKeepKinds : Type 0
FunctionsKeepKinds = (id : FunctionId) (vs : List Value) (v : Value) → function_of id vs ≡ Some v → HasKind (function_kind id) v
