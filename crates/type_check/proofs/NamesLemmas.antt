-- A name is looked up as it is defined.
use Rattle.std.proofs.Common.{◌≡◌, ◌≢◌, ℕ, Bool, true, false, cond, List, [], ◌∷◌, Option, None, Some, MatchOption, find, refl, sym, ap, ◌∙◌, subst, bytes_eq}
use Rattle.std.proofs.lemmas.Slice.Eq.{bytes_eq-Decides}
use Rattle.edge_fields.specs.declared.field_id.FieldId.{FieldId}
use Rattle.edge_fields.specs.declared.field_id.FieldId.TheVariants as id
use Rattle.edge_fields.specs.declared.function_id.FunctionId.{FunctionId}
use Rattle.edge_fields.specs.declared.function_id.FunctionId.TheVariants as function
use Rattle.edge_fields.specs.Names.{field_name, function_name}
use Rattle.type_check.specs.NamesFound.{field_of_name, fields, function_of_name, functions}

module _ {X : Type 0} (name_of : X → List ℕ) (name : List ℕ) where
  passed_by : (x : X) (rest : Option X) (same : Bool) → bytes_eq (name_of x) name ≡ same → name_of x ≢ name → rest ≡ None → cond same (Some x) rest ≡ None
  passed_by x rest true same other none = absurd (other ((bytes_eq-Decides (name_of x) name).0 same))
  passed_by x rest false same other none = none

  find-none : (xs : List X) → ((x : X) → name_of x ≢ name) → find (λ x. bytes_eq (name_of x) name) xs ≡ None
  find-none [] other = refl
  find-none (x ∷ xs) other = passed_by x (find (λ y. bytes_eq (name_of y) name) xs) (bytes_eq (name_of x) name) refl (other x) (find-none xs other)

  found_by : (x y : X) (rest : Option X) (same : Bool) → bytes_eq (name_of x) name ≡ same → (rest ≡ Some y → name_of y ≡ name) → cond same (Some x) rest ≡ Some y → name_of y ≡ name
  found_by x y rest true same further is = (bytes_eq-Decides (name_of y) name).0 (subst (λ (o : Option X). test_of o ≡ true) is same)
    where
      test_of : Option X → Bool
      test_of None = false
      test_of (Some z) = bytes_eq (name_of z) name
  found_by x y rest false same further is = further is

  find-named : (xs : List X) (y : X) → find (λ x. bytes_eq (name_of x) name) xs ≡ Some y → name_of y ≡ name
  find-named [] y is = absurd cc
  find-named (x ∷ xs) y is = found_by x y (find (λ z. bytes_eq (name_of z) name) xs) (bytes_eq (name_of x) name) refl (find-named xs y) is

-- each name is found again
pub field_found : (f : FieldId) → field_of_name (field_name f) ≡ Some f
unfolding field_of_name
field_found id.Host = refl
field_found id.Cookie = refl
field_found id.Referer = refl
field_found id.UserAgent = refl
field_found id.Method = refl
field_found id.Uri = refl
field_found id.Path = refl
field_found id.Query = refl
field_found id.FullUri = refl
field_found id.Version = refl
field_found id.Source = refl
field_found id.Ssl = refl
field_found id.Timestamp = refl
field_found id.Headers = refl
field_found id.HeaderNames = refl
field_found id.HeaderValues = refl
field_found id.Args = refl
field_found id.ArgNames = refl
field_found id.ArgValues = refl
field_found id.ResponseCode = refl
field_found id.ResponseHeaders = refl

pub function_found : (f : FunctionId) → function_of_name (function_name f) ≡ Some f
unfolding function_of_name
function_found function.Any = refl
function_found function.All = refl
function_found function.Lower = refl
function_found function.Upper = refl
function_found function.Len = refl
function_found function.Substring = refl
function_found function.RemoveBytes = refl
function_found function.StartsWith = refl
function_found function.EndsWith = refl
function_found function.Concat = refl
function_found function.ToString = refl
function_found function.HasKey = refl
function_found function.HasValue = refl
function_found function.Split = refl
function_found function.Join = refl
function_found function.LookupJsonString = refl
function_found function.LookupJsonInteger = refl
function_found function.EncodeBase64 = refl
function_found function.DecodeBase64 = refl
function_found function.UrlDecode = refl
function_found function.WildcardReplace = refl
function_found function.RegexReplace = refl

pub found_field : (name : List ℕ) (found : Option FieldId) → MatchOption found ((x : FieldId) → field_name x ≢ name) (λ x. field_name x ≡ name) → found ≡ field_of_name name
unfolding field_of_name
found_field name None none = sym (find-none field_name name fields none)
found_field name (Some x) is = sym (field_found x) ∙ ap field_of_name is

pub found_function : (name : List ℕ) (found : Option FunctionId) → MatchOption found ((x : FunctionId) → function_name x ≢ name) (λ x. function_name x ≡ name) → found ≡ function_of_name name
unfolding function_of_name
found_function name None none = sym (find-none function_name name functions none)
found_function name (Some x) is = sym (function_found x) ∙ ap function_of_name is

pub named_field : (name : List ℕ) (x : FieldId) → field_of_name name ≡ Some x → field_name x ≡ name
unfolding field_of_name
named_field name x is = find-named field_name name fields x is

pub named_function : (name : List ℕ) (x : FunctionId) → function_of_name name ≡ Some x → function_name x ≡ name
unfolding function_of_name
named_function name x is = find-named function_name name functions x is
