-- What a function gives is of the function's kind.
use Rattle.std.proofs.Common.{◌≡◌, ℕ, zero, suc, Bool, true, false, cond, List, [], ◌∷◌, map, All, Option, None, Some, Result, Ok, Err, IfOk, IfSome, refl, sym, subst, arith}
use Rattle.std.specs.Prelude.{ℤ, pos, nat_eq, is_some, bytes_eq, option_and_then}
use Rattle.std.specs.List.{list_any, list_all, concat, starts_with, ends_with}
use Rattle.std.specs.Map.{lookup}
use Rattle.std.specs.Option.{option_map, option_or}
use Rattle.std.specs.Str.{str_to_ascii_lowercase, str_to_ascii_uppercase}
use Rattle.base64.specs.GeneralPurpose.{encode_of}
use Rattle.serde_json.specs.Find.{as_str, as_number, as_i64}
use Rattle.text_match.specs.Patterns.{first_match, replaced}
use Rattle.edge_fields.specs.Fields.{texts}
use Rattle.edge_fields.specs.declared.function_id.FunctionId.{FunctionId}
use Rattle.edge_fields.specs.declared.function_id.FunctionId.TheVariants as function
use Rattle.edge_fields.specs.declared.kind.Basic.TheVariants as basic
use Rattle.edge_fields.specs.declared.kind.Kind.TheVariants as kind
use Rattle.edge_fields.specs.declared.value.Value.{Value}
use Rattle.edge_fields.specs.declared.value.Value.TheVariants as value
use Rattle.edge_fields.specs.Kinds.{HasBasic, HasKind}
use Rattle.edge_fields.specs.Names.{function_kind}
use Rattle.edge_fields.specs.Values.{text_in, items_in, entries_in}
use Rattle.func_lib.specs.Arguments.{all_of, only_of, one_text, pair_of, two_texts, three_texts}
use Rattle.func_lib.specs.Arrays.{truths_of, size_of, has_text, has_number, pieces_between, joined, array_and_text}
use Rattle.func_lib.specs.Base64.{engine_of, text_and_flags, decoded}
use Rattle.func_lib.specs.Functions.{function_of, FunctionsKeepKinds}
use Rattle.func_lib.specs.Json.{looked_up}
use Rattle.text_match.specs.Takes.{first_takes}
use Rattle.func_lib.specs.Replacing.{wildcard_arguments, wild_of, filled_or}
use Rattle.func_lib.specs.Texts.{part_of, text_and_places, without, string_of, written_of, is_concat_count}
use Rattle.func_lib.specs.Urls.{url_decoded}

module _ {A : Type 0} (o : Option A) where
  text_kind : (f : A → List ℕ) → IfSome (option_map (λ x. value.Text (f x)) o) (HasBasic basic.Text)
  text_kind f = elim o as (λ o. IfSome (option_map (λ x. value.Text (f x)) o) (HasBasic basic.Text)) [ None ↦ tt | Some x ↦ (f x, refl) ]

  number_kind : (f : A → ℤ) → IfSome (option_map (λ x. value.Num (f x)) o) (HasBasic basic.Num)
  number_kind f = elim o as (λ o. IfSome (option_map (λ x. value.Num (f x)) o) (HasBasic basic.Num)) [ None ↦ tt | Some x ↦ (f x, refl) ]

  truth_kind : (f : A → Bool) → IfSome (option_map (λ x. value.Bool (f x)) o) (HasBasic basic.Bool)
  truth_kind f = elim o as (λ o. IfSome (option_map (λ x. value.Bool (f x)) o) (HasBasic basic.Bool)) [ None ↦ tt | Some x ↦ (f x, refl) ]

  then_kind : {B : Type 0} (P : B → Type 0) (f : A → Option B) → ((x : A) → IfSome (f x) P) → IfSome (option_and_then f o) P
  then_kind P f h = elim o as (λ o. IfSome (option_and_then f o) P) [ None ↦ tt | Some x ↦ h x ]

test_kind : {B : Type 0} (P : B → Type 0) (b : Bool) (o : Option B) → IfSome o P → IfSome (cond b o None) P
test_kind P true o h = h
test_kind P false o h = tt

texts_are_texts : (texts : List (List ℕ)) → All (HasBasic basic.Text) (map value.Text texts)
texts_are_texts [] k d below = absurd (omega arith)
texts_are_texts (text ∷ texts) zero d below = (text, refl)
texts_are_texts (text ∷ texts) (suc k) d below = texts_are_texts texts k d (omega arith)

pieces_kind : (o : Option (List ℕ × List ℕ)) → IfSome (option_map (λ args. texts (pieces_between args.1 args.0)) o) (HasKind (kind.Array basic.Text))
pieces_kind None = tt
pieces_kind (Some args) = (map value.Text (pieces_between args.1 args.0), texts_are_texts (pieces_between args.1 args.0), refl)

kind_of : (id : FunctionId) (vs : List Value) → IfSome (function_of id vs) (HasKind (function_kind id))
kind_of function.Any vs = truth_kind (truths_of vs) (list_any (λ truth. truth))
kind_of function.All vs = truth_kind (truths_of vs) (list_all (λ truth. truth))
kind_of function.Lower vs = text_kind (one_text vs) str_to_ascii_lowercase
kind_of function.Upper vs = text_kind (one_text vs) str_to_ascii_uppercase
kind_of function.Len vs = number_kind (option_and_then size_of (only_of vs)) pos
kind_of function.Substring vs = text_kind (text_and_places vs) (λ args. part_of args.0 args.1 args.2)
kind_of function.RemoveBytes vs = text_kind (two_texts vs) (λ args. without args.1 args.0)
kind_of function.StartsWith vs = truth_kind (two_texts vs) (λ args. starts_with nat_eq args.0 args.1)
kind_of function.EndsWith vs = truth_kind (two_texts vs) (λ args. ends_with nat_eq args.0 args.1)
kind_of function.Concat vs =
    test_kind (HasBasic basic.Text) (is_concat_count vs) (option_map (λ texts. value.Text (concat texts)) (all_of written_of vs))
    (text_kind (all_of written_of vs) concat)
kind_of function.ToString vs = text_kind (option_and_then string_of (only_of vs)) (λ text. text)
kind_of function.HasKey vs =
    then_kind (pair_of vs) (HasBasic basic.Bool) _ (λ args. then_kind (entries_in args.0) (HasBasic basic.Bool) _
    (λ entries. truth_kind (text_in args.1) (λ key. is_some (lookup (bytes_eq key) entries))))
kind_of function.HasValue vs =
    then_kind (pair_of vs) (HasBasic basic.Bool) _ (λ args. then_kind (items_in args.0) (HasBasic basic.Bool) _
    (λ items. truth_kind (option_or (has_text items args.1) (has_number items args.1)) (λ truth. truth)))
kind_of function.Split vs = pieces_kind (two_texts vs)
kind_of function.Join vs =
    then_kind (array_and_text vs) (HasBasic basic.Text) _ (λ args. text_kind (all_of text_in args.0) (joined args.1))
kind_of function.LookupJsonString vs = text_kind (option_and_then as_str (looked_up vs)) (λ text. text)
kind_of function.LookupJsonInteger vs = number_kind (option_and_then as_i64 (option_and_then as_number (looked_up vs))) (λ number. number)
kind_of function.EncodeBase64 vs =
    then_kind (text_and_flags vs) (HasBasic basic.Text) _ (λ args. text_kind (engine_of args.1) (λ engine. encode_of engine args.0))
kind_of function.DecodeBase64 vs = text_kind (option_and_then decoded (one_text vs)) (λ text. text)
kind_of function.UrlDecode vs = text_kind (one_text vs) url_decoded
kind_of function.WildcardReplace vs =
    then_kind (wildcard_arguments vs) (HasBasic basic.Text) _
    (λ args. text_kind (wild_of args.0.1) (λ pieces. filled_or args.0.0 args.0.2 (first_takes pieces args.1 args.0.0)))
kind_of function.RegexReplace vs = text_kind (three_texts vs) (λ args. replaced args.0 args.2 (first_match args.1 args.0))

pub functions_keep_kinds : FunctionsKeepKinds
functions_keep_kinds id vs v is = subst (λ found. IfSome found (HasKind (function_kind id))) is (kind_of id vs)

pub kind_is_kept : {E : Type 0} (id : FunctionId) (vs : List Value) (result : Result (Option Value) E) → IfOk result (λ found. found ≡ function_of id vs) → IfOk result (λ found. IfSome found (HasKind (function_kind id)))
kind_is_kept id vs (Ok found) is = subst (λ found. IfSome found (HasKind (function_kind id))) (sym is) (kind_of id vs)
kind_is_kept id vs (Err error) is = tt
