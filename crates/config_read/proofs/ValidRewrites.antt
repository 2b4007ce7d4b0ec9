-- Rewrites and redirects of which nothing is refused are valid.
use Rattle.std.proofs.Common.{◌≡◌, ◌||◌, ◌&&◌, ℕ, Bool, true, false, not, List, [], ◌∷◌, ◌++◌, map, is_some, is_none, Option, None, Some, option_map, option_and_then, unwrap_or, IfSome, IsUtf8, codes, bytes_eq, if◌then◌else◌, refl, sym, ap, ◌∙◌, subst, true≢false, nat_cmp}
use Rattle.std.specs.Bool.{then_some}
use Rattle.std.specs.Cmp.Lexicographic.{slice_cmp}
use Rattle.std.specs.List.{All, AllByRecursion}
use Rattle.std.specs.List.Sorted.{IsStrictlySortedBy}
use Rattle.std.specs.Option.{option_map_or}
use Rattle.std.proofs.lemmas.List.Elements.{All-from_recursion}
use Rattle.serde_json.specs.Data.{Data, null, boolean, number, string, array, object}
use Rattle.serde_json.specs.Find.{get, as_number, as_object, as_u64}
use Rattle.list_store.specs.declared.part.ListPart.{ListPart}
use Rattle.list_store.specs.Listed.{list_kinds_of}
use Rattle.type_check.specs.declared.fault.Place.{Place}
use Rattle.ruleset_model.specs.declared.act.Redirect.{Redirect}
use Rattle.ruleset_model.specs.declared.dynamic.Dynamic.{Dynamic}
use Rattle.ruleset_model.specs.declared.phase.Phase.{Phase}
use Rattle.ruleset_model.specs.declared.phase.Phase.TheVariants as phase
use Rattle.ruleset_model.specs.declared.rewrite.HeaderRewrite.{HeaderRewrite}
use Rattle.ruleset_model.specs.declared.rewrite.Rewrite.{Rewrite}
use Rattle.ruleset_model.specs.declared.rewrite.UriRewrite.{UriRewrite}
use Rattle.ruleset_model.specs.Acts.{AreInOrder, IsDynamicValid, IsUriValid, IsOperationValid, AreHeadersValid, lower_names, IsRewriteValid, IsRedirectValid, is_rewrite_placed}
use Rattle.ruleset_model.specs.Data.{UriRewriteData, OperationData, sets, adds, removes, HeaderRewriteData, RewriteData, RedirectData, dynamic_data, uri_data, operation_data, header_data, rewrite_data, redirect_data}
use Rattle.ruleset_model.specs.Forms.{is_rewritable, is_redirect_status}
use Rattle.ruleset_model.specs.Phases.{value_place, rewrites_uri, rewrites_headers}
use Rattle.config_read.specs.Judged.{Judgement}
use Rattle.config_read.specs.Refusals.{each}
use Rattle.config_read.specs.Members.{text, entries_of, member, value_or}
use Rattle.config_read.specs.Forms.{redirect_status}
use Rattle.config_read.specs.Values.{dynamic_at}
use Rattle.config_read.specs.Rewrites.{lower, in_order, entries_in, uri_at, operation_at, header_table, header_at, headers_table, headers_at, parts_table, rewrite_table, rewrite_at, target_at, redirect_at}
use Rattle.config_read.specs.Filters.{IsDynamicBuilt, IsHeaderBuilt, IsUriBuilt, IsRewriteBuilt}
use Rattle.config_read.proofs.BoolLemmas.{some_is}
use Rattle.config_read.proofs.FormedLemmas.{IsFormed, IsEntryFormed, AreMembersFormed, get_formed, member_formed, members_listed}
use Rattle.config_read.proofs.ValidBuilt.{IsDynamicText, dynamic_valid, dynamic_text, IsOperationText, operation_valid}
use Rattle.config_read.proofs.ValidOrder.{Entry, lowers, lowers_sorted, each_in_order, name_rewritable}

-- ---- the path and the query

pub record IsUriText (uri : UriRewriteData) : Type 0 where
  pub path : IfSome uri.path IsDynamicText
  pub query : IfSome uri.query IsDynamicText

part_text : (found : Option Data) → IfSome found IsFormed → IfSome (option_map dynamic_at found) IsDynamicText
part_text None formed = tt
part_text (Some d) formed = dynamic_text d formed

uri_text : (d : Data) → IsFormed d → IsUriText (uri_at d)
uri_text d formed = record {
  path = part_text (get (codes "path") d) (get_formed (codes "path") d formed);
  query = part_text (get (codes "query") d) (get_formed (codes "query") d formed);
}

module _ (lists : List ListPart) (phase : Phase) where
  part_valid : (part : Option Dynamic) → IfSome (option_map dynamic_data part) IsDynamicText
      → IfSome part (IsDynamicBuilt (list_kinds_of lists) (value_place phase)) → IfSome part (IsDynamicValid lists phase)
  part_valid None is_text built = tt
  part_valid (Some value) is_text built = dynamic_valid lists phase value is_text built

  uri_valid : (uri : UriRewrite) → IsUriText (uri_data uri) → IsUriBuilt (list_kinds_of lists) (value_place phase) uri → IsUriValid lists phase uri
  uri_valid uri is_text built = record {
    path = part_valid uri.path is_text.path built.path;
    query = part_valid uri.query is_text.query built.query;
  }

-- ---- headers

abbrev lowers_of : List HeaderRewriteData → List (List ℕ)
lowers_of headers = map (λ (header : HeaderRewriteData). lower header.name) headers

pub record AreHeadersFit (headers : List HeaderRewriteData) : Type 0 where
  pub names : AllByRecursion (λ (name : List ℕ). is_rewritable name ≡ true) (lowers_of headers)
  pub in_order : AreInOrder (lowers_of headers)
  pub operations : AllByRecursion (λ (header : HeaderRewriteData). IsOperationText header.operation) headers

operation_said : (is_set is_add : Bool) (d : Data) → IsFormed d
    → IsOperationText (if is_set then sets (dynamic_at d) else (if is_add then adds (dynamic_at d) else removes))
operation_said true is_add d formed = dynamic_text d formed
operation_said false true d formed = dynamic_text d formed
operation_said false false d formed = tt

operation_text : (d : Data) → IsFormed d → IsOperationText (operation_at d)
operation_text d formed = operation_said (bytes_eq (text (codes "operation") d) (codes "set")) (bytes_eq (text (codes "operation") d) (codes "add")) d formed

operations_text : (entries : List Entry) → AllByRecursion IsEntryFormed entries
    → AllByRecursion (λ (header : HeaderRewriteData). IsOperationText header.operation) (map header_at entries)
operations_text [] formed = tt
operations_text (entry ∷ entries) formed = (operation_text entry.1 formed.0.1, operations_text entries formed.1)

lowers_read : (entries : List Entry) → lowers_of (map header_at entries) ≡ lowers entries
lowers_read [] = refl
lowers_read (entry ∷ entries) = ap (λ (rest : List (List ℕ)). lower entry.0 ∷ rest) (lowers_read entries)

module _ (judge : Judgement) (at : Place) (headers : List ℕ) where
  names_fit : (earlier : List HeaderRewriteData) (entries : List Entry) → each (header_table judge at headers) header_at earlier entries None
      → AllByRecursion (λ (name : List ℕ). is_rewritable name ≡ true) (lowers_of (map header_at entries))
  unfolding header_table
  names_fit earlier [] passed = tt
  names_fit earlier (entry ∷ entries) passed =
      (name_rewritable earlier entry.0 passed.0.1.0.0 passed.0.1.0.1, names_fit (earlier ++ header_at entry ∷ []) entries passed.1)

entries_formed_in : (found : Option _) → IfSome found AreMembersFormed → AllByRecursion IsEntryFormed (unwrap_or (option_map entries_of found) [])
entries_formed_in None formed = tt
entries_formed_in (Some ms) formed = members_listed ms formed

pub headers_fit : (judge : Judgement) (at : Place) (headers : List ℕ) (d : Data) → AllByRecursion IsEntryFormed (entries_in d)
    → headers_table judge at headers d None → AreHeadersFit (headers_at d)
headers_fit judge at headers d formed passed = record {
  names = names_fit judge at headers [] (in_order (entries_in d)) passed;
  in_order = subst (λ (names : List (List ℕ)). IsStrictlySortedBy (slice_cmp nat_cmp) names) (sym (lowers_read (in_order (entries_in d))))
      (lowers_sorted judge at headers (entries_in d) passed);
  operations = operations_text (in_order (entries_in d)) (each_in_order IsEntryFormed (entries_in d) formed);
}

lowers_kept : (headers : List HeaderRewrite) → lowers_of (map header_data headers) ≡ lower_names headers
lowers_kept [] = refl
lowers_kept (header ∷ headers) = ap (λ (rest : List (List ℕ)). lower header.name ∷ rest) (lowers_kept headers)

operations_valid : (lists : List ListPart) (phase : Phase) (headers : List HeaderRewrite)
    → AllByRecursion (λ (header : HeaderRewriteData). IsOperationText header.operation) (map header_data headers)
    → AllByRecursion (IsHeaderBuilt (list_kinds_of lists) (value_place phase)) headers
    → AllByRecursion (λ (header : HeaderRewrite). IsOperationValid lists phase header.operation) headers
operations_valid lists phase [] fit built = tt
operations_valid lists phase (header ∷ headers) fit built =
    (operation_valid lists phase header.operation fit.0 built.0, operations_valid lists phase headers fit.1 built.1)

headers_valid : (lists : List ListPart) (phase : Phase) (headers : List HeaderRewrite) → AreHeadersFit (map header_data headers)
    → AllByRecursion (IsHeaderBuilt (list_kinds_of lists) (value_place phase)) headers → AreHeadersValid lists phase headers
headers_valid lists phase headers fit built = record {
  names = All-from_recursion (λ (name : List ℕ). is_rewritable name ≡ true) (lower_names headers)
      (subst (AllByRecursion (λ (name : List ℕ). is_rewritable name ≡ true)) (lowers_kept headers) fit.names);
  in_order = subst (λ (names : List (List ℕ)). IsStrictlySortedBy (slice_cmp nat_cmp) names) (lowers_kept headers) fit.in_order;
  operations = All-from_recursion (λ (header : HeaderRewrite). IsOperationValid lists phase header.operation) headers
      (operations_valid lists phase headers fit.operations built);
}

-- ---- both parts

pub record IsRewriteFit (rewrite : RewriteData) : Type 0 where
  pub uri : IfSome rewrite.uri IsUriText
  pub headers : IfSome rewrite.headers AreHeadersFit

uri_part : (lists : List ListPart) (phase : Phase) (uri : Option UriRewrite) → IfSome (option_map uri_data uri) IsUriText
    → IfSome uri (IsUriBuilt (list_kinds_of lists) (value_place phase)) → IfSome uri (IsUriValid lists phase)
uri_part lists phase None fit built = tt
uri_part lists phase (Some uri) fit built = uri_valid lists phase uri fit built

headers_part : (lists : List ListPart) (phase : Phase) (headers : Option (List HeaderRewrite)) → IfSome (option_map (map header_data) headers) AreHeadersFit
    → IfSome headers (AllByRecursion (IsHeaderBuilt (list_kinds_of lists) (value_place phase))) → IfSome headers (AreHeadersValid lists phase)
headers_part lists phase None fit built = tt
headers_part lists phase (Some headers) fit built = headers_valid lists phase headers fit built

pub rewrite_valid : (lists : List ListPart) (phase : Phase) (rewrite : Rewrite) → IsRewriteFit (rewrite_data rewrite)
    → IsRewriteBuilt (list_kinds_of lists) (value_place phase) rewrite → IsRewriteValid lists phase rewrite
rewrite_valid lists phase rewrite fit built = record {
  uri = uri_part lists phase rewrite.uri fit.uri built.uri;
  headers = headers_part lists phase rewrite.headers fit.headers built.headers;
}

-- ---- of the parameters

none_there : (found : Option Data) → is_some found ≡ false → found ≡ None
none_there None e = refl
none_there (Some d) e = absurd (true≢false e)

uri_of_found : (found : Option Data) → IfSome found IsFormed → IfSome (option_map uri_at found) IsUriText
uri_of_found None formed = tt
uri_of_found (Some d) formed = uri_text d formed

found_member : (found : Option Data) (Fact : Data → Type 0) → Fact (unwrap_or found null) → IfSome found Fact
found_member None Fact holds = tt
found_member (Some d) Fact holds = holds

headers_of_found : (found : Option Data) → IfSome found (λ (d : Data). AreHeadersFit (headers_at d)) → IfSome (option_map headers_at found) AreHeadersFit
headers_of_found None fit = tt
headers_of_found (Some d) fit = fit

object_formed : (d : Data) → IsFormed d → IfSome (as_object d) AreMembersFormed
object_formed null formed = tt
object_formed (boolean b) formed = tt
object_formed (number n) formed = tt
object_formed (string s) formed = tt
object_formed (array ds) formed = tt
object_formed (object ms) formed = formed

-- the rewrite of a phase: the one for the path and the query, or that for headers
pub rewrite_fit : (b : Bool) (judge : Judgement) (at : Place) (place : List ℕ) (d : Data) → IsFormed d → parts_table b judge at place d None → IsRewriteFit (rewrite_at d)
rewrite_fit true judge at place d formed passed = record {
  uri = uri_of_found (get (codes "uri") d) (get_formed (codes "uri") d formed);
  headers = subst (λ (found : Option Data). IfSome (option_map headers_at found) AreHeadersFit) (sym (none_there (get (codes "headers") d) passed.1.1.1)) tt;
}
rewrite_fit false judge at place d formed passed = record {
  uri = uri_of_found (get (codes "uri") d) (get_formed (codes "uri") d formed);
  headers = headers_of_found (get (codes "headers") d) (found_member (get (codes "headers") d) (λ (held : Data). AreHeadersFit (headers_at held))
      (headers_fit judge at _ (member (codes "headers") d)
      (entries_formed_in (as_object (member (codes "headers") d)) (object_formed (member (codes "headers") d) (member_formed (codes "headers") d formed))) passed.1.1));
}

mapped_some : {A : Type 0} (f : Data → A) (found : Option Data) → is_none found ≡ false → is_some (option_map f found) ≡ true
mapped_some f None e = absurd (true≢false e)
mapped_some f (Some d) e = refl

mapped_none : {A : Type 0} (f : Data → A) (found : Option Data) → is_some found ≡ false → is_none (option_map f found) ≡ true
mapped_none f None e = refl
mapped_none f (Some d) e = absurd (true≢false e)

-- a rewrite has the one part that its phase wants
abbrev pub is_placed_rewrite : Phase → RewriteData → Bool
is_placed_rewrite phase rewrite =
    (rewrites_uri phase && is_some rewrite.uri && is_none rewrite.headers)
    || (rewrites_headers phase && is_some rewrite.headers && is_none rewrite.uri)

one_part : (first second : Bool) → first ≡ true → second ≡ true → (true && first && second) ≡ true
one_part first second e h = rw (e, h) refl

pub rewrite_placed : (p : Phase) (judge : Judgement) (place : List ℕ) (d : Data) → (rewrites_uri p || rewrites_headers p) ≡ true → rewrite_table judge p place d None
    → is_placed_rewrite p (rewrite_at d) ≡ true
rewrite_placed phase.Transform judge place d named passed =
    rw (mapped_some uri_at (get (codes "uri") d) passed.0.0, mapped_none headers_at (get (codes "headers") d) passed.1.1.1) refl
rewrite_placed phase.LateTransform judge place d named passed =
    rw (mapped_some headers_at (get (codes "headers") d) passed.1.0.0, mapped_none uri_at (get (codes "uri") d) passed.0.1) refl
rewrite_placed phase.ResponseTransform judge place d named passed =
    rw (mapped_some headers_at (get (codes "headers") d) passed.1.0.0, mapped_none uri_at (get (codes "uri") d) passed.0.1) refl
rewrite_placed phase.DynamicRedirect judge place d named passed = absurd (true≢false (sym named))
rewrite_placed phase.FirewallCustom judge place d named passed = absurd (true≢false (sym named))
rewrite_placed phase.RateLimit judge place d named passed = absurd (true≢false (sym named))
rewrite_placed phase.FirewallManaged judge place d named passed = absurd (true≢false (sym named))

placed_parts : (p : Phase) (uri : Option UriRewrite) (headers : Option (List HeaderRewrite))
    → is_rewrite_placed p (record { uri = uri; headers = headers }) ≡ is_placed_rewrite p (rewrite_data (record { uri = uri; headers = headers }))
placed_parts p None None = refl
placed_parts p None (Some headers) = refl
placed_parts p (Some uri) None = refl
placed_parts p (Some uri) (Some headers) = refl

pub placed_rewrite : (p : Phase) (rewrite : Rewrite) → is_rewrite_placed p rewrite ≡ is_placed_rewrite p (rewrite_data rewrite)
placed_rewrite p rewrite = placed_parts p rewrite.uri rewrite.headers

-- ---- redirects

pub record IsRedirectFit (redirect : RedirectData) : Type 0 where
  pub status : is_redirect_status redirect.status_code ≡ true
  pub target : IsDynamicText redirect.target_url

pub redirect_valid : (lists : List ListPart) (phase : Phase) (redirect : Redirect) → IsRedirectFit (redirect_data redirect)
    → IsDynamicBuilt (list_kinds_of lists) (value_place phase) redirect.target_url → IsRedirectValid lists phase redirect
redirect_valid lists phase redirect fit built = record {
  status = fit.status;
  target = dynamic_valid lists phase redirect.target_url fit.target built;
}

passes_test : {A : Type 0} (test : A → Bool) (x default : A) (is : Bool) → test x ≡ is → test default ≡ true → test (unwrap_or (then_some is x) default) ≡ true
passes_test test x default true e other = e
passes_test test x default false e other = other

-- a value that passes a test, where it is there, and else another that does
pub found_passes : {A : Type 0} (test : A → Bool) (found : Option A) (default : A) → test default ≡ true
    → test (unwrap_or (option_and_then (λ (x : A). then_some (test x) x) found) default) ≡ true
found_passes test None default other = other
found_passes test (Some x) default other = passes_test test x default (test x) refl other

number_passes : (test : ℕ → Bool) (found : Option Data) (default : ℕ) → test default ≡ true
    → test (unwrap_or (option_and_then (λ (d : Data). option_and_then (λ (n : ℕ). then_some (test n) n) (option_and_then as_u64 (as_number d))) found) default) ≡ true
number_passes test None default other = other
number_passes test (Some d) default other = found_passes test (option_and_then as_u64 (as_number d)) default other

pub value_passes : (test : ℕ → Bool) (default : ℕ) (name : List ℕ) (d : Data) → test default ≡ true
    → test (value_or (λ (held : Data). option_and_then (λ (n : ℕ). then_some (test n) n) (option_and_then as_u64 (as_number held))) default name d) ≡ true
value_passes test default name d other = number_passes test (get name d) default other

pub redirect_fit : (d : Data) → IsFormed d → IsRedirectFit (redirect_at d)
unfolding target_at
redirect_fit d formed =
    let held = member (codes "from_value") d in record {
      status = value_passes is_redirect_status 302 (codes "status_code") held refl;
      target = dynamic_text (member (codes "target_url") held) (member_formed (codes "target_url") held (member_formed (codes "from_value") d formed));
    }
