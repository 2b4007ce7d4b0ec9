-- Rewrites are read again as they are printed.
use Rattle.std.proofs.Common.{◌≡◌, ◌&&◌, ◌||◌, ◌+◌, ℕ, Bool, cond, true, false, not, List, [], ◌∷◌, ◌++◌, map, Option, None, Some, option_map, is_some, is_none, IfSome, refl, sym, ap, ◌∙◌, subst, codes, true≢false, bytes_eq, length, nat_lt, nat_cmp, Less, arith}
use Rattle.std.specs.List.{AllByRecursion, list_all}
use Rattle.std.specs.List.Sorted.{IsStrictlySortedBy}
use Rattle.std.specs.Cmp.{first_so, second_so}
use Rattle.std.specs.Cmp.Lexicographic.{slice_cmp}
use Rattle.std.specs.Ordering.{is_eq}
use Rattle.std.specs.Char.{to_ascii_lowercase, is_ascii_alphanumeric}
use Rattle.std.proofs.lemmas.Bool.{lt-ltb}
use Rattle.std.proofs.lemmas.Bool.Decides.{nat_tests}
use Rattle.std.proofs.lemmas.List.Elements.{recursion_from_All}
use Rattle.std.proofs.lemmas.Map.Keys.{sorted_head, sorted_tail}
use Rattle.std.proofs.lemmas.Map.Text.{is_eq-slice_cmp}
use Rattle.std.specs.Str.{str_to_ascii_lowercase}
use Rattle.serde_json.specs.Data.{Data, object, no_members}
use Rattle.serde_json.specs.Find.{get}
use Rattle.list_store.specs.declared.part.ListPart.{ListPart}
use Rattle.ruleset_model.specs.declared.dynamic.Dynamic.{Dynamic}
use Rattle.ruleset_model.specs.declared.dynamic.Dynamic.TheVariants as dynamic
use Rattle.ruleset_model.specs.declared.phase.Phase.{Phase}
use Rattle.ruleset_model.specs.declared.phase.Phase.TheVariants as phase
use Rattle.ruleset_model.specs.declared.rewrite.HeaderRewrite.{HeaderRewrite}
use Rattle.ruleset_model.specs.declared.rewrite.Operation.{Operation}
use Rattle.ruleset_model.specs.declared.rewrite.Operation.TheVariants as operation
use Rattle.ruleset_model.specs.declared.rewrite.UriRewrite.{UriRewrite}
use Rattle.ruleset_model.specs.declared.rewrite.Rewrite.{Rewrite}
use Rattle.ruleset_model.specs.Acts.{IsDynamicValid, IsOperationValid, AreHeadersValid, lower_names, IsRewriteValid, is_rewrite_placed}
use Rattle.ruleset_model.specs.Data.{HeaderRewriteData, operation_data, header_data, rewrite_data, uri_data}
use Rattle.ruleset_model.specs.Forms.{is_rewritable, is_token_byte}
use Rattle.ruleset_model.specs.Phases.{value_place}
use Rattle.ruleset_model.specs.Valid.{EachAfter}
use Rattle.config_read.specs.Forms.{is_token, is_fixed_header}
use Rattle.config_read.specs.Judged.{Judgement}
use Rattle.config_read.specs.Places.{child}
use Rattle.config_read.specs.Refusals.{each}
use Rattle.config_read.specs.Members.{entries_of}
use Rattle.config_read.specs.Values.{dynamic_table}
use Rattle.config_read.specs.Rewrites.{lower, in_order, has_header, header_table, header_at, operation_at, rewrite_table, rewrite_at, headers_table, headers_at, uri_at}
use Rattle.config_read.specs.Printed.{put_some, put_all, printed_operation, printed_header, printed_headers, printed_uri, printed_rewrite}
use Rattle.config_read.proofs.PrintedEach.{each_passes, after_all, after_each, after_both}
use Rattle.config_read.proofs.PrintedOrder.{headers_in_order, after_flipped}
use Rattle.config_read.proofs.PrintedValues.{Takes}
use Rattle.config_read.proofs.PrintedActs.{uri_passes, uri_back}

-- ---- one header

is_letter : (b : ℕ) → nat_lt b 65 ≡ false → nat_lt b 91 ≡ true → is_ascii_alphanumeric b ≡ true
is_letter b low high = grind (arith, nat_tests)

token_byte_as : (b : ℕ) (low high : Bool) → nat_lt b 65 ≡ low → nat_lt b 91 ≡ high → is_token_byte (cond low b (cond high (b + 32) b)) ≡ true → is_token_byte b ≡ true
token_byte_as b true high e1 e2 is = is
token_byte_as b false true e1 e2 is = rw (is_letter b e1 e2) refl
token_byte_as b false false e1 e2 is = is

token_byte : (b : ℕ) → is_token_byte (to_ascii_lowercase b) ≡ true → is_token_byte b ≡ true
token_byte b is = token_byte_as b (nat_lt b 65) (nat_lt b 91) refl refl is

token_bytes : (name : List ℕ) → list_all is_token_byte (str_to_ascii_lowercase name) ≡ true → list_all is_token_byte name ≡ true
token_bytes [] all = refl
token_bytes (b ∷ name) all =
    let first = token_byte b (first_so _ _ all) in
    rw first (token_bytes name (second_so (is_token_byte (to_ascii_lowercase b)) _ all))

is_named_token : (name : List ℕ) → is_rewritable (str_to_ascii_lowercase name) ≡ true → is_token name ≡ true
is_named_token [] is = is_some_name is
  where
    is_some_name : is_rewritable (str_to_ascii_lowercase []) ≡ true → is_token [] ≡ true
    is_some_name is = absurd (true≢false (sym is))
is_named_token (b ∷ name) is =
    rw (lt-ltb 0 (length (b ∷ name)) (omega arith)) (token_bytes (b ∷ name) (second_so _ _ (first_so _ _ is)))

is_free : (name : List ℕ) → is_rewritable (str_to_ascii_lowercase name) ≡ true → is_fixed_header (lower name) ≡ false
is_free name is = flipped (is_fixed_header (lower name)) (second_so _ _ is)
  where
    flipped : (b : Bool) → not b ≡ true → b ≡ false
    flipped true e = absurd (true≢false (sym e))
    flipped false e = refl

header_passes_as : (lists : List ListPart) (judge : Judgement) (phase : Phase) (headers : List ℕ) (earlier : List HeaderRewriteData) (name : List ℕ)
    (operation : Operation) → Takes lists judge → (not (is_token name) || has_header earlier name) ≡ false → is_fixed_header (lower name) ≡ false
    → IsOperationValid lists phase operation
    → header_table judge (value_place phase) headers earlier (name, printed_operation operation) None
unfolding header_table dynamic_table
header_passes_as lists judge phase headers earlier name (operation.Set (dynamic.Fixed text)) takes named free valid =
    (refl, ((named, free), ((refl, refl), (refl, (refl, (refl, (refl, refl)))))))
header_passes_as lists judge phase headers earlier name (operation.Set (dynamic.Computed built source)) takes named free valid =
    (refl, ((named, free), ((refl, refl), (refl, (refl, (refl, (refl, takes.built (value_place phase) source built valid)))))))
header_passes_as lists judge phase headers earlier name (operation.Add (dynamic.Fixed text)) takes named free valid =
    (refl, ((named, free), ((refl, refl), (refl, (refl, (refl, (refl, refl)))))))
header_passes_as lists judge phase headers earlier name (operation.Add (dynamic.Computed built source)) takes named free valid =
    (refl, ((named, free), ((refl, refl), (refl, (refl, (refl, (refl, takes.built (value_place phase) source built valid)))))))
header_passes_as lists judge phase headers earlier name operation.Remove takes named free valid =
    (refl, ((named, free), ((refl, refl), refl)))

operation_back : (operation : Operation) → operation_at (printed_operation operation) ≡ operation_data operation
operation_back (operation.Set (dynamic.Fixed text)) = refl
operation_back (operation.Set (dynamic.Computed built source)) = refl
operation_back (operation.Add (dynamic.Fixed text)) = refl
operation_back (operation.Add (dynamic.Computed built source)) = refl
operation_back operation.Remove = refl

header_back : (header : HeaderRewrite) → header_at (printed_header header) ≡ header_data header
header_back header = λ i. record { name = header.name; operation = operation_back header.operation i }

-- ---- all headers

lowers_kept : (headers : List HeaderRewrite) → map (λ (entry : List ℕ × Data). lower entry.0) (map printed_header headers) ≡ lower_names headers
lowers_kept [] = refl
lowers_kept (header ∷ headers) = ap (λ (rest : List (List ℕ)). lower header.name ∷ rest) (lowers_kept headers)

header_entries : (headers : List HeaderRewrite) → IsStrictlySortedBy (slice_cmp nat_cmp) (lower_names headers)
    → in_order (entries_of (put_all no_members (map printed_header headers))) ≡ map printed_header headers
header_entries headers sorted =
    headers_in_order (map printed_header headers)
    (subst (λ (names : List (List ℕ)). IsStrictlySortedBy (slice_cmp nat_cmp) names) (sym (lowers_kept headers)) sorted)

told_apart : (name other : List ℕ) → slice_cmp nat_cmp name other ≡ Less → bytes_eq other name ≡ false
told_apart name other before = sym (is_eq-slice_cmp other name) ∙ ap is_eq (after_flipped name other before)

neither : (a b : Bool) → (a || b) ≡ false → (a ≡ false) × (b ≡ false)
neither true b e = absurd (true≢false e)
neither false b e = (refl, e)

AreNew : List HeaderRewrite → List HeaderRewrite → Type 0
AreNew earlier left = AllByRecursion (λ (header : HeaderRewrite). has_header (map header_data earlier) header.name ≡ false) left

has_behind : (name : List ℕ) (earlier : List HeaderRewrite) (header : HeaderRewrite) → bytes_eq (lower name) (lower header.name) ≡ false
    → has_header (map header_data earlier) name ≡ false → has_header (map header_data (earlier ++ header ∷ [])) name ≡ false
has_behind name [] header told none = rw told refl
has_behind name (first ∷ earlier) header told none =
    let parts = neither (bytes_eq (lower name) (lower first.name)) (has_header (map header_data earlier) name) none in
    rw (parts.0, has_behind name earlier header told parts.1) refl

still_new : (earlier : List HeaderRewrite) (header : HeaderRewrite) (left : List HeaderRewrite) → AreNew earlier left
    → AllByRecursion (λ (name : List ℕ). slice_cmp nat_cmp (lower header.name) name ≡ Less) (lower_names left) → AreNew (earlier ++ header ∷ []) left
unfolding AreNew
still_new earlier header [] new before = tt
still_new earlier header (other ∷ left) new before =
    (has_behind other.name earlier header (told_apart (lower header.name) (lower other.name) before.0) new.0, still_new earlier header left new.1 before.1)

sorted_new : (earlier left : List HeaderRewrite) → AreNew earlier left → IsStrictlySortedBy (slice_cmp nat_cmp) (lower_names left)
    → EachAfter (λ before header. has_header (map header_data before) header.name ≡ false) earlier left
unfolding AreNew
sorted_new earlier [] new sorted = tt
sorted_new earlier (header ∷ left) new sorted = (
  new.0,
  sorted_new (earlier ++ header ∷ []) left
      (still_new earlier header left new.1 (sorted_head (slice_cmp nat_cmp) (lower header.name) (lower_names left) sorted))
      (sorted_tail (slice_cmp nat_cmp) (lower header.name) (lower_names left) sorted),
)

none_yet : (left : List HeaderRewrite) → AreNew [] left
unfolding AreNew
none_yet [] = tt
none_yet (header ∷ left) = (refl, none_yet left)

each_named : (headers : List HeaderRewrite) → AllByRecursion (λ (name : List ℕ). is_rewritable name ≡ true) (lower_names headers)
    → AllByRecursion (λ (header : HeaderRewrite). is_rewritable (str_to_ascii_lowercase header.name) ≡ true) headers
each_named [] all = tt
each_named (header ∷ headers) all = (all.0, each_named headers all.1)

abbrev Named : HeaderRewrite → Type 0
Named header = is_rewritable (str_to_ascii_lowercase header.name) ≡ true

abbrev New : List HeaderRewrite → HeaderRewrite → Type 0
New earlier header = has_header (map header_data earlier) header.name ≡ false

kept_headers : (lists : List ListPart) (phase : Phase) (headers : List HeaderRewrite) → AreHeadersValid lists phase headers
    → EachAfter (λ earlier header. New earlier header × (Named header × IsOperationValid lists phase header.operation)) [] headers
kept_headers lists phase headers valid =
    after_both New (λ earlier header. Named header × IsOperationValid lists phase header.operation) [] headers
    (sorted_new [] headers (none_yet headers) valid.in_order)
    (after_both (λ earlier. Named) (λ earlier header. IsOperationValid lists phase header.operation) [] headers
    (after_each Named [] headers (each_named headers (recursion_from_All _ _ valid.names)))
    (after_all (λ (header : HeaderRewrite). IsOperationValid lists phase header.operation) headers valid.operations))

pub headers_pass : (lists : List ListPart) (judge : Judgement) (phase : Phase) (place : List ℕ) (headers : List HeaderRewrite) → Takes lists judge
    → AreHeadersValid lists phase headers
    → each (header_table judge (value_place phase) place) header_at [] (in_order (entries_of (put_all no_members (map printed_header headers)))) None
headers_pass lists judge phase place headers takes valid =
    subst (λ (entries : List (List ℕ × Data)). each (header_table judge (value_place phase) place) header_at [] entries None)
    (sym (header_entries headers valid.in_order))
    (each_passes (header_table judge (value_place phase) place) header_at printed_header header_data
    (λ earlier header. New earlier header × (Named header × IsOperationValid lists phase header.operation))
    (λ earlier header kept. header_passes_as lists judge phase place (map header_data earlier) header.name header.operation takes
    (rw (is_named_token header.name kept.1.0, kept.0) refl) (is_free header.name kept.1.0) kept.1.1)
    (λ earlier header kept. header_back header) [] headers (kept_headers lists phase headers valid))

all_headers_back : (headers : List HeaderRewrite) → map header_at (map printed_header headers) ≡ map header_data headers
all_headers_back [] = refl
all_headers_back (header ∷ headers) = λ i. header_back header i ∷ all_headers_back headers i

pub headers_back : (headers : List HeaderRewrite) → IsStrictlySortedBy (slice_cmp nat_cmp) (lower_names headers)
    → map header_at (in_order (entries_of (put_all no_members (map printed_header headers)))) ≡ map header_data headers
headers_back headers sorted = ap (map header_at) (header_entries headers sorted) ∙ all_headers_back headers

-- ---- both parts

pub rewrite_passes : (lists : List ListPart) (judge : Judgement) (phase : Phase) (place : List ℕ) (uri : Option UriRewrite)
    (headers : Option (List HeaderRewrite)) → Takes lists judge → IsRewriteValid lists phase (record { uri = uri; headers = headers })
    → is_rewrite_placed phase (record { uri = uri; headers = headers }) ≡ true
    → rewrite_table judge phase place (printed_rewrite (record { uri = uri; headers = headers })) None
unfolding printed_rewrite printed_uri
rewrite_passes lists judge phase.Transform place (Some uri) None takes valid placed =
    ((refl, refl), (uri_passes lists judge phase.Transform _ uri takes valid.uri, (refl, refl)))
rewrite_passes lists judge phase.LateTransform place None (Some headers) takes valid placed =
    ((refl, refl), ((refl, refl), headers_pass lists judge phase.LateTransform _ headers takes valid.headers))
rewrite_passes lists judge phase.ResponseTransform place None (Some headers) takes valid placed =
    ((refl, refl), ((refl, refl), headers_pass lists judge phase.ResponseTransform _ headers takes valid.headers))
rewrite_passes lists judge phase.Transform place None None takes valid placed = absurd (true≢false (sym placed))
rewrite_passes lists judge phase.Transform place None (Some headers) takes valid placed = absurd (true≢false (sym placed))
rewrite_passes lists judge phase.Transform place (Some uri) (Some headers) takes valid placed = absurd (true≢false (sym placed))
rewrite_passes lists judge phase.LateTransform place None None takes valid placed = absurd (true≢false (sym placed))
rewrite_passes lists judge phase.LateTransform place (Some uri) None takes valid placed = absurd (true≢false (sym placed))
rewrite_passes lists judge phase.LateTransform place (Some uri) (Some headers) takes valid placed = absurd (true≢false (sym placed))
rewrite_passes lists judge phase.ResponseTransform place None None takes valid placed = absurd (true≢false (sym placed))
rewrite_passes lists judge phase.ResponseTransform place (Some uri) None takes valid placed = absurd (true≢false (sym placed))
rewrite_passes lists judge phase.ResponseTransform place (Some uri) (Some headers) takes valid placed = absurd (true≢false (sym placed))
rewrite_passes lists judge phase.DynamicRedirect place uri headers takes valid placed = absurd (true≢false (sym placed))
rewrite_passes lists judge phase.FirewallCustom place uri headers takes valid placed = absurd (true≢false (sym placed))
rewrite_passes lists judge phase.FirewallManaged place uri headers takes valid placed = absurd (true≢false (sym placed))
rewrite_passes lists judge phase.RateLimit place uri headers takes valid placed = absurd (true≢false (sym placed))

rewrite_back_as : (lists : List ListPart) (phase : Phase) (uri : Option UriRewrite) (headers : Option (List HeaderRewrite))
    → IsRewriteValid lists phase (record { uri = uri; headers = headers })
    → rewrite_at (printed_rewrite (record { uri = uri; headers = headers })) ≡ rewrite_data (record { uri = uri; headers = headers })
unfolding printed_rewrite
rewrite_back_as lists phase None None valid = refl
rewrite_back_as lists phase (Some uri) None valid = λ i. record { uri = Some (uri_back uri i); headers = None }
rewrite_back_as lists phase None (Some headers) valid = λ i. record { uri = None; headers = Some (headers_back headers valid.headers.in_order i) }
rewrite_back_as lists phase (Some uri) (Some headers) valid = λ i. record { uri = Some (uri_back uri i); headers = Some (headers_back headers valid.headers.in_order i) }

pub rewrite_back : (lists : List ListPart) (phase : Phase) (rewrite : Rewrite) → IsRewriteValid lists phase rewrite
    → rewrite_at (printed_rewrite rewrite) ≡ rewrite_data rewrite
rewrite_back lists phase rewrite valid = rewrite_back_as lists phase rewrite.uri rewrite.headers valid
