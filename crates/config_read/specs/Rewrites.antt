-- The parameters of `rewrite` and of `redirect`.
use Rattle.std.specs.Prelude.{ℕ, Bool, true, false, ◌||◌, not, is_some, if◌then◌else◌, List, [], ◌∷◌, map, codes, Option, option_map, bytes_eq}
use Rattle.std.specs.List.{list_any}
use Rattle.std.specs.Option.{unwrap_or}
use Rattle.std.specs.Str.{str_to_ascii_lowercase, str_eq_ignore_ascii_case}
use Rattle.std.specs.Ordering.{nat_cmp, ordering_then, match_ordering}
use Rattle.std.specs.declared.cmp.Ordering.{Ordering}
use Rattle.std.specs.Cmp.Lexicographic.{slice_cmp}
use Rattle.serde_json.specs.Data.{Data}
use Rattle.serde_json.specs.Find.{get, as_bool, as_object}
use Rattle.type_check.specs.declared.fault.Place.{Place}
use Rattle.ruleset_model.specs.declared.phase.Phase.{Phase}
use Rattle.ruleset_model.specs.declared.rewrite.HeaderRewrite.{HeaderRewrite}
use Rattle.ruleset_model.specs.Data.{UriRewriteData, OperationData, sets, adds, removes, HeaderRewriteData, RewriteData, RedirectData}
use Rattle.ruleset_model.specs.Phases.{value_place, rewrites_uri}
use Rattle.config_read.specs.declared.fault.Cause.TheVariants as cause
use Rattle.config_read.specs.Places.{child}
use Rattle.config_read.specs.Refusals.{Table, ◌▸◌, nothing, refuse, each}
use Rattle.config_read.specs.Members.{text, entries_of, member, value_or, an_object, needed_form, typed, needed_object}
use Rattle.config_read.specs.Forms.{redirect_status, operation, is_token, is_fixed_header}
use Rattle.config_read.specs.Judged.{Judgement}
use Rattle.config_read.specs.Values.{dynamic_table, typed_dynamic, needed_dynamic, dynamic_at}

-- ---- the uri

unfoldable pub uri_table : Judgement → Place → List ℕ → Data → Table
uri_table judge at place d = typed_dynamic judge at place (codes "path") d ▸ typed_dynamic judge at place (codes "query") d

abbrev pub uri_at : Data → UriRewriteData
uri_at d = record { path = option_map dynamic_at (get (codes "path") d); query = option_map dynamic_at (get (codes "query") d) }

-- ---- headers

abbrev pub lower : List ℕ → List ℕ
lower name = str_to_ascii_lowercase name

-- the order in which names are read: byte order of the lower case, equal ones in byte order as written
abbrev pub name_cmp : List ℕ → List ℕ → Ordering
name_cmp name other = ordering_then (slice_cmp nat_cmp (lower name) (lower other)) (slice_cmp nat_cmp name other)

-- a member in its place among those that are in order
abbrev pub put_by_name : List (List ℕ × Data) → List ℕ × Data → List (List ℕ × Data)
put_by_name [] entry = entry ∷ []
put_by_name (other ∷ rest) entry =
    match_ordering (name_cmp entry.0 other.0) (entry ∷ other ∷ rest) (entry ∷ rest) (other ∷ put_by_name rest entry)

-- members in order behind those that are in order
abbrev pub put_in_order : List (List ℕ × Data) → List (List ℕ × Data) → List (List ℕ × Data)
put_in_order done [] = done
put_in_order done (entry ∷ rest) = put_in_order (put_by_name done entry) rest

-- members in the order in which names of headers are read
abbrev pub in_order : List (List ℕ × Data) → List (List ℕ × Data)
in_order given = put_in_order [] given

-- the members of an object
abbrev pub entries_in : Data → List (List ℕ × Data)
entries_in d = unwrap_or (option_map entries_of (as_object d)) []

-- whether an earlier name is the same in lower case
abbrev pub has_header : List HeaderRewriteData → List ℕ → Bool
has_header earlier name = list_any (λ header. str_eq_ignore_ascii_case name header.name) earlier

-- the same of headers as they are kept
abbrev pub has_own_header : List HeaderRewrite → List ℕ → Bool
has_own_header earlier name = list_any (λ header. str_eq_ignore_ascii_case name header.name) earlier

abbrev pub name_table : List ℕ → List HeaderRewriteData → List ℕ → Table
name_table place earlier name =
    refuse place cause.Shape (not (is_token name) || has_header earlier name)
    ▸ refuse place cause.ActionPlace (is_fixed_header (lower name))

-- beside `set` and `add` stand the members of a value
abbrev pub operand_table : Bool → Judgement → Place → List ℕ → Data → Table
operand_table true judge at place d = nothing
operand_table false judge at place d = dynamic_table judge at place d

abbrev pub is_removal : Data → Bool
is_removal d = bytes_eq (text (codes "operation") d) (codes "remove")

abbrev pub operation_table : Judgement → Place → List ℕ → Data → Table
operation_table judge at place d = needed_form operation place (codes "operation") d ▸ operand_table (is_removal d) judge at place d

unfoldable pub header_table : Judgement → Place → List ℕ → List HeaderRewriteData → List ℕ × Data → Table
header_table judge at headers earlier entry =
    let place = child headers entry.0 in
    an_object place entry.1 ▸ name_table place earlier entry.0 ▸ operation_table judge at place entry.1

abbrev pub operation_at : Data → OperationData
operation_at d =
    if bytes_eq (text (codes "operation") d) (codes "set") then sets (dynamic_at d)
    else (if bytes_eq (text (codes "operation") d) (codes "add") then adds (dynamic_at d) else removes)

abbrev pub header_at : List ℕ × Data → HeaderRewriteData
header_at entry = record { name = entry.0; operation = operation_at entry.1 }

-- the members of `headers`, which stand at the place
abbrev pub each_header_table : Judgement → Place → List ℕ → List (List ℕ × Data) → Table
each_header_table judge at headers = each (header_table judge at headers) header_at []

abbrev pub headers_table : Judgement → Place → List ℕ → Data → Table
headers_table judge at headers d = each_header_table judge at headers (in_order (entries_in d))

abbrev pub headers_at : Data → List HeaderRewriteData
headers_at d = map header_at (in_order (entries_in d))

-- ---- both parts: the one that the phase names is needed, the other may not stand there

abbrev pub other_part : List ℕ → List ℕ → Data → Table
other_part place name d = typed as_object place name d ▸ refuse (child place name) cause.ActionPlace (is_some (get name d))

abbrev pub uri_parts_table : Judgement → Place → List ℕ → Data → Table
uri_parts_table judge at place d =
    needed_object place (codes "uri") d
    ▸ uri_table judge at (child place (codes "uri")) (member (codes "uri") d)
    ▸ other_part place (codes "headers") d

abbrev pub headers_parts_table : Judgement → Place → List ℕ → Data → Table
headers_parts_table judge at place d =
    other_part place (codes "uri") d
    ▸ needed_object place (codes "headers") d
    ▸ headers_table judge at (child place (codes "headers")) (member (codes "headers") d)

-- the one for the path and the query, or that for headers
abbrev pub parts_table : Bool → Judgement → Place → List ℕ → Data → Table
parts_table true judge at place d = uri_parts_table judge at place d
parts_table false judge at place d = headers_parts_table judge at place d

abbrev pub rewrite_table : Judgement → Phase → List ℕ → Data → Table
rewrite_table judge phase place d = parts_table (rewrites_uri phase) judge (value_place phase) place d

abbrev pub rewrite_at : Data → RewriteData
rewrite_at d = record {
  uri = option_map uri_at (get (codes "uri") d);
  headers = option_map headers_at (get (codes "headers") d);
}

-- ---- redirects

unfoldable pub target_table : Judgement → Place → List ℕ → Data → Table
target_table judge at place d =
    typed redirect_status place (codes "status_code") d
    ▸ needed_dynamic judge at place (codes "target_url") d
    ▸ typed as_bool place (codes "preserve_query_string") d

unfoldable pub redirect_table : Judgement → Phase → List ℕ → Data → Table
redirect_table judge phase place d =
    needed_object place (codes "from_value") d
    ▸ target_table judge (value_place phase) (child place (codes "from_value")) (member (codes "from_value") d)

abbrev pub redirect_status_at : Data → ℕ
redirect_status_at d = value_or redirect_status 302 (codes "status_code") d

unfoldable pub target_at : Data → RedirectData
target_at d = record {
  status_code = redirect_status_at d;
  target_url = dynamic_at (member (codes "target_url") d);
  preserve_query_string = value_or as_bool false (codes "preserve_query_string") d;
}

abbrev pub redirect_at : Data → RedirectData
redirect_at d = target_at (member (codes "from_value") d)
