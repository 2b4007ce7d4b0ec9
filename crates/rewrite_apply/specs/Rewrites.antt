-- Rewrites and redirects: what changes make of a request, and where a redirect leads.
use Rattle.std.specs.Prelude.{ℕ, ◌==◌, Bool, not, ◌&&◌, ◌||◌, if◌then◌else◌, nat_lt, nat_le, List, [], ◌∷◌, ◌++◌, Option, None, Some, filter}
use Rattle.std.specs.List.{list_any}
use Rattle.std.specs.Str.{str_to_ascii_lowercase}
use Rattle.percent_encoding.specs.Percent.{percent_encode_byte}
use Rattle.edge_base.specs.Bytes.{tab, space, number_sign, ampersand, question, delete}
use Rattle.edge_base.specs.declared.message.Header.{Header}
use Rattle.edge_base.specs.declared.message.Request.{Request}
use Rattle.edge_fields.specs.Fields.{has_name}
use Rattle.edge_fields.specs.Target.{is_question, root_of, path_of, query_of, has_bytes}
use Rattle.rewrite_apply.specs.declared.changes.Changes.{Changes}
use Rattle.rewrite_apply.specs.declared.changes.HeaderChange.{HeaderChange}
use Rattle.rewrite_apply.specs.declared.changes.Change.{Change}
use Rattle.rewrite_apply.specs.declared.changes.Change.TheVariants as change
use Rattle.rewrite_apply.specs.declared.escapes.Part.{Part}
use Rattle.rewrite_apply.specs.declared.escapes.Part.TheVariants as part

-- ---- the uri
-- the byte is one of ASCII above the blank and below 0x7F
abbrev pub is_visible : ℕ → Bool
is_visible byte = nat_lt space byte && nat_lt byte delete

-- the byte stands in the part as it is: a visible one but for `#`, and in a path but for `?`
abbrev pub is_kept : Part → ℕ → Bool
is_kept part.Path byte = is_visible byte && not (byte == number_sign) && not (byte == question)
is_kept part.Query byte = is_visible byte && not (byte == number_sign)

-- a byte of a part: itself, or `%` and two hexadecimal digits in upper case
abbrev pub escaped_byte : Part → ℕ → List ℕ
escaped_byte part byte = if is_kept part byte then byte ∷ [] else percent_encode_byte byte

-- the bytes of a part, each as itself or escaped
abbrev pub escaped_in : Part → List ℕ → List ℕ
escaped_in part [] = []
escaped_in part (byte ∷ text) = escaped_byte part byte ++ escaped_in part text

-- a text without a `?` at its front
abbrev pub without_question : List ℕ → List ℕ
without_question [] = []
without_question (byte ∷ text) = if byte == question then text else byte ∷ text

-- the path: the new one, with `/` in front if it doesn't begin with one, or the target's
abbrev pub path_after : Option (List ℕ) → List ℕ → List ℕ
path_after None target = path_of target
path_after (Some path) target = root_of path ++ escaped_in part.Path path

-- the query: the new one, without a `?` at its front, or the target's
abbrev pub query_after : Option (List ℕ) → List ℕ → List ℕ
query_after None target = query_of target
query_after (Some query) target = escaped_in part.Query (without_question query)

-- a path, and `?` and a query where that isn't empty
abbrev pub with_query : List ℕ → List ℕ → List ℕ
with_query path [] = path
with_query path (byte ∷ query) = path ++ question ∷ byte ∷ query

-- the target of the path and the query that there are then
abbrev pub joined : Option (List ℕ) → Option (List ℕ) → List ℕ → List ℕ
joined path query target = with_query (path_after path target) (query_after query target)

-- the target after some changes: it stays where they change neither its path nor its query
abbrev pub changed_target : Option (List ℕ) → Option (List ℕ) → List ℕ → List ℕ
changed_target None None target = target
changed_target (Some path) query target = joined (Some path) query target
changed_target None (Some query) target = joined None (Some query) target

abbrev pub target_after : Changes → List ℕ → List ℕ
target_after changes target = changed_target changes.path changes.query target

-- ---- the headers
-- the byte may stand in a value: no control byte but a tab
abbrev pub is_value_byte : ℕ → Bool
is_value_byte byte = (nat_le space byte || byte == tab) && not (byte == delete)

-- a value without the other bytes
abbrev pub cleaned_value : List ℕ → List ℕ
cleaned_value value = filter is_value_byte value

-- a header with its name in lower case
abbrev pub new_header : List ℕ → List ℕ → Header
new_header name value = record { name = str_to_ascii_lowercase name; value = cleaned_value value }

-- the headers but for those of a name, ASCII case ignored
abbrev pub without : List ℕ → List Header → List Header
without name headers = filter (λ header. not (has_name name header)) headers

-- the headers with one in the place of the first of its name and without the others, or at the end if there is none
abbrev pub with_header : Header → List Header → List Header
with_header new [] = new ∷ []
with_header new (header ∷ headers) =
    if has_name new.name header then new ∷ without new.name headers else header ∷ with_header new headers

-- the headers after one change of a name
abbrev pub changed_by : Change → List ℕ → List Header → List Header
changed_by (change.Set value) name headers = with_header (new_header name value) headers
changed_by (change.Add value) name headers = headers ++ new_header name value ∷ []
changed_by change.Remove name headers = without name headers

abbrev pub changed : HeaderChange → List Header → List Header
changed header_change headers = changed_by header_change.change header_change.name headers

-- the headers after some changes, one after the other
abbrev pub headers_after : List HeaderChange → List Header → List Header
headers_after [] headers = headers
headers_after (header_change ∷ changes) headers = headers_after changes (changed header_change headers)

-- ---- the whole
-- a request after some changes: only its target and its headers change
abbrev pub rewritten : Changes → Request → Request
rewritten changes request =
    record request { target = target_after changes request.target; headers = headers_after changes.headers request.headers }

-- ---- redirects
-- the byte may stand in a location: no control byte
abbrev pub is_location_byte : ℕ → Bool
is_location_byte byte = nat_le space byte && not (byte == delete)

-- what a query is put behind: `&` in a location that holds a `?`, else `?`
abbrev pub query_mark : List ℕ → ℕ
query_mark location = if list_any is_question location then ampersand else question

-- what follows a location: the query, where it is to be kept and isn't empty
abbrev pub kept_query : List ℕ → Bool → List ℕ → List ℕ
kept_query location keeps query = if keeps && has_bytes query then query_mark location ∷ query else []

-- where a redirect leads: the location and the query that is kept, without control bytes
abbrev pub location_of : List ℕ → Bool → List ℕ → List ℕ
location_of location keeps target = filter is_location_byte (location ++ kept_query location keeps (query_of target))
