-- What rewrites keep until their phase ends, and what becomes of request and reply then.
use Rattle.std.specs.Prelude.{ℕ, Bool, List, [], ◌∷◌, ◌++◌, filter, Option, None, Some}
use Rattle.std.specs.Option.{option_or}
use Rattle.std.specs.Str.{str_to_ascii_lowercase}
use Rattle.std.specs.Cmp.Lexicographic.{slice_cmp}
use Rattle.std.specs.Ordering.{is_lt, nat_cmp}
use Rattle.edge_base.specs.declared.message.Reply.{Reply}
use Rattle.rewrite_apply.specs.declared.changes.Change.{Change}
use Rattle.rewrite_apply.specs.declared.changes.Change.TheVariants as change
use Rattle.rewrite_apply.specs.declared.changes.Changes.{Changes}
use Rattle.rewrite_apply.specs.declared.changes.HeaderChange.{HeaderChange}
use Rattle.rewrite_apply.specs.Rewrites.{rewritten, headers_after}
use Rattle.ruleset_model.specs.declared.dynamic.Dynamic.{Dynamic}
use Rattle.ruleset_model.specs.declared.rewrite.HeaderRewrite.{HeaderRewrite}
use Rattle.ruleset_model.specs.declared.rewrite.Operation.{Operation}
use Rattle.ruleset_model.specs.declared.rewrite.Operation.TheVariants as operation
use Rattle.ruleset_model.specs.declared.rewrite.Rewrite.{Rewrite}
use Rattle.ruleset_model.specs.declared.rewrite.UriRewrite.{UriRewrite}
use Rattle.judge_core.specs.Carried.{Carried}
use Rattle.judge_core.specs.Values.{Listed, text_on}

-- no changes
abbrev pub unchanged : Changes
unchanged = record { path = None; query = None; headers = [] }

-- ---- one part
-- the text of a part that a rule changes, where it changes it and the value isn't missing
abbrev pub part_text : Listed → Option Dynamic → Carried → Option (List ℕ)
part_text listed None c = None
part_text listed (Some dynamic) c = text_on listed dynamic c

-- whether a text comes before another in byte order
abbrev pub is_before : List ℕ → List ℕ → Bool
is_before one other = is_lt (slice_cmp nat_cmp one other)

abbrev pub before : List ℕ → List HeaderChange → List HeaderChange
before name changes = filter (λ (one : HeaderChange). is_before one.name name) changes

abbrev pub behind : List ℕ → List HeaderChange → List HeaderChange
behind name changes = filter (λ (one : HeaderChange). is_before name one.name) changes

-- the changes, in byte order of their names, with a new one in place of an earlier one of its name
abbrev pub put_change : HeaderChange → List HeaderChange → List HeaderChange
put_change new changes = before new.name changes ++ new ∷ behind new.name changes

-- what an operation does to the headers of its name, or none where its value is missing
abbrev pub set_to : Option (List ℕ) → Option Change
set_to None = None
set_to (Some text) = Some (change.Set text)

abbrev pub added : Option (List ℕ) → Option Change
added None = None
added (Some text) = Some (change.Add text)

abbrev pub change_on : Listed → Operation → Carried → Option Change
change_on listed (operation.Set value) c = set_to (text_on listed value c)
change_on listed (operation.Add value) c = added (text_on listed value c)
change_on listed operation.Remove c = Some change.Remove

abbrev pub with_change : List ℕ → Option Change → List HeaderChange → List HeaderChange
with_change name None headers = headers
with_change name (Some change) headers =
    put_change (record { name = str_to_ascii_lowercase name; change = change }) headers

-- ---- one rule
-- the path, the query and the headers: what a rule changes, or else what was kept before
abbrev pub header_kept : Listed → HeaderRewrite → Carried → List HeaderChange → List HeaderChange
header_kept listed header c headers = with_change header.name (change_on listed header.operation c) headers

abbrev pub headers_kept : Listed → List HeaderRewrite → Carried → List HeaderChange → List HeaderChange
headers_kept listed [] c headers = headers
headers_kept listed (header ∷ rest) c headers = headers_kept listed rest c (header_kept listed header c headers)

abbrev pub path_kept : Listed → Option UriRewrite → Carried → Option (List ℕ)
path_kept listed None c = c.changes.path
path_kept listed (Some uri) c = option_or (part_text listed uri.path c) c.changes.path

abbrev pub query_kept : Listed → Option UriRewrite → Carried → Option (List ℕ)
query_kept listed None c = c.changes.query
query_kept listed (Some uri) c = option_or (part_text listed uri.query c) c.changes.query

abbrev pub all_kept : Listed → Option (List HeaderRewrite) → Carried → List HeaderChange
all_kept listed None c = c.changes.headers
all_kept listed (Some headers) c = headers_kept listed headers c c.changes.headers

-- what is carried once a rule has rewritten: a later rule's change of a part takes the place of an earlier one's
abbrev pub rewriting : Listed → Rewrite → Carried → Carried
rewriting listed rewrite c = record c {
  changes = record {
    path = path_kept listed rewrite.uri c;
    query = query_kept listed rewrite.uri c;
    headers = all_kept listed rewrite.headers c;
  };
}

-- ---- the end of a phase
abbrev pub replied : List HeaderChange → Reply → Reply
replied headers reply = record reply { headers = headers_after headers reply.headers }

-- the changes are made: to the headers of the reply, where one is judged, else to the request
abbrev pub settled : Option Reply → Carried → Carried
settled None c = record c { request = rewritten c.changes c.request; changes = unchanged }
settled (Some reply) c = record c { reply = Some (replied c.changes.headers reply); changes = unchanged }

abbrev pub phase_end : Carried → Carried
phase_end c = settled c.reply c
