-- What a target stands for: its uri, and the path, the query and the arguments of the uri.
use Rattle.std.specs.Prelude.{ℕ, ◌==◌, Bool, ◌||◌, List, [], ◌∷◌, ◌++◌, Option, None, Some, nat_lt, length, take, drop, map, filter, codes, if◌then◌else◌}
use Rattle.std.specs.List.{position_or_len, before_first, after_first, slice_split}
use Rattle.std.specs.Option.{option_or, option_map_or}
use Rattle.std.specs.Str.{str_eq_ignore_ascii_case}
use Rattle.edge_base.specs.Bytes.{ampersand, slash, equals, question}

-- the byte `?`
abbrev pub is_question : ℕ → Bool
is_question byte = byte == question

-- `/` or `?`, at which an authority ends
abbrev pub ends_authority : ℕ → Bool
ends_authority byte = byte == slash || byte == question

-- what follows the front of a text, where the text begins with that front, ASCII case ignored
abbrev pub after_front : List ℕ → List ℕ → Option (List ℕ)
after_front front text =
    if str_eq_ignore_ascii_case (take (length front) text) front then Some (drop (length front) text) else None

-- what follows the scheme of a target in absolute form
abbrev pub after_scheme : List ℕ → Option (List ℕ)
after_scheme target = option_or (after_front (codes "http://") target) (after_front (codes "https://") target)

-- what follows an authority
abbrev pub after_authority : List ℕ → List ℕ
after_authority text = drop (position_or_len ends_authority text) text

-- `/` where a text doesn't begin with it, else nothing
abbrev pub root_of : List ℕ → List ℕ
root_of [] = codes "/"
root_of (byte ∷ text) = if byte == slash then [] else codes "/"

-- a text with `/` in front if it doesn't begin with one
abbrev pub rooted : List ℕ → List ℕ
rooted text = root_of text ++ text

-- the uri of what follows a scheme
abbrev pub uri_after : List ℕ → List ℕ
uri_after text = rooted (after_authority text)

-- the uri: the target or, of a target in absolute form, what follows the authority, with `/` in front
abbrev pub uri_of : List ℕ → List ℕ
uri_of target = option_map_or uri_after (after_scheme target) target

-- what the uri begins with that doesn't stand in the target: `/` where it had to be put in front, else nothing
abbrev pub added_root : List ℕ → List ℕ
added_root target = option_map_or (λ rest. root_of (after_authority rest)) (after_scheme target) []

-- the path: the uri up to its first `?`
abbrev pub path_of : List ℕ → List ℕ
path_of target = before_first is_question (uri_of target)

-- the query: what follows the first `?` of the uri, or nothing
abbrev pub query_of : List ℕ → List ℕ
query_of target = after_first is_question (uri_of target)

-- the byte `&`
abbrev pub is_ampersand : ℕ → Bool
is_ampersand byte = byte == ampersand

-- the byte `=`
abbrev pub is_equals : ℕ → Bool
is_equals byte = byte == equals

-- whether a text has a byte
abbrev pub has_bytes : List ℕ → Bool
has_bytes text = nat_lt 0 (length text)

-- a piece of a query as an argument: its name up to the first `=`, and its value after it, or nothing
abbrev pub argument_of : List ℕ → List ℕ × List ℕ
argument_of piece = (before_first is_equals piece, after_first is_equals piece)

-- the arguments of a query: its pieces between `&` but for the empty ones
abbrev pub arguments_of : List ℕ → List (List ℕ × List ℕ)
arguments_of query = map argument_of (filter has_bytes (slice_split is_ampersand query))
