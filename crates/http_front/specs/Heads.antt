-- A request's head at the front of some bytes. Its grammar is that of `httparse`, with a limit on its fields and on its
-- bytes.
use Rattle.std.specs.Prelude.{ℕ, ◌+◌, ◌≤◌, Bool, ◌==◌, List, length, take}
use Rattle.std.specs.List.{count_by}
use Rattle.httparse.specs.Grammar.{LineEnd, RequestHead, print_request, ReadsRequest}
use Rattle.httparse.specs.Pieces.{Blank}
use Rattle.httparse.specs.Spans.{RequestOverflows}
use Rattle.edge_base.specs.Bytes.{newline}

-- the most header fields of a head
abbrev pub headers_max : ℕ
headers_max = 100

-- the most bytes of a head
abbrev pub head_max : ℕ
head_max = 65536

-- the bytes are this head and then the rest
pub record IsHead (bytes : List ℕ) (head : RequestHead) (rest : List ℕ) : Type 0 where
  pub reads : ReadsRequest bytes head rest
  pub few : length head.fields ≤ headers_max
  pub short : length (print_request head) ≤ head_max

-- no head stands at the front
abbrev pub HasNoHead : List ℕ → Type 0
HasNoHead bytes = (head : RequestHead) (rest : List ℕ) → ¬ (IsHead bytes head rest)

-- the bytes in which a head must end
abbrev pub front_of : List ℕ → List ℕ
front_of bytes = take head_max bytes

-- a byte that ends a line
abbrev pub is_line_feed : ℕ → Bool
is_line_feed byte = byte == newline

-- behind the empty lines at their front, the bytes hold at least so many line feeds
abbrev pub HoldsLines : ℕ → List ℕ → Type 0
HoldsLines count bytes =
    (ends : List LineEnd) × (rest : List ℕ) × Blank ends bytes rest × (count ≤ count_by is_line_feed rest)

-- a head at the front would have too many fields, whatever follows; and the lines of more than 100 fields came
pub record HasTooMany (bytes : List ℕ) : Type 0 where
  pub none : RequestOverflows headers_max bytes
  pub lines : HoldsLines (headers_max + 2) bytes
