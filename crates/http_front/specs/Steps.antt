-- Working vocabulary, which no public clause cites.
-- What one look at the bytes of a head finds, and what is made of a head that was found.
use Rattle.std.specs.Prelude.{◌≡◌, ℕ, ◌<◌, ◌≤◌, ◌⊎◌, nat_lt, if◌then◌else◌, List, ◌++◌, length, take, drop, All, Option, Result, Ok, Err}
use Rattle.std.specs.Io.KnownBytes.{IsAtEnd}
use Rattle.httparse.specs.Grammar.{RequestHead, print_request, HasNoRequest, NeverHasRequest}
use Rattle.httparse.specs.Spans.{span_bytes, IsHeaderWithin, IsRequestWithin, IsRequestOf}
use Rattle.httparse.specs.declared.spans.HeaderSpan.{HeaderSpan}
use Rattle.httparse.specs.declared.spans.RequestSpans.{RequestSpans}
use Rattle.edge_base.specs.declared.message.Header.{Header}
use Rattle.edge_base.specs.declared.message.Request.{Request}
use Rattle.edge_outside.specs.Told.{Gave}
use Rattle.http_front.specs.declared.causes.HeadFault.{HeadFault}
use Rattle.http_front.specs.declared.causes.HeadFault.TheVariants as fault
use Rattle.http_front.specs.declared.heads.Begun.{Begun}
use Rattle.http_front.specs.declared.heads.HeadState.{HeadState}
use Rattle.http_front.specs.declared.heads.HeadState.TheVariants as state
use Rattle.http_front.specs.Framing.{body_max, framing_of}
use Rattle.http_front.specs.Heads.{head_max, HasNoHead, HasTooMany}
use Rattle.http_front.specs.Reading.{Arrival, headers_of, Lacks}

-- the places cover a head of the bytes
abbrev pub Covers : List ℕ → List HeaderSpan → RequestSpans → Type 0
Covers bytes places head = IsRequestWithin bytes places head × IsRequestOf bytes places head

-- what a look at the bytes finds
abbrev pub Finds : List ℕ → List HeaderSpan → HeadState → Type 0
Finds bytes places (state.Whole head) = Covers bytes places head
Finds bytes places state.Bad = NeverHasRequest bytes
Finds bytes places state.Crowded = HasTooMany bytes
Finds bytes places state.Open = HasNoRequest bytes

-- the places lie in the bytes
abbrev pub LieIn : List ℕ → List HeaderSpan → Type 0
LieIn bytes places = (limit : ℕ) × (limit ≤ length bytes) × All (IsHeaderWithin limit) places

-- the header that stands at a place
abbrev pub header_at : List ℕ → HeaderSpan → Header
header_at bytes place = record { name = span_bytes bytes place.name; value = span_bytes bytes place.value }

-- the parts of a head, and how long it and its body are
pub record Began (head : RequestHead) (begun : Begun) : Type 0 where
  pub method : begun.method ≡ head.method
  pub target : begun.target ≡ head.target
  pub minor : begun.minor ≡ head.minor
  pub headers : begun.headers ≡ headers_of head
  pub start : begun.start ≡ length (print_request head)
  pub framing : framing_of (headers_of head) ≡ Ok begun.length

-- the parts of a head, or the first cause against its body
abbrev pub Begins : RequestHead → Result Begun HeadFault → Type 0
Begins head (Ok begun) = Began head begun
Begins head (Err cause) = (cause ≡ fault.Memory) ⊎ (framing_of (headers_of head) ≡ Err cause)

-- the head lies in the bytes, its version is one of two, and the body isn't too long
pub record IsShort (bytes : List ℕ) (begun : Begun) : Type 0 where
  pub start : begun.start ≤ length bytes
  pub minor : begun.minor ≤ 1
  pub length : begun.length ≤ body_max

-- the request of these parts, with the body that stands in the bytes
pub record IsRequestFrom (arrival : Arrival) (begun : Begun) (bytes : List ℕ) (request : Request) : Type 0 where
  pub at : request.at ≡ arrival.at
  pub from : request.from ≡ arrival.from
  pub ssl : request.ssl ≡ arrival.ssl
  pub method : request.method ≡ begun.method
  pub target : request.target ≡ begun.target
  pub minor : request.minor ≡ begun.minor
  pub headers : request.headers ≡ begun.headers
  pub body_is : request.body ≡ take begun.length (drop begun.start bytes)

-- the cause where so many bytes, which are all or as many as a head may have, hold no head
abbrev pub open_cause : ℕ → HeadFault
open_cause n = if nat_lt n head_max then fault.Cut else fault.HeadTooLong

-- the cause comes of the reading alone
abbrev pub IsReadCause : HeadFault → Type 0
IsReadCause cause = (cause ≡ fault.ReadFault) ⊎ (cause ≡ fault.Memory)

-- the text holds no head and gives this cause, or the cause comes of the reading alone
abbrev pub LacksHead : List ℕ → HeadFault → Type 0
LacksHead text cause = IsReadCause cause ⊎ (HasNoHead text × Lacks text cause)

-- these bytes were read, and came behind those that came before
abbrev pub TookPiece :
    {S : Type 0} → (S → Option (List ℕ)) → (S → Option (List ℕ)) → S → S → List ℕ → List ℕ → List ℕ → Type 0
TookPiece left taken source source' came came' bytes = (came' ≡ came ++ bytes) × Gave left taken source source' bytes

-- so many bytes of a piece were read, and came behind those that came before
abbrev pub TookInto :
    {S : Type 0} → (S → Option (List ℕ)) → (S → Option (List ℕ)) → S → S → List ℕ → List ℕ → List ℕ → ℕ → Type 0
TookInto left taken source source' came came' piece count = TookPiece left taken source source' came came' (take count piece)

-- some bytes were read, and came behind those that came before
abbrev pub TookOn :
    {S : Type 0} → (S → Option (List ℕ)) → (S → Option (List ℕ)) → S → S → List ℕ → List ℕ → Type 0
TookOn left taken source source' came came' =
    (bytes : List ℕ) × TookPiece left taken source source' came came' bytes

-- so many bytes were read, and came behind those that came before
abbrev pub TookMore :
    {S : Type 0} → (S → Option (List ℕ)) → (S → Option (List ℕ)) → S → S → List ℕ → List ℕ → ℕ → Type 0
TookMore left taken source source' came came' count =
    (bytes : List ℕ) × TookPiece left taken source source' came came' bytes × (length bytes ≡ count)

-- nothing more came: there is no room, or the source is at its end
abbrev pub IsLast : ℕ → ℕ → Option (List ℕ) → Type 0
IsLast size most left = (size ≡ most) ⊎ IsAtEnd left

-- `whole` bytes came, or fewer of a source that is at its end
abbrev pub CameWhole : ℕ → List ℕ → Option (List ℕ) → Result (Unit {0}) HeadFault → Type 0
CameWhole whole came left (Ok done) = whole ≤ length came
CameWhole whole came left (Err cause) =
    IsReadCause cause ⊎ ((cause ≡ fault.Cut) × IsAtEnd left × (length came < whole))

-- nothing came, or so much that `whole` bytes are there
abbrev pub CameJust : ℕ → List ℕ → List ℕ → Type 0
CameJust whole came came' = (came' ≡ came) ⊎ (length came' ≡ whole)
