-- The request that bytes hold, or the cause why they hold none.
use Rattle.std.specs.Prelude.{◌≡◌, ℕ, ◌<◌, ◌≤◌, ◌⊎◌, Bool, List, [], ◌++◌, length, map, take, Option, Result, Ok, Err}
use Rattle.httparse.specs.Grammar.{Field, field_value, RequestHead, ReadsRequest, HasNoRequest, NeverHasRequest}
use Rattle.edge_base.specs.declared.address.Addr.{Addr}
use Rattle.edge_base.specs.declared.message.Header.{Header}
use Rattle.edge_base.specs.declared.message.Request.{Request}
use Rattle.edge_outside.specs.Told.{Gave}
use Rattle.http_front.specs.declared.causes.HeadFault.{HeadFault}
use Rattle.http_front.specs.declared.causes.HeadFault.TheVariants as fault
use Rattle.http_front.specs.Framing.{framing_of}
use Rattle.http_front.specs.Heads.{head_max, IsHead, HasNoHead, front_of, HasTooMany}

-- a field as a header: its name as sent, and its value without the blanks around it
abbrev pub header_of : Field → Header
header_of field = record { name = field.name; value = field_value field }

-- the headers of a head, in order
abbrev pub headers_of : RequestHead → List Header
headers_of head = map header_of head.fields

-- the peer that sends, whether it came over TLS, and when
pub record Arrival : Type 0 where
  pub from : Addr
  pub ssl : Bool
  pub at : ℕ

abbrev pub arrival_of : Addr → Bool → ℕ → Arrival
arrival_of from ssl at = record { from = from; ssl = ssl; at = at }

-- the request of a head and a body
pub record IsRequestWith (arrival : Arrival) (head : RequestHead) (body : List ℕ) (request : Request) : Type 0 where
  pub at : request.at ≡ arrival.at
  pub from : request.from ≡ arrival.from
  pub ssl : request.ssl ≡ arrival.ssl
  pub method : request.method ≡ head.method
  pub target : request.target ≡ head.target
  pub minor : request.minor ≡ head.minor
  pub headers : request.headers ≡ headers_of head
  pub body_is : request.body ≡ body

-- a head of this length of body gives this answer with the bytes behind it, which are all: the request, or that they end
-- too soon
abbrev pub AnswersBody : Arrival → RequestHead → List ℕ → ℕ → Result Request HeadFault → Type 0
AnswersBody arrival head rest n (Ok request) = (n ≤ length rest) × IsRequestWith arrival head (take n rest) request
AnswersBody arrival head rest n (Err cause) = (length rest < n) × (cause ≡ fault.Cut)

-- a head gives this answer with the bytes behind it: by the length of its body, or the first cause against it
abbrev pub AnswersBy : Arrival → RequestHead → List ℕ → Result ℕ HeadFault → Result Request HeadFault → Type 0
AnswersBy arrival head rest (Ok n) result = AnswersBody arrival head rest n result
AnswersBy arrival head rest (Err cause) result = result ≡ Err cause

-- a head gives this answer with the bytes behind it, which are all
abbrev pub AnswersHead : Arrival → RequestHead → List ℕ → Result Request HeadFault → Type 0
AnswersHead arrival head rest result = AnswersBy arrival head rest (framing_of (headers_of head)) result

-- a cause that all the bytes give where no head stands at their front
abbrev pub Lacks : List ℕ → HeadFault → Type 0
Lacks bytes fault.BadHead = NeverHasRequest (front_of bytes)
Lacks bytes fault.TooManyHeaders = HasTooMany (front_of bytes)
Lacks bytes fault.HeadTooLong = head_max ≤ length bytes
Lacks bytes fault.Cut = length bytes < head_max
Lacks bytes fault.Coding = ⊥
Lacks bytes fault.BadLength = ⊥
Lacks bytes fault.BodyTooLong = ⊥
Lacks bytes fault.ReadFault = ⊥
Lacks bytes fault.Memory = ⊥

-- the head at the front of the bytes gives this answer
abbrev pub AnswersSome : Arrival → List ℕ → Result Request HeadFault → Type 0
AnswersSome arrival bytes result =
    (head : RequestHead) × (rest : List ℕ) × IsHead bytes head rest × AnswersHead arrival head rest result

-- no head stands at the front of the bytes, which gives this answer
abbrev pub AnswersNone : List ℕ → Result Request HeadFault → Type 0
AnswersNone bytes (Ok request) = ⊥
AnswersNone bytes (Err cause) = HasNoHead bytes × Lacks bytes cause

-- all the bytes, which a head begins or none, give this answer
abbrev pub Answers : Arrival → List ℕ → Result Request HeadFault → Type 0
Answers arrival bytes result = AnswersSome arrival bytes result ⊎ AnswersNone bytes result

-- where a head stands at the front, the bytes give its answers alone
abbrev pub AnswersAreExact : Type 0
AnswersAreExact =
    (arrival : Arrival) (bytes : List ℕ) (head : RequestHead) (rest : List ℕ) (result : Result Request HeadFault)
    → IsHead bytes head rest → Answers arrival bytes result → AnswersHead arrival head rest result

-- the most bytes that one read asks for
abbrev pub piece_max : ℕ
piece_max = 4096

-- at most so many bytes were read
abbrev pub TookSome : {S : Type 0} → (S → Option (List ℕ)) → (S → Option (List ℕ)) → S → S → ℕ → Type 0
TookSome left taken source source' most = (bytes : List ℕ) × Gave left taken source source' bytes × (length bytes ≤ most)

-- bytes that were read until they held a head: those before the last piece hold none
pub record UntilHead (bytes : List ℕ) : Type 0 where
  pub before : List ℕ
  pub last : List ℕ
  pub parts : bytes ≡ before ++ last
  pub none : HasNoRequest before
  pub few : length last ≤ piece_max

-- the bytes are a head and this body
abbrev pub EndsWithBody : List ℕ → List ℕ → Type 0
EndsWithBody bytes body = (head : RequestHead) × ReadsRequest bytes head body

-- bytes that were read until they held a head, and from there on no further than its body
pub record UntilBody (bytes body : List ℕ) : Type 0 where
  pub front : List ℕ
  pub more : List ℕ
  pub parts : bytes ≡ front ++ more
  pub head : UntilHead front
  pub just : (more ≡ []) ⊎ EndsWithBody bytes body

-- such bytes were read
abbrev pub TookUntil : {S : Type 0} → (S → Option (List ℕ)) → (S → Option (List ℕ)) → S → S → List ℕ → Type 0
TookUntil left taken source source' body = (bytes : List ℕ) × Gave left taken source source' bytes × UntilBody bytes body
