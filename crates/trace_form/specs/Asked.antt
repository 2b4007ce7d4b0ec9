-- The request that an object of a line tells.
use Rattle.std.specs.Prelude.{◌≡◌, ℕ, ◌^◌, Bool, true, false, ◌&&◌, not, ◌==◌, nat_lt, nat_le, cond, List, [], ◌∷◌, length, codes}
use Rattle.std.specs.Prelude.{Option, Some, None, MatchOption, is_some, option_and_then, option_map, bytes_eq}
use Rattle.std.specs.Bool.{then_some}
use Rattle.std.specs.Option.{option_map_or}
use Rattle.std.specs.List.{list_all}
use Rattle.serde_json.specs.Data.{Data, Num, unsigned, negative, float, Items, no_items, item}
use Rattle.serde_json.specs.Find.{get, at as element, as_bool, as_str, as_array, as_number}
use Rattle.serde_json.specs.Events.{items_len}
use Rattle.edge_base.specs.declared.message.Header.{Header}
use Rattle.edge_base.specs.declared.message.Request.{Request}
use Rattle.edge_base.specs.declared.message.Reply.{Reply}
use Rattle.edge_base.specs.declared.address.Addr.{Addr}
use Rattle.edge_base.specs.Address.{IsAddrText}
use Rattle.trace_form.specs.declared.item.Recorded.{Recorded}
use Rattle.trace_form.specs.declared.refusal.BadCause.{BadCause}
use Rattle.trace_form.specs.declared.refusal.BadCause.TheVariants as cause
use Rattle.trace_form.specs.Members.{has_items, text_of, is_token}
use Rattle.edge_base.specs.Bytes.{nul, newline, carriage_return, space, delete}

-- the moment that an integer tells, which is from 0 to 2^53; another number tells none, and an integer that is out of
-- range tells that there is none
abbrev pub moment_in : Num → Option (Option ℕ)
moment_in (unsigned n) = Some (then_some (nat_le n (2 ^ 53)) n)
moment_in (negative z) = Some None
moment_in (float x) = None

-- when it came
abbrev pub moment_of : Data → Option (Option ℕ)
moment_of value = option_and_then moment_in (option_and_then as_number (get (codes "at") value))

-- the peer: the text of an address
abbrev pub IsPeer : Data → Addr → Type 0
IsPeer value peer = (text : List ℕ) × (text_of (codes "ip") value ≡ Some text) × IsAddrText text peer

-- the peer that was found, or that there is none
abbrev pub IsPeerFound : Data → Option Addr → Type 0
IsPeerFound value found = MatchOption found ((peer : Addr) → ¬ (IsPeer value peer)) (λ peer. IsPeer value peer)

-- a member that may be left out: what it is read as, or the default
abbrev pub member_or : {A : Type 0} → A → (Data → Option A) → Option Data → Option A
member_or default reading None = Some default
member_or default reading (Some member) = reading member

-- whether it came over TLS, by default not
abbrev pub ssl_of : Data → Option Bool
ssl_of value = member_or false as_bool (get (codes "ssl") value)

-- the last number of a version
abbrev pub minor_in : List ℕ → Option ℕ
minor_in text = cond (bytes_eq text (codes "HTTP/1.0")) (Some 0) (cond (bytes_eq text (codes "HTTP/1.1")) (Some 1) None)

-- the last number of the version, by default of HTTP/1.1
abbrev pub minor_of : Data → Option ℕ
minor_of value = member_or 1 (λ version. option_and_then minor_in (as_str version)) (get (codes "version") value)

-- a token of at most 32 bytes
abbrev pub is_method : List ℕ → Bool
is_method text = nat_le (length text) 32 && is_token text

abbrev pub method_of : Data → Option (List ℕ)
method_of value = option_and_then (λ text. then_some (is_method text) text) (text_of (codes "method") value)

-- a byte above the space, and not 0x7F
abbrev pub is_target_byte : ℕ → Bool
is_target_byte byte = nat_lt space byte && not (byte == delete)

-- 1 to 16,384 such bytes
abbrev pub is_target : List ℕ → Bool
is_target text = nat_lt 0 (length text) && nat_le (length text) 16384 && list_all is_target_byte text

abbrev pub target_of : Data → Option (List ℕ)
target_of value = option_and_then (λ text. then_some (is_target text) text) (text_of (codes "target") value)

-- a text without CR, LF and NUL
abbrev pub is_header_value : List ℕ → Bool
is_header_value text = list_all (λ byte. not (byte == carriage_return) && not (byte == newline) && not (byte == nul)) text

-- the two texts of an array that has two elements
abbrev pub pair_of : Data → Option (List ℕ × List ℕ)
pair_of value = cond (has_items 2 value)
    (option_and_then
    (λ name. option_map (λ text. (name, text)) (option_and_then as_str (element 1 value)))
    (option_and_then as_str (element 0 value)))
    None

abbrev pub header_from : List ℕ → List ℕ → Header
header_from name value = record { name = name; value = value }

-- a header: a pair of a token and a value
abbrev pub header_of : Data → Option Header
header_of value = option_and_then (λ pair. then_some (is_token pair.0 && is_header_value pair.1) (header_from pair.0 pair.1)) (pair_of value)

-- each element is a header
abbrev pub headers_from : Items → Option (List Header)
headers_from no_items = Some []
headers_from (item value values) = option_and_then (λ header. option_map (λ headers. header ∷ headers) (headers_from values)) (header_of value)

-- an array of at most 100 headers
abbrev pub headers_in : Data → Option (List Header)
headers_in value = option_and_then
    (λ items. cond (nat_le (items_len items) 100) (headers_from items) None)
    (as_array value)

-- the headers, by default none
abbrev pub headers_of : Data → Option (List Header)
headers_of value = member_or [] headers_in (get (codes "headers") value)

-- a status: an integer from 100 to 999
abbrev pub status_in : Num → Option ℕ
status_in (unsigned n) = then_some (nat_le 100 n && nat_le n 999) n
status_in (negative z) = None
status_in (float x) = None

abbrev pub status_of : Data → Option ℕ
status_of value = option_and_then status_in (option_and_then as_number (get (codes "status") value))

-- the moment of a reply, by default that of its request
abbrev pub moment_or : Option ℕ → Data → Option (Option ℕ)
moment_or at value = member_or at (λ member. option_and_then moment_in (as_number member)) (get (codes "at") value)

-- a reply without a body
abbrev pub reply_from : ℕ → List Header → Reply
reply_from status headers = record { status = status; headers = headers; body = [] }

-- a reply, and its moment, which is none where it is out of range
abbrev pub ToldReply : Type 0
ToldReply = Reply × Option ℕ

-- the reply that an object tells, to a request of this moment
abbrev pub reply_in : Option ℕ → Data → Option ToldReply
reply_in at value = option_and_then
    (λ status. option_and_then
    (λ moment. option_map (λ headers. (reply_from status headers, moment)) (headers_of value))
    (moment_or at value))
    (status_of value)

-- what a member tells of a reply: none where it isn't there
abbrev pub reply_by : Option ℕ → Option Data → Option (Option ToldReply)
reply_by at member = member_or None (λ value. option_map Some (reply_in at value)) member

abbrev pub reply_of : Option ℕ → Data → Option (Option ToldReply)
reply_of at value = reply_by at (get (codes "reply") value)

-- what the object of a request tells: its moment, which is none where it is out of range, the text of its peer, and the
-- parts of the request
pub record Told : Type 0 where
  pub at : Option ℕ
  pub ip : List ℕ
  pub ssl : Bool
  pub method : List ℕ
  pub target : List ℕ
  pub minor : ℕ
  pub headers : List Header

-- each member of the request that is needed is there, each that is there has its form, and this is what they tell
pub record IsTold (value : Data) (told : Told) : Type 0 where
  pub at : moment_of value ≡ Some told.at
  pub ip : text_of (codes "ip") value ≡ Some told.ip
  pub ssl : ssl_of value ≡ Some told.ssl
  pub method : method_of value ≡ Some told.method
  pub target : target_of value ≡ Some told.target
  pub minor : minor_of value ≡ Some told.minor
  pub headers : headers_of value ≡ Some told.headers

-- the same, and what the object tells of a reply
abbrev pub IsToldWith : Data → Told → Option ToldReply → Type 0
IsToldWith value told reply = IsTold value told × (reply_of told.at value ≡ Some reply)

-- a member that is needed isn't there, or one that is there hasn't its form
abbrev pub IsShapeless : Data → Type 0
IsShapeless value = (told : Told) (reply : Option ToldReply) → ¬ (IsToldWith value told reply)

-- the moments of the request and of its reply are in range
abbrev pub has_moments : Option ℕ → Option ToldReply → Bool
has_moments at reply = is_some at && option_map_or (λ r. is_some r.1) reply true

-- the value tells this request
pub record IsRequest (value : Data) (request : Request) : Type 0 where
  pub at : moment_of value ≡ Some (Some request.at)
  pub from : IsPeer value request.from
  pub ssl : ssl_of value ≡ Some request.ssl
  pub method : method_of value ≡ Some request.method
  pub target : target_of value ≡ Some request.target
  pub minor : minor_of value ≡ Some request.minor
  pub headers : headers_of value ≡ Some request.headers
  pub body : request.body ≡ []

-- a reply that was recorded with its moment, as it is told
abbrev pub told_reply : Option (Reply × ℕ) → Option ToldReply
told_reply recorded = option_map (λ r. (r.0, Some r.1)) recorded

-- the value tells this request, and this reply or none
pub record IsRecorded (value : Data) (recorded : Recorded) : Type 0 where
  pub request : IsRequest value recorded.request
  pub reply : reply_of (Some recorded.request.at) value ≡ Some (told_reply recorded.reply)

-- why a value tells no request, the first cause that applies: its shape, its peer or its moments
pub data IsNoRequest (value : Data) (why : BadCause) : Type 0 where
  shape : IsShapeless value → why ≡ cause.Shape → IsNoRequest value why
  address : (told : Told) (reply : Option ToldReply) → IsToldWith value told reply → ((peer : Addr) → ¬ (IsPeer value peer))
      → why ≡ cause.BadAddress → IsNoRequest value why
  moment : (told : Told) (reply : Option ToldReply) → IsToldWith value told reply → (peer : Addr) → IsPeer value peer
      → has_moments told.at reply ≡ false → why ≡ cause.BadMoment → IsNoRequest value why
