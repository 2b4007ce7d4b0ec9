-- The request of an object whose member `raw` has its head and its body as they were sent.
use Rattle.std.specs.Prelude.{◌≡◌, ℕ, Bool, true, false, List, codes, Option, Some, Ok}
use Rattle.serde_json.specs.Data.{Data}
use Rattle.edge_base.specs.declared.address.Addr.{Addr}
use Rattle.edge_base.specs.declared.message.Request.{Request}
use Rattle.http_front.specs.Reading.{arrival_of, Answers}
use Rattle.trace_form.specs.declared.item.Recorded.{Recorded}
use Rattle.trace_form.specs.declared.refusal.BadCause.{BadCause}
use Rattle.trace_form.specs.declared.refusal.BadCause.TheVariants as cause
use Rattle.trace_form.specs.Members.{text_of}
use Rattle.trace_form.specs.Asked.{moment_of, ssl_of, IsPeer, ToldReply, reply_of, told_reply, has_moments}

-- the bytes that were sent
abbrev pub bytes_of : Data → Option (List ℕ)
bytes_of value = text_of (codes "raw") value

-- what such an object tells: its moment, which is none where it is out of range, the text of its peer, and the bytes
pub record Sent : Type 0 where
  pub at : Option ℕ
  pub ip : List ℕ
  pub ssl : Bool
  pub bytes : List ℕ

-- each member that is needed is there, each that is there has its form, and this is what they tell
pub record IsSent (value : Data) (sent : Sent) : Type 0 where
  pub at : moment_of value ≡ Some sent.at
  pub ip : text_of (codes "ip") value ≡ Some sent.ip
  pub ssl : ssl_of value ≡ Some sent.ssl
  pub bytes : bytes_of value ≡ Some sent.bytes

-- the same, and what the object tells of a reply
abbrev pub IsSentWith : Data → Sent → Option ToldReply → Type 0
IsSentWith value sent reply = IsSent value sent × (reply_of sent.at value ≡ Some reply)

-- a member that is needed isn't there, or one that is there hasn't its form
abbrev pub IsFormless : Data → Type 0
IsFormless value = (sent : Sent) (reply : Option ToldReply) → ¬ (IsSentWith value sent reply)

-- the bytes begin with this request, whole, which a peer sent at a moment
abbrev pub IsRead : List ℕ → Addr → Bool → ℕ → Request → Type 0
IsRead bytes from ssl at request = Answers (arrival_of from ssl at) bytes (Ok request)

-- they begin with none
abbrev pub IsUnread : List ℕ → Addr → Bool → ℕ → Type 0
IsUnread bytes from ssl at = (request : Request) → ¬ (IsRead bytes from ssl at request)

-- the value tells this request, with which its bytes begin
pub record IsSentRequest (value : Data) (request : Request) : Type 0 where
  pub at : moment_of value ≡ Some (Some request.at)
  pub from : IsPeer value request.from
  pub ssl : ssl_of value ≡ Some request.ssl
  pub bytes : List ℕ
  pub are_bytes : bytes_of value ≡ Some bytes
  pub read : IsRead bytes request.from request.ssl request.at request

-- the value tells this request, and this reply or none
pub record IsSentRecorded (value : Data) (recorded : Recorded) : Type 0 where
  pub request : IsSentRequest value recorded.request
  pub reply : reply_of (Some recorded.request.at) value ≡ Some (told_reply recorded.reply)

-- why a value tells no such request, the first cause that applies: its shape, its peer, its moments or its bytes
pub data IsNoSent (value : Data) (why : BadCause) : Type 0 where
  shape : IsFormless value → why ≡ cause.Shape → IsNoSent value why
  address : (sent : Sent) (reply : Option ToldReply) → IsSentWith value sent reply → ((peer : Addr) → ¬ (IsPeer value peer))
      → why ≡ cause.BadAddress → IsNoSent value why
  moment : (sent : Sent) (reply : Option ToldReply) → IsSentWith value sent reply → (peer : Addr) → IsPeer value peer
      → has_moments sent.at reply ≡ false → why ≡ cause.BadMoment → IsNoSent value why
  head : (sent : Sent) (reply : Option ToldReply) → IsSentWith value sent reply → (peer : Addr) → IsPeer value peer
      → has_moments sent.at reply ≡ true → (at : ℕ) → sent.at ≡ Some at → IsUnread sent.bytes peer sent.ssl at
      → why ≡ cause.BadHead → IsNoSent value why
