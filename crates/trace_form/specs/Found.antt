-- What was found of a request's object, or that there is nothing of the kind. No public clause cites these words.
use Rattle.std.specs.Prelude.{◌≡◌, ◌≢◌, ℕ, List, Option, Some, None, MatchOption}
use Rattle.serde_json.specs.Data.{Data}
use Rattle.serde_json.specs.Find.{get}
use Rattle.edge_base.specs.declared.address.Addr.{Addr}
use Rattle.edge_base.specs.declared.message.Reply.{Reply}
use Rattle.edge_base.specs.Address.{IsAddrText}
use Rattle.http_front.specs.declared.causes.HeadFault.{HeadFault}
use Rattle.http_front.specs.declared.causes.HeadFault.TheVariants as fault
use Rattle.trace_form.specs.declared.refusal.BadCause.TheVariants as cause
use Rattle.trace_form.specs.declared.refusal.LineFault.{LineFault}
use Rattle.trace_form.specs.declared.refusal.LineFault.TheVariants as line
use Rattle.trace_form.specs.declared.told.Told.{Told as ToldPart}
use Rattle.trace_form.specs.declared.told.Sent.{Sent as SentPart}
use Rattle.trace_form.specs.Asked.{Told, IsTold, IsShapeless, ToldReply, told_reply, reply_of}
use Rattle.trace_form.specs.Sent.{Sent, IsSent, IsFormless}

-- what the object tells, with this text of its peer
abbrev pub told_with : List ℕ → ToldPart → Told
told_with ip part =
    record { at = part.at; ip = ip; ssl = part.ssl; method = part.method; target = part.target; minor = part.minor; headers = part.headers }

-- the address of the text, or that it is none
abbrev pub IsAddrFound : List ℕ → Option Addr → Type 0
IsAddrFound text found = MatchOption found ((addr : Addr) → ¬ (IsAddrText text addr)) (IsAddrText text)

-- this is what the object tells of the request
abbrev pub IsToldBy : Data → ToldPart → Type 0
IsToldBy value part = (ip : List ℕ) × IsTold value (told_with ip part) × IsAddrFound ip part.from

-- what the object tells of the request, or that it hasn't the shape of one
abbrev pub IsToldFound : Data → Option ToldPart → Type 0
IsToldFound value found = MatchOption found ((told : Told) → ¬ (IsTold value told)) (IsToldBy value)

-- this is what the object tells of the request and of its reply
abbrev pub IsBothBy : Data → ToldPart × Option ToldReply → Type 0
IsBothBy value both = IsToldBy value both.0 × (reply_of both.0.at value ≡ Some both.1)

-- what the object tells of the request and of its reply, or that it hasn't the shape of a request
abbrev pub IsBothFound : Data → Option (ToldPart × Option ToldReply) → Type 0
IsBothFound value found = MatchOption found (IsShapeless value) (IsBothBy value)

-- the same where the head and the body stand as they were sent
abbrev pub sent_with : List ℕ → SentPart → Sent
sent_with ip part = record { at = part.at; ip = ip; ssl = part.ssl; bytes = part.bytes }

abbrev pub IsSentBy : Data → SentPart → Type 0
IsSentBy value part = (ip : List ℕ) × IsSent value (sent_with ip part) × IsAddrFound ip part.from

abbrev pub IsSentFound : Data → Option SentPart → Type 0
IsSentFound value found = MatchOption found ((sent : Sent) → ¬ (IsSent value sent)) (IsSentBy value)

abbrev pub IsBothSent : Data → SentPart × Option ToldReply → Type 0
IsBothSent value both = IsSentBy value both.0 × (reply_of both.0.at value ≡ Some both.1)

abbrev pub IsSentBothFound : Data → Option (SentPart × Option ToldReply) → Type 0
IsSentBothFound value found = MatchOption found (IsFormless value) (IsBothSent value)

-- what a failed reading of a head says of the line: that no request was sent, but where memory was wanting
abbrev pub head_fault : HeadFault → LineFault
head_fault fault.BadHead = line.Bad cause.BadHead
head_fault fault.TooManyHeaders = line.Bad cause.BadHead
head_fault fault.HeadTooLong = line.Bad cause.BadHead
head_fault fault.Coding = line.Bad cause.BadHead
head_fault fault.BadLength = line.Bad cause.BadHead
head_fault fault.BodyTooLong = line.Bad cause.BadHead
head_fault fault.Cut = line.Bad cause.BadHead
head_fault fault.ReadFault = line.Bad cause.BadHead
head_fault fault.Memory = line.Memory

-- the reply with its moment, or that it has none, the moment being out of range
abbrev pub IsDatedFound : Option ToldReply → Option (Option (Reply × ℕ)) → Type 0
IsDatedFound told found = MatchOption found ((reply : Reply) × (told ≡ Some (reply, None))) (λ recorded. told ≡ told_reply recorded)

-- a value has the members of another but one
abbrev pub HasOthers : List ℕ → Data → Data → Type 0
HasOthers name value rest = (other : List ℕ) → other ≢ name → get other rest ≡ get other value
