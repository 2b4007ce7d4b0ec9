-- A line is at most one item, with one value, or no item for one cause, and which of these it is can be told of each line.
use mathlib.Core.HLevel.{is_prop→PathP}
use Rattle.std.proofs.Math.Bridge.{le_prop}
use Rattle.std.proofs.Common.{◌≡◌, ◌≤◌, ℕ, inl, inr, Bool, true, false, cond, List, [], Option, Some, None, refl, sym, ap, ◌∙◌, subst, codes, bytes_eq, option_and_then, is_some, lit≤}
use Rattle.std.specs.Str.{is_utf8}
use Rattle.std.proofs.lemmas.Bool.{both_ways}
use Rattle.std.proofs.lemmas.Option.{none-some, same_Some}
use Rattle.std.proofs.lemmas.Str.{IsUtf8-from_is_utf8, is_utf8-from_IsUtf8}
use Rattle.edge_base.specs.Address.{IsAddrText}
use Rattle.edge_base.proofs.AddressLemmas.{IsAddrText-unique}
use Rattle.edge_base.proofs.FoundLemmas.{Found, found-address}
use Rattle.serde_json.specs.Data.{Data}
use Rattle.serde_json.specs.Read.{read}
use Rattle.serde_json.specs.Find.{get, as_str}
use Rattle.edge_base.specs.declared.message.Header.{Header}
use Rattle.edge_base.specs.declared.message.Request.{Request}
use Rattle.edge_base.specs.declared.message.Reply.{Reply}
use Rattle.edge_base.specs.declared.address.Addr.{Addr}
use Rattle.serde_json.specs.View.{view}
use Rattle.trace_form.specs.declared.item.Recorded.{Recorded}
use Rattle.trace_form.specs.declared.item.LineItem.TheVariants as lineitem
use Rattle.trace_form.specs.declared.refusal.BadCause.{BadCause}
use Rattle.trace_form.specs.declared.refusal.BadCause.TheVariants as cause
use Rattle.trace_form.specs.declared.refusal.LineFault.{LineFault}
use Rattle.trace_form.specs.declared.refusal.LineFault.TheVariants as fault
use Rattle.trace_form.specs.Members.{text_of}
use Rattle.trace_form.specs.Asked.{moment_of, IsPeer, member_or, ssl_of, minor_in, minor_of, method_of, target_of, headers_of, reply_of, ToldReply, Told, IsTold, IsToldWith, has_moments, IsRequest, told_reply, IsRecorded, IsNoRequest}
use Rattle.trace_form.specs.Asked as asked
use Rattle.trace_form.specs.Sent.{bytes_of, Sent, IsSent, IsSentWith, IsRead, IsUnread, IsSentRequest, IsSentRecorded, IsNoSent}
use Rattle.trace_form.specs.Sent as sent
use Rattle.trace_form.proofs.SentLemmas.{found-request_read, request_read-unique, dated-moments, sent-recorded, unread-none}
use Rattle.trace_form.specs.Apart.{ItemsHaveNoCause}
use Rattle.trace_form.specs.Item.{is_short, is_blank, IsJson, IsSolid, has_raw, deployed_of, IsBlank, IsDeploy, IsAsking, IsAsked, IsAsk, IsNoItem, IsNoValueItem, SaysWhy}
use Rattle.trace_form.specs.Item as bad

-- ---- a line is one value

json-unique : (line : List ℕ) (a b : Data) → IsJson line a → IsJson line b → a ≡ b
json-unique line a b is_a is_b = same_Some a b (sym is_a.1 ∙ is_b.1)

deployed-of_line : (line : List ℕ) (value deployed : Data) → IsJson line value → IsDeploy line deployed → deployed_of value ≡ Some deployed
deployed-of_line line value deployed json d =
    subst (λ v. deployed_of v ≡ Some deployed) (json-unique line d.value value d.json json) d.deploy

request-of_line : (line : List ℕ) (value : Data) (recorded : Recorded) → IsJson line value → IsAsk line recorded → IsAsking value × IsAsked value recorded
request-of_line line value recorded json a =
    subst (λ v. IsAsking v × IsAsked v recorded) (json-unique line a.value value a.json json) (a.asking, a.ask)

-- ---- at most one kind, and one value

pub blank-not_deploy : (line : List ℕ) (deployed : Data) → IsBlank line → ¬ (IsDeploy line deployed)
blank-not_deploy line deployed blank d = both_ways (is_blank line) d.solid.1 blank.1

pub blank-not_ask : (line : List ℕ) (recorded : Recorded) → IsBlank line → ¬ (IsAsk line recorded)
blank-not_ask line recorded blank a = both_ways (is_blank line) a.solid.1 blank.1

pub deploy-not_ask : (line : List ℕ) (deployed : Data) (recorded : Recorded) → IsDeploy line deployed → ¬ (IsAsk line recorded)
deploy-not_ask line deployed recorded d a =
    none-some deployed (sym (request-of_line line d.value recorded d.json a).0 ∙ d.deploy)

pub IsDeploy-unique : (line : List ℕ) (a b : Data) → IsDeploy line a → IsDeploy line b → a ≡ b
IsDeploy-unique line a b is_a is_b = same_Some a b (sym is_a.deploy ∙ deployed-of_line line is_a.value b is_a.json is_b)

IsPeer-unique : (value : Data) (a b : Addr) → IsPeer value a → IsPeer value b → a ≡ b
IsPeer-unique value a b is_a is_b =
    let same_text = same_Some is_b.0 is_a.0 (sym is_b.1 ∙ is_a.1) in
    IsAddrText-unique is_a.0 a b is_a.2 (subst (λ text. IsAddrText text b) same_text is_b.2)

IsRequest-unique : (value : Data) (a b : Request) → IsRequest value a → IsRequest value b → a ≡ b
IsRequest-unique value a b is_a is_b =
    let at = same_Some a.at b.at (same_Some (Some a.at) (Some b.at) (sym is_a.at ∙ is_b.at)) in
    let from = IsPeer-unique value a.from b.from is_a.from is_b.from in
    let method = same_Some a.method b.method (sym is_a.method ∙ is_b.method) in
    let target = same_Some a.target b.target (sym is_a.target ∙ is_b.target) in
    let headers = same_Some a.headers b.headers (sym is_a.headers ∙ is_b.headers) in
    let ssl = same_Some a.ssl b.ssl (sym is_a.ssl ∙ is_b.ssl) in
    let minor = same_Some a.minor b.minor (sym is_a.minor ∙ is_b.minor) in
    let body = is_a.body ∙ sym is_b.body in
    let within = is_prop→PathP (λ i. minor i ≤ 1) (λ i. le_prop) a.within b.within in
    λ i. record { at = at i; from = from i; ssl = ssl i; method = method i; target = target i; minor = minor i; headers = headers i; body = body i; within = within i }

-- replies that are told alike are alike
told_reply-apart : (a b : Option (Reply × ℕ)) → told_reply a ≡ told_reply b → a ≡ b
told_reply-apart None None h = refl
told_reply-apart None (Some b) h = absurd (none-some _ h)
told_reply-apart (Some a) None h = absurd (none-some _ (sym h))
told_reply-apart (Some a) (Some b) h =
    let same = same_Some (a.0, Some a.1) (b.0, Some b.1) h in
    let reply : a.0 ≡ b.0 = ap (λ r. r.0) same in
    let at : a.1 ≡ b.1 = same_Some a.1 b.1 (ap (λ r. r.1) same) in
    λ i. Some (reply i, at i)

IsRecorded-unique : (value : Data) (a b : Recorded) → IsRecorded value a → IsRecorded value b → a ≡ b
IsRecorded-unique value a b is_a is_b =
    let request = IsRequest-unique value a.request b.request is_a.request is_b.request in
    let later = ap (λ r. reply_of (Some r.at) value) request in
    let reply = told_reply-apart a.reply b.reply (same_Some (told_reply a.reply) (told_reply b.reply) (sym is_a.reply ∙ later ∙ is_b.reply)) in
    λ i. record { request = request i; reply = reply i }

IsSentRequest-unique : (value : Data) (a b : Request) → IsSentRequest value a → IsSentRequest value b → a ≡ b
IsSentRequest-unique value a b is_a is_b =
    let at : b.at ≡ a.at = same_Some b.at a.at (same_Some (Some b.at) (Some a.at) (sym is_b.at ∙ is_a.at)) in
    let from = IsPeer-unique value b.from a.from is_b.from is_a.from in
    let ssl : b.ssl ≡ a.ssl = same_Some b.ssl a.ssl (sym is_b.ssl ∙ is_a.ssl) in
    let bytes = same_Some is_b.bytes is_a.bytes (sym is_b.are_bytes ∙ is_a.are_bytes) in
    request_read-unique is_a.bytes a.from a.ssl a.at a b is_a.read
    (subst (λ (t : Type 0). t) (λ i. IsRead (bytes i) (from i) (ssl i) (at i) b) is_b.read)

IsSentRecorded-unique : (value : Data) (a b : Recorded) → IsSentRecorded value a → IsSentRecorded value b → a ≡ b
IsSentRecorded-unique value a b is_a is_b =
    let request = IsSentRequest-unique value a.request b.request is_a.request is_b.request in
    let later = ap (λ r. reply_of (Some r.at) value) request in
    let reply = told_reply-apart a.reply b.reply (same_Some (told_reply a.reply) (told_reply b.reply) (sym is_a.reply ∙ later ∙ is_b.reply)) in
    λ i. record { request = request i; reply = reply i }

IsAsked-unique : (value : Data) (a b : Recorded) → IsAsked value a → IsAsked value b → a ≡ b
IsAsked-unique value a b (bad.told members is_a) (bad.told members' is_b) = IsRecorded-unique value a b is_a is_b
IsAsked-unique value a b (bad.told members is_a) (bad.sent raw is_b) = absurd (both_ways (has_raw value) members raw)
IsAsked-unique value a b (bad.sent raw is_a) (bad.told members is_b) = absurd (both_ways (has_raw value) members raw)
IsAsked-unique value a b (bad.sent raw is_a) (bad.sent raw' is_b) = IsSentRecorded-unique value a b is_a is_b

pub IsAsk-unique : (line : List ℕ) (a b : Recorded) → IsAsk line a → IsAsk line b → a ≡ b
IsAsk-unique line a b is_a is_b =
    IsAsked-unique is_a.value a b is_a.ask (request-of_line line is_a.value b is_a.json is_b).1

-- ---- what is no item is none of the kinds

-- what a request tells
abbrev told-by : Request → List ℕ → Told
told-by r ip = record { at = Some r.at; ip = ip; ssl = r.ssl; method = r.method; target = r.target; minor = r.minor; headers = r.headers }

request-told : (value : Data) (r : Request) → (is : IsRequest value r) → IsTold value (told-by r is.from.0)
request-told value r is = record {
  at = is.at;
  ip = is.from.1;
  ssl = is.ssl;
  method = is.method;
  target = is.target;
  minor = is.minor;
  headers = is.headers;
}

recorded-told : (value : Data) (r : Recorded) → (is : IsRecorded value r) → IsToldWith value (told-by r.request is.request.from.0) (told_reply r.reply)
recorded-told value r is = (request-told value r.request is.request, is.reply)

-- a reply that was recorded has a moment
recorded-dated : (told : Told) (at : ℕ) (recorded : Option (Reply × ℕ)) → told.at ≡ Some at → has_moments told.at (told_reply recorded) ≡ true
recorded-dated told at None is = rw is refl
recorded-dated told at (Some r) is = rw is refl

-- what is told of one object is told of it once
told-moment : (value : Data) (a b : Told) → IsTold value a → IsTold value b → a.at ≡ b.at
told-moment value a b p q = same_Some a.at b.at (sym p.at ∙ q.at)

told-reply : (value : Data) (a b : Told) (r s : Option ToldReply) → IsToldWith value a r → IsToldWith value b s → r ≡ s
told-reply value a b r s p q =
    same_Some r s (sym p.1 ∙ ap (λ at. reply_of at value) (told-moment value a b p.0 q.0) ∙ q.1)

told-has_moments : (value : Data) (a b : Told) (r s : Option ToldReply) → IsToldWith value a r → IsToldWith value b s → has_moments a.at r ≡ has_moments b.at s
told-has_moments value a b r s p q =
    rw (told-moment value a b p.0 q.0, told-reply value a b r s p q) refl

request-not_none : (value : Data) (r : Recorded) (why : BadCause) → IsRecorded value r → ¬ (IsNoRequest value why)
request-not_none value r why is (asked.shape none w) = none (told-by r.request is.request.from.0) (told_reply r.reply) (recorded-told value r is)
request-not_none value r why is (asked.address told reply is_told none w) = none r.request.from is.request.from
request-not_none value r why is (asked.moment told reply is_told peer is_peer out w) =
    let this = told-by r.request is.request.from.0 in
    both_ways (has_moments told.at reply) out
    (told-has_moments value told this reply (told_reply r.reply) is_told (recorded-told value r is) ∙ recorded-dated this r.request.at r.reply refl)

-- what a request tells that was sent
abbrev sent-by : Request → List ℕ → List ℕ → Sent
sent-by r ip bytes = record { at = Some r.at; ip = ip; ssl = r.ssl; bytes = bytes }

request-sent : (value : Data) (r : Request) → (is : IsSentRequest value r) → IsSent value (sent-by r is.from.0 is.bytes)
request-sent value r is = record { at = is.at; ip = is.from.1; ssl = is.ssl; bytes = is.are_bytes }

recorded-sent : (value : Data) (r : Recorded) → (is : IsSentRecorded value r)
    → IsSentWith value (sent-by r.request is.request.from.0 is.request.bytes) (told_reply r.reply)
recorded-sent value r is = (request-sent value r.request is.request, is.reply)

sent-moment : (value : Data) (a b : Sent) → IsSent value a → IsSent value b → a.at ≡ b.at
sent-moment value a b p q = same_Some a.at b.at (sym p.at ∙ q.at)

sent-has_moments : (value : Data) (a b : Sent) (r s : Option ToldReply) → IsSentWith value a r → IsSentWith value b s → has_moments a.at r ≡ has_moments b.at s
sent-has_moments value a b r s p q =
    let at = sent-moment value a b p.0 q.0 in
    let reply : r ≡ s = same_Some r s (sym p.1 ∙ ap (λ at. reply_of at value) at ∙ q.1) in
    λ i. has_moments (at i) (reply i)

-- the bytes begin with the request that is told
read-by : (value : Data) (r : Request) → (is : IsSentRequest value r) → (one : Sent) → IsSent value one → (peer : Addr) → IsPeer value peer
    → (at : ℕ) → one.at ≡ Some at → IsRead one.bytes peer one.ssl at r
read-by value r is one is_one peer is_peer at is_at =
    let moment : r.at ≡ at = same_Some r.at at (same_Some (Some r.at) one.at (sym is.at ∙ is_one.at) ∙ is_at) in
    let from = IsPeer-unique value r.from peer is.from is_peer in
    let ssl : r.ssl ≡ one.ssl = same_Some r.ssl one.ssl (sym is.ssl ∙ is_one.ssl) in
    let bytes = same_Some is.bytes one.bytes (sym is.are_bytes ∙ is_one.bytes) in
    subst (λ (t : Type 0). t) (λ i. IsRead (bytes i) (from i) (ssl i) (moment i) r) is.read

sent-not_none : (value : Data) (r : Recorded) (why : BadCause) → IsSentRecorded value r → ¬ (IsNoSent value why)
sent-not_none value r why is (sent.shape none w) =
    none (sent-by r.request is.request.from.0 is.request.bytes) (told_reply r.reply) (recorded-sent value r is)
sent-not_none value r why is (sent.address one reply is_one none w) = none r.request.from is.request.from
sent-not_none value r why is (sent.moment one reply is_one peer is_peer out w) =
    let this = sent-by r.request is.request.from.0 is.request.bytes in
    both_ways (has_moments one.at reply) out
    (sent-has_moments value one this reply (told_reply r.reply) is_one (recorded-sent value r is) ∙ dated-moments r.request.at r.reply)
sent-not_none value r why is (sent.head one reply is_one peer is_peer dated at is_at none w) =
    none r.request (read-by value r.request is.request one is_one.0 peer is_peer at is_at)

asked-not_none : (value : Data) (r : Recorded) (why : BadCause) → IsAsked value r → ¬ (IsNoValueItem value why)
asked-not_none value r why (bad.told members is) (bad.no_request asking members' none) = request-not_none value r why is none
asked-not_none value r why (bad.told members is) (bad.no_sent asking raw none) = both_ways (has_raw value) members raw
asked-not_none value r why (bad.sent raw is) (bad.no_request asking members none) = both_ways (has_raw value) members raw
asked-not_none value r why (bad.sent raw is) (bad.no_sent asking raw' none) = sent-not_none value r why is none

pub blank-not_no_item : (line : List ℕ) (why : BadCause) → IsBlank line → ¬ (IsNoItem line why)
blank-not_no_item line why blank (bad.long is_long w) = both_ways (is_short line) is_long blank.0
blank-not_no_item line why blank (bad.no_json solid none w) = both_ways (is_blank line) solid.1 blank.1
blank-not_no_item line why blank (bad.no_value_item solid value json none) = both_ways (is_blank line) solid.1 blank.1

pub deploy-not_no_item : (line : List ℕ) (deployed : Data) (why : BadCause) → IsDeploy line deployed → ¬ (IsNoItem line why)
deploy-not_no_item line deployed why d (bad.long is_long w) = both_ways (is_short line) is_long d.solid.0
deploy-not_no_item line deployed why d (bad.no_json solid none w) = none d.value d.json
deploy-not_no_item line deployed why d (bad.no_value_item solid value json (bad.no_request asking members none)) =
    none-some deployed (sym asking ∙ deployed-of_line line value deployed json d)
deploy-not_no_item line deployed why d (bad.no_value_item solid value json (bad.no_sent asking raw none)) =
    none-some deployed (sym asking ∙ deployed-of_line line value deployed json d)

pub ask-not_no_item : (line : List ℕ) (recorded : Recorded) (why : BadCause) → IsAsk line recorded → ¬ (IsNoItem line why)
ask-not_no_item line recorded why a (bad.long is_long w) = both_ways (is_short line) is_long a.solid.0
ask-not_no_item line recorded why a (bad.no_json solid none w) = none a.value a.json
ask-not_no_item line recorded why a (bad.no_value_item solid value json none) =
    asked-not_none value recorded why (request-of_line line value recorded json a).1 none

pub items_have_no_cause : ItemsHaveNoCause
items_have_no_cause line (lineitem.Deploy deployed) why is = deploy-not_no_item line (view deployed) why is
items_have_no_cause line (lineitem.Ask recorded) why is = ask-not_no_item line recorded why is
items_have_no_cause line lineitem.Blank why is = blank-not_no_item line why is

pub none-of_is_some : {A : Type 0} (found : Option A) → is_some found ≡ false → found ≡ None
none-of_is_some None h = refl
none-of_is_some (Some x) h = absurd (both_ways true h refl)

-- a refusal says what follows from what it says
pub says-weaker : (P Q : BadCause → Type 0) → ((why : BadCause) → P why → Q why) → (f : LineFault) → SaysWhy P f → SaysWhy Q f
says-weaker P Q then (fault.Bad why) h = then why h
says-weaker P Q then fault.Memory h = tt

-- ---- at most one cause

same_cause : (a b c : BadCause) → a ≡ c → b ≡ c → a ≡ b
same_cause a b c p q = p ∙ sym q

IsNoRequest-unique : (value : Data) (a b : BadCause) → IsNoRequest value a → IsNoRequest value b → a ≡ b
IsNoRequest-unique value a b (asked.shape none p) (asked.shape none' q) = same_cause a b cause.Shape p q
IsNoRequest-unique value a b (asked.shape none p) (asked.address told reply is none' q) = absurd (none told reply is)
IsNoRequest-unique value a b (asked.shape none p) (asked.moment told reply is peer is_peer out q) = absurd (none told reply is)
IsNoRequest-unique value a b (asked.address told reply is none p) (asked.shape none' q) = absurd (none' told reply is)
IsNoRequest-unique value a b (asked.address told reply is none p) (asked.address told' reply' is' none' q) = same_cause a b cause.BadAddress p q
IsNoRequest-unique value a b (asked.address told reply is none p) (asked.moment told' reply' is' peer is_peer out q) = absurd (none peer is_peer)
IsNoRequest-unique value a b (asked.moment told reply is peer is_peer out p) (asked.shape none q) = absurd (none told reply is)
IsNoRequest-unique value a b (asked.moment told reply is peer is_peer out p) (asked.address told' reply' is' none q) = absurd (none peer is_peer)
IsNoRequest-unique value a b (asked.moment told reply is peer is_peer out p) (asked.moment told' reply' is' peer' is_peer' out' q) = same_cause a b cause.BadMoment p q

-- bytes that begin with no request, of an object whose moments are in range
unread-dated : (value : Data) (a b : Sent) (r s : Option ToldReply) → IsSentWith value a r → IsSentWith value b s → has_moments a.at r ≡ false
    → has_moments b.at s ≡ true → ⊥
unread-dated value a b r s p q out dated = both_ways (has_moments a.at r) out (sent-has_moments value a b r s p q ∙ dated)

IsNoSent-unique : (value : Data) (a b : BadCause) → IsNoSent value a → IsNoSent value b → a ≡ b
IsNoSent-unique value a b (sent.shape none p) (sent.shape none' q) = same_cause a b cause.Shape p q
IsNoSent-unique value a b (sent.shape none p) (sent.address one reply is none' q) = absurd (none one reply is)
IsNoSent-unique value a b (sent.shape none p) (sent.moment one reply is peer is_peer out q) = absurd (none one reply is)
IsNoSent-unique value a b (sent.shape none p) (sent.head one reply is peer is_peer dated at is_at unread q) = absurd (none one reply is)
IsNoSent-unique value a b (sent.address one reply is none p) (sent.shape none' q) = absurd (none' one reply is)
IsNoSent-unique value a b (sent.address one reply is none p) (sent.address one' reply' is' none' q) = same_cause a b cause.BadAddress p q
IsNoSent-unique value a b (sent.address one reply is none p) (sent.moment one' reply' is' peer is_peer out q) = absurd (none peer is_peer)
IsNoSent-unique value a b (sent.address one reply is none p) (sent.head one' reply' is' peer is_peer dated at is_at unread q) = absurd (none peer is_peer)
IsNoSent-unique value a b (sent.moment one reply is peer is_peer out p) (sent.shape none q) = absurd (none one reply is)
IsNoSent-unique value a b (sent.moment one reply is peer is_peer out p) (sent.address one' reply' is' none q) = absurd (none peer is_peer)
IsNoSent-unique value a b (sent.moment one reply is peer is_peer out p) (sent.moment one' reply' is' peer' is_peer' out' q) = same_cause a b cause.BadMoment p q
IsNoSent-unique value a b (sent.moment one reply is peer is_peer out p) (sent.head one' reply' is' peer' is_peer' dated at is_at unread q) =
    absurd (unread-dated value one one' reply reply' is is' out dated)
IsNoSent-unique value a b (sent.head one reply is peer is_peer dated at is_at unread p) (sent.shape none q) = absurd (none one reply is)
IsNoSent-unique value a b (sent.head one reply is peer is_peer dated at is_at unread p) (sent.address one' reply' is' none q) = absurd (none peer is_peer)
IsNoSent-unique value a b (sent.head one reply is peer is_peer dated at is_at unread p) (sent.moment one' reply' is' peer' is_peer' out q) =
    absurd (unread-dated value one' one reply' reply is' is out dated)
IsNoSent-unique value a b (sent.head one reply is peer is_peer dated at is_at unread p) (sent.head one' reply' is' peer' is_peer' dated' at' is_at' unread' q) =
    same_cause a b cause.BadHead p q

IsNoValueItem-unique : (value : Data) (a b : BadCause) → IsNoValueItem value a → IsNoValueItem value b → a ≡ b
IsNoValueItem-unique value a b (bad.no_request asking members none) (bad.no_request asking' members' none') = IsNoRequest-unique value a b none none'
IsNoValueItem-unique value a b (bad.no_request asking members none) (bad.no_sent asking' raw none') = absurd (both_ways (has_raw value) members raw)
IsNoValueItem-unique value a b (bad.no_sent asking raw none) (bad.no_request asking' members none') = absurd (both_ways (has_raw value) members raw)
IsNoValueItem-unique value a b (bad.no_sent asking raw none) (bad.no_sent asking' raw' none') = IsNoSent-unique value a b none none'

pub IsNoItem-unique : (line : List ℕ) (a b : BadCause) → IsNoItem line a → IsNoItem line b → a ≡ b
IsNoItem-unique line a b (bad.long is_long p) (bad.long is_long' q) = same_cause a b cause.LongLine p q
IsNoItem-unique line a b (bad.long is_long p) (bad.no_json solid none q) = absurd (both_ways (is_short line) is_long solid.0)
IsNoItem-unique line a b (bad.long is_long p) (bad.no_value_item solid value json none) = absurd (both_ways (is_short line) is_long solid.0)
IsNoItem-unique line a b (bad.no_json solid none p) (bad.long is_long q) = absurd (both_ways (is_short line) is_long solid.0)
IsNoItem-unique line a b (bad.no_json solid none p) (bad.no_json solid' none' q) = same_cause a b cause.NotJson p q
IsNoItem-unique line a b (bad.no_json solid none p) (bad.no_value_item solid' value json none') = absurd (none value json)
IsNoItem-unique line a b (bad.no_value_item solid value json none) (bad.long is_long q) = absurd (both_ways (is_short line) is_long solid.0)
IsNoItem-unique line a b (bad.no_value_item solid value json none) (bad.no_json solid' none' q) = absurd (none' value json)
IsNoItem-unique line a b (bad.no_value_item solid value json none) (bad.no_value_item solid' value' json' none') =
    IsNoValueItem-unique value a b none (subst (λ v. IsNoValueItem v b) (json-unique line value' value json' json) none')

-- ---- what a line is

found-json : (line : List ℕ) → Found (IsJson line)
found-json line = of_test (is_utf8 line) refl (read line) refl where
  of_test : (utf8 : Bool) → is_utf8 line ≡ utf8 → (value : Option Data) → read line ≡ value → Found (IsJson line)
  of_test false is_other value is_value = inr (λ d json. both_ways (is_utf8 line) is_other (is_utf8-from_IsUtf8 line json.0))
  of_test true is_valid None is_none = inr (λ d json. none-some d (sym is_none ∙ json.1))
  of_test true is_valid (Some value) is_value = inl (value, (IsUtf8-from_is_utf8 line is_valid, is_value))

found-peer : (value : Data) → Found (IsPeer value)
found-peer value = of_text (text_of (codes "ip") value) refl where
  of_addr : (text : List ℕ) → text_of (codes "ip") value ≡ Some text → Found (IsAddrText text) → Found (IsPeer value)
  of_addr text is_text (inl (peer, is_addr)) = inl (peer, (text, is_text, is_addr))
  of_addr text is_text (inr none) =
      inr (λ peer is. none peer (subst (λ t. IsAddrText t peer) (same_Some is.0 text (sym is.1 ∙ is_text)) is.2))

  of_text : (text : Option (List ℕ)) → text_of (codes "ip") value ≡ text → Found (IsPeer value)
  of_text None is_none = inr (λ peer is. none-some is.0 (sym is_none ∙ is.1))
  of_text (Some text) is_text = of_addr text is_text (found-address text)

-- the last number of a version is 0 or 1
minor-within : (value : Data) (minor : ℕ) → minor_of value ≡ Some minor → minor ≤ 1
minor-within value minor is_minor = of_member (get (codes "version") value) is_minor where
  of_tests : (first second : Bool) → cond first (Some 0) (cond second (Some 1) None) ≡ Some minor → minor ≤ 1
  of_tests true second is = subst (λ m. m ≤ 1) (same_Some 0 minor is) (lit≤ tt)
  of_tests false true is = subst (λ m. m ≤ 1) (same_Some 1 minor is) (lit≤ tt)
  of_tests false false is = absurd (none-some minor is)

  of_text : (text : Option (List ℕ)) → option_and_then minor_in text ≡ Some minor → minor ≤ 1
  of_text None is = absurd (none-some minor is)
  of_text (Some text) is = of_tests (bytes_eq text (codes "HTTP/1.0")) (bytes_eq text (codes "HTTP/1.1")) is

  of_member : (member : Option Data) → member_or 1 (λ version. option_and_then minor_in (as_str version)) member ≡ Some minor → minor ≤ 1
  of_member None is = subst (λ m. m ≤ 1) (same_Some 1 minor is) (lit≤ tt)
  of_member (Some version) is = of_text (as_str version) is

-- what an object tells, in its parts
record Parts (value : Data) (at : Option (Option ℕ)) (ip : Option (List ℕ)) (ssl : Option Bool) (method target : Option (List ℕ)) (minor : Option ℕ) (headers : Option (List Header)) : Type 0 where
  at_is : moment_of value ≡ at
  ip_is : text_of (codes "ip") value ≡ ip
  ssl_is : ssl_of value ≡ ssl
  method_is : method_of value ≡ method
  target_is : target_of value ≡ target
  minor_is : minor_of value ≡ minor
  headers_is : headers_of value ≡ headers

told-of_parts : (value : Data) (at : Option (Option ℕ)) (ip : Option (List ℕ)) (ssl : Option Bool) (method target : Option (List ℕ)) (minor : Option ℕ) (headers : Option (List Header)) → Parts value at ip ssl method target minor headers → Found (IsTold value)
told-of_parts value None ip ssl method target minor headers parts = inr (λ t is. none-some t.at (sym parts.at_is ∙ is.at))
told-of_parts value (Some at) None ssl method target minor headers parts = inr (λ t is. none-some t.ip (sym parts.ip_is ∙ is.ip))
told-of_parts value (Some at) (Some ip) None method target minor headers parts = inr (λ t is. none-some t.ssl (sym parts.ssl_is ∙ is.ssl))
told-of_parts value (Some at) (Some ip) (Some ssl) None target minor headers parts = inr (λ t is. none-some t.method (sym parts.method_is ∙ is.method))
told-of_parts value (Some at) (Some ip) (Some ssl) (Some method) None minor headers parts = inr (λ t is. none-some t.target (sym parts.target_is ∙ is.target))
told-of_parts value (Some at) (Some ip) (Some ssl) (Some method) (Some target) None headers parts = inr (λ t is. none-some t.minor (sym parts.minor_is ∙ is.minor))
told-of_parts value (Some at) (Some ip) (Some ssl) (Some method) (Some target) (Some minor) None parts = inr (λ t is. none-some t.headers (sym parts.headers_is ∙ is.headers))
told-of_parts value (Some at) (Some ip) (Some ssl) (Some method) (Some target) (Some minor) (Some headers) parts =
    let told : Told = record { at = at; ip = ip; ssl = ssl; method = method; target = target; minor = minor; headers = headers } in
    let is_told : IsTold value told = record { at = parts.at_is; ip = parts.ip_is; ssl = parts.ssl_is; method = parts.method_is; target = parts.target_is; minor = parts.minor_is; headers = parts.headers_is } in
    inl (told, is_told)

found-told : (value : Data) → Found (IsTold value)
found-told value =
    told-of_parts value (moment_of value) (text_of (codes "ip") value) (ssl_of value) (method_of value) (target_of value) (minor_of value) (headers_of value)
    (record { at_is = refl; ip_is = refl; ssl_is = refl; method_is = refl; target_is = refl; minor_is = refl; headers_is = refl })

-- what an object tells of a request and of its reply
found-both : (value : Data) → Found (λ (both : Told × Option ToldReply). IsToldWith value both.0 both.1)
found-both value = of_told (found-told value) where
  of_reply : (told : Told) → IsTold value told → (reply : Option (Option ToldReply)) → reply_of told.at value ≡ reply
      → Found (λ (both : Told × Option ToldReply). IsToldWith value both.0 both.1)
  of_reply told is_told None is_none =
      inr (λ both is. none-some both.1 (sym is_none ∙ ap (λ at. reply_of at value) (told-moment value told both.0 is_told is.0) ∙ is.1))
  of_reply told is_told (Some reply) is_reply = inl ((told, reply), (is_told, is_reply))

  of_told : Found (IsTold value) → Found (λ (both : Told × Option ToldReply). IsToldWith value both.0 both.1)
  of_told (inl (told, is_told)) = of_reply told is_told (reply_of told.at value) refl
  of_told (inr none) = inr (λ both is. none both.0 is.0)

-- what an object tells whose head and body stand as they were sent
found-sent : (value : Data) → Found (λ (both : Sent × Option ToldReply). IsSentWith value both.0 both.1)
found-sent value = of_at (moment_of value) refl (text_of (codes "ip") value) refl (ssl_of value) refl (bytes_of value) refl where
  of_reply : (one : Sent) → IsSent value one → (reply : Option (Option ToldReply)) → reply_of one.at value ≡ reply
      → Found (λ (both : Sent × Option ToldReply). IsSentWith value both.0 both.1)
  of_reply one is_sent None is_none =
      inr (λ both is. none-some both.1 (sym is_none ∙ ap (λ at. reply_of at value) (sent-moment value one both.0 is_sent is.0) ∙ is.1))
  of_reply one is_sent (Some reply) is_reply = inl ((one, reply), (is_sent, is_reply))

  of_at : (at : Option (Option ℕ)) → moment_of value ≡ at → (ip : Option (List ℕ)) → text_of (codes "ip") value ≡ ip
      → (ssl : Option Bool) → ssl_of value ≡ ssl → (bytes : Option (List ℕ)) → bytes_of value ≡ bytes
      → Found (λ (both : Sent × Option ToldReply). IsSentWith value both.0 both.1)
  of_at None is_at ip is_ip ssl is_ssl bytes is_bytes = inr (λ both is. none-some both.0.at (sym is_at ∙ is.0.at))
  of_at (Some at) is_at None is_ip ssl is_ssl bytes is_bytes = inr (λ both is. none-some both.0.ip (sym is_ip ∙ is.0.ip))
  of_at (Some at) is_at (Some ip) is_ip None is_ssl bytes is_bytes = inr (λ both is. none-some both.0.ssl (sym is_ssl ∙ is.0.ssl))
  of_at (Some at) is_at (Some ip) is_ip (Some ssl) is_ssl None is_bytes = inr (λ both is. none-some both.0.bytes (sym is_bytes ∙ is.0.bytes))
  of_at (Some at) is_at (Some ip) is_ip (Some ssl) is_ssl (Some bytes) is_bytes =
      let one : Sent = record { at = at; ip = ip; ssl = ssl; bytes = bytes } in
      let is_one : IsSent value one = record { at = is_at; ip = is_ip; ssl = is_ssl; bytes = is_bytes } in
      of_reply one is_one (reply_of at value) refl

-- what a line is
pub data Kind (line : List ℕ) : Type 0 where
  blank : IsBlank line → Kind line
  deploy : (deployed : Data) → IsDeploy line deployed → Kind line
  ask : (recorded : Recorded) → IsAsk line recorded → Kind line
  no_item : (why : BadCause) → IsNoItem line why → Kind line

-- a reply with its moment, or that this is out of range
data Dated (told : Told) (reply : Option ToldReply) : Type 0 where
  dated : (recorded : Option (Reply × ℕ)) → reply ≡ told_reply recorded → Dated told reply
  out : has_moments told.at reply ≡ false → Dated told reply

found-dated : (told : Told) (at : ℕ) → told.at ≡ Some at → (reply : Option ToldReply) → Dated told reply
found-dated told at is_at None = dated None refl
found-dated told at is_at (Some (reply, None)) = out (rw is_at refl)
found-dated told at is_at (Some (reply, Some moment)) = dated (Some (reply, moment)) refl

-- an object that is judged as a request, with what it tells
record Asks (line : List ℕ) (told : Told) (reply : Option ToldReply) : Type 0 where
  value : Data
  solid : IsSolid line
  json : IsJson line value
  asking : IsAsking value
  no_raw : has_raw value ≡ false
  is_told : IsToldWith value told reply

kind-out : (line : List ℕ) (told : Told) (reply : Option ToldReply) → (a : Asks line told reply) → (peer : Addr) → IsPeer a.value peer
    → has_moments told.at reply ≡ false → Kind line
kind-out line told reply a peer is_peer outside =
    no_item cause.BadMoment (bad.no_value_item a.solid a.value a.json (bad.no_request a.asking a.no_raw (asked.moment told reply a.is_told peer is_peer outside refl)))

kind-of_dated : (line : List ℕ) (told : Told) (reply : Option ToldReply) → (a : Asks line told reply) → (peer : Addr) → IsPeer a.value peer
    → (at : ℕ) → told.at ≡ Some at → Dated told reply → Kind line
kind-of_dated line told reply a peer is_peer at is_at (out is_out) = kind-out line told reply a peer is_peer is_out
kind-of_dated line told reply a peer is_peer at is_at (dated recorded is_recorded) =
    let is = a.is_told.0 in
    let request : Request = record { at = at; from = peer; ssl = told.ssl; method = told.method; target = told.target; minor = told.minor; headers = told.headers; body = []; within = minor-within a.value told.minor is.minor } in
    let is_request : IsRequest a.value request = record { at = is.at ∙ ap Some is_at; from = is_peer; ssl = is.ssl; method = is.method; target = is.target; minor = is.minor; headers = is.headers; body = refl } in
    let is_reply = ap (λ m. reply_of m a.value) (sym is_at) ∙ a.is_told.1 ∙ ap Some is_recorded in
    let whole : Recorded = record { request = request; reply = recorded } in
    let is_whole : IsRecorded a.value whole = record { request = is_request; reply = is_reply } in
    ask whole (record { solid = a.solid; value = a.value; json = a.json; asking = a.asking; ask = bad.told a.no_raw is_whole })

kind-of_moment : (line : List ℕ) (told : Told) (reply : Option ToldReply) → (a : Asks line told reply) → (peer : Addr) → IsPeer a.value peer
    → (at : Option ℕ) → told.at ≡ at → Kind line
kind-of_moment line told reply a peer is_peer None is_none = kind-out line told reply a peer is_peer (rw is_none refl)
kind-of_moment line told reply a peer is_peer (Some at) is_at =
    kind-of_dated line told reply a peer is_peer at is_at (found-dated told at is_at reply)

kind-of_peer : (line : List ℕ) (told : Told) (reply : Option ToldReply) → (a : Asks line told reply) → Found (IsPeer a.value) → Kind line
kind-of_peer line told reply a (inl (peer, is_peer)) = kind-of_moment line told reply a peer is_peer told.at refl
kind-of_peer line told reply a (inr none) =
    no_item cause.BadAddress (bad.no_value_item a.solid a.value a.json (bad.no_request a.asking a.no_raw (asked.address told reply a.is_told none refl)))

kind-of_told : (line : List ℕ) (value : Data) → IsSolid line → IsJson line value → IsAsking value → has_raw value ≡ false
    → Found (λ (both : Told × Option ToldReply). IsToldWith value both.0 both.1) → Kind line
kind-of_told line value solid json asking no_raw (inl (both, is_told)) =
    let a : Asks line both.0 both.1 = record { value = value; solid = solid; json = json; asking = asking; no_raw = no_raw; is_told = is_told } in
    kind-of_peer line both.0 both.1 a (found-peer value)
kind-of_told line value solid json asking no_raw (inr none) =
    no_item cause.Shape (bad.no_value_item solid value json (bad.no_request asking no_raw (asked.shape (λ told reply is. none (told, reply) is) refl)))

-- ---- an object whose head and body stand as they were sent

record Sends (line : List ℕ) (one : Sent) (reply : Option ToldReply) : Type 0 where
  value : Data
  solid : IsSolid line
  json : IsJson line value
  asking : IsAsking value
  raw : has_raw value ≡ true
  is_sent : IsSentWith value one reply

not-sent : (line : List ℕ) (one : Sent) (reply : Option ToldReply) → (a : Sends line one reply) → (why : BadCause) → IsNoSent a.value why → Kind line
not-sent line one reply a why none = no_item why (bad.no_value_item a.solid a.value a.json (bad.no_sent a.asking a.raw none))

sent-out : (line : List ℕ) (one : Sent) (reply : Option ToldReply) → (a : Sends line one reply) → (peer : Addr) → IsPeer a.value peer
    → has_moments one.at reply ≡ false → Kind line
sent-out line one reply a peer is_peer outside = not-sent line one reply a cause.BadMoment (sent.moment one reply a.is_sent peer is_peer outside refl)

sent-of_read : (line : List ℕ) (one : Sent) (reply : Option ToldReply) → (a : Sends line one reply) → (peer : Addr) → IsPeer a.value peer
    → (at : ℕ) → one.at ≡ Some at → (recorded : Option (Reply × ℕ)) → reply ≡ told_reply recorded
    → Found (λ (request : Request). IsRead one.bytes peer one.ssl at request) → Kind line
sent-of_read line one reply a peer is_peer at is_at recorded is_recorded (inr none) =
    not-sent line one reply a cause.BadHead (unread-none a.value one reply a.is_sent peer is_peer at is_at recorded is_recorded none)
sent-of_read line one reply a peer is_peer at is_at recorded is_recorded (inl (request, read)) =
    let whole : Recorded = record { request = request; reply = recorded } in
    let is_whole : IsSentRecorded a.value whole = sent-recorded a.value one reply a.is_sent peer is_peer at is_at recorded is_recorded request read in
    ask whole (record { solid = a.solid; value = a.value; json = a.json; asking = a.asking; ask = bad.sent a.raw is_whole })

sent-of_dated : (line : List ℕ) (one : Sent) (reply : Option ToldReply) → (a : Sends line one reply) → (peer : Addr) → IsPeer a.value peer
    → (at : ℕ) → one.at ≡ Some at → (r : Option ToldReply) → reply ≡ r → Kind line
sent-of_dated line one reply a peer is_peer at is_at None is_r =
    sent-of_read line one reply a peer is_peer at is_at None is_r (found-request_read one.bytes peer one.ssl at)
sent-of_dated line one reply a peer is_peer at is_at (Some (r, None)) is_r =
    sent-out line one reply a peer is_peer (λ i. has_moments (is_at i) (is_r i))
sent-of_dated line one reply a peer is_peer at is_at (Some (r, Some moment)) is_r =
    sent-of_read line one reply a peer is_peer at is_at (Some (r, moment)) is_r (found-request_read one.bytes peer one.ssl at)

sent-of_moment : (line : List ℕ) (one : Sent) (reply : Option ToldReply) → (a : Sends line one reply) → (peer : Addr) → IsPeer a.value peer
    → (at : Option ℕ) → one.at ≡ at → Kind line
sent-of_moment line one reply a peer is_peer None is_none =
    sent-out line one reply a peer is_peer (ap (λ m. has_moments m reply) is_none)
sent-of_moment line one reply a peer is_peer (Some at) is_at = sent-of_dated line one reply a peer is_peer at is_at reply refl

sent-of_peer : (line : List ℕ) (one : Sent) (reply : Option ToldReply) → (a : Sends line one reply) → Found (IsPeer a.value) → Kind line
sent-of_peer line one reply a (inl (peer, is_peer)) = sent-of_moment line one reply a peer is_peer one.at refl
sent-of_peer line one reply a (inr none) = not-sent line one reply a cause.BadAddress (sent.address one reply a.is_sent none refl)

kind-of_sent : (line : List ℕ) (value : Data) → IsSolid line → IsJson line value → IsAsking value → has_raw value ≡ true
    → Found (λ (both : Sent × Option ToldReply). IsSentWith value both.0 both.1) → Kind line
kind-of_sent line value solid json asking raw (inl (both, is_sent)) =
    let a : Sends line both.0 both.1 = record { value = value; solid = solid; json = json; asking = asking; raw = raw; is_sent = is_sent } in
    sent-of_peer line both.0 both.1 a (found-peer value)
kind-of_sent line value solid json asking raw (inr none) =
    no_item cause.Shape (bad.no_value_item solid value json (bad.no_sent asking raw (sent.shape (λ one reply is. none (one, reply) is) refl)))

kind-of_value : (line : List ℕ) (value : Data) → IsSolid line → IsJson line value → (deployed : Option Data) → deployed_of value ≡ deployed
    → (raw : Bool) → has_raw value ≡ raw → Kind line
kind-of_value line value solid json (Some deployed) is_deploy raw is_raw =
    deploy deployed (record { solid = solid; value = value; json = json; deploy = is_deploy })
kind-of_value line value solid json None is_none true is_raw = kind-of_sent line value solid json is_none is_raw (found-sent value)
kind-of_value line value solid json None is_none false is_raw = kind-of_told line value solid json is_none is_raw (found-both value)

kind-of_json : (line : List ℕ) → IsSolid line → Found (IsJson line) → Kind line
kind-of_json line solid (inl (value, json)) = kind-of_value line value solid json (deployed_of value) refl (has_raw value) refl
kind-of_json line solid (inr none) = no_item cause.NotJson (bad.no_json solid none refl)

kind-of_tests : (line : List ℕ) (short blank : Bool) → is_short line ≡ short → is_blank line ≡ blank → Kind line
kind-of_tests line false b is_long is_b = no_item cause.LongLine (bad.long is_long refl)
kind-of_tests line true true short is_b = blank (short, is_b)
kind-of_tests line true false short solid = kind-of_json line (short, solid) (found-json line)

pub kind-found : (line : List ℕ) → Kind line
kind-found line = kind-of_tests line (is_short line) (is_blank line) refl refl
