-- The request that an object tells by the bytes that were sent: at most one, none where there is a cause, and one or the
-- other of each object.
use mathlib.Core.HLevel.{is_prop→PathP}
use Rattle.std.proofs.Math.Bridge.{le_prop}
use Rattle.std.proofs.Common.{◌≡◌, ℕ, ◌<◌, ◌≤◌, ◌⊎◌, inl, inr, Bool, true, false, List, length, take, Option, Some, None, Result, Ok, Err, refl, sym, ap, ◌∙◌, subst, codes, arith, nat_le, leb-true, leb-false}
use Rattle.std.proofs.lemmas.Bool.{cases_Bool, both_ways}
use Rattle.std.proofs.lemmas.Option.{none-some, same_Some}
use Rattle.edge_base.specs.declared.address.Addr.{Addr}
use Rattle.edge_base.specs.declared.message.Request.{Request}
use Rattle.edge_base.specs.declared.message.Reply.{Reply}
use Rattle.edge_base.proofs.FoundLemmas.{Found}
use Rattle.std.specs.Prelude.{IsErrOf}
use Rattle.serde_json.specs.Data.{Data}
use Rattle.httparse.specs.Grammar.{RequestHead}
use Rattle.http_front.specs.declared.causes.HeadFault.{HeadFault}
use Rattle.http_front.specs.declared.causes.HeadFault.TheVariants as fault
use Rattle.http_front.specs.Framing.{framing_of}
use Rattle.http_front.specs.Heads.{IsHead, HasNoHead}
use Rattle.http_front.specs.Reading.{headers_of, Arrival, arrival_of, IsRequestWith, AnswersBy, Answers}
use Rattle.http_front.proofs.ReadingLemmas.{exact}
use Rattle.trace_form.proofs.HeadLemmas.{found-head}
use Rattle.trace_form.specs.declared.item.Recorded.{Recorded}
use Rattle.trace_form.specs.declared.refusal.BadCause.{BadCause}
use Rattle.trace_form.specs.declared.refusal.BadCause.TheVariants as cause
use Rattle.trace_form.specs.Item.{SaysWhy}
use Rattle.trace_form.specs.Asked.{IsPeer, ToldReply, reply_of, told_reply, has_moments}
use Rattle.trace_form.specs.Sent.{Sent, IsSentWith, IsRead, IsUnread, IsSentRequest, IsSentRecorded, IsNoSent}
use Rattle.trace_form.specs.Sent as sent
use Rattle.trace_form.specs.Found.{head_fault}

-- ---- the request with which bytes begin

-- the same head and body give the same request
same_request : (arrival : Arrival) (head : RequestHead) (body : List ℕ) (a b : Request) → IsRequestWith arrival head body a → IsRequestWith arrival head body b → a ≡ b
same_request arrival head body a b p q =
    let at = p.at ∙ sym q.at in
    let from = p.from ∙ sym q.from in
    let ssl = p.ssl ∙ sym q.ssl in
    let method = p.method ∙ sym q.method in
    let target = p.target ∙ sym q.target in
    let minor = p.minor ∙ sym q.minor in
    let headers = p.headers ∙ sym q.headers in
    let same_body = p.body_is ∙ sym q.body_is in
    let within = is_prop→PathP (λ i. minor i ≤ 1) (λ i. le_prop) a.within b.within in
    λ i. record { at = at i; from = from i; ssl = ssl i; method = method i; target = target i; minor = minor i; headers = headers i; body = same_body i; within = within i }

by_length : (arrival : Arrival) (head : RequestHead) (rest : List ℕ) (framing : Result ℕ HeadFault) (a b : Request)
    → AnswersBy arrival head rest framing (Ok a) → AnswersBy arrival head rest framing (Ok b) → a ≡ b
by_length arrival head rest (Ok n) a b p q = same_request arrival head (take n rest) a b p.1 q.1
by_length arrival head rest (Err cause) a b p q = absurd cc

-- a request and a cause exclude each other
not_both : (arrival : Arrival) (head : RequestHead) (rest : List ℕ) (framing : Result ℕ HeadFault) (a : Request) (cause : HeadFault)
    → AnswersBy arrival head rest framing (Ok a) → AnswersBy arrival head rest framing (Err cause) → ⊥
not_both arrival head rest (Ok n) a cause p q = omega (arith, p.0, q.0)
not_both arrival head rest (Err other) a cause p q = cc

IsRead-unique : (arrival : Arrival) (bytes : List ℕ) (a b : Request) → Answers arrival bytes (Ok a) → Answers arrival bytes (Ok b) → a ≡ b
IsRead-unique arrival bytes a b (inl found) q =
    by_length arrival found.0 found.1 (framing_of (headers_of found.0)) a b found.3 (exact arrival bytes found.0 found.1 (Ok b) found.2 q)
IsRead-unique arrival bytes a b (inr none) q = absurd none

refused-unread : (arrival : Arrival) (bytes : List ℕ) (cause : HeadFault) (a : Request) → Answers arrival bytes (Err cause) → Answers arrival bytes (Ok a) → ⊥
refused-unread arrival bytes cause a p (inl found) =
    not_both arrival found.0 found.1 (framing_of (headers_of found.0)) a cause found.3 (exact arrival bytes found.0 found.1 (Err cause) found.2 p)
refused-unread arrival bytes cause a p (inr none) = none

-- the request of a head with the bytes behind it, whose first are its body
made_of : (arrival : Arrival) (bytes : List ℕ) (head : RequestHead) (rest : List ℕ) → IsHead bytes head rest → (n : ℕ)
    → framing_of (headers_of head) ≡ Ok n → n ≤ length rest → (request : Request) × Answers arrival bytes (Ok request)
made_of arrival bytes head rest is n is_framing whole =
    let request : Request = record { at = arrival.at; from = arrival.from; ssl = arrival.ssl; method = head.method; target = head.target; minor = head.minor; headers = headers_of head; body = take n rest; within = is.reads.0.minor } in
    let made : IsRequestWith arrival head (take n rest) request = record { at = refl; from = refl; ssl = refl; method = refl; target = refl; minor = refl; headers = refl; body_is = refl } in
    (request, inl (head, rest, is, subst (λ f. AnswersBy arrival head rest f (Ok request)) (sym is_framing) (whole, made)))

no_body : (arrival : Arrival) (bytes : List ℕ) (head : RequestHead) (rest : List ℕ) → IsHead bytes head rest → (n : ℕ)
    → framing_of (headers_of head) ≡ Ok n → length rest < n → (request : Request) → Answers arrival bytes (Ok request) → ⊥
no_body arrival bytes head rest is n is_framing short request answers =
    let by = subst (λ f. AnswersBy arrival head rest f (Ok request)) is_framing (exact arrival bytes head rest (Ok request) is answers) in
    absurd (omega (arith, by.0, short))

no_framing : (arrival : Arrival) (bytes : List ℕ) (head : RequestHead) (rest : List ℕ) → IsHead bytes head rest → (cause : HeadFault)
    → framing_of (headers_of head) ≡ Err cause → (request : Request) → Answers arrival bytes (Ok request) → ⊥
no_framing arrival bytes head rest is cause is_framing request answers =
    let clash : ◌≡◌ {A = Result Request HeadFault} (Ok request) (Err cause) =
    subst (λ f. AnswersBy arrival head rest f (Ok request)) is_framing (exact arrival bytes head rest (Ok request) is answers) in
    cc

no_answer : (arrival : Arrival) (bytes : List ℕ) → HasNoHead bytes → (request : Request) → Answers arrival bytes (Ok request) → ⊥
no_answer arrival bytes none request (inl found) = none found.0 found.1 found.2
no_answer arrival bytes none request (inr never) = never

-- bytes begin with a request, or they do not
read_length : (arrival : Arrival) (bytes : List ℕ) (head : RequestHead) (rest : List ℕ) → IsHead bytes head rest → (n : ℕ)
    → framing_of (headers_of head) ≡ Ok n → (nat_le n (length rest) ≡ true) ⊎ (nat_le n (length rest) ≡ false)
    → Found (λ (request : Request). Answers arrival bytes (Ok request))
read_length arrival bytes head rest is n is_framing (inl whole) = inl (made_of arrival bytes head rest is n is_framing (leb-true n (length rest) whole))
read_length arrival bytes head rest is n is_framing (inr cut) = inr (no_body arrival bytes head rest is n is_framing (leb-false n (length rest) cut))

read_framing : (arrival : Arrival) (bytes : List ℕ) (head : RequestHead) (rest : List ℕ) → IsHead bytes head rest → (framing : Result ℕ HeadFault)
    → framing_of (headers_of head) ≡ framing → Found (λ (request : Request). Answers arrival bytes (Ok request))
read_framing arrival bytes head rest is (Ok n) is_framing = read_length arrival bytes head rest is n is_framing (cases_Bool (nat_le n (length rest)))
read_framing arrival bytes head rest is (Err cause) is_framing = inr (no_framing arrival bytes head rest is cause is_framing)

read_head : (arrival : Arrival) (bytes : List ℕ) → ((head : RequestHead) × (rest : List ℕ) × IsHead bytes head rest) ⊎ HasNoHead bytes
    → Found (λ (request : Request). Answers arrival bytes (Ok request))
read_head arrival bytes (inl found) = read_framing arrival bytes found.0 found.1 found.2 (framing_of (headers_of found.0)) refl
read_head arrival bytes (inr none) = inr (no_answer arrival bytes none)

found-read : (arrival : Arrival) (bytes : List ℕ) → Found (λ (request : Request). Answers arrival bytes (Ok request))
found-read arrival bytes = read_head arrival bytes (found-head bytes)

-- a request that was read has its moment, its peer and whether it came over TLS
by_parts : (arrival : Arrival) (head : RequestHead) (rest : List ℕ) (framing : Result ℕ HeadFault) (a : Request)
    → AnswersBy arrival head rest framing (Ok a) → (a.at ≡ arrival.at) × (a.from ≡ arrival.from) × (a.ssl ≡ arrival.ssl)
by_parts arrival head rest (Ok n) a is = (is.1.at, is.1.from, is.1.ssl)
by_parts arrival head rest (Err cause) a is = absurd cc

pub read-parts : (bytes : List ℕ) (from : Addr) (ssl : Bool) (at : ℕ) (a : Request) → IsRead bytes from ssl at a → (a.at ≡ at) × (a.from ≡ from) × (a.ssl ≡ ssl)
read-parts bytes from ssl at a (inl found) = by_parts (arrival_of from ssl at) found.0 found.1 (framing_of (headers_of found.0)) a found.3
read-parts bytes from ssl at a (inr none) = absurd none

pub found-request_read : (bytes : List ℕ) (from : Addr) (ssl : Bool) (at : ℕ) → Found (λ (request : Request). IsRead bytes from ssl at request)
found-request_read bytes from ssl at = found-read (arrival_of from ssl at) bytes

pub request_read-unique : (bytes : List ℕ) (from : Addr) (ssl : Bool) (at : ℕ) (a b : Request) → IsRead bytes from ssl at a → IsRead bytes from ssl at b → a ≡ b
request_read-unique bytes from ssl at a b = IsRead-unique (arrival_of from ssl at) bytes a b

-- what a failed reading says of the line is so
pub refusal-says : (bytes : List ℕ) (from : Addr) (ssl : Bool) (at : ℕ) (refused : HeadFault)
    → (¬ (IsErrOf {T = Request} {E = HeadFault} (Err refused) fault.Memory) → Answers (arrival_of from ssl at) bytes (Err refused))
    → SaysWhy (λ why. (why ≡ cause.BadHead) × IsUnread bytes from ssl at) (head_fault refused)
refusal-says bytes from ssl at refused answers = of_cause refused answers where
  unread : (refused : HeadFault) → Answers (arrival_of from ssl at) bytes (Err refused) → IsUnread bytes from ssl at
  unread refused answered request is = refused-unread (arrival_of from ssl at) bytes refused request answered is

  of_cause : (refused : HeadFault) → (¬ (IsErrOf {T = Request} {E = HeadFault} (Err refused) fault.Memory) → Answers (arrival_of from ssl at) bytes (Err refused))
      → SaysWhy (λ why. (why ≡ cause.BadHead) × IsUnread bytes from ssl at) (head_fault refused)
  of_cause fault.BadHead answers = (refl, unread fault.BadHead (answers (λ e. cc)))
  of_cause fault.TooManyHeaders answers = (refl, unread fault.TooManyHeaders (answers (λ e. cc)))
  of_cause fault.HeadTooLong answers = (refl, unread fault.HeadTooLong (answers (λ e. cc)))
  of_cause fault.Coding answers = (refl, unread fault.Coding (answers (λ e. cc)))
  of_cause fault.BadLength answers = (refl, unread fault.BadLength (answers (λ e. cc)))
  of_cause fault.BodyTooLong answers = (refl, unread fault.BodyTooLong (answers (λ e. cc)))
  of_cause fault.Cut answers = (refl, unread fault.Cut (answers (λ e. cc)))
  of_cause fault.ReadFault answers = (refl, unread fault.ReadFault (answers (λ e. cc)))
  of_cause fault.Memory answers = tt

-- ---- the request of an object, by what this tells

-- a moment of the request and one of its reply, where there is one, are in range
pub dated-moments : (at : ℕ) (recorded : Option (Reply × ℕ)) → has_moments (Some at) (told_reply recorded) ≡ true
dated-moments at None = refl
dated-moments at (Some r) = refl

module _ (value : Data) (one : Sent) (reply : Option ToldReply) (is : IsSentWith value one reply) (peer : Addr) (is_peer : IsPeer value peer) (at : ℕ) (is_at : one.at ≡ Some at) (recorded : Option (Reply × ℕ)) (is_recorded : reply ≡ told_reply recorded) where
  -- its bytes begin with a request
  pub sent-recorded : (request : Request) → IsRead one.bytes peer one.ssl at request → IsSentRecorded value (record { request = request; reply = recorded })
  sent-recorded request read =
      let parts = read-parts one.bytes peer one.ssl at request read in
      let moment : at ≡ request.at = sym parts.0 in
      let from : peer ≡ request.from = sym parts.1 in
      let ssl : one.ssl ≡ request.ssl = sym parts.2 in
      let is_request : IsSentRequest value request = record {
        at = is.0.at ∙ ap Some (is_at ∙ ap Some moment);
        from = subst (IsPeer value) from is_peer;
        ssl = is.0.ssl ∙ ap Some ssl;
        bytes = one.bytes;
        are_bytes = is.0.bytes;
        read = subst (λ (t : Type 0). t) (λ i. IsRead one.bytes (from i) (ssl i) (moment i) request) read;
      } in
      let is_reply = ap (λ m. reply_of m value) (ap Some parts.0 ∙ sym is_at) ∙ is.1 ∙ ap Some is_recorded in
      record { request = is_request; reply = is_reply }

  -- they begin with none
  pub unread-none : IsUnread one.bytes peer one.ssl at → IsNoSent value cause.BadHead
  unread-none none =
      let moved : has_moments one.at reply ≡ has_moments (Some at) (told_reply recorded) = λ i. has_moments (is_at i) (is_recorded i) in
      sent.head one reply is peer is_peer (moved ∙ dated-moments at recorded) at is_at none refl
