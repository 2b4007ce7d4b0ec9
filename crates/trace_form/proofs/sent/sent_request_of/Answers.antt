use Rattle.std.proofs.Common.{◌≡◌, refl, sym, subst, ◌∙◌}
use Rattle.std.proofs.lemmas.Option.{same_Some}
use Rattle.std.proofs.lemmas.Result.{err_from_is_err_and}
use Rattle.serde_json.specs.View.{view}
use Rattle.edge_base.specs.Address.{IsAddrText}
use Rattle.trace_form.specs.declared.refusal.BadCause.TheVariants as cause
use Rattle.trace_form.specs.Item.{SaysWhy}
use Rattle.trace_form.specs.Sent.{IsRead, IsUnread, IsNoSent}
use Rattle.trace_form.specs.Sent as sent
use Rattle.trace_form.specs.Found.{sent_with, IsAddrFound, IsSentBothFound, IsDatedFound}
use Rattle.trace_form.proofs.BothLemmas.{request-undated, reply-undated}
use Rattle.trace_form.proofs.ItemLemmas.{says-weaker}
use Rattle.trace_form.proofs.SentLemmas.{sent-recorded, unread-none}
use Rattle.trace_form.proofs.sent.sent_request_of.Goals as goal

pub returns-in_default-from-clause-bad : goal.returns-in_default-from-clause-bad
returns-in_default-from-clause-bad c =
    let both = subst (IsSentBothFound (view c.args.value)) c.in-Some.is c.in_ok-sent.ensures in
    let ip = both.0.0 in
    let none = subst (IsAddrFound ip) c.in_default-from.is both.0.2 in
    sent.address (sent_with ip c.in-Some.sent) c.in-Some.reply (both.0.1, both.1)
    (λ peer is. none peer (subst (λ text. IsAddrText text peer) (same_Some is.0 ip (sym is.1 ∙ both.0.1.ip)) is.2)) refl

pub returns-in_default-at-clause-bad : goal.returns-in_default-at-clause-bad
returns-in_default-at-clause-bad c =
    let both = subst (IsSentBothFound (view c.args.value)) c.in-Some.is c.in_ok-sent.ensures in
    let ip = both.0.0 in
    let is_addr = subst (IsAddrFound ip) c.in-Some-from.is both.0.2 in
    sent.moment (sent_with ip c.in-Some.sent) c.in-Some.reply (both.0.1, both.1) c.in-Some-from.from (ip, both.0.1.ip, is_addr)
    (request-undated c.in-Some.sent.at c.in-Some.reply c.in_default-at.is) refl

pub returns-in_default-dated-clause-bad : goal.returns-in_default-dated-clause-bad
returns-in_default-dated-clause-bad c =
    let both = subst (IsSentBothFound (view c.args.value)) c.in-Some.is c.in_ok-sent.ensures in
    let ip = both.0.0 in
    let is_addr = subst (IsAddrFound ip) c.in-Some-from.is both.0.2 in
    let late = subst (IsDatedFound c.in-Some.reply) c.in_default-dated.is c.dated.ensures in
    sent.moment (sent_with ip c.in-Some.sent) c.in-Some.reply (both.0.1, both.1) c.in-Some-from.from (ip, both.0.1.ip, is_addr)
    (reply-undated c.in-Some.sent.at c.in-Some.reply late) refl

pub returns-in_err-request-clause-bad : goal.returns-in_err-request-clause-bad
returns-in_err-request-clause-bad c =
    let value = view c.args.value in
    let part = c.in-Some.sent in
    let from = c.in-Some-from.from in
    let at = c.in-Some-at.at in
    let both = subst (IsSentBothFound value) c.in-Some.is c.in_ok-sent.ensures in
    let ip = both.0.0 in
    let is_addr = subst (IsAddrFound ip) c.in-Some-from.is both.0.2 in
    let p = err_from_is_err_and c.from_residual-in_err-request.result c.from_residual-in_err-request.ensures.1 in
    let e = c.in_err-request.field-0.0 in
    let says : SaysWhy (λ why. (why ≡ cause.BadHead) × IsUnread part.bytes from part.ssl at) e =
    subst (λ bytes. SaysWhy (λ why. (why ≡ cause.BadHead) × IsUnread bytes from part.ssl at) e) c.bytes.ensures c.in_err-request.ensures.bad in
    rw (p.1, p.2) (says-weaker (λ why. (why ≡ cause.BadHead) × IsUnread part.bytes from part.ssl at) (IsNoSent value)
    (λ why h. subst (IsNoSent value) (sym h.0) (unread-none value (sent_with ip part) c.in-Some.reply (both.0.1, both.1) from (ip, both.0.1.ip, is_addr)
    at c.in-Some-at.is c.in-Some-dated.reply c.in-Some-dated.ensures h.1)) e says)

pub returns-clause-ok : goal.returns-clause-ok
returns-clause-ok c =
    let value = view c.args.value in
    let part = c.in-Some.sent in
    let from = c.in-Some-from.from in
    let at = c.in-Some-at.at in
    let both = subst (IsSentBothFound value) c.in-Some.is c.in_ok-sent.ensures in
    let ip = both.0.0 in
    let is_addr = subst (IsAddrFound ip) c.in-Some-from.is both.0.2 in
    let request = c.in_ok-request.request in
    sent-recorded value (sent_with ip part) c.in-Some.reply (both.0.1, both.1) from (ip, both.0.1.ip, is_addr)
    at c.in-Some-at.is c.in-Some-dated.reply c.in-Some-dated.ensures request
    (subst (λ bytes. IsRead bytes from part.ssl at request) c.bytes.ensures c.in_ok-request.ensures.ok)
