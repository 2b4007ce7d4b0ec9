use Rattle.std.proofs.Common.{refl, sym, subst, ◌∙◌}
use Rattle.std.proofs.lemmas.Option.{same_Some}
use Rattle.serde_json.specs.View.{view}
use Rattle.edge_base.specs.Address.{IsAddrText}
use Rattle.trace_form.specs.Asked as asked
use Rattle.trace_form.specs.Found.{told_with, IsAddrFound, IsBothFound, IsDatedFound}
use Rattle.trace_form.proofs.BothLemmas.{request-undated, reply-undated}
use Rattle.trace_form.proofs.request.request_of.Goals as goal

pub returns-in_default-from-clause-bad : goal.returns-in_default-from-clause-bad
returns-in_default-from-clause-bad c =
    let both = subst (IsBothFound (view c.args.value)) c.in-Some.is c.in_ok-told.ensures in
    let ip = both.0.0 in
    let none = subst (IsAddrFound ip) c.in_default-from.is both.0.2 in
    asked.address (told_with ip c.in-Some.told) c.in-Some.reply (both.0.1, both.1)
    (λ peer is. none peer (subst (λ text. IsAddrText text peer) (same_Some is.0 ip (sym is.1 ∙ both.0.1.ip)) is.2)) refl

pub returns-in_default-at-clause-bad : goal.returns-in_default-at-clause-bad
returns-in_default-at-clause-bad c =
    let both = subst (IsBothFound (view c.args.value)) c.in-Some.is c.in_ok-told.ensures in
    let ip = both.0.0 in
    let is_addr = subst (IsAddrFound ip) c.in-Some-from.is both.0.2 in
    let told = told_with ip c.in-Some.told in
    asked.moment told c.in-Some.reply (both.0.1, both.1) c.in-Some-from.from (ip, both.0.1.ip, is_addr)
    (request-undated told.at c.in-Some.reply c.in_default-at.is) refl

pub returns-in_default-dated-clause-bad : goal.returns-in_default-dated-clause-bad
returns-in_default-dated-clause-bad c =
    let both = subst (IsBothFound (view c.args.value)) c.in-Some.is c.in_ok-told.ensures in
    let ip = both.0.0 in
    let is_addr = subst (IsAddrFound ip) c.in-Some-from.is both.0.2 in
    let told = told_with ip c.in-Some.told in
    let late = subst (IsDatedFound c.in-Some.reply) c.in_default-dated.is c.dated.ensures in
    asked.moment told c.in-Some.reply (both.0.1, both.1) c.in-Some-from.from (ip, both.0.1.ip, is_addr)
    (reply-undated told.at c.in-Some.reply late) refl
