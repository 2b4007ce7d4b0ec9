use Rattle.std.proofs.Common.{◌≡◌, ◌∙◌, ◌≤◌, Err, inr, refl, sym, ap, subst, arith, length, take, drop, length-take, take-append-drop}
use Rattle.std.proofs.lemmas.List.{take_min}
use Rattle.std.proofs.lemmas.Result.{err_from_is_err_and}
use Rattle.httparse.specs.Grammar.{HasNoRequest}
use Rattle.http_front.specs.Heads.{head_max, front_of}
use Rattle.http_front.specs.Reading.{arrival_of, Answers}
use Rattle.http_front.proofs.ReadingLemmas.{never_none, never_bad, many_none, many_crowded, open_none, open_lacks, cause_answers, cut_answers, request_answers}
use Rattle.http_front.proofs.requests.request_of.Goals as goal

pub returns-in_err-begun-in-Whole-clause-reads : goal.returns-in_err-begun-in-Whole-clause-reads
returns-in_err-begun-in-Whole-clause-reads c =
    let bytes = c.args.bytes.now in let n = c.min.result in
    let short : length (take n bytes) ≤ head_max = omega (arith, length-take n bytes, c.min.ensures) in
    let p = err_from_is_err_and c.from_residual.result c.from_residual.ensures.1 in
    rw (p.1, p.2) (λ other. cause_answers (arrival_of c.args.from c.args.ssl c.args.at) bytes (drop n bytes) (take n bytes)
    c.look.new.places c.in-Whole.head _ c.look.auto.places short (sym (take-append-drop n bytes)) c.in-Whole.ensures
    c.in_err-begun-in-Whole.ensures.began (λ e. other (ap Err e)))

pub returns-then-bytes-begun-clause-reads : goal.returns-then-bytes-begun-clause-reads
returns-then-bytes-begun-clause-reads c other =
    let bytes = c.args.bytes.now in let n = c.min.result in
    let short : length (take n bytes) ≤ head_max = omega (arith, length-take n bytes, c.min.ensures) in
    let begun = c.in_ok-begun-in-Whole.begun in
    let less = c.if-bytes-begun.true in
    cut_answers (arrival_of c.args.from c.args.ssl c.args.at) bytes (drop n bytes) (take n bytes) c.look.new.places
    c.in-Whole.head begun c.look.auto.places short (sym (take-append-drop n bytes)) c.in-Whole.ensures
    c.in_ok-begun-in-Whole.ensures.began (omega (arith, less))

pub returns-in_ok-into_request-in-Whole-clause-reads : goal.returns-in_ok-into_request-in-Whole-clause-reads
returns-in_ok-into_request-in-Whole-clause-reads c other =
    let bytes = c.args.bytes.now in let n = c.min.result in
    let short : length (take n bytes) ≤ head_max = omega (arith, length-take n bytes, c.min.ensures) in
    let begun = c.in_ok-begun-in-Whole.begun in
    let enough = c.if-bytes-begun.false in
    let start = c.in_ok-begun-in-Whole.ensures.short.start in
    request_answers (arrival_of c.args.from c.args.ssl c.args.at) bytes (drop n bytes) (take n bytes) c.look.new.places
    c.in-Whole.head begun c.in_ok-into_request-in-Whole.field-0 c.look.auto.places short (sym (take-append-drop n bytes))
    c.in-Whole.ensures c.in_ok-begun-in-Whole.ensures.began (omega (arith, enough, start, length-take n bytes))
    c.in_ok-into_request-in-Whole.ensures

pub returns-in-Bad-clause-reads : goal.returns-in-Bad-clause-reads
returns-in-Bad-clause-reads c other =
    let bytes = c.args.bytes.now in let n = c.min.result in
    let short : length (take n bytes) ≤ head_max = omega (arith, length-take n bytes, c.min.ensures) in
    let same = sym (take-append-drop n bytes) in
    let never = c.in-Bad.ensures in
    inr (never_none bytes (take n bytes) (drop n bytes) same never, never_bad bytes (take n bytes) (drop n bytes) same short never)

pub returns-in-Crowded-clause-reads : goal.returns-in-Crowded-clause-reads
returns-in-Crowded-clause-reads c other =
    let bytes = c.args.bytes.now in let n = c.min.result in
    let short : length (take n bytes) ≤ head_max = omega (arith, length-take n bytes, c.min.ensures) in
    let same = sym (take-append-drop n bytes) in
    let many = c.in-Crowded.ensures in
    inr (many_none bytes (take n bytes) (drop n bytes) same many, many_crowded bytes (take n bytes) (drop n bytes) same short many)

pub returns-in-Open-clause-reads : goal.returns-in-Open-clause-reads
returns-in-Open-clause-reads c other =
    let bytes = c.args.bytes.now in let n = c.min.result in
    let front : take n bytes ≡ front_of bytes = ap (λ k. take k bytes) c.min.ensures ∙ take_min head_max bytes in
    let none = open_none bytes (subst HasNoRequest front c.in-Open.ensures) in
    subst (λ cause. Answers (arrival_of c.args.from c.args.ssl c.args.at) bytes (Err cause)) (sym c.open_cause.ensures)
    (inr (none, open_lacks bytes (length bytes) (omega arith) (λ below. refl)))
