use Rattle.std.proofs.Common.{◌≡◌, ◌∙◌, ◌+◌, ◌-◌, ◌≤◌, ◌++◌, [], length, Err, inl, inr, sym, ap, subst, arith, append_assoc, append-nil, length-append}
use Rattle.std.proofs.lemmas.Result.{err_from_is_err_and}
use Rattle.std.specs.Io.KnownBytes.{IsAtEnd}
use Rattle.httparse.specs.Grammar.{print_request, ReadsRequest}
use Rattle.http_front.specs.Framing.{body_max}
use Rattle.http_front.specs.Heads.{head_max}
use Rattle.http_front.specs.Reading.{arrival_of, Answers}
use Rattle.http_front.specs.Steps.{Covers, IsReadCause, IsRequestFrom}
use Rattle.http_front.proofs.LinkLemmas.{gave_more, took_some, behind, request_read, just_body, none_came}
use Rattle.http_front.proofs.ReadingLemmas.{whole_head, cause_answers, cut_answers, request_answers}
use Rattle.http_front.proofs.links.read_from.Goals as goal

pub returns-in_err-begun-clause-reads : goal.returns-in_err-begun-clause-reads
returns-in_err-begun-clause-reads g c text told =
    let came = c.read_head.new.came in
    let front = c.bytes.result.now in
    let left = behind (g.S.Source.left c.args.source.now) (g.S.Source.left c.read_head.new.source) text came told c.in_ok-head.ensures.gave.0 in
    let short : length front ≤ head_max = omega (arith, ap length c.bytes.ensures, c.in_ok-head.ensures.short) in
    let p = err_from_is_err_and c.from_residual-in_err-begun.result c.from_residual-in_err-begun.ensures.1 in
    rw (p.1, p.2) (λ other fault. cause_answers (arrival_of c.args.from c.args.ssl c.args.at) text left.0 front c.read_head.new.places
    c.in_ok-head.head _ c.read_head.auto.places short (left.2 ∙ ap (λ t. t ++ left.0) (sym c.bytes.ensures))
    (subst (λ t. Covers t c.read_head.new.places c.in_ok-head.head) (sym c.bytes.ensures) c.in_ok-head.ensures.ok)
    c.in_err-begun.ensures.began (λ e. other (ap Err e)))

pub returns-in_err-read_rest-clause-reads : goal.returns-in_err-read_rest-clause-reads
returns-in_err-read_rest-clause-reads g c text told =
    let came = c.read_head.new.came in
    let front = c.bytes.result.now in
    let begun = c.in_ok-begun.begun in
    let short : length front ≤ head_max = omega (arith, ap length c.bytes.ensures, c.in_ok-head.ensures.short) in
    let p = err_from_is_err_and c.from_residual-in_err-read_rest.result c.from_residual-in_err-read_rest.ensures.1 in
    rw (p.1, p.2) (λ other fault.
    let free : ¬ (IsReadCause c.in_err-read_rest.field-0.0) = λ read. elim read [ inl failed ↦ fault (ap Err failed) | inr refused ↦ other (ap Err refused) ] in
    elim c.in_err-read_rest.ensures.came [
      | inl read ↦ absurd (free read)
      | inr cut ↦
          let took = c.in_err-read_rest.ensures.gave free in
          let gave = gave_more g.S.Source.left g.S.Source.taken c.args.source.now c.read_head.new.source c.read_rest.new.source came
          c.read_rest.new.came took.0 c.in_ok-head.ensures.gave took.1 in
          let left = behind (g.S.Source.left c.args.source.now) (g.S.Source.left c.read_rest.new.source) text c.read_rest.new.came told gave.0 in
          let none : left.0 ≡ [] = subst IsAtEnd left.1 cut.1 in
          let less = cut.2 in
          let all = ap length (left.2 ∙ ap (λ t. c.read_rest.new.came ++ t) none ∙ append-nil c.read_rest.new.came) in
          subst (λ cause. Answers (arrival_of c.args.from c.args.ssl c.args.at) text (Err cause)) (sym cut.0)
          (cut_answers (arrival_of c.args.from c.args.ssl c.args.at) text (took.0 ++ left.0) front c.read_head.new.places
          c.in_ok-head.head begun c.read_head.auto.places short
          (left.2 ∙ ap (λ t. t ++ left.0) took.1.0 ∙ append_assoc came took.0 left.0 ∙ ap (λ t. t ++ (took.0 ++ left.0)) (sym c.bytes.ensures))
          (subst (λ t. Covers t c.read_head.new.places c.in_ok-head.head) (sym c.bytes.ensures) c.in_ok-head.ensures.ok)
          c.in_ok-begun.ensures.began (omega (arith, less, all)))
    ])

pub returns-in_err-read_rest-clause-took : goal.returns-in_err-read_rest-clause-took
returns-in_err-read_rest-clause-took g c =
    let came = c.read_head.new.came in
    let begun = c.in_ok-begun.begun in
    took_some g.S.Source.left g.S.Source.taken c.args.source.now c.read_head.new.source c.read_rest.new.source came
    (begun.start + begun.length - length came) (head_max + body_max) c.in_ok-head.ensures.gave c.read_rest.ensures.took
    (omega (arith, c.in_ok-head.ensures.short, c.in_ok-begun.ensures.short.start, c.in_ok-begun.ensures.short.length, ap length c.bytes.ensures))

pub returns-in_err-into_request-clause-took : goal.returns-in_err-into_request-clause-took
returns-in_err-into_request-clause-took g c =
    let came = c.read_head.new.came in
    let begun = c.in_ok-begun.begun in
    took_some g.S.Source.left g.S.Source.taken c.args.source.now c.read_head.new.source c.read_rest.new.source came
    (begun.start + begun.length - length came) (head_max + body_max) c.in_ok-head.ensures.gave c.read_rest.ensures.took
    (omega (arith, c.in_ok-head.ensures.short, c.in_ok-begun.ensures.short.start, c.in_ok-begun.ensures.short.length, ap length c.bytes.ensures))

pub returns-clause-took : goal.returns-clause-took
returns-clause-took g c =
    let came = c.read_head.new.came in
    let begun = c.in_ok-begun.begun in
    took_some g.S.Source.left g.S.Source.taken c.args.source.now c.read_head.new.source c.read_rest.new.source came
    (begun.start + begun.length - length came) (head_max + body_max) c.in_ok-head.ensures.gave c.read_rest.ensures.took
    (omega (arith, c.in_ok-head.ensures.short, c.in_ok-begun.ensures.short.start, c.in_ok-begun.ensures.short.length, ap length c.bytes.ensures))

pub returns-clause-reads : goal.returns-clause-reads
returns-clause-reads g c text told other fault =
    let came = c.read_head.new.came in
    let front = c.bytes.result.now in
    let begun = c.in_ok-begun.begun in
    let short : length front ≤ head_max = omega (arith, ap length c.bytes.ensures, c.in_ok-head.ensures.short) in
    let took = c.in_ok-read_rest.ensures.gave (λ none. none) in
    let whole = c.in_ok-read_rest.ensures.came in
    let gave = gave_more g.S.Source.left g.S.Source.taken c.args.source.now c.read_head.new.source c.read_rest.new.source came
    c.read_rest.new.came took.0 c.in_ok-head.ensures.gave took.1 in
    let left = behind (g.S.Source.left c.args.source.now) (g.S.Source.left c.read_rest.new.source) text c.read_rest.new.came told gave.0 in
    let arrival = arrival_of c.args.from c.args.ssl c.args.at in
    let request = c.in_ok-into_request.field-0 in
    let all = ap length left.2 in
    let made = subst (λ t. IsRequestFrom arrival begun t request) c.bytes-2.ensures c.in_ok-into_request.ensures in
    request_answers arrival text (took.0 ++ left.0) front c.read_head.new.places c.in_ok-head.head begun request
    c.read_head.auto.places short
    (left.2 ∙ ap (λ t. t ++ left.0) took.1.0 ∙ append_assoc came took.0 left.0 ∙ ap (λ t. t ++ (took.0 ++ left.0)) (sym c.bytes.ensures))
    (subst (λ t. Covers t c.read_head.new.places c.in_ok-head.head) (sym c.bytes.ensures) c.in_ok-head.ensures.ok)
    c.in_ok-begun.ensures.began (omega (arith, whole, all, length-append c.read_rest.new.came left.0))
    (request_read arrival text c.read_rest.new.came left.0 begun request left.2 whole made)

pub returns-clause-until : goal.returns-clause-until
returns-clause-until g c =
    let came = c.read_head.new.came in
    let now = c.read_rest.new.came in
    let front = c.bytes.result.now in
    let begun = c.in_ok-begun.begun in
    let request = c.in_ok-into_request.field-0 in
    let short : length front ≤ head_max = omega (arith, ap length c.bytes.ensures, c.in_ok-head.ensures.short) in
    let took = c.in_ok-read_rest.ensures.gave (λ none. none) in
    let made = subst (λ t. IsRequestFrom (arrival_of c.args.from c.args.ssl c.args.at) begun t request) c.bytes-2.ensures c.in_ok-into_request.ensures in
    let covers = subst (λ t. Covers t c.read_head.new.places c.in_ok-head.head) (sym c.bytes.ensures) c.in_ok-head.ensures.ok in
    let found = covers.1.0 in
    let began = c.in_ok-begun.ensures.began found covers.1.1 in
    let head = whole_head now took.0 front c.read_head.new.places c.in_ok-head.head found c.read_head.auto.places short
    (took.1.0 ∙ ap (λ t. t ++ took.0) (sym c.bytes.ensures)) covers.0 covers.1.1 in (
      now,
      gave_more g.S.Source.left g.S.Source.taken c.args.source.now c.read_head.new.source c.read_rest.new.source came now took.0
          c.in_ok-head.ensures.gave took.1,
      record {
        front = came;
        more = took.0;
        parts = took.1.0;
        head = c.in_ok-head.ensures.until;
        just = elim c.in_ok-read_rest.ensures.just [
          | inl same ↦ inl (none_came came now took.0 took.1.0 same)
          | inr full ↦ inr (
            found,
            subst (ReadsRequest now found)
                (just_body now (length (print_request found)) begun.start begun.length request.body began.start full made.body_is)
                head.reads,
          )
        ];
      },
    )
