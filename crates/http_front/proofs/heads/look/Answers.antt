use Rattle.std.proofs.Common.{Err, ap, subst}
use Rattle.httparse.specs.Spans.{RequestOverflows, RequestExceeds}
use Rattle.http_front.proofs.LineLemmas.{lines_came}
use Rattle.http_front.proofs.heads.look.Goals as goal

pub returns-in-Err-TooManyHeaders : goal.returns-in-Err-TooManyHeaders
returns-in-Err-TooManyHeaders c =
    let bytes = c.args.bytes.now in
    let many = c.in-Err-TooManyHeaders.ensures.too_many (ap Err c.in-Err-TooManyHeaders.field-0-is) in
    record {
      none = subst (λ n. RequestOverflows n bytes) c.requires c.in-Err-TooManyHeaders.ensures.no_room;
      lines = lines_came bytes (subst (λ n. RequestExceeds n bytes) c.requires many);
    }
