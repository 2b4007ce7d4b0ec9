use Rattle.std.proofs.Common.{◌≡◌, ◌∙◌, inr, sym, ap, take}
use Rattle.std.proofs.lemmas.Result.{err_from_is_err_and}
use Rattle.http_front.specs.Framing.{framing_of}
use Rattle.http_front.specs.Reading.{headers_of}
use Rattle.http_front.proofs.ReadingLemmas.{headers_found}
use Rattle.http_front.proofs.heads.begin.Goals as goal

pub returns-in_err-length-clause-began : goal.returns-in_err-length-clause-began
returns-in_err-length-clause-began c found at =
    let places = take c.args.head.now.headers c.args.places.now in
    let same : c.in_ok-headers.headers ≡ headers_of found =
    c.in_ok-headers.ensures ∙ headers_found c.args.bytes.now places found.fields at.fields in
    let p = err_from_is_err_and c.from_residual-in_err-length.result c.from_residual-in_err-length.ensures.1 in
    rw (p.1, p.2) (inr (sym (c.in_err-length.ensures ∙ ap framing_of (c.as_slice.ensures ∙ same))))

pub returns-clause-began : goal.returns-clause-began
returns-clause-began c found at =
    let places = take c.args.head.now.headers c.args.places.now in
    let same : c.in_ok-headers.headers ≡ headers_of found =
    c.in_ok-headers.ensures ∙ headers_found c.args.bytes.now places found.fields at.fields in
    record {
      method = c.in_ok-of.ensures ∙ c.of.ensures ∙ at.method;
      target = c.in_ok-of-2.ensures ∙ c.of-3.ensures ∙ at.path;
      minor = at.version;
      headers = same;
      start = at.len;
      framing = sym (c.in_ok-length.ensures ∙ ap framing_of (c.as_slice.ensures ∙ same));
    }
