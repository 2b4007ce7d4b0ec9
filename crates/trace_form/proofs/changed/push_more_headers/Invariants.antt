use Rattle.std.proofs.Common.{◌≡◌, ◌++◌, drop}
use Rattle.std.specs.Io.{StartsWith}
use Rattle.trace_form.specs.Line.{more_headers_text}
use Rattle.trace_form.proofs.changed.push_more_headers.Given as goal

-- what was written and the headers that are left make the whole
abbrev pub invariant-loop-header : goal.invariant-loop-header
invariant-loop-header l = record {
  whole : l.out ++ more_headers_text (drop l.header-index l.headers) ≡ l.fn.out ++ more_headers_text l.headers;
  begins : StartsWith l.out l.fn.out;
}
