-- what is left to keep completes what was kept
use Rattle.std.proofs.Common.{◌≡◌, drop}
use Rattle.judge_core.specs.Changing.{headers_kept}
use Rattle.judge_core.specs.Places.{carried_of, with_headers}
use Rattle.judge_core.proofs.changing.keep_headers.Given as goal

abbrev pub ghost-keep_header : goal.ghost-keep_header
ghost-keep_header g a = g.listed

abbrev pub invariant-loop-header : goal.invariant-loop-header
invariant-loop-header g l =
    (l.state ≡ with_headers l.state.changes.headers l.fn.state)
    × (headers_kept g.listed (drop l.header-index l.headers) (carried_of l.config l.fn.state) l.state.changes.headers
    ≡ headers_kept g.listed l.headers (carried_of l.config l.fn.state) l.fn.state.changes.headers)
