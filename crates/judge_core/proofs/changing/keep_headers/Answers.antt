use Rattle.judge_core.specs.Changing.{headers_kept}
use Rattle.judge_core.specs.Places.{carried_of}
use Rattle.judge_core.proofs.KeepLemmas.{header_more}
use Rattle.judge_core.proofs.changing.keep_headers.Goals as goal

pub loop-header-preserved : goal.loop-header-preserved
loop-header-preserved g c =
    header_more g.listed c.args.config.now c.args.headers.now c.loop-header.header-index c.header-item.result c.args.state.now c.loop-header.state
    c.keep_header.new.state
    (headers_kept g.listed c.args.headers.now (carried_of c.args.config.now c.args.state.now) c.args.state.now.changes.headers)
    c.loop-header-test.true c.header-item.is c.in_ok-keep_header.ensures c.loop-header.invariant
