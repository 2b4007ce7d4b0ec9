use Rattle.std.proofs.Common.{take, subst}
use Rattle.std.specs.Io.KnownBytes.{Appends}
use Rattle.edge_main.proofs.SpreadingLemmas.{closed, closed-cut}
use Rattle.edge_main.proofs.spreading.Spreading.close.Goals as goal

pub returns-in-Ok-clause-ended : goal.returns-in-Ok-clause-ended
returns-in-Ok-clause-ended g c law before text settled =
    let now = g.K.Sink.got c.args.out.now in
    let after = g.K.Sink.got c.write_all.new.sink in
    closed c.ending.result c.args.self.now.crew before now after c.args.self.now.pending text c.ending.ensures settled
    (subst (λ written. Appends now after written) c.bytes.ensures c.in-Ok.ensures.ok)

pub returns-in-Err-clause-ended : goal.returns-in-Err-clause-ended
returns-in-Err-clause-ended g c law before text settled =
    let cut = c.in-Err.ensures.err in
    let now = g.K.Sink.got c.args.out.now in
    let after = g.K.Sink.got c.write_all.new.sink in
    closed-cut law c.args.self.now.crew before now after c.args.self.now.pending text settled cut.0
    (subst (λ pending. Appends now after (take cut.0 pending)) c.bytes.ensures cut.2)
