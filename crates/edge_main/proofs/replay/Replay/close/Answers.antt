use Rattle.std.proofs.Common.{take, subst}
use Rattle.std.specs.Io.KnownBytes.{Appends}
use Rattle.edge_main.proofs.RunningLemmas.{closed, closed-whole, closed-cut}
use Rattle.edge_main.proofs.replay.Replay.close.Goals as goal

pub returns-in-Ok-clause-ended : goal.returns-in-Ok-clause-ended
returns-in-Ok-clause-ended g c before text finished =
    let run = c.args.self.now.run in
    let now = g.K.Sink.got c.args.out.now in
    let after = g.K.Sink.got c.write_all.new.sink in
    let pending = c.args.self.now.pending in
    closed c.ending.result run before now after pending text c.ending.ensures finished
    (subst (λ written. Appends now after written) c.bytes.ensures c.in-Ok.ensures.ok)

pub returns-in-Ok-clause-answered : goal.returns-in-Ok-clause-answered
returns-in-Ok-clause-answered g c steady before text finished =
    let now = g.K.Sink.got c.args.out.now in
    let after = g.K.Sink.got c.write_all.new.sink in
    closed-whole c.args.self.now.run before now after c.args.self.now.pending text finished
    (subst (λ written. Appends now after written) c.bytes.ensures c.in-Ok.ensures.ok)

pub returns-in-Err-clause-ended : goal.returns-in-Err-clause-ended
returns-in-Err-clause-ended g c before text finished =
    let cut = c.in-Err.ensures.err in
    let now = g.K.Sink.got c.args.out.now in
    let after = g.K.Sink.got c.write_all.new.sink in
    closed-cut c.args.self.now.run before now after c.args.self.now.pending text finished cut.0
    (subst (λ pending. Appends now after (take cut.0 pending)) c.bytes.ensures cut.2)
