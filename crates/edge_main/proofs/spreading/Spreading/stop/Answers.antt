use Rattle.std.proofs.Common.{◌<◌, ℕ, length, take, sym, subst, OnOk, OnErr}
use Rattle.std.specs.Io.KnownBytes.{Appends}
use Rattle.edge_main.specs.SpreadEnded.{SpreadEnded}
use Rattle.edge_main.proofs.SpreadingLemmas.{stopped-cut}
use Rattle.edge_main.proofs.spreading.Spreading.stop.Goals as goal

pub returns-clause-ended : goal.returns-clause-ended
returns-clause-ended g c law before text stop =
    let now = g.K.Sink.got c.args.out.now in
    let after = g.K.Sink.got c.write_all.new.sink in
    let wrote = c.write_all.result in
    subst (λ s. SpreadEnded s text before after) (sym c.status.ensures)
    (stopped-cut law wrote c.args.fault before now after c.args.self.now.pending text c.in_default.not-Write stop
    (subst (λ pending. OnOk wrote (Appends now after pending)) c.bytes.ensures c.write_all.ensures.ok)
    (subst (λ pending. OnErr wrote ((count : ℕ) × (count < length pending) × Appends now after (take count pending))) c.bytes.ensures
    c.write_all.ensures.err))
