use Rattle.std.proofs.Common.{◌<◌, ℕ, length, take, sym, subst, OnOk, OnErr}
use Rattle.std.specs.Io.KnownBytes.{Appends}
use Rattle.edge_outside.specs.Faults.{Rose}
use Rattle.edge_main.specs.Ended.{Ended, WroteWhole}
use Rattle.edge_main.proofs.RunningLemmas.{stopped-cut, stopped-whole, unless-failed}
use Rattle.edge_main.proofs.replay.Replay.stop.Goals as goal

pub returns-clause-ended : goal.returns-clause-ended
returns-clause-ended g c left before text stop =
    let now = g.K.Sink.got c.args.out.now in
    let after = g.K.Sink.got c.write_all.new.sink in
    let wrote = c.write_all.result in
    subst (λ s. Ended s text before after) (sym c.status.ensures)
    (stopped-cut wrote c.args.fault left before now after c.args.self.now.pending text c.in_default.not-Write stop
    (subst (λ pending. OnOk wrote (Appends now after pending)) c.bytes.ensures c.write_all.ensures.ok)
    (subst (λ pending. OnErr wrote ((count : ℕ) × (count < length pending) × Appends now after (take count pending))) c.bytes.ensures
    c.write_all.ensures.err))

pub returns-clause-answered : goal.returns-clause-answered
returns-clause-answered g c other steady left before text stop =
    let now = g.K.Sink.got c.args.out.now in
    let after = g.K.Sink.got c.write_all.new.sink in
    let pending = c.args.self.now.pending in
    let all = subst (λ written. OnOk c.write_all.result (Appends now after written)) c.bytes.ensures c.write_all.ensures.ok in
    let rose = Rose (g.K.Sink.faults c.args.out.now) (g.K.Sink.faults c.write_all.new.sink) in
    subst (λ s. WroteWhole s text left before after) (sym c.status.ensures)
    (stopped-whole c.args.fault left before now after pending text other stop
    (unless-failed c.write_all.result (Appends now after pending) rose all c.write_all.ensures.failed steady))
