use Rattle.std.proofs.Common.{arith}
use Rattle.gate_run.specs.Passes.{seen_by}
use Rattle.edge_main.specs.Crewed.{HasHeard}
use Rattle.edge_main.proofs.HearingLemmas.{gone-none, watched-none, watched-then, heard-one, still-of, left-of}
use Rattle.edge_main.proofs.batch.tell_all.Goals as goal

pub telling-init : goal.telling-init
telling-init c = record {
  first = watched-none c.args.first.now;
  others = gone-none (HasHeard (seen_by c.args.first.now.pass)) c.args.others.now;
}

pub hear-requires : goal.hear-requires
hear-requires c =
    let gate = c.args.gate.now in
    record {
      of = left-of gate (HasHeard (seen_by c.args.first.now.pass)) c.telling.k c.args.others.now c.telling.others c.index-others-k.result c.requires.others c.telling.invariant.others (omega arith);
      other = still-of gate c.args.first.now c.telling.first c.telling.invariant.first c.requires.of;
    }

pub telling-preserved : goal.telling-preserved
telling-preserved c = record {
  first = watched-then c.args.first.now c.telling.first c.hear.new.other c.telling.invariant.first c.hear.ensures.other;
  others =
      heard-one c.telling.k c.args.first.now c.telling.first c.hear.new.other c.args.others.now c.telling.others c.index-others-k.result c.hear.new.worker
      c.telling.invariant.others (omega arith) c.telling.invariant.first c.hear.ensures.other c.hear.ensures.worker c.hear.ensures.heard;
}
