use Rattle.std.proofs.Common.{refl, arith}
use Rattle.edge_main.specs.Crewed.{HasTold}
use Rattle.gate_run.specs.Passes.{seen_by}
use Rattle.edge_main.proofs.HearingLemmas.{gone-none, watched, watched-then, told-one, still-of, left-of}
use Rattle.edge_main.proofs.batch.hear_all.Goals as goal

pub hearing-init : goal.hearing-init
hearing-init c =
    let grows = c.catch_up.ensures.grows in
    record {
      first =
          watched _ c.args.first.now _ (record { number = refl; pass = c.catch_up.ensures.same; jobs = refl; lines = refl; fault = refl }) grows;
      shared = record { legal = grows.legal; by_callers = grows.by_callers };
      others = gone-none (HasTold (seen_by c.catch_up.new.pass)) c.args.others.now;
    }

pub hear-requires : goal.hear-requires
hear-requires c =
    let gate = c.args.gate.now in
    let now = c.hearing.others in
    record {
      of = still-of gate c.args.first.now c.hearing.first c.hearing.invariant.first c.requires.of;
      other = left-of gate (HasTold (seen_by c.hearing.first.pass)) c.hearing.k c.args.others.now now c.index-others-k.result c.requires.others c.hearing.invariant.others (omega arith);
    }

pub hearing-preserved : goal.hearing-preserved
hearing-preserved c = record {
  first = watched-then c.args.first.now c.hearing.first c.hear.new.worker c.hearing.invariant.first c.hear.ensures.worker;
  shared = c.hear.ensures.shared;
  others =
      told-one c.hearing.k c.hearing.first c.hear.new.worker c.args.others.now c.hearing.others c.index-others-k.result c.hear.new.other
      c.hearing.invariant.others (omega arith) c.hear.ensures.worker c.hear.ensures.other c.hear.ensures.heard;
}
