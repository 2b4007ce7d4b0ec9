use Rattle.std.proofs.Common.{◌≡◌, length, arith, refl, subst}
use Rattle.gate_run.specs.Passes.{IsOpened}
use Rattle.edge_main.proofs.CrewPlaceLemmas.{new-crew, new-workers, new-dealt, new-in_force}
use Rattle.edge_main.proofs.crew.Crew.new.Goals as goal

pub returns : goal.returns
returns g c =
    let gate = c.in_ok-gate.gate in
    let passes = c.in_ok-gate.passes in
    let desk = c.in_ok-gate.desk in
    let count = c.args.workers in
    let size : length c.args.hashers.items ≡ 64 = omega (arith, c.requires.hashers, c.args.hashers.ok) in
    let opened = subst (λ n. IsOpened n 4096 count gate passes desk) size c.in_ok-gate.ensures in
    let workers = c.in_ok-workers_of.field-0.items in
    let new = c.in_ok-workers_of.ensures in
    record {
      size = new-crew count gate passes desk workers opened new c.requires.workers.0;
      workers = new-workers count gate passes desk workers opened new;
      dealt = new-dealt count gate passes desk workers opened new;
      count = refl;
      few = omega arith;
      in_force = new-in_force count gate passes desk workers opened new;
      lines = refl;
      requests = refl;
      version = refl;
      any_bad = refl;
    }
