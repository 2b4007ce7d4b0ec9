use Rattle.std.proofs.Common.{◌≡◌, ◌∷◌, [], ◌++◌, All, None, take, take_all, sym, subst, arith}
use Rattle.std.proofs.lemmas.List.{take_more}
use Rattle.std.proofs.lemmas.List.Elements.{All-push}
use Rattle.edge_main.specs.declared.working.Worker.{Worker}
use Rattle.edge_main.proofs.batch.first_fault.Goals as goal

pub loop-worker-preserved : goal.loop-worker-preserved
loop-worker-preserved c =
    let at = c.loop-worker.worker-index in
    let workers = c.args.workers.now in
    let one = c.worker-item.result in
    subst (All (λ (w : Worker). w.fault ≡ None)) (sym (take_more workers at one (omega arith)))
    (subst (λ (w : Worker). All (λ (each : Worker). each.fault ≡ None) (take at workers ++ w ∷ [])) c.worker-item.is
    (All-push (λ (w : Worker). w.fault ≡ None) (take at workers) one c.loop-worker.invariant c.in_default.is))

pub returns : goal.returns
returns c = record {
  ok =
      subst (All (λ (w : Worker). w.fault ≡ None)) (take_all c.loop-worker.worker-index c.args.workers.now (omega arith))
      c.loop-worker.invariant;
}
