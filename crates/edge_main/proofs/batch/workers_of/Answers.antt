use Rattle.std.proofs.Common.{◌≡◌, ◌∷◌, [], ◌-◌, length, length-append, ap, subst, sym, arith}
use Rattle.gate_run.specs.Passes.{seens_in}
use Rattle.edge_main.proofs.BatchLemmas.{AreMade, made-one}
use Rattle.edge_main.proofs.batch.workers_of.Goals as goal

pub passes-preserved : goal.passes-preserved
passes-preserved c =
    let left = seens_in c.pop.new.self in
    let seen = c.in-Some.pass.seen in
    let popped = c.in-Some.ensures.seens in
    subst (λ workers. AreMade (c.passes.number - 1) left (seens_in c.args.passes) workers) (sym c.in_ok-insert.ensures.items)
    (made-one c.passes.number (c.passes.number - 1) (seens_in c.passes.passes) left (seens_in c.args.passes) c.passes.workers.items c.new-worker.result
    seen c.passes.invariant popped (omega (arith, c.passes.invariant.count, ap length popped, length-append left (seen ∷ []))) c.new-worker.ensures.new)
