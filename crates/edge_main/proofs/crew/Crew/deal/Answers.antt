use Rattle.std.proofs.Common.{◌≡◌, ◌<◌, ◌+◌, ◌%◌, length, arith, refl, sym, ap, ap₂, subst, ◌∙◌}
use Rattle.std.proofs.Math.Nat.{mod-lt}
use Rattle.edge_main.specs.Working.{asked_of}
use Rattle.edge_main.specs.declared.working.Job.{Job}
use Rattle.edge_main.specs.declared.working.Worker.{Worker}
use Rattle.edge_main.proofs.CrewPlaceLemmas.{asked-so, workers-then, crew-then, dealt-then}
use Rattle.edge_main.proofs.crew.Crew.deal.Goals as goal

pub returns-clause-deals : goal.returns-clause-deals
returns-clause-deals c history s latest at =
    let now = c.args.self.now in
    let workers = now.workers.items in
    let place = now.dealt % c.len.result in
    let before = c.index_mut.result.now in
    let after : Worker = record before { jobs = c.push.new.self } in
    let job : Job = record { number = now.requests + 1; picked = c.in_ok-picked.picked; recorded = c.args.recorded } in
    let turn : place ≡ length latest % length workers = ap₂ (λ m n. m % n) at.count (c.len.ensures ∙ now.workers.ok.0) in
    let some : 0 < length workers = omega (arith, at.size.some) in
    let below : place < length workers = subst (λ p. p < length workers) (sym turn) (mod-lt (length latest) {m = length workers} some) in
    let found = c.index_mut.ensures.value in
    record {
      asked = asked_of job;
      its = asked-so now.desk s job c.in_ok-picked.ensures at.in_force (ap (λ n. n + 1) at.requests);
      now = record {
        size = crew-then now.gate history workers place before after below at.workers found refl refl refl refl at.size;
        workers = workers-then now.gate history workers place before after below at.workers found refl refl refl refl;
        dealt =
            dealt-then now.gate history workers place before after below at.workers found refl refl refl refl job latest
            c.in_ok-push.ensures.items turn at.dealt;
        count = omega (arith, at.count);
        few = omega (arith, at.count, c.requires.room);
        in_force = at.in_force;
        lines = ap (λ n. n + 1) at.lines;
        requests = ap (λ n. n + 1) at.requests;
        version = at.version;
        any_bad = at.any_bad;
      };
    }
