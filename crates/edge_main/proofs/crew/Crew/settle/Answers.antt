use Rattle.std.proofs.Common.{◌≡◌, [], ◌++◌, List, length, reverse, arith, refl, sym, ap, subst, ◌∙◌}
use Rattle.std.specs.Vec.{with_items}
use Rattle.std.proofs.lemmas.List.{with_items_is}
use Rattle.edge_main.specs.Batched.{AreDealt, joined}
use Rattle.edge_main.specs.Crewed.{AreWorkersAt, IsCrew, jobs_in}
use Rattle.edge_main.specs.declared.working.Worker.{Worker}
use Rattle.edge_main.proofs.SettleLemmas.{held, settlement}
use Rattle.edge_main.proofs.crew.Crew.settle.Goals as goal

pub take_lines-requires-clause-dealt : goal.take_lines-requires-clause-dealt
take_lines-requires-clause-dealt g c =
    let now = c.args.self.now in
    let (history, s, latest, at) = c.requires.somewhere in
    let w0 = c.as_mut_slice-workers.result.now in
    let same = sym c.as_mut_slice-workers.ensures.value in
    held now.gate w0 c.work_all.new.workers c.work_all.ensures.count c.work_all.ensures.works c.meet_all.new.workers c.in_ok-first_fault.ensures.ok
    c.meet_all.ensures.count c.meet_all.ensures.met history latest now.dealt (subst (IsCrew now.gate) same at.size)
    (subst (AreWorkersAt now.gate history) same at.workers) (subst (λ (workers : List Worker). AreDealt latest (jobs_in workers)) same at.dealt) at.count

pub returns : goal.returns
returns g c = record {
  settles = λ history s latest at from lines asked.
      let now = c.args.self.now in
      let w0 = c.as_mut_slice-workers.result.now in
      let same = sym c.as_mut_slice-workers.ensures.value in
      let taken = c.in_ok-lines.lines.items in
      let done =
      settlement now.gate w0 c.work_all.new.workers c.work_all.ensures.count c.work_all.ensures.works c.meet_all.new.workers c.in_ok-first_fault.ensures.ok
      c.meet_all.ensures.count c.meet_all.ensures.met c.take_lines.new.workers c.in_ok-lines.ensures.given c.in_ok-lines.ensures.none history latest
      now.dealt from lines s taken (subst (IsCrew now.gate) same at.size) (subst (AreWorkersAt now.gate history) same at.workers)
      (subst (λ (workers : List Worker). AreDealt latest (jobs_in workers)) same at.dealt) at.few at.count c.in_ok-lines.ensures.lines asked in
      let many : length c.take_lines.new.workers ≡ length now.workers.items =
      c.in_ok-lines.ensures.given.count ∙ c.meet_all.ensures.count ∙ c.work_all.ensures.count ∙ ap length c.as_mut_slice-workers.ensures.value in
      let is : (with_items now.workers c.take_lines.new.workers).items ≡ c.take_lines.new.workers =
      with_items_is now.workers c.take_lines.new.workers (many ∙ sym now.workers.ok.0) in
      record {
        more = done.more;
        kinds = done.kinds;
        batch = done.batch;
        text_is = c.in_ok-push_all.ensures ∙ ap (λ xs. xs ++ joined (reverse taken)) c.clear.ensures ∙ done.text;
        now = record {
          size = subst (IsCrew now.gate) (sym is) done.size;
          workers = subst (AreWorkersAt now.gate (history ++ done.more)) (sym is) done.workers;
          dealt = subst (λ (workers : List Worker). AreDealt [] (jobs_in workers)) (sym is) done.dealt;
          count = refl;
          few = omega arith;
          in_force = at.in_force;
          lines = at.lines;
          requests = at.requests;
          version = at.version;
          any_bad = at.any_bad;
        };
      };
}
