use Rattle.std.proofs.Common.{ℕ, List, refl, ap, ap₂, append-nil, ◌++◌, ◌∷◌, [], ◌∙◌}
use Rattle.std.proofs.Common.{sym}
use Rattle.gate_run.specs.Passes.{seen_by}
use Rattle.edge_main.proofs.working.Worker.judge.Goals as goal

pub returns-clause-judges : goal.returns-clause-judges
returns-clause-judges g c =
    let did = c.in_ok-parts.ensures.judges in
    let worker = c.args.self.now in
    record {
      did = record { asked = _; parts = _; took = did.took };
      asked = refl;
      has = record {
        done = (did.done, tt);
        seen = did.grown ∙ ap (λ entries. seen_by worker.pass ++ entries) (sym (append-nil did.took));
        lines = c.push_reserved.ensures.items ∙ ap₂ (λ (lines : List (List ℕ)) (text : List ℕ). lines ++ text ∷ []) c.reserve.ensures.items c.in_ok-line_of.ensures;
        fault = refl;
      };
    }
