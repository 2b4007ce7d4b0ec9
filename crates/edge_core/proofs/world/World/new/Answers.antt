use Rattle.std.proofs.Common.{◌≡◌, ◌+◌, Some, List, replicate, refl, sym, ap, subst, ◌∙◌, arith}
use Rattle.edge_core.specs.Stands.{AreCallers}
use Rattle.edge_core.specs.World.{CallerParts, Idle}
use Rattle.edge_core.specs.declared.caller.Caller.{Caller}
use Rattle.edge_core.proofs.CallerLemmas.{idle_callers}
use Rattle.edge_core.proofs.world.World.new.Goals as goal

pub returns : goal.returns
returns g c meaning lanes cap tally =
    let version = c.in_ok-opening.field-0 in
    let none : version.number ≡ 0 = c.in_ok-opening.ensures.number in
    record {
      tally = tally;
      version = record {
        numbered = omega (arith, none);
        stop = refl;
        last = ap Some (sym c.in_ok-opening.ensures.config);
      };
      callers =
          subst (λ (ones : List Caller). AreCallers meaning ones (replicate c.args.callers Idle)) (sym c.in_ok-idle_callers.ensures)
          (idle_callers meaning c.args.callers);
    }
