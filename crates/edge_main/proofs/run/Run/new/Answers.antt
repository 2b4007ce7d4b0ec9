use Rattle.std.proofs.Common.{◌≡◌, [], length, arith, refl, ap, subst, ◌∙◌, sym}
use Rattle.std.specs.Arc.{arc_value}
use Rattle.rate_lane.specs.Lanes.{AreLanesOf}
use Rattle.ruleset_model.specs.ConfigParts.{ConfigParts}
use Rattle.edge_main.proofs.run.Run.new.Goals as goal

pub returns : goal.returns
returns c =
    let empty : c.in_ok-empty.field-0 ≡ record { lists = []; rulesets = [] } =
    λ i. record { lists = c.in_ok-empty.ensures.lists i; rulesets = c.in_ok-empty.ensures.rulesets i } in
    record {
      lines = refl;
      requests = refl;
      version = refl;
      config = c.in_ok-config.ensures.ok ∙ empty;
      any_bad = refl;
      counter =
          let size : length c.args.hashers.items ≡ 64 = omega (arith, c.requires, c.args.hashers.ok) in
          subst (λ n. AreLanesOf c.in_ok-new.field-0 n 4096 []) size c.in_ok-new.ensures;
    }
