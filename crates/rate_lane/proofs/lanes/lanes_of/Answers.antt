use Rattle.std.proofs.Common.{◌≡◌, [], ◌∷◌, ◌++◌, All, length, sym, ap, ◌∙◌, subst, append_assoc, arith}
use Rattle.std.proofs.lemmas.List.{length_push}
use Rattle.std.proofs.lemmas.List.Elements.{All-push}
use Rattle.rate_lane.specs.Lane.{cap_of, IsLaneOf}
use Rattle.rate_lane.proofs.lanes.lanes_of.Goals as goal

pub loop-hasher-preserved : goal.loop-hasher-preserved
loop-hasher-preserved c =
    let seen = c.loop-hasher.yielded in
    let lanes = c.loop-hasher.lanes.items in
    record {
      count =
          ap length c.in_ok-push.ensures.items
          ∙ omega (arith, length_push lanes c.in_ok-new.field-0, length_push seen c.in-Some.hasher, c.loop-hasher.invariant.count);
      left =
          append_assoc seen (c.in-Some.hasher ∷ []) c.next.new.self.rest.items
          ∙ ap (λ rest. seen ++ rest) (sym c.in-Some.ensures.steps.0)
          ∙ c.loop-hasher.invariant.left;
      empty =
          subst (All (λ lane. (cap_of lane ≡ c.args.cap) × IsLaneOf lane [])) (sym c.in_ok-push.ensures.items)
          (All-push (λ lane. (cap_of lane ≡ c.args.cap) × IsLaneOf lane []) lanes c.in_ok-new.field-0 c.loop-hasher.invariant.empty (c.in_ok-new.ensures.cap, c.in_ok-new.ensures.empty));
    }
