use Rattle.std.proofs.Common.{[], ◌∷◌, ◌++◌, All, length, refl, sym, ap, ◌∙◌, subst, append_assoc, arith, Some}
use Rattle.std.proofs.lemmas.List.{length_push}
use Rattle.std.proofs.lemmas.List.Elements.{All-push}
use Rattle.rate_shared.specs.Hands.{IsNew}
use Rattle.rate_shared.proofs.making.slots_of.Goals as goal

pub loop-hasher-preserved : goal.loop-hasher-preserved
loop-hasher-preserved c =
    let seen = c.loop-hasher.yielded in
    let slots = c.loop-hasher.slots.items in
    let lane = c.in_ok-new.field-0 in
    record {
      count =
          ap length c.in_ok-push.ensures.items
          ∙ omega (arith, length_push slots (Some lane), length_push seen c.in-Some.hasher, c.loop-hasher.invariant.count);
      left =
          append_assoc seen (c.in-Some.hasher ∷ []) c.next.new.self.rest.items
          ∙ ap (λ rest. seen ++ rest) (sym c.in-Some.ensures.steps.0)
          ∙ c.loop-hasher.invariant.left;
      new =
          subst (All (IsNew c.args.cap)) (sym c.in_ok-push.ensures.items)
          (All-push (IsNew c.args.cap) slots (Some lane) c.loop-hasher.invariant.new (lane, refl, c.in_ok-new.ensures.cap, c.in_ok-new.ensures.empty));
    }
