use Rattle.std.proofs.Common.{ℕ, List, [], ◌∷◌, ◌++◌, sym, ap, ◌∙◌, append_assoc}
use Rattle.edge_fields.specs.Maps.{with_value}
use Rattle.edge_fields.proofs.MapsLemmas.{map_of_push}
use Rattle.edge_fields.proofs.value.map.Goals as goal

pub loop-key-preserved : goal.loop-key-preserved
loop-key-preserved c =
    let seen = c.loop-key.yielded in
    let pair : List ℕ × List ℕ = (c.in-Some.key, c.in-Some.value) in
    record {
      taken =
          c.in_ok-add.ensures.ok
          ∙ ap (λ entries. with_value entries c.in-Some.key c.in-Some.value) c.loop-key.invariant.taken
          ∙ sym (map_of_push seen c.in-Some.key c.in-Some.value);
      left =
          append_assoc seen (pair ∷ []) c.next.new.self.rest.items
          ∙ ap (λ rest. seen ++ rest) (sym c.in-Some.ensures.steps.0)
          ∙ c.loop-key.invariant.left;
    }
