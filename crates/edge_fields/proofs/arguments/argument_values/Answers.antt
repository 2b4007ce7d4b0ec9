use Rattle.std.proofs.Common.{rules, tests, ◌==◌, map, filter, ap, ◌∙◌}
use Rattle.std.specs.Map.{values_of}
use Rattle.std.proofs.lemmas.Iterator.Splits.{YieldsList-from_slice_split}
use Rattle.edge_fields.specs.declared.value.Value.TheVariants as value
use Rattle.edge_fields.specs.Target.{has_bytes, argument_of}
use Rattle.edge_fields.proofs.PieceLemmas.{all_seen}
use Rattle.edge_fields.proofs.arguments.argument_values.Goals as goal

-- the pieces that the loop saw are all pieces of the query
pub returns : goal.returns
returns c =
    ap value.Array (c.loop-piece.invariant
    ∙ ap (λ parts. map value.Text (values_of (map argument_of (filter has_bytes parts)))) (
    all_seen c.loop-piece.yielded _ c.loop-piece.yielded_by _ _ c.in-None.is c.next.ensures.steps (
    YieldsList-from_slice_split _ (λ byte. byte == 38) c.args.query.now (cc) (cc) (cc) (λ x r q k. search (rules, tests)))))
