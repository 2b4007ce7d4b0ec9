-- what holds so far, with what holds of the rest, is what holds of all
use Rattle.std.proofs.Common.{◌≡◌, ◌&&◌, drop}
use Rattle.std.specs.List.{list_all}
use Rattle.std.specs.Option.{option_map}
use Rattle.edge_fields.specs.Values.{truth_in}
use Rattle.func_lib.specs.Arguments.{all_of}
use Rattle.func_lib.proofs.array.every_truth.Given as goal

abbrev pub invariant-loop-value : goal.invariant-loop-value
invariant-loop-value l =
    option_map (λ truths. l.so_far && list_all (λ truth. truth) truths) (all_of truth_in (drop l.value-index l.values))
    ≡ option_map (list_all (λ truth. truth)) (all_of truth_in l.values)
