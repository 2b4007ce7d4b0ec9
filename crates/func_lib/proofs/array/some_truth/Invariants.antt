-- what was found, with what is found in the rest, is what is found in all
use Rattle.std.proofs.Common.{◌≡◌, ◌||◌, drop}
use Rattle.std.specs.List.{list_any}
use Rattle.std.specs.Option.{option_map}
use Rattle.edge_fields.specs.Values.{truth_in}
use Rattle.func_lib.specs.Arguments.{all_of}
use Rattle.func_lib.proofs.array.some_truth.Given as goal

abbrev pub invariant-loop-value : goal.invariant-loop-value
invariant-loop-value l =
    option_map (λ truths. l.found || list_any (λ truth. truth) truths) (all_of truth_in (drop l.value-index l.values))
    ≡ option_map (list_any (λ truth. truth)) (all_of truth_in l.values)
