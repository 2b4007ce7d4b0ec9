-- what was found, with what is found in the rest, is what is found in all
use Rattle.std.proofs.Common.{◌≡◌, ◌||◌, drop}
use Rattle.std.specs.List.{list_any}
use Rattle.std.specs.Option.{option_map}
use Rattle.std.specs.Ordering.{int_eq}
use Rattle.edge_fields.specs.Values.{number_in}
use Rattle.func_lib.specs.Arguments.{all_of}
use Rattle.func_lib.proofs.array.has_number.Given as goal

abbrev pub invariant-loop-item : goal.invariant-loop-item
invariant-loop-item l =
    option_map (λ numbers. l.found || list_any (int_eq l.number) numbers) (all_of number_in (drop l.item-index l.items))
    ≡ option_map (list_any (int_eq l.number)) (all_of number_in l.items)
