-- what is written, with what will be of the rest, is what all give
use Rattle.std.proofs.Common.{◌≡◌, ◌++◌, drop}
use Rattle.std.specs.Option.{option_map}
use Rattle.edge_fields.specs.Values.{text_in}
use Rattle.func_lib.specs.Arguments.{all_of}
use Rattle.func_lib.specs.Arrays.{after_separators}
use Rattle.func_lib.proofs.array.push_after.Given as goal

abbrev pub invariant-loop-value : goal.invariant-loop-value
invariant-loop-value l =
    option_map (λ parts. l.text ++ after_separators l.separator parts) (all_of text_in (drop l.value-index l.values))
    ≡ option_map (λ parts. l.fn.text ++ after_separators l.separator parts) (all_of text_in l.values)
