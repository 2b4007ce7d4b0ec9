-- what is written, with whatever the other values are written as, is what all are
use Rattle.std.proofs.Common.{◌≡◌, ◌++◌, drop}
use Rattle.std.specs.List.{concat}
use Rattle.std.specs.Option.{option_map}
use Rattle.func_lib.specs.Arguments.{all_of}
use Rattle.func_lib.specs.Texts.{written_of}
use Rattle.func_lib.proofs.text.joined.Given as goal

abbrev pub invariant-loop-value : goal.invariant-loop-value
invariant-loop-value l =
    option_map (λ texts. l.text ++ concat texts) (all_of written_of (drop l.value-index l.values))
    ≡ option_map concat (all_of written_of l.values)
