-- the pieces found, and then those of the rest, are those of the text
use Rattle.std.proofs.Common.{◌≡◌, ◌++◌, length, map}
use Rattle.edge_fields.specs.declared.value.Value.TheVariants as value
use Rattle.func_lib.specs.Arrays.{pieces_between}
use Rattle.func_lib.proofs.array.pieces_between.Given as goal

abbrev pub invariant-loop-piece : goal.invariant-loop-piece
invariant-loop-piece l =
    l.pieces ++ map value.Text (pieces_between l.separator l.rest) ≡ map value.Text (pieces_between l.separator l.text)

abbrev pub decreases-loop-piece : goal.decreases-loop-piece
decreases-loop-piece l = length l.rest
