-- A `&` to it holds what a `&` to its field holds.
use denote.Struct.Owning.{shape, to}
use denote.Param.Send.{IsSync, struct_sync, view_sync}
use Rattle.text_match.proofs.Crosses.{boxed_sync}
use Rattle.text_match.specs.contracts.expression.Built.{the_row}
use Rattle.text_match.specs.contracts.expression.Built.TheInside as inside

inside_sync : IsSync inside.the_row
inside_sync = record { shared = λ d b o κ. ((struct_sync (shape inside.the_type) (boxed_sync, tt)).shared (to inside.the_type d) b o κ, tt) }

pub sync : IsSync the_row
sync = view_sync _ _ _ _ _ inside_sync
