-- It owns what its field owns, and leaves nothing.
use denote.Struct.Owning.{fields}
use denote.Param.Send.{IsSend, AllSend, owning_send, view_send}
use Rattle.text_match.proofs.Crosses.{boxed_send}
use Rattle.text_match.specs.contracts.expression.Built.{the_row}
use Rattle.text_match.specs.contracts.expression.Built.TheInside as inside

pub send : IsSend the_row
send =
    let all : AllSend (fields inside.the_type) = (boxed_send, tt) in
    view_send _ _ _ _ _ (owning_send inside.the_type all (λ d. tt) (λ k x w. (tt, tt)))
