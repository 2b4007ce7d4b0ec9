use denote.Param.Send.{sendable}
use Rattle.gate_run.proofs.Crosses.{pass_send, picked_send}
use Rattle.gate_run.proofs.sharing.passes_are_sent.Goals as goal

pub is_sent-requires-send-T : goal.is_sent-requires-send-T
is_sent-requires-send-T c κs = search (pass_send, sendable) depth 60

pub is_sent-requires-2-send-T : goal.is_sent-requires-2-send-T
is_sent-requires-2-send-T c κs = search (picked_send, sendable) depth 60
