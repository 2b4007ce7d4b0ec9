use denote.Param.Send.{sendable}
use Rattle.version_store.proofs.Crosses.{deployer_send, reader_send}
use Rattle.version_store.proofs.shared.versions_may_cross_threads.Goals as goal

pub may_be_sent-requires-send-T : goal.may_be_sent-requires-send-T
may_be_sent-requires-send-T c κs = search (deployer_send, sendable) depth 60

pub may_be_sent-requires-2-send-T : goal.may_be_sent-requires-2-send-T
may_be_sent-requires-2-send-T c κs = search (reader_send, sendable) depth 60
