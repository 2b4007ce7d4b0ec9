use denote.Param.Send.{sendable}
use Rattle.ruleset_model.proofs.Crosses.{config_send, config_sync}
use Rattle.ruleset_model.proofs.shared.config_may_be_shared.Goals as goal

pub is_shared-requires-send-T : goal.is_shared-requires-send-T
is_shared-requires-send-T c κs = search (config_send, sendable) depth 60

pub is_shared-requires-sync-T : goal.is_shared-requires-sync-T
is_shared-requires-sync-T c κs = search (config_sync, sendable) depth 60
