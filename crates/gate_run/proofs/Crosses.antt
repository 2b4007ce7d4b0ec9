-- A pass, and the version that it picked, may go to another thread.
use denote.Param.Send.{IsSend, sendable}
use Rattle.std.proofs.Crossing.{crosses}
use Rattle.rate_shared.proofs.seen.Seen.TheSendSync as seen
use Rattle.ruleset_model.proofs.Crosses.{config_send, config_sync}
use Rattle.ruleset_model.specs.contracts.picked.Picked as picked
use Rattle.version_store.proofs.Crosses.{reader_send}
use Rattle.gate_run.specs.contracts.passes.Pass as pass

pub picked_send : IsSend (picked.the_field).row
picked_send = search (config_send, config_sync, crosses, sendable) depth 60 fits 100000

pub pass_send : IsSend (pass.the_field).row
pass_send = search (seen.the_field_send, reader_send, crosses, sendable) depth 60 fits 100000
