use denote.Param.Send.{sendable}
use Rattle.std.proofs.Crossing.{crosses}
use Rattle.version_store.proofs.Crosses.{reader_send}
use Rattle.counter_tests.proofs.versions.pick_in_two_threads.Goals as goal

pub join-requires-send-F : goal.join-requires-send-F
join-requires-send-F g c κs within = search (reader_send, c.type_bounds.sync-R, crosses, sendable) depth 60 fits 100000
