use denote.Param.Send.{sendable}
use Rattle.std.proofs.Crossing.{crosses}
use Rattle.version_store.proofs.Crosses.{deployer_send}
use Rattle.counter_tests.proofs.versions.picks_of_two_threads_never_go_back.Goals as goal

pub join-all_deployed-requires-send-F : goal.join-all_deployed-requires-send-F
join-all_deployed-requires-send-F g c κs within = search (deployer_send, crosses, sendable) depth 60 fits 100000
