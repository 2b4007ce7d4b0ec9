use denote.Param.Send.{sendable}
use Rattle.std.proofs.Crossing.{crosses}
use Rattle.version_store.proofs.Crosses.{reader_send}
use Rattle.edge_bench.proofs.picks.picks_beside.Goals as goal

pub map_vec-requires-send-J : goal.map_vec-requires-send-J
map_vec-requires-send-J g c κs within = search (reader_send, crosses, sendable) depth 60 fits 100000
