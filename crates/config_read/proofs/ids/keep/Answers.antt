use Rattle.std.proofs.lemmas.Map.Text.{btree_map_updates_str}
use Rattle.config_read.proofs.ids.keep.Goals as goal

pub returns : goal.returns
returns c = btree_map_updates_str c.args.id.now c.args.ids.now c.insert.new.self _ c.in_ok-insert.ensures.updates
