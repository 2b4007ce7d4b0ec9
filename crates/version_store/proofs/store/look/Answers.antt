use Rattle.version_store.proofs.Ruled.{looks}
use Rattle.version_store.proofs.store.look.Goals as goal

pub enter_as-requires : goal.enter_as-requires
enter_as-requires c x = looks _ _ x
