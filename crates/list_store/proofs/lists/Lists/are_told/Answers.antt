use Rattle.list_store.proofs.ListedLemmas.{can_be_told}
use Rattle.list_store.proofs.lists.Lists.are_told.Goals as goal

pub returns : goal.returns
returns c distinct = can_be_told c.self.inside.parts c.args.self.now c.self.inside.members.items c.self.view_is c.self.invariant distinct
