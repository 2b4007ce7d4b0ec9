use Rattle.std.proofs.Common.{take}
use Rattle.list_store.specs.Members.{AreKeysOf}
use Rattle.list_store.proofs.members.texts_of.Given as goal

-- the set has the texts before the next one
abbrev pub invariant-loop-item : goal.invariant-loop-item
invariant-loop-item l = AreKeysOf l.set.keys (take l.item-index l.items)
