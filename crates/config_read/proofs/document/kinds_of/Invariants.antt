use Rattle.std.proofs.Common.{◌≡◌, take}
use Rattle.list_store.specs.Listed.{list_kinds_of}
use Rattle.config_read.proofs.document.kinds_of.Given as goal

-- the lists before the next one are told
abbrev pub invariant-loop-list : goal.invariant-loop-list
invariant-loop-list l = l.kinds ≡ list_kinds_of (take l.list-index l.lists)
