-- The lists that were passed over have other names.
use Rattle.std.proofs.Common.{◌≡◌, drop}
use Rattle.type_check.specs.TestKinds.{list_kind}
use Rattle.type_check.proofs.testing.list_kind.Given as goal

abbrev pub invariant-loop-other : goal.invariant-loop-other
invariant-loop-other l = list_kind (drop l.other-index l.lists) l.name ≡ list_kind l.lists l.name
