use Rattle.std.proofs.Common.{[], refl, subst, sym}
use Rattle.std.specs.List.{IsDistinct}
use Rattle.edge_fields.specs.Schemes.{AreLists}
use Rattle.edge_tests.proofs.checking.no_lists.Goals as goal

none : AreLists []
unfolding IsDistinct
none = record { distinct = tt; kinds = refl }

pub returns : goal.returns
returns c = subst AreLists (sym c.new.ensures) none
