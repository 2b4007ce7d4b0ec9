use Rattle.std.proofs.Common.{[], refl, subst, sym}
use Rattle.std.specs.List.{IsDistinct}
use Rattle.edge_fields.specs.Schemes.{AreLists}
use Rattle.ruleset_model.proofs.tests.no_lists.Goals as goal

none : AreLists []
unfolding IsDistinct
none = record { distinct = tt; kinds = refl }

pub returns-clause-distinct : goal.returns-clause-distinct
returns-clause-distinct c = subst AreLists (sym c.new.ensures) none
