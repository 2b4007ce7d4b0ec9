-- What contracts see of a filter.
use Rattle.std.specs.Prelude.{ℕ, List}
use Rattle.edge_base.specs.declared.expression.Expr.{Expr}
use Rattle.edge_fields.specs.declared.kind.Basic.{Basic}
use Rattle.edge_fields.specs.declared.kind.Kind.{Kind}

-- the expression that it is built from, the kind of its values, and the names and kinds of the lists under which it
-- was checked
pub record FilterParts : Type 0 where
  pub tree : Expr
  pub kind : Kind
  pub lists : List (List ℕ × Basic)
