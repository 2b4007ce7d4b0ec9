-- A chain of several members is its node.
use Rattle.std.proofs.Common.{◌≡◌, List, [], ◌∷◌, ◌++◌, refl}
use Rattle.edge_base.specs.declared.expression.Expr.{Expr}
use Rattle.edge_base.specs.Grammar.{together}

pub together_several : (node : List Expr → Expr) (es : List Expr) (e : Expr) → ¬ (es ≡ []) → together node (es ++ e ∷ []) ≡ node (es ++ e ∷ [])
together_several node [] e h = absurd (h refl)
together_several node (f ∷ []) e h = refl
together_several node (f ∷ g ∷ es) e h = refl
