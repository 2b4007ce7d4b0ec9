-- Whether an expression speaks of a reply, by whether its parts do.
use Rattle.std.proofs.Common.{◌≡◌, ℕ, Bool, ◌||◌, List, [], ◌∷◌, map, refl, sym, ap, ◌∙◌}
use Rattle.std.specs.List.{list_any}
use Rattle.edge_base.specs.declared.expression.Expr.{Expr}
use Rattle.edge_base.specs.declared.expression.Expr.TheVariants as expr
use Rattle.edge_base.specs.declared.expression.Expr.TheOpen as open_expr
use Rattle.edge_base.specs.declared.expression.Expr.TheFolds as folds
use Rattle.ruleset_model.specs.Built.{reply_step, speaks_of_reply}

any_of_parts : (es : List Expr) → list_any (λ part. part) (map speaks_of_reply es) ≡ list_any speaks_of_reply es
any_of_parts [] = refl
any_of_parts (e ∷ es) = ap (λ rest. speaks_of_reply e || rest) (any_of_parts es)

pub spoken-call : (name : List ℕ) (args : List Expr) → list_any speaks_of_reply args ≡ speaks_of_reply (expr.Call name args)
spoken-call name args = sym (any_of_parts args) ∙ sym (ap speaks_of_reply (sym (expr.rolls-Call name args)) ∙ folds.fold-roll-Expr Bool reply_step (open_expr.Call name args))

pub spoken-and : (members : List Expr) → list_any speaks_of_reply members ≡ speaks_of_reply (expr.And members)
spoken-and members = sym (any_of_parts members) ∙ sym (ap speaks_of_reply (sym (expr.rolls-And members)) ∙ folds.fold-roll-Expr Bool reply_step (open_expr.And members))

pub spoken-xor : (members : List Expr) → list_any speaks_of_reply members ≡ speaks_of_reply (expr.Xor members)
spoken-xor members = sym (any_of_parts members) ∙ sym (ap speaks_of_reply (sym (expr.rolls-Xor members)) ∙ folds.fold-roll-Expr Bool reply_step (open_expr.Xor members))

pub spoken-or : (members : List Expr) → list_any speaks_of_reply members ≡ speaks_of_reply (expr.Or members)
spoken-or members = sym (any_of_parts members) ∙ sym (ap speaks_of_reply (sym (expr.rolls-Or members)) ∙ folds.fold-roll-Expr Bool reply_step (open_expr.Or members))
