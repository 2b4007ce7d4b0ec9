-- What each form of expression gives, by what its parts give.
use Rattle.std.proofs.Common.{◌≡◌, ℕ, ℤ, ◌%◌, ◌==◌, not, List, map, Some, option_and_then, ap, ◌∙◌, sym, count_by}
use Rattle.std.specs.List.{list_all, list_any}
use Rattle.edge_base.specs.declared.expression.Lit.{Lit}
use Rattle.edge_base.specs.declared.expression.Test.{Test}
use Rattle.edge_base.specs.declared.expression.Expr.{Expr}
use Rattle.edge_base.specs.declared.expression.Expr.TheVariants as expr
use Rattle.edge_base.specs.declared.expression.Expr.TheOpen as open_expr
use Rattle.edge_base.specs.declared.expression.Expr.TheFolds as folds
use Rattle.edge_fields.specs.Fields.{field_of}
use Rattle.type_check.specs.NamesFound.{field_of_name, function_of_name}
use Rattle.edge_fields.specs.Values.{items_in, value_of_lit}
use Rattle.type_check.specs.Meaning.{Setting, Sense, single, spread, alone, element_at, array_at, is_true, truth, tested, called, sense_step, sense_of}

module _ (s : Setting) where
  pub sense-lit : (l : Lit) → sense_of s (expr.Lit l) ≡ single (Some (value_of_lit l))
  sense-lit l = ap (sense_of s) (sym (expr.rolls-Lit l)) ∙ folds.fold-roll-Expr Sense (sense_step s) (open_expr.Lit l)

  pub sense-field : (name : List ℕ) → sense_of s (expr.Field name) ≡ single (option_and_then (field_of s.request s.reply) (field_of_name name))
  sense-field name = ap (sense_of s) (sym (expr.rolls-Field name)) ∙ folds.fold-roll-Expr Sense (sense_step s) (open_expr.Field name)

  pub sense-call : (name : List ℕ) (args : List Expr)
      → sense_of s (expr.Call name args) ≡ single (option_and_then (λ id. called s id (map (sense_of s) args)) (function_of_name name))
  sense-call name args = ap (sense_of s) (sym (expr.rolls-Call name args)) ∙ folds.fold-roll-Expr Sense (sense_step s) (open_expr.Call name args)

  pub sense-at : (of : Expr) (place : ℤ) → sense_of s (expr.At of place) ≡ single (option_and_then (element_at place) (alone (sense_of s of)))
  sense-at of place = ap (sense_of s) (sym (expr.rolls-At of place)) ∙ folds.fold-roll-Expr Sense (sense_step s) (open_expr.At of place)

  pub sense-key : (of : Expr) (key : List ℕ) → sense_of s (expr.Key of key) ≡ single (option_and_then (array_at key) (alone (sense_of s of)))
  sense-key of key = ap (sense_of s) (sym (expr.rolls-Key of key)) ∙ folds.fold-roll-Expr Sense (sense_step s) (open_expr.Key of key)

  pub sense-each : (of : Expr) → sense_of s (expr.Each of) ≡ spread (option_and_then items_in (alone (sense_of s of)))
  sense-each of = ap (sense_of s) (sym (expr.rolls-Each of)) ∙ folds.fold-roll-Expr Sense (sense_step s) (open_expr.Each of)

  pub sense-test : (of : Expr) (t : Test) → sense_of s (expr.Test of t) ≡ tested s t (sense_of s of)
  sense-test of t = ap (sense_of s) (sym (expr.rolls-Test of t)) ∙ folds.fold-roll-Expr Sense (sense_step s) (open_expr.Test of t)

  pub sense-not : (of : Expr) → sense_of s (expr.Not of) ≡ truth (not (is_true (sense_of s of)))
  sense-not of = ap (sense_of s) (sym (expr.rolls-Not of)) ∙ folds.fold-roll-Expr Sense (sense_step s) (open_expr.Not of)

  pub sense-and : (members : List Expr) → sense_of s (expr.And members) ≡ truth (list_all is_true (map (sense_of s) members))
  sense-and members = ap (sense_of s) (sym (expr.rolls-And members)) ∙ folds.fold-roll-Expr Sense (sense_step s) (open_expr.And members)

  pub sense-xor : (members : List Expr) → sense_of s (expr.Xor members) ≡ truth (count_by is_true (map (sense_of s) members) % 2 == 1)
  sense-xor members = ap (sense_of s) (sym (expr.rolls-Xor members)) ∙ folds.fold-roll-Expr Sense (sense_step s) (open_expr.Xor members)

  pub sense-or : (members : List Expr) → sense_of s (expr.Or members) ≡ truth (list_any is_true (map (sense_of s) members))
  sense-or members = ap (sense_of s) (sym (expr.rolls-Or members)) ∙ folds.fold-roll-Expr Sense (sense_step s) (open_expr.Or members)
