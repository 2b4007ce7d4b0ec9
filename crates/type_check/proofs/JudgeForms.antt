-- How each form of expression is judged, by how its parts are.
use Rattle.std.proofs.Common.{◌≡◌, ℕ, ℤ, Bool, List, [], ◌∷◌, map, refl, ap, ◌∙◌, sym, Option}
use Rattle.edge_base.specs.declared.expression.Lit.{Lit}
use Rattle.edge_base.specs.declared.expression.Test.{Test}
use Rattle.edge_base.specs.declared.expression.Expr.{Expr}
use Rattle.edge_base.specs.declared.expression.Expr.TheVariants as expr
use Rattle.edge_base.specs.declared.expression.Expr.TheOpen as open_expr
use Rattle.edge_base.specs.declared.expression.Expr.TheViews.{roll-Expr}
use Rattle.edge_base.specs.declared.expression.Expr.TheFolds as folds
use Rattle.edge_fields.specs.declared.kind.Basic.{Basic}
use Rattle.type_check.specs.Checking.{Judge, judge_step, judge_of, literal_step, literal_of, literals_of}

module _ (lists : List (List ℕ × Basic)) (replies : Bool) where
  pub judge-lit : (l : Lit) → judge_of lists replies (expr.Lit l) ≡ judge_step lists replies (open_expr.Lit l)
  judge-lit l = ap (judge_of lists replies) (sym (expr.rolls-Lit l)) ∙ folds.fold-roll-Expr Judge (judge_step lists replies) (open_expr.Lit l)

  pub judge-field : (name : List ℕ) → judge_of lists replies (expr.Field name) ≡ judge_step lists replies (open_expr.Field name)
  judge-field name = ap (judge_of lists replies) (sym (expr.rolls-Field name)) ∙ folds.fold-roll-Expr Judge (judge_step lists replies) (open_expr.Field name)

  pub judge-call : (name : List ℕ) (args : List Expr) → judge_of lists replies (expr.Call name args) ≡ judge_step lists replies (open_expr.Call name (map (judge_of lists replies) args))
  judge-call name args = ap (judge_of lists replies) (sym (expr.rolls-Call name args)) ∙ folds.fold-roll-Expr Judge (judge_step lists replies) (open_expr.Call name args)

  pub judge-at : (of : Expr) (place : ℤ) → judge_of lists replies (expr.At of place) ≡ judge_step lists replies (open_expr.At (judge_of lists replies of) place)
  judge-at of place = ap (judge_of lists replies) (sym (expr.rolls-At of place)) ∙ folds.fold-roll-Expr Judge (judge_step lists replies) (open_expr.At of place)

  pub judge-key : (of : Expr) (key : List ℕ) → judge_of lists replies (expr.Key of key) ≡ judge_step lists replies (open_expr.Key (judge_of lists replies of) key)
  judge-key of key = ap (judge_of lists replies) (sym (expr.rolls-Key of key)) ∙ folds.fold-roll-Expr Judge (judge_step lists replies) (open_expr.Key of key)

  pub judge-each : (of : Expr) → judge_of lists replies (expr.Each of) ≡ judge_step lists replies (open_expr.Each (judge_of lists replies of))
  judge-each of = ap (judge_of lists replies) (sym (expr.rolls-Each of)) ∙ folds.fold-roll-Expr Judge (judge_step lists replies) (open_expr.Each of)

  pub judge-test : (of : Expr) (t : Test) → judge_of lists replies (expr.Test of t) ≡ judge_step lists replies (open_expr.Test (judge_of lists replies of) t)
  judge-test of t = ap (judge_of lists replies) (sym (expr.rolls-Test of t)) ∙ folds.fold-roll-Expr Judge (judge_step lists replies) (open_expr.Test of t)

  pub judge-not : (of : Expr) → judge_of lists replies (expr.Not of) ≡ judge_step lists replies (open_expr.Not (judge_of lists replies of))
  judge-not of = ap (judge_of lists replies) (sym (expr.rolls-Not of)) ∙ folds.fold-roll-Expr Judge (judge_step lists replies) (open_expr.Not of)

  pub judge-and : (members : List Expr) → judge_of lists replies (expr.And members) ≡ judge_step lists replies (open_expr.And (map (judge_of lists replies) members))
  judge-and members = ap (judge_of lists replies) (sym (expr.rolls-And members)) ∙ folds.fold-roll-Expr Judge (judge_step lists replies) (open_expr.And members)

  pub judge-xor : (members : List Expr) → judge_of lists replies (expr.Xor members) ≡ judge_step lists replies (open_expr.Xor (map (judge_of lists replies) members))
  judge-xor members = ap (judge_of lists replies) (sym (expr.rolls-Xor members)) ∙ folds.fold-roll-Expr Judge (judge_step lists replies) (open_expr.Xor members)

  pub judge-or : (members : List Expr) → judge_of lists replies (expr.Or members) ≡ judge_step lists replies (open_expr.Or (map (judge_of lists replies) members))
  judge-or members = ap (judge_of lists replies) (sym (expr.rolls-Or members)) ∙ folds.fold-roll-Expr Judge (judge_step lists replies) (open_expr.Or members)

  abbrev IsLiteral : open_expr.Expr-F Expr → Type 0
  IsLiteral x = (judge_of lists replies (roll-Expr x)).literal ≡ literal_of (roll-Expr x)

  literal_by : (x : open_expr.Expr-F Expr) → (j : Judge) → judge_of lists replies (roll-Expr x) ≡ j → (o : Option Lit) → literal_of (roll-Expr x) ≡ o → j.literal ≡ o → IsLiteral x
  literal_by x j is o lit same = ap (λ (k : Judge). k.literal) is ∙ same ∙ sym lit

  literal-roll : (x : open_expr.Expr-F Expr) → IsLiteral x
  literal-roll (open_expr.Lit l) = literal_by (open_expr.Lit l) _ (folds.fold-roll-Expr Judge (judge_step lists replies) (open_expr.Lit l)) _ (folds.fold-roll-Expr (Option Lit) literal_step (open_expr.Lit l)) refl
  literal-roll (open_expr.Field name) = literal_by (open_expr.Field name) _ (folds.fold-roll-Expr Judge (judge_step lists replies) (open_expr.Field name)) _ (folds.fold-roll-Expr (Option Lit) literal_step (open_expr.Field name)) refl
  literal-roll (open_expr.Call name args) = literal_by (open_expr.Call name args) _ (folds.fold-roll-Expr Judge (judge_step lists replies) (open_expr.Call name args)) _ (folds.fold-roll-Expr (Option Lit) literal_step (open_expr.Call name args)) refl
  literal-roll (open_expr.At of place) = literal_by (open_expr.At of place) _ (folds.fold-roll-Expr Judge (judge_step lists replies) (open_expr.At of place)) _ (folds.fold-roll-Expr (Option Lit) literal_step (open_expr.At of place)) refl
  literal-roll (open_expr.Key of key) = literal_by (open_expr.Key of key) _ (folds.fold-roll-Expr Judge (judge_step lists replies) (open_expr.Key of key)) _ (folds.fold-roll-Expr (Option Lit) literal_step (open_expr.Key of key)) refl
  literal-roll (open_expr.Each of) = literal_by (open_expr.Each of) _ (folds.fold-roll-Expr Judge (judge_step lists replies) (open_expr.Each of)) _ (folds.fold-roll-Expr (Option Lit) literal_step (open_expr.Each of)) refl
  literal-roll (open_expr.Test of t) = literal_by (open_expr.Test of t) _ (folds.fold-roll-Expr Judge (judge_step lists replies) (open_expr.Test of t)) _ (folds.fold-roll-Expr (Option Lit) literal_step (open_expr.Test of t)) refl
  literal-roll (open_expr.Not of) = literal_by (open_expr.Not of) _ (folds.fold-roll-Expr Judge (judge_step lists replies) (open_expr.Not of)) _ (folds.fold-roll-Expr (Option Lit) literal_step (open_expr.Not of)) refl
  literal-roll (open_expr.And members) = literal_by (open_expr.And members) _ (folds.fold-roll-Expr Judge (judge_step lists replies) (open_expr.And members)) _ (folds.fold-roll-Expr (Option Lit) literal_step (open_expr.And members)) refl
  literal-roll (open_expr.Xor members) = literal_by (open_expr.Xor members) _ (folds.fold-roll-Expr Judge (judge_step lists replies) (open_expr.Xor members)) _ (folds.fold-roll-Expr (Option Lit) literal_step (open_expr.Xor members)) refl
  literal-roll (open_expr.Or members) = literal_by (open_expr.Or members) _ (folds.fold-roll-Expr Judge (judge_step lists replies) (open_expr.Or members)) _ (folds.fold-roll-Expr (Option Lit) literal_step (open_expr.Or members)) refl

  pub literal-judge : (e : Expr) → (judge_of lists replies e).literal ≡ literal_of e
  literal-judge = folds.ind-Expr (λ e. (judge_of lists replies e).literal ≡ literal_of e) (λ x y is. literal-roll x)

  pub literals-judge : (es : List Expr) → literals_of (map (judge_of lists replies) es) ≡ map literal_of es
  literals-judge [] = refl
  literals-judge (e ∷ es) = λ i. literal-judge e i ∷ literals-judge es i
