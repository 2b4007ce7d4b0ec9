-- Which filter an expression's text stands for at a place of a configuration.
use Rattle.std.specs.Prelude.{◌≡◌, ℕ, ◌≤◌, Bool, false, List, length, filter, None, Some, bytes_eq}
use Rattle.std.specs.Str.{IsUtf8}
use Rattle.std.specs.List.{list_any}
use Rattle.edge_base.specs.declared.expression.Expr.{Expr}
use Rattle.edge_base.specs.declared.expression.Expr.TheOpen as open_expr
use Rattle.edge_base.specs.declared.expression.Expr.TheFolds.{fold-Expr}
use Rattle.edge_base.specs.declared.terminal.Terminal.{Terminal}
use Rattle.edge_base.specs.declared.token.Token.{Token}
use Rattle.edge_base.specs.Token.{words_of}
use Rattle.edge_base.specs.Cut.{IsCut}
use Rattle.edge_base.specs.Terminal.{AreTerminals}
use Rattle.edge_base.specs.Grammar.{Derives}
use Rattle.edge_base.specs.Nesting.{nesting}
use Rattle.edge_fields.specs.Names.{field_name, is_response}
use Rattle.list_store.specs.declared.part.ListPart.{ListPart}
use Rattle.list_store.specs.Listed.{list_kinds_of}
use Rattle.type_check.specs.declared.fault.Place.{Place}
use Rattle.type_check.specs.Checking.{IsAnswer}
use Rattle.type_check.specs.NamesFound.{fields}
use Rattle.type_check.specs.Places.{findings_of, kind_at, tree_at}
use Rattle.ruleset_model.specs.FilterParts.{FilterParts}

-- the text is read to this expression: it has at most 4,096 bytes, and its terminals, nested at most 32 deep, derive it
pub record IsReadTo (text : List ℕ) (e : Expr) : Type 0 where
  pub few : length text ≤ 4096
  pub tokens : List Token
  pub terminals : List Terminal
  pub is_cut : IsCut text tokens
  pub are_terminals : AreTerminals (words_of text tokens) terminals
  pub derives : Derives terminals e
  pub shallow : nesting terminals ≤ 32

-- the filter is the text's at the place: the text is read to an expression in which, under these lists, no fault is
-- found there and whose patterns are patterns; the filter is built of the tree that is evaluated for it
pub record IsBuilt (lists : List ListPart) (at : Place) (text : List ℕ) (built : FilterParts) : Type 0 where
  pub is_text : IsUtf8 text
  pub expression : Expr
  pub is_read : IsReadTo text expression
  pub is_sound : IsAnswer (findings_of (list_kinds_of lists) at expression) None
  pub kind : kind_at (list_kinds_of lists) at expression ≡ Some built.kind
  pub tree : built.tree ≡ tree_at at expression
  pub same_lists : built.lists ≡ list_kinds_of lists

-- whether a field of a reply has the name
abbrev pub is_reply_name : List ℕ → Bool
is_reply_name name = list_any (λ id. bytes_eq name (field_name id)) (filter is_response fields)

-- whether a node or a part of it is a field of a reply
abbrev pub reply_step : open_expr.Expr-F Bool → Bool
reply_step (open_expr.Lit l) = false
reply_step (open_expr.Field name) = is_reply_name name
reply_step (open_expr.Call name args) = list_any (λ arg. arg) args
reply_step (open_expr.At of place) = of
reply_step (open_expr.Key of key) = of
reply_step (open_expr.Each of) = of
reply_step (open_expr.Test of t) = of
reply_step (open_expr.Not of) = of
reply_step (open_expr.And members) = list_any (λ member. member) members
reply_step (open_expr.Xor members) = list_any (λ member. member) members
reply_step (open_expr.Or members) = list_any (λ member. member) members

-- whether an expression speaks of a reply
abbrev pub speaks_of_reply : Expr → Bool
speaks_of_reply = fold-Expr Bool reply_step
