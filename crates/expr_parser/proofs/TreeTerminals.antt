-- The terminals of a tree as it is printed: the fold, and what it gives by the tree's node.
use Rattle.std.proofs.Common.{◌≡◌, ℕ, Bool, true, false, cond, nat_lt, ℤ, List, [], ◌∷◌, ◌++◌, map, ap, ◌∙◌, sym}
use Rattle.edge_base.specs.declared.expression.Item.{Item}
use Rattle.edge_base.specs.declared.expression.Item.TheVariants as item
use Rattle.edge_base.specs.declared.expression.Lit.{Lit}
use Rattle.edge_base.specs.declared.expression.Lit.TheVariants as lit
use Rattle.edge_base.specs.declared.expression.Test.{Test}
use Rattle.edge_base.specs.declared.expression.Test.TheVariants as test
use Rattle.edge_base.specs.declared.expression.Expr.{Expr}
use Rattle.edge_base.specs.declared.expression.Expr.TheVariants as expr
use Rattle.edge_base.specs.declared.expression.Expr.TheOpen as open_expr
use Rattle.edge_base.specs.declared.expression.Expr.TheFolds as folds
use Rattle.edge_base.specs.declared.terminal.Terminal.{Terminal}
use Rattle.edge_base.specs.declared.terminal.Terminal.TheVariants as terminal

abbrev pub lit_terminal : Lit → Terminal
lit_terminal (lit.Text text) = terminal.Text text
lit_terminal (lit.Num n) = terminal.Number n
lit_terminal (lit.Addr a) = terminal.Address a
lit_terminal (lit.Bool true) = terminal.True
lit_terminal (lit.Bool false) = terminal.False

abbrev pub item_terminals : Item → List Terminal
item_terminals (item.One l) = lit_terminal l ∷ []
item_terminals (item.Nums first last) = terminal.Number first ∷ terminal.To ∷ terminal.Number last ∷ []
item_terminals (item.Addrs first last) = terminal.Address first ∷ terminal.To ∷ terminal.Address last ∷ []
item_terminals (item.Block a bits) = terminal.Block a bits ∷ []

abbrev pub items_terminals : List Item → List Terminal
items_terminals [] = []
items_terminals (i ∷ items) = item_terminals i ++ items_terminals items

abbrev pub test_terminals : Test → List Terminal
test_terminals (test.Order o l) = terminal.Order o ∷ lit_terminal l ∷ []
test_terminals (test.Contains text) = terminal.Contains ∷ terminal.Text text ∷ []
test_terminals (test.Matches text) = terminal.Matches ∷ terminal.Text text ∷ []
test_terminals (test.Wild text) = terminal.Wildcard ∷ terminal.Text text ∷ []
test_terminals (test.StrictWild text) = terminal.Strict ∷ terminal.Wildcard ∷ terminal.Text text ∷ []
test_terminals (test.Among items) = terminal.In ∷ terminal.OpenItems ∷ items_terminals items ++ terminal.CloseItems ∷ []
test_terminals (test.Listed name) = terminal.In ∷ terminal.ListName name ∷ []

-- by how tight the place binds, as in the spelling
abbrev TerminalsAt : Type 0
TerminalsAt = ℕ → List Terminal

abbrev pub joined_terminals : Terminal → ℕ → List TerminalsAt → List Terminal
joined_terminals joint tightness [] = []
joined_terminals joint tightness (s ∷ []) = s tightness
joined_terminals joint tightness (s ∷ t ∷ rest) = s tightness ++ joint ∷ joined_terminals joint tightness (t ∷ rest)

abbrev pub grouped : Bool → List Terminal → List Terminal
grouped needed ts = cond needed (terminal.Open ∷ ts ++ terminal.Close ∷ []) ts

abbrev terminals_step : open_expr.Expr-F TerminalsAt → TerminalsAt
terminals_step (open_expr.Lit l) n = lit_terminal l ∷ []
terminals_step (open_expr.Field name) n = terminal.Name name ∷ []
terminals_step (open_expr.Call name args) n = terminal.Name name ∷ terminal.Open ∷ joined_terminals terminal.Comma 0 args ++ terminal.Close ∷ []
terminals_step (open_expr.At e at) n = e 3 ++ terminal.OpenIndex ∷ terminal.Number at ∷ terminal.CloseIndex ∷ []
terminals_step (open_expr.Key e key) n = e 3 ++ terminal.OpenIndex ∷ terminal.Text key ∷ terminal.CloseIndex ∷ []
terminals_step (open_expr.Each e) n = e 3 ++ terminal.OpenIndex ∷ terminal.Star ∷ terminal.CloseIndex ∷ []
terminals_step (open_expr.Test e t) n = e 3 ++ test_terminals t
terminals_step (open_expr.Not e) n = terminal.Not ∷ e 3
terminals_step (open_expr.And es) n = grouped (nat_lt 2 n) (joined_terminals terminal.And 3 es)
terminals_step (open_expr.Xor es) n = grouped (nat_lt 1 n) (joined_terminals terminal.Xor 2 es)
terminals_step (open_expr.Or es) n = grouped (nat_lt 0 n) (joined_terminals terminal.Or 1 es)

abbrev pub terminals_at : Expr → TerminalsAt
terminals_at = folds.fold-Expr TerminalsAt terminals_step

pub terminals_lit : (l : Lit) (n : ℕ) → terminals_at (expr.Lit l) n ≡ lit_terminal l ∷ []
terminals_lit l n = ap (λ (f : TerminalsAt). f n) (ap terminals_at (sym (expr.rolls-Lit l)) ∙ folds.fold-roll-Expr TerminalsAt terminals_step (open_expr.Lit l))

pub terminals_field : (name : List ℕ) (n : ℕ) → terminals_at (expr.Field name) n ≡ terminal.Name name ∷ []
terminals_field name n = ap (λ (f : TerminalsAt). f n) (ap terminals_at (sym (expr.rolls-Field name)) ∙ folds.fold-roll-Expr TerminalsAt terminals_step (open_expr.Field name))

pub terminals_call : (name : List ℕ) (args : List Expr) (n : ℕ)
    → terminals_at (expr.Call name args) n ≡ terminal.Name name ∷ terminal.Open ∷ joined_terminals terminal.Comma 0 (map terminals_at args) ++ terminal.Close ∷ []
terminals_call name args n =
    ap (λ (f : TerminalsAt). f n) (ap terminals_at (sym (expr.rolls-Call name args)) ∙ folds.fold-roll-Expr TerminalsAt terminals_step (open_expr.Call name args))

pub terminals_index : (e : Expr) (at : ℤ) (n : ℕ) → terminals_at (expr.At e at) n ≡ terminals_at e 3 ++ terminal.OpenIndex ∷ terminal.Number at ∷ terminal.CloseIndex ∷ []
terminals_index e at n = ap (λ (f : TerminalsAt). f n) (ap terminals_at (sym (expr.rolls-At e at)) ∙ folds.fold-roll-Expr TerminalsAt terminals_step (open_expr.At e at))

pub terminals_key : (e : Expr) (key : List ℕ) (n : ℕ) → terminals_at (expr.Key e key) n ≡ terminals_at e 3 ++ terminal.OpenIndex ∷ terminal.Text key ∷ terminal.CloseIndex ∷ []
terminals_key e key n = ap (λ (f : TerminalsAt). f n) (ap terminals_at (sym (expr.rolls-Key e key)) ∙ folds.fold-roll-Expr TerminalsAt terminals_step (open_expr.Key e key))

pub terminals_each : (e : Expr) (n : ℕ) → terminals_at (expr.Each e) n ≡ terminals_at e 3 ++ terminal.OpenIndex ∷ terminal.Star ∷ terminal.CloseIndex ∷ []
terminals_each e n = ap (λ (f : TerminalsAt). f n) (ap terminals_at (sym (expr.rolls-Each e)) ∙ folds.fold-roll-Expr TerminalsAt terminals_step (open_expr.Each e))

pub terminals_test : (e : Expr) (t : Test) (n : ℕ) → terminals_at (expr.Test e t) n ≡ terminals_at e 3 ++ test_terminals t
terminals_test e t n = ap (λ (f : TerminalsAt). f n) (ap terminals_at (sym (expr.rolls-Test e t)) ∙ folds.fold-roll-Expr TerminalsAt terminals_step (open_expr.Test e t))

pub terminals_not : (e : Expr) (n : ℕ) → terminals_at (expr.Not e) n ≡ terminal.Not ∷ terminals_at e 3
terminals_not e n = ap (λ (f : TerminalsAt). f n) (ap terminals_at (sym (expr.rolls-Not e)) ∙ folds.fold-roll-Expr TerminalsAt terminals_step (open_expr.Not e))

pub terminals_and : (es : List Expr) (n : ℕ) → terminals_at (expr.And es) n ≡ grouped (nat_lt 2 n) (joined_terminals terminal.And 3 (map terminals_at es))
terminals_and es n = ap (λ (f : TerminalsAt). f n) (ap terminals_at (sym (expr.rolls-And es)) ∙ folds.fold-roll-Expr TerminalsAt terminals_step (open_expr.And es))

pub terminals_xor : (es : List Expr) (n : ℕ) → terminals_at (expr.Xor es) n ≡ grouped (nat_lt 1 n) (joined_terminals terminal.Xor 2 (map terminals_at es))
terminals_xor es n = ap (λ (f : TerminalsAt). f n) (ap terminals_at (sym (expr.rolls-Xor es)) ∙ folds.fold-roll-Expr TerminalsAt terminals_step (open_expr.Xor es))

pub terminals_or : (es : List Expr) (n : ℕ) → terminals_at (expr.Or es) n ≡ grouped (nat_lt 0 n) (joined_terminals terminal.Or 1 (map terminals_at es))
terminals_or es n = ap (λ (f : TerminalsAt). f n) (ap terminals_at (sym (expr.rolls-Or es)) ∙ folds.fold-roll-Expr TerminalsAt terminals_step (open_expr.Or es))
