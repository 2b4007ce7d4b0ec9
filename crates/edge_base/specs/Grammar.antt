-- The grammar of expressions: which terminals derive which tree, a line of the grammar a case; and where terminals
-- that derive none go wrong.
use Rattle.std.specs.Prelude.{◌≡◌, ℕ, ◌+◌, ◌<◌, ◌≤◌, pos, ℤ, true, false, List, [], ◌∷◌, ◌++◌, length, take}
use Rattle.edge_base.specs.declared.address.Addr.{Addr}
use Rattle.edge_base.specs.declared.expression.Lit.{Lit}
use Rattle.edge_base.specs.declared.expression.Lit.TheVariants as lit
use Rattle.edge_base.specs.declared.expression.Order.{Order}
use Rattle.edge_base.specs.declared.expression.Item.{Item}
use Rattle.edge_base.specs.declared.expression.Item.TheVariants as item
use Rattle.edge_base.specs.declared.expression.Test.{Test}
use Rattle.edge_base.specs.declared.expression.Test.TheVariants as test
use Rattle.edge_base.specs.declared.expression.Expr.{Expr}
use Rattle.edge_base.specs.declared.expression.Expr.TheVariants as expr
use Rattle.edge_base.specs.declared.terminal.Terminal.{Terminal}
use Rattle.edge_base.specs.declared.terminal.Terminal.TheVariants as terminal

-- one member is itself, several are one node
abbrev pub together : (List Expr → Expr) → List Expr → Expr
together node [] = node []
together node (e ∷ []) = e
together node (e ∷ f ∷ es) = node (e ∷ f ∷ es)

-- literal: a text, a number or an address
pub data IsLiteral : Terminal → Lit → Type 0 where
  text_literal : {text : List ℕ} → IsLiteral (terminal.Text text) (lit.Text text)
  number_literal : {n : ℤ} → IsLiteral (terminal.Number n) (lit.Num n)
  address_literal : {a : Addr} → IsLiteral (terminal.Address a) (lit.Addr a)

-- item: a literal, a block, `number..number` or `address..address`
pub data IsListedItem : List Terminal → Item → Type 0 where
  literal_item : {t : Terminal} {l : Lit} → IsLiteral t l → IsListedItem (t ∷ []) (item.One l)
  block_item : {a : Addr} {bits : ℕ} → IsListedItem (terminal.Block a bits ∷ []) (item.Block a bits)
  numbers_item : {first last : ℤ} → IsListedItem (terminal.Number first ∷ terminal.To ∷ terminal.Number last ∷ []) (item.Nums first last)
  addresses_item : {first last : Addr} → IsListedItem (terminal.Address first ∷ terminal.To ∷ terminal.Address last ∷ []) (item.Addrs first last)

-- items: one or more, one after the other
pub data IsListedItems : List Terminal → List Item → Type 0 where
  one_item : {ts : List Terminal} {i : Item} → IsListedItem ts i → IsListedItems ts (i ∷ [])
  more_items : {ts rest : List Terminal} {i : Item} {is : List Item} → IsListedItem ts i → IsListedItems rest is → IsListedItems (ts ++ rest) (i ∷ is)

-- test: an order and a literal; a test of texts and a text; `in` and a list's name; `in {` items `}`
pub data IsTest : List Terminal → Test → Type 0 where
  in_order : {o : Order} {t : Terminal} {l : Lit} → IsLiteral t l → IsTest (terminal.Order o ∷ t ∷ []) (test.Order o l)
  contains : {text : List ℕ} → IsTest (terminal.Contains ∷ terminal.Text text ∷ []) (test.Contains text)
  matches : {text : List ℕ} → IsTest (terminal.Matches ∷ terminal.Text text ∷ []) (test.Matches text)
  wildcard : {text : List ℕ} → IsTest (terminal.Wildcard ∷ terminal.Text text ∷ []) (test.Wild text)
  strict_wildcard : {text : List ℕ} → IsTest (terminal.Strict ∷ terminal.Wildcard ∷ terminal.Text text ∷ []) (test.StrictWild text)
  in_list : {name : List ℕ} → IsTest (terminal.In ∷ terminal.ListName name ∷ []) (test.Listed name)
  in_items : {ts : List Terminal} {is : List Item} → IsListedItems ts is → IsTest (terminal.In ∷ terminal.OpenItems ∷ ts ++ terminal.CloseItems ∷ []) (test.Among is)

mutual
  -- expression: a literal, or a chain
  pub data IsExpression : List Terminal → Expr → Type 0 where
    literal : {t : Terminal} {l : Lit} → IsLiteral t l → IsExpression (t ∷ []) (expr.Lit l)
    chain : {ts : List Terminal} {es : List Expr} → IsChain ts es → IsExpression ts (together expr.Or es)

  -- chain: one or more xors joined by `or`
  pub data IsChain : List Terminal → List Expr → Type 0 where
    one_xor : {ts : List Terminal} {us : List Expr} → IsXor ts us → IsChain ts (together expr.Xor us ∷ [])
    more_xors : {ts rest : List Terminal} {us es : List Expr} → IsXor ts us → IsChain rest es → IsChain (ts ++ terminal.Or ∷ rest) (together expr.Xor us ∷ es)

  -- xor: one or more ands joined by `xor`
  pub data IsXor : List Terminal → List Expr → Type 0 where
    one_and : {ts : List Terminal} {us : List Expr} → IsAnd ts us → IsXor ts (together expr.And us ∷ [])
    more_ands : {ts rest : List Terminal} {us es : List Expr} → IsAnd ts us → IsXor rest es → IsXor (ts ++ terminal.Xor ∷ rest) (together expr.And us ∷ es)

  -- and: one or more units joined by `and`
  pub data IsAnd : List Terminal → List Expr → Type 0 where
    one_unit : {ts : List Terminal} {u : Expr} → IsUnit ts u → IsAnd ts (u ∷ [])
    more_units : {ts rest : List Terminal} {u : Expr} {us : List Expr} → IsUnit ts u → IsAnd rest us → IsAnd (ts ++ terminal.And ∷ rest) (u ∷ us)

  -- unit: `not` and a unit; `(` chain `)`; an operand and an optional test
  pub data IsUnit : List Terminal → Expr → Type 0 where
    negated : {ts : List Terminal} {u : Expr} → IsUnit ts u → IsUnit (terminal.Not ∷ ts) (expr.Not u)
    group : {ts : List Terminal} {es : List Expr} → IsChain ts es → IsUnit (terminal.Open ∷ ts ++ terminal.Close ∷ []) (together expr.Or es)
    untested : {ts : List Terminal} {e : Expr} → IsOperand ts e → IsUnit ts e
    tested : {ts us : List Terminal} {e : Expr} {t : Test} → IsOperand ts e → IsTest us t → IsUnit (ts ++ us) (expr.Test e t)

  -- operand: `true`; `false`; or a path
  pub data IsOperand : List Terminal → Expr → Type 0 where
    true_word : IsOperand (terminal.True ∷ []) (expr.Lit (lit.Bool true))
    false_word : IsOperand (terminal.False ∷ []) (expr.Lit (lit.Bool false))
    path : {ts : List Terminal} {e : Expr} → IsPath ts e → IsOperand ts e

  -- path: a name or a call, followed by any number of `[number]`, `[text]` or `[*]`, the number not negative
  pub data IsPath : List Terminal → Expr → Type 0 where
    name : {n : List ℕ} → IsPath (terminal.Name n ∷ []) (expr.Field n)
    call : {n : List ℕ} {ts : List Terminal} {es : List Expr} → IsArguments ts es → IsPath (terminal.Name n ∷ terminal.Open ∷ ts ++ terminal.Close ∷ []) (expr.Call n es)
    index : {ts : List Terminal} {e : Expr} {n : ℕ} → IsPath ts e → IsPath (ts ++ terminal.OpenIndex ∷ terminal.Number (pos n) ∷ terminal.CloseIndex ∷ []) (expr.At e (pos n))
    key : {ts : List Terminal} {e : Expr} {k : List ℕ} → IsPath ts e → IsPath (ts ++ terminal.OpenIndex ∷ terminal.Text k ∷ terminal.CloseIndex ∷ []) (expr.Key e k)
    each : {ts : List Terminal} {e : Expr} → IsPath ts e → IsPath (ts ++ terminal.OpenIndex ∷ terminal.Star ∷ terminal.CloseIndex ∷ []) (expr.Each e)

  -- arguments: one or more expressions joined by `,`
  pub data IsArguments : List Terminal → List Expr → Type 0 where
    one_argument : {ts : List Terminal} {e : Expr} → IsExpression ts e → IsArguments ts (e ∷ [])
    more_arguments : {ts rest : List Terminal} {e : Expr} {es : List Expr} → IsExpression ts e → IsArguments rest es → IsArguments (ts ++ terminal.Comma ∷ rest) (e ∷ es)

-- the terminals are an expression with this tree
abbrev pub Derives : List Terminal → Expr → Type 0
Derives ts e = IsExpression ts e

-- some expression begins with these terminals
abbrev pub Begins : List Terminal → Type 0
Begins ts = (more : List Terminal) × (e : Expr) × Derives (ts ++ more) e

-- the terminals derive no expression, and the one at this place is the first such that no expression begins with
-- the terminals up to it; the place is their number, where all of them begin one
pub record IsFault (ts : List Terminal) (place : ℕ) : Type 0 where
  pub within : place ≤ length ts
  pub begins : Begins (take place ts)
  pub stops : place < length ts → ¬ (Begins (take (place + 1) ts))
  pub none : (e : Expr) → ¬ (Derives ts e)

-- terminals derive at most one tree
abbrev pub DeriveAtMostOne : Type 0
DeriveAtMostOne = (ts : List Terminal) (d e : Expr) → Derives ts d → Derives ts e → d ≡ e

-- terminals go wrong at no more than one place
abbrev pub HaveOneFault : Type 0
HaveOneFault = (ts : List Terminal) (place other : ℕ) → IsFault ts place → IsFault ts other → place ≡ other

-- terminals that derive no tree have a place of fault
abbrev pub UnderivedHaveFaults : Type 0
UnderivedHaveFaults = (ts : List Terminal) → ((e : Expr) → ¬ (Derives ts e)) → (place : ℕ) × IsFault ts place
