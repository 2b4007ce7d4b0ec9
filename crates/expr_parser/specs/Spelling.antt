-- How a tree is spelled: words in place of signs, one blank between tokens but none inside `[ ]`, around `..`, before
-- `(` of a call, `,` and `)`, or behind `(`; parentheses only where needed.
use Rattle.std.specs.Prelude.{ℕ, suc, ◌+◌, ◌==◌, nat_lt, Bool, true, false, cond, ◌||◌, List, [], ◌∷◌, ◌++◌, ℤ, pos, negsuc, codes, decimal}
use Rattle.edge_base.specs.declared.expression.Lit.{Lit}
use Rattle.edge_base.specs.declared.expression.Lit.TheVariants as lit
use Rattle.edge_base.specs.declared.expression.Order.{Order}
use Rattle.edge_base.specs.declared.expression.Order.TheVariants as order
use Rattle.edge_base.specs.declared.expression.Item.{Item}
use Rattle.edge_base.specs.declared.expression.Item.TheVariants as item
use Rattle.edge_base.specs.declared.expression.Test.{Test}
use Rattle.edge_base.specs.declared.expression.Test.TheVariants as test
use Rattle.edge_base.specs.declared.expression.Expr.{Expr}
use Rattle.edge_base.specs.declared.expression.Expr.TheOpen as open_expr
use Rattle.edge_base.specs.declared.expression.Expr.TheFolds.{fold-Expr}
use Rattle.edge_base.specs.Address.{addr_text}
use Rattle.edge_base.specs.Bytes.{space, quote, backslash}
use Rattle.edge_base.specs.Printed.{signed, truth_word}

-- the bytes of a text between its quotes
abbrev pub escaped_text : List ℕ → List ℕ
escaped_text [] = []
escaped_text (byte ∷ text) = cond (byte == quote || byte == backslash) (backslash ∷ byte ∷ []) (byte ∷ []) ++ escaped_text text

abbrev pub quoted : List ℕ → List ℕ
quoted text = quote ∷ escaped_text text ++ quote ∷ []

abbrev pub lit_spelling : Lit → List ℕ
lit_spelling (lit.Text text) = quoted text
lit_spelling (lit.Num n) = signed n
lit_spelling (lit.Addr a) = addr_text a
lit_spelling (lit.Bool b) = truth_word b

abbrev pub order_word : Order → List ℕ
order_word order.Eq = codes "eq"
order_word order.Ne = codes "ne"
order_word order.Lt = codes "lt"
order_word order.Le = codes "le"
order_word order.Gt = codes "gt"
order_word order.Ge = codes "ge"

abbrev pub item_spelling : Item → List ℕ
item_spelling (item.One l) = lit_spelling l
item_spelling (item.Nums first last) = signed first ++ codes ".." ++ signed last
item_spelling (item.Addrs first last) = addr_text first ++ codes ".." ++ addr_text last
item_spelling (item.Block a bits) = addr_text a ++ codes "/" ++ decimal bits

-- each item, with a blank behind it
abbrev pub items_spelling : List Item → List ℕ
items_spelling [] = []
items_spelling (i ∷ items) = item_spelling i ++ space ∷ items_spelling items

abbrev pub test_spelling : Test → List ℕ
test_spelling (test.Order o l) = order_word o ++ codes " " ++ lit_spelling l
test_spelling (test.Contains text) = codes "contains " ++ quoted text
test_spelling (test.Matches text) = codes "matches " ++ quoted text
test_spelling (test.Wild text) = codes "wildcard " ++ quoted text
test_spelling (test.StrictWild text) = codes "strict wildcard " ++ quoted text
test_spelling (test.Among items) = codes "in { " ++ items_spelling items ++ codes "}"
test_spelling (test.Listed name) = codes "in $" ++ name

-- how tight the place binds: 0 alone, 1 in a chain, 2 in a xor, 3 in an and and under `not`
abbrev pub SpelledAt : Type 0
SpelledAt = ℕ → List ℕ

abbrev pub joined : List ℕ → ℕ → List SpelledAt → List ℕ
joined joint tightness [] = []
joined joint tightness (s ∷ []) = s tightness
joined joint tightness (s ∷ t ∷ rest) = s tightness ++ joint ++ joined joint tightness (t ∷ rest)

-- in parentheses, where the place binds tighter
abbrev pub within : Bool → List ℕ → List ℕ
within needed text = cond needed (codes "(" ++ text ++ codes ")") text

abbrev pub call_spelling : List ℕ → List SpelledAt → List ℕ
call_spelling name args = name ++ codes "(" ++ joined (codes ", ") 0 args ++ codes ")"

-- a chain that binds so tight, at a place
abbrev pub chain_spelling : ℕ → List ℕ → List SpelledAt → SpelledAt
chain_spelling own joint members n = within (nat_lt own n) (joined joint (own + 1) members)

abbrev pub spelling_step : open_expr.Expr-F SpelledAt → SpelledAt
spelling_step (open_expr.Lit l) n = lit_spelling l
spelling_step (open_expr.Field name) n = name
spelling_step (open_expr.Call name args) n = call_spelling name args
spelling_step (open_expr.At e at) n = e 3 ++ codes "[" ++ signed at ++ codes "]"
spelling_step (open_expr.Key e key) n = e 3 ++ codes "[" ++ quoted key ++ codes "]"
spelling_step (open_expr.Each e) n = e 3 ++ codes "[*]"
spelling_step (open_expr.Test e t) n = e 3 ++ codes " " ++ test_spelling t
spelling_step (open_expr.Not e) n = codes "not " ++ e 3
spelling_step (open_expr.And es) n = chain_spelling 2 (codes " and ") es n
spelling_step (open_expr.Xor es) n = chain_spelling 1 (codes " xor ") es n
spelling_step (open_expr.Or es) n = chain_spelling 0 (codes " or ") es n

abbrev pub spelling_at : Expr → SpelledAt
spelling_at = fold-Expr SpelledAt spelling_step

-- the spelling of a tree
abbrev pub spelling : Expr → List ℕ
spelling e = spelling_at e 0
