-- The machine reads each test that the grammar has.
use Rattle.std.proofs.Common.{◌≡◌, ℤ, Bool, List, [], ◌∷◌, ◌++◌, refl, ap, ◌∙◌, sym, append_assoc}
use Rattle.edge_base.specs.declared.address.Addr.{Addr}
use Rattle.edge_base.specs.declared.expression.Lit.TheVariants as lit
use Rattle.edge_base.specs.declared.expression.Item.{Item}
use Rattle.edge_base.specs.declared.expression.Item.TheVariants as item
use Rattle.edge_base.specs.declared.expression.Test.{Test}
use Rattle.edge_base.specs.declared.expression.Test.TheVariants as test
use Rattle.edge_base.specs.declared.expression.Expr.{Expr}
use Rattle.edge_base.specs.declared.expression.Expr.TheVariants as expr
use Rattle.edge_base.specs.declared.terminal.Terminal.{Terminal}
use Rattle.edge_base.specs.declared.terminal.Terminal.TheVariants as terminal
use Rattle.edge_base.specs.Grammar.{text_literal, number_literal, address_literal, IsListedItem, literal_item, block_item, numbers_item, addresses_item, IsListedItems, one_item, more_items, IsTest, in_order, contains, matches, wildcard, strict_wildcard, in_list, in_items}
use Rattle.expr_parser.specs.declared.testing.Testing.TheVariants as testing
use Rattle.expr_parser.specs.declared.state.Frame.{Frame}
use Rattle.expr_parser.specs.declared.state.Level.{Level}
use Rattle.expr_parser.specs.declared.state.Mode.TheVariants as mode
use Rattle.expr_parser.specs.Machine.{state, outcome}

-- `..` doesn't follow
abbrev NotTo : List Terminal → Type 0
NotTo [] = Unit {0}
NotTo (terminal.To ∷ ts) = ⊥
NotTo (t ∷ ts) = Unit {0}

-- a number that begins no range is an item
number_as_item : (rest : List Terminal) → NotTo rest → (e : Expr) (front : List Item) (n : ℤ) (f : Frame) (below : List Level)
    → outcome rest (state (mode.Testing e (testing.Number front n)) f below) ≡ outcome rest (state (mode.Testing e (testing.Items (front ++ item.One (lit.Num n) ∷ []))) f below)
number_as_item [] h e front n f below = refl
number_as_item (terminal.To ∷ ts) h e front n f below = absurd h
number_as_item (t ∷ ts) h e front n f below = refl

address_as_item : (rest : List Terminal) → NotTo rest → (e : Expr) (front : List Item) (a : Addr) (f : Frame) (below : List Level)
    → outcome rest (state (mode.Testing e (testing.Address front a)) f below) ≡ outcome rest (state (mode.Testing e (testing.Items (front ++ item.One (lit.Addr a) ∷ []))) f below)
address_as_item [] h e front a f below = refl
address_as_item (terminal.To ∷ ts) h e front a f below = absurd h
address_as_item (t ∷ ts) h e front a f below = refl

read_item : {ts : List Terminal} {i : Item} → IsListedItem ts i → (rest : List Terminal) → NotTo rest → (e : Expr) (front : List Item) (f : Frame) (below : List Level)
    → outcome (ts ++ rest) (state (mode.Testing e (testing.Items front)) f below) ≡ outcome rest (state (mode.Testing e (testing.Items (front ++ i ∷ []))) f below)
read_item (literal_item text_literal) rest h e front f below = refl
read_item (literal_item (number_literal {n})) rest h e front f below = number_as_item rest h e front n f below
read_item (literal_item (address_literal {a})) rest h e front f below = address_as_item rest h e front a f below
read_item block_item rest h e front f below = refl
read_item numbers_item rest h e front f below = refl
read_item addresses_item rest h e front f below = refl

item_not_to : {ts : List Terminal} {i : Item} → IsListedItem ts i → (rest : List Terminal) → NotTo (ts ++ rest)
item_not_to (literal_item text_literal) rest = tt
item_not_to (literal_item number_literal) rest = tt
item_not_to (literal_item address_literal) rest = tt
item_not_to block_item rest = tt
item_not_to numbers_item rest = tt
item_not_to addresses_item rest = tt

items_not_to : {ts : List Terminal} {is : List Item} → IsListedItems ts is → (rest : List Terminal) → NotTo (ts ++ rest)
items_not_to (one_item d) rest = item_not_to d rest
items_not_to (more_items {ts} {rest = back} d ds) rest = rw (append_assoc ts back rest) (item_not_to d (back ++ rest))

read_items : {ts : List Terminal} {is : List Item} → IsListedItems ts is → (rest : List Terminal) (e : Expr) (front : List Item) (f : Frame) (below : List Level)
    → outcome (ts ++ terminal.CloseItems ∷ rest) (state (mode.Testing e (testing.Items front)) f below)
    ≡ outcome rest (state (mode.Done (expr.Test e (test.Among (front ++ is)))) f below)
read_items (one_item d) rest e front f below = read_item d (terminal.CloseItems ∷ rest) tt e front f below
read_items (more_items {ts} {rest = back} {i} {is} d ds) rest e front f below =
    ap (λ xs. outcome xs (state (mode.Testing e (testing.Items front)) f below)) (append_assoc ts back (terminal.CloseItems ∷ rest))
    ∙ read_item d (back ++ terminal.CloseItems ∷ rest) (items_not_to ds (terminal.CloseItems ∷ rest)) e front f below
    ∙ read_items ds rest e (front ++ i ∷ []) f below
    ∙ ap (λ is. outcome rest (state (mode.Done (expr.Test e (test.Among is))) f below)) (append_assoc front (i ∷ []) is)

-- the first item is read as any other
item_first : {ts : List Terminal} {i : Item} → IsListedItem ts i → (rest : List Terminal) (e : Expr) (f : Frame) (below : List Level)
    → outcome (ts ++ rest) (state (mode.Testing e testing.FirstItem) f below) ≡ outcome (ts ++ rest) (state (mode.Testing e (testing.Items [])) f below)
item_first (literal_item text_literal) rest e f below = refl
item_first (literal_item number_literal) rest e f below = refl
item_first (literal_item address_literal) rest e f below = refl
item_first block_item rest e f below = refl
item_first numbers_item rest e f below = refl
item_first addresses_item rest e f below = refl

items_first : {ts : List Terminal} {is : List Item} → IsListedItems ts is → (rest : List Terminal) (e : Expr) (f : Frame) (below : List Level)
    → outcome (ts ++ rest) (state (mode.Testing e testing.FirstItem) f below) ≡ outcome (ts ++ rest) (state (mode.Testing e (testing.Items [])) f below)
items_first (one_item d) rest e f below = item_first d rest e f below
items_first (more_items {ts} {rest = back} d ds) rest e f below =
    ap (λ xs. outcome xs (state (mode.Testing e testing.FirstItem) f below)) (append_assoc ts back rest)
    ∙ item_first d (back ++ rest) e f below
    ∙ sym (ap (λ xs. outcome xs (state (mode.Testing e (testing.Items [])) f below)) (append_assoc ts back rest))

-- behind a path a test is read
pub read_test : {us : List Terminal} {t : Test} → IsTest us t → (rest : List Terminal) (e : Expr) (f : Frame) (below : List Level)
    → outcome (us ++ rest) (state (mode.Path e) f below) ≡ outcome rest (state (mode.Done (expr.Test e t)) f below)
read_test (in_order text_literal) rest e f below = refl
read_test (in_order number_literal) rest e f below = refl
read_test (in_order address_literal) rest e f below = refl
read_test contains rest e f below = refl
read_test matches rest e f below = refl
read_test wildcard rest e f below = refl
read_test strict_wildcard rest e f below = refl
read_test in_list rest e f below = refl
read_test (in_items {ts} d) rest e f below =
    ap (λ xs. outcome xs (state (mode.Testing e testing.FirstItem) f below)) (append_assoc ts (terminal.CloseItems ∷ []) rest)
    ∙ items_first d (terminal.CloseItems ∷ rest) e f below
    ∙ read_items d rest e [] f below

-- behind `true` and `false` a test is read as behind a path
pub read_truth_test : {us : List Terminal} {t : Test} → IsTest us t → (rest : List Terminal) (b : Bool) (f : Frame) (below : List Level)
    → outcome (us ++ rest) (state (mode.Truth b) f below) ≡ outcome (us ++ rest) (state (mode.Path (expr.Lit (lit.Bool b))) f below)
read_truth_test (in_order d) rest b f below = refl
read_truth_test contains rest b f below = refl
read_truth_test matches rest b f below = refl
read_truth_test wildcard rest b f below = refl
read_truth_test strict_wildcard rest b f below = refl
read_truth_test in_list rest b f below = refl
read_truth_test (in_items d) rest b f below = refl
