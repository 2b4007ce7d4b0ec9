-- Working vocabulary, which no public clause cites.
-- The machine that reads a test: what a test under way becomes by the next terminal.
use Rattle.std.specs.Prelude.{ℕ, ℤ, List, [], ◌∷◌, ◌++◌}
use Rattle.std.specs.declared.option.Option.{Option}
use Rattle.std.specs.declared.option.Option.TheVariants.{None, Some}
use Rattle.edge_base.specs.declared.address.Addr.{Addr}
use Rattle.edge_base.specs.declared.expression.Lit.TheVariants as lit
use Rattle.edge_base.specs.declared.expression.Order.{Order}
use Rattle.edge_base.specs.declared.expression.Item.{Item}
use Rattle.edge_base.specs.declared.expression.Item.TheVariants as item
use Rattle.edge_base.specs.declared.expression.Test.{Test}
use Rattle.edge_base.specs.declared.expression.Test.TheVariants as test
use Rattle.edge_base.specs.declared.terminal.Terminal.{Terminal}
use Rattle.edge_base.specs.declared.terminal.Terminal.TheVariants as terminal
use Rattle.expr_parser.specs.declared.testing.TextTest.{TextTest}
use Rattle.expr_parser.specs.declared.testing.TextTest.TheVariants as text
use Rattle.expr_parser.specs.declared.testing.Testing.{Testing}
use Rattle.expr_parser.specs.declared.testing.Testing.TheVariants as testing
use Rattle.expr_parser.specs.declared.testing.Tested.{Tested}
use Rattle.expr_parser.specs.declared.testing.Tested.TheVariants as tested

-- a test of a text that is whole
abbrev pub text_test : TextTest → List ℕ → Test
text_test text.Contains t = test.Contains t
text_test text.Matches t = test.Matches t
text_test text.Wild t = test.Wild t
text_test text.StrictWild t = test.StrictWild t

-- a literal behind an order
abbrev pub at_order : Terminal → Order → Option Tested
at_order (terminal.Text t) o = Some (tested.Whole (test.Order o (lit.Text t)))
at_order (terminal.Number n) o = Some (tested.Whole (test.Order o (lit.Num n)))
at_order (terminal.Address a) o = Some (tested.Whole (test.Order o (lit.Addr a)))
at_order t o = None

-- a text behind a test of texts
abbrev pub at_text : Terminal → TextTest → Option Tested
at_text (terminal.Text t) k = Some (tested.Whole (text_test k t))
at_text t k = None

-- `wildcard` behind `strict`
abbrev pub at_strict : Terminal → Option Tested
at_strict terminal.Wildcard = Some (tested.Part (testing.Text text.StrictWild))
at_strict t = None

-- a list's name or `{` behind `in`
abbrev pub at_in : Terminal → Option Tested
at_in (terminal.ListName n) = Some (tested.Whole (test.Listed n))
at_in terminal.OpenItems = Some (tested.Part testing.FirstItem)
at_in t = None

-- an item begins
abbrev pub item_at : Terminal → List Item → Option Tested
item_at (terminal.Text t) is = Some (tested.Part (testing.Items (is ++ item.One (lit.Text t) ∷ [])))
item_at (terminal.Block a bits) is = Some (tested.Part (testing.Items (is ++ item.Block a bits ∷ [])))
item_at (terminal.Number n) is = Some (tested.Part (testing.Number is n))
item_at (terminal.Address a) is = Some (tested.Part (testing.Address is a))
item_at t is = None

-- `}` or another item
abbrev pub at_items : Terminal → List Item → Option Tested
at_items terminal.CloseItems is = Some (tested.Whole (test.Among is))
at_items t is = item_at t is

-- `..` behind a number, or the number is an item
abbrev pub at_number : Terminal → List Item → ℤ → Option Tested
at_number terminal.To is n = Some (tested.Part (testing.NumberTo is n))
at_number t is n = at_items t (is ++ item.One (lit.Num n) ∷ [])

-- `..` behind an address, or the address is an item
abbrev pub at_address : Terminal → List Item → Addr → Option Tested
at_address terminal.To is a = Some (tested.Part (testing.AddressTo is a))
at_address t is a = at_items t (is ++ item.One (lit.Addr a) ∷ [])

-- the last number of a range
abbrev pub at_number_to : Terminal → List Item → ℤ → Option Tested
at_number_to (terminal.Number last) is first = Some (tested.Part (testing.Items (is ++ item.Nums first last ∷ [])))
at_number_to t is first = None

-- the last address of a range
abbrev pub at_address_to : Terminal → List Item → Addr → Option Tested
at_address_to (terminal.Address last) is first = Some (tested.Part (testing.Items (is ++ item.Addrs first last ∷ [])))
at_address_to t is first = None

-- what a test under way becomes by the next terminal
abbrev pub test_step : Testing → Terminal → Option Tested
test_step (testing.Order o) t = at_order t o
test_step (testing.Text k) t = at_text t k
test_step testing.Strict t = at_strict t
test_step testing.In t = at_in t
test_step testing.FirstItem t = item_at t []
test_step (testing.Items is) t = at_items t is
test_step (testing.Number is n) t = at_number t is n
test_step (testing.Address is a) t = at_address t is a
test_step (testing.NumberTo is n) t = at_number_to t is n
test_step (testing.AddressTo is a) t = at_address_to t is a
