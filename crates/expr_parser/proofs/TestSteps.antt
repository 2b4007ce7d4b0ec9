-- A test under way stands for its terminals, from step to step; and a whole one is derived.
use Rattle.std.proofs.Common.{◌≡◌, ℤ, List, [], ◌∷◌, ◌++◌, ap, subst, ◌∙◌, sym, append_assoc}
use Rattle.std.specs.declared.option.Option.{Option}
use Rattle.std.specs.declared.option.Option.TheVariants.{None, Some}
use Rattle.edge_base.specs.declared.address.Addr.{Addr}
use Rattle.edge_base.specs.declared.expression.Lit.TheVariants as lit
use Rattle.edge_base.specs.declared.expression.Order.{Order}
use Rattle.edge_base.specs.declared.expression.Item.{Item}
use Rattle.edge_base.specs.declared.expression.Item.TheVariants as item
use Rattle.edge_base.specs.declared.terminal.Terminal.{Terminal}
use Rattle.edge_base.specs.declared.terminal.Terminal.TheVariants as terminal
use Rattle.edge_base.specs.Grammar.{text_literal, number_literal, address_literal, literal_item, block_item, numbers_item, addresses_item, IsListedItems, one_item, more_items, in_order, strict_wildcard, in_list, in_items}
use Rattle.expr_parser.specs.declared.testing.TextTest.{TextTest}
use Rattle.expr_parser.specs.declared.testing.Testing.{Testing}
use Rattle.expr_parser.specs.declared.testing.Testing.TheVariants as testing
use Rattle.expr_parser.specs.declared.testing.Tested.{Tested}
use Rattle.expr_parser.specs.Testing.{at_order, at_text, at_strict, at_in, item_at, at_items, at_number, at_address, at_number_to, at_address_to, test_step}
use Rattle.expr_parser.proofs.Standing.{ItemFront, TestFront, TestedBy}

abbrev pub TestNext : Option Tested → List Terminal → Type 0
TestNext None z = Unit {0}
TestNext (Some p) z = TestedBy p z

-- one more item behind items
items_more : {w : List Terminal} {items : List Item} → IsListedItems w items → ItemFront items w
items_more (one_item d) a i q = more_items d (one_item q)
items_more (more_items {ts} {rest} {i = first} {is = items} d ds) a i q =
    subst (λ z. IsListedItems z (first ∷ (items ++ i ∷ []))) (sym (append_assoc ts rest a)) (more_items d (items_more ds a i q))

order_next : (t : Terminal) (o : Order) (z : List Terminal) → z ≡ terminal.Order o ∷ [] → TestNext (at_order t o) (z ++ t ∷ [])
order_next (terminal.Text x) o z p = rw p (in_order text_literal)
order_next (terminal.Number n) o z p = rw p (in_order number_literal)
order_next (terminal.Address a) o z p = rw p (in_order address_literal)
order_next t o z p = tt

text_next : (t : Terminal) (k : TextTest) (z : List Terminal) → TestFront (testing.Text k) z → TestNext (at_text t k) (z ++ t ∷ [])
text_next (terminal.Text x) k z h = h x
text_next t k z h = tt

strict_next : (t : Terminal) (z : List Terminal) → z ≡ terminal.Strict ∷ [] → TestNext (at_strict t) (z ++ t ∷ [])
strict_next terminal.Wildcard z p = λ x. rw p strict_wildcard
strict_next t z p = tt

in_next : (t : Terminal) (z : List Terminal) → z ≡ terminal.In ∷ [] → TestNext (at_in t) (z ++ t ∷ [])
in_next (terminal.ListName n) z p = rw p in_list
in_next terminal.OpenItems z p = ap (λ v. v ++ terminal.OpenItems ∷ []) p
in_next t z p = tt

item_next : (t : Terminal) (items : List Item) (w z : List Terminal) → ItemFront items w → z ≡ terminal.In ∷ terminal.OpenItems ∷ w → TestNext (item_at t items) (z ++ t ∷ [])
item_next (terminal.Text x) items w z h p = (w ++ terminal.Text x ∷ [], h _ _ (literal_item text_literal), ap (λ v. v ++ terminal.Text x ∷ []) p)
item_next (terminal.Block a bits) items w z h p = (w ++ terminal.Block a bits ∷ [], h _ _ block_item, ap (λ v. v ++ terminal.Block a bits ∷ []) p)
item_next (terminal.Number n) items w z h p = (w, h, ap (λ v. v ++ terminal.Number n ∷ []) p)
item_next (terminal.Address a) items w z h p = (w, h, ap (λ v. v ++ terminal.Address a ∷ []) p)
item_next t items w z h p = tt

items_next : (t : Terminal) (items : List Item) (w z : List Terminal) → IsListedItems w items → z ≡ terminal.In ∷ terminal.OpenItems ∷ w → TestNext (at_items t items) (z ++ t ∷ [])
items_next terminal.CloseItems items w z d p = rw p (in_items d)
items_next t items w z d p = item_next t items w z (items_more d) p

number_next : (t : Terminal) (items : List Item) (n : ℤ) (w z : List Terminal) → ItemFront items w → z ≡ terminal.In ∷ terminal.OpenItems ∷ (w ++ terminal.Number n ∷ [])
    → TestNext (at_number t items n) (z ++ t ∷ [])
number_next terminal.To items n w z h p =
    (w, h, ap (λ v. v ++ terminal.To ∷ []) p ∙ ap (λ v. terminal.In ∷ terminal.OpenItems ∷ v) (append_assoc w (terminal.Number n ∷ []) (terminal.To ∷ [])))
number_next t items n w z h p = items_next t (items ++ item.One (lit.Num n) ∷ []) (w ++ terminal.Number n ∷ []) z (h _ _ (literal_item number_literal)) p

address_next : (t : Terminal) (items : List Item) (a : Addr) (w z : List Terminal) → ItemFront items w → z ≡ terminal.In ∷ terminal.OpenItems ∷ (w ++ terminal.Address a ∷ [])
    → TestNext (at_address t items a) (z ++ t ∷ [])
address_next terminal.To items a w z h p =
    (w, h, ap (λ v. v ++ terminal.To ∷ []) p ∙ ap (λ v. terminal.In ∷ terminal.OpenItems ∷ v) (append_assoc w (terminal.Address a ∷ []) (terminal.To ∷ [])))
address_next t items a w z h p = items_next t (items ++ item.One (lit.Addr a) ∷ []) (w ++ terminal.Address a ∷ []) z (h _ _ (literal_item address_literal)) p

number_to_next : (t : Terminal) (items : List Item) (n : ℤ) (w z : List Terminal) → ItemFront items w
    → z ≡ terminal.In ∷ terminal.OpenItems ∷ (w ++ terminal.Number n ∷ terminal.To ∷ []) → TestNext (at_number_to t items n) (z ++ t ∷ [])
number_to_next (terminal.Number m) items n w z h p = (
  w ++ terminal.Number n ∷ terminal.To ∷ terminal.Number m ∷ [],
  h _ _ numbers_item,
  ap (λ v. v ++ terminal.Number m ∷ []) p ∙ ap (λ v. terminal.In ∷ terminal.OpenItems ∷ v) (append_assoc w (terminal.Number n ∷ terminal.To ∷ []) (terminal.Number m ∷ [])),
)
number_to_next t items n w z h p = tt

address_to_next : (t : Terminal) (items : List Item) (a : Addr) (w z : List Terminal) → ItemFront items w
    → z ≡ terminal.In ∷ terminal.OpenItems ∷ (w ++ terminal.Address a ∷ terminal.To ∷ []) → TestNext (at_address_to t items a) (z ++ t ∷ [])
address_to_next (terminal.Address b) items a w z h p = (
  w ++ terminal.Address a ∷ terminal.To ∷ terminal.Address b ∷ [],
  h _ _ addresses_item,
  ap (λ v. v ++ terminal.Address b ∷ []) p ∙ ap (λ v. terminal.In ∷ terminal.OpenItems ∷ v) (append_assoc w (terminal.Address a ∷ terminal.To ∷ []) (terminal.Address b ∷ [])),
)
address_to_next t items a w z h p = tt

pub test_next : (k : Testing) (t : Terminal) (z : List Terminal) → TestFront k z → TestNext (test_step k t) (z ++ t ∷ [])
test_next (testing.Order o) t z h = order_next t o z h
test_next (testing.Text k) t z h = text_next t k z h
test_next testing.Strict t z h = strict_next t z h
test_next testing.In t z h = in_next t z h
test_next testing.FirstItem t z h = item_next t [] [] z (λ a i d. one_item d) h
test_next (testing.Items items) t z h = items_next t items h.0 z h.1 h.2
test_next (testing.Number items n) t z h = number_next t items n h.0 z h.1 h.2
test_next (testing.Address items a) t z h = address_next t items a h.0 z h.1 h.2
test_next (testing.NumberTo items n) t z h = number_to_next t items n h.0 z h.1 h.2
test_next (testing.AddressTo items a) t z h = address_to_next t items a h.0 z h.1 h.2
