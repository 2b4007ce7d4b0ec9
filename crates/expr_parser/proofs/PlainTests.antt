-- Literals, items and tests nest nothing, and are printed with the terminals that derive them.
use Rattle.std.proofs.Common.{◌≡◌, ℕ, ◌+◌, max, List, [], ◌∷◌, ◌++◌, refl, ap, ◌∙◌, append-nil, arith}
use Rattle.edge_base.specs.declared.expression.Lit.{Lit}
use Rattle.edge_base.specs.declared.expression.Item.{Item}
use Rattle.edge_base.specs.declared.expression.Test.{Test}
use Rattle.edge_base.specs.declared.terminal.Terminal.{Terminal}
use Rattle.edge_base.specs.declared.terminal.Terminal.TheVariants as terminal
use Rattle.edge_base.specs.Grammar.{IsLiteral, text_literal, number_literal, address_literal, IsListedItem, literal_item, block_item, numbers_item, addresses_item, IsListedItems, one_item, more_items, IsTest, in_order, contains, matches, wildcard, strict_wildcard, in_list, in_items}
use Rattle.edge_base.specs.Nesting.{open_now, deepest}
use Rattle.expr_parser.proofs.TreeTerminals.{lit_terminal, item_terminals, items_terminals, test_terminals}
use Rattle.expr_parser.proofs.Rises.{Rises, append_rises}

pub literal_prints : {t : Terminal} {l : Lit} → IsLiteral t l → lit_terminal l ≡ t
literal_prints text_literal = refl
literal_prints number_literal = refl
literal_prints address_literal = refl

item_prints : {ts : List Terminal} {i : Item} → IsListedItem ts i → item_terminals i ≡ ts
item_prints (literal_item q) = ap (λ t. t ∷ []) (literal_prints q)
item_prints block_item = refl
item_prints numbers_item = refl
item_prints addresses_item = refl

items_print : {ts : List Terminal} {is : List Item} → IsListedItems ts is → items_terminals is ≡ ts
items_print (one_item q) = append-nil _ ∙ item_prints q
items_print (more_items q qs) = let first = item_prints q in let others = items_print qs in cc

pub test_prints : {us : List Terminal} {t : Test} → IsTest us t → test_terminals t ≡ us
test_prints (in_order {o} q) = ap (λ t. terminal.Order o ∷ t ∷ []) (literal_prints q)
test_prints contains = refl
test_prints matches = refl
test_prints wildcard = refl
test_prints strict_wildcard = refl
test_prints in_list = refl
test_prints (in_items q) = ap (λ ts. terminal.In ∷ terminal.OpenItems ∷ ts ++ terminal.CloseItems ∷ []) (items_print q)

-- the terminal opens, closes and joins nothing, and is no `not`
abbrev Plain : Terminal → Type 0
Plain terminal.Not = ⊥
Plain terminal.Open = ⊥
Plain terminal.Close = ⊥
Plain terminal.And = ⊥
Plain terminal.Xor = ⊥
Plain terminal.Or = ⊥
Plain terminal.Comma = ⊥
Plain t = Unit {0}

plain_scan : (t : Terminal) → Plain t → (pending : ℕ) (around : List ℕ) (rest : List Terminal)
    → deepest (t ∷ rest) pending around ≡ max (open_now pending around) (deepest rest pending around)
plain_scan terminal.Not h pending around rest = absurd h
plain_scan terminal.Open h pending around rest = absurd h
plain_scan terminal.Close h pending around rest = absurd h
plain_scan terminal.And h pending around rest = absurd h
plain_scan terminal.Xor h pending around rest = absurd h
plain_scan terminal.Or h pending around rest = absurd h
plain_scan terminal.Comma h pending around rest = absurd h
plain_scan t h pending around rest = refl

plain_max : (base d : ℕ) → max base d ≡ max (base + 0) d
plain_max base d = omega arith

pub plain_one : {t : Terminal} → Plain t → Rises (t ∷ []) 0
plain_one {t} h = record { scan = λ pending around rest. plain_scan t h pending around rest ∙ plain_max (open_now pending around) (deepest rest pending around) }

plain_two : {t u : Terminal} → Plain t → Plain u → Rises (t ∷ u ∷ []) 0
plain_two h i = append_rises (plain_one h) (plain_one i)

pub plain_three : {t u v : Terminal} → Plain t → Plain u → Plain v → Rises (t ∷ u ∷ v ∷ []) 0
plain_three h i j = append_rises (plain_one h) (plain_two i j)

literal_plain : {t : Terminal} {l : Lit} → IsLiteral t l → Plain t
literal_plain text_literal = tt
literal_plain number_literal = tt
literal_plain address_literal = tt

pub literal_rises : {t : Terminal} {l : Lit} → IsLiteral t l → Rises (t ∷ []) 0
literal_rises q = plain_one (literal_plain q)

item_rises : {ts : List Terminal} {i : Item} → IsListedItem ts i → Rises ts 0
item_rises (literal_item q) = literal_rises q
item_rises block_item = plain_one tt
item_rises numbers_item = plain_three tt tt tt
item_rises addresses_item = plain_three tt tt tt

items_rise : {ts : List Terminal} {is : List Item} → IsListedItems ts is → Rises ts 0
items_rise (one_item q) = item_rises q
items_rise (more_items q qs) = append_rises (item_rises q) (items_rise qs)

pub test_rises : {us : List Terminal} {t : Test} → IsTest us t → Rises us 0
test_rises (in_order q) = plain_two tt (literal_plain q)
test_rises contains = plain_two tt tt
test_rises matches = plain_two tt tt
test_rises wildcard = plain_two tt tt
test_rises strict_wildcard = plain_three tt tt tt
test_rises in_list = plain_two tt tt
test_rises (in_items q) = append_rises (plain_two tt tt) (append_rises (items_rise q) (plain_one tt))
