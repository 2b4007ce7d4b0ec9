-- The print of a literal or a test falls into the tokens of its terminals.
use Rattle.std.proofs.Common.{◌≡◌, ℕ, ℤ, true, List, [], ◌∷◌, ◌++◌, IsTrue, refl, ap, ◌∙◌, sym, subst, append_assoc, decimal, is_some}
use Rattle.std.specs.Prelude.{codes, option_map}
use Rattle.std.specs.declared.option.Option.TheVariants.{Some}
use Rattle.edge_base.specs.declared.address.Addr.{Addr}
use Rattle.edge_base.specs.declared.expression.Item.{Item}
use Rattle.edge_base.specs.declared.expression.Lit.{Lit}
use Rattle.edge_base.specs.declared.expression.Order.{Order}
use Rattle.edge_base.specs.declared.expression.Order.TheVariants as order
use Rattle.edge_base.specs.declared.expression.Test.{Test}
use Rattle.edge_base.specs.declared.terminal.Terminal.{Terminal}
use Rattle.edge_base.specs.declared.terminal.Terminal.TheVariants as terminal
use Rattle.edge_base.specs.declared.token.TokenKind.{TokenKind}
use Rattle.edge_base.specs.declared.token.TokenKind.TheVariants as kind
use Rattle.edge_base.specs.Address.{IsAddrText, addr_text}
use Rattle.edge_base.specs.Token.{number_of, is_reserved, IsBlockText}
use Rattle.edge_base.specs.Terminal.{reserved}
use Rattle.edge_base.specs.Grammar.{IsLiteral, text_literal, number_literal, address_literal, IsListedItem, literal_item, block_item, numbers_item, addresses_item, IsListedItems, one_item, more_items, IsTest, in_order, contains, matches, wildcard, strict_wildcard, in_list, in_items}
use Rattle.expr_parser.specs.Spelling.{quoted, lit_spelling, order_word, item_spelling, items_spelling, test_spelling}
use Rattle.edge_base.specs.Printed.{signed}
use Rattle.expr_parser.proofs.TreeTerminals.{lit_terminal, item_terminals, items_terminals, test_terminals}
use Rattle.expr_parser.proofs.Written.{ends_before, StandsFor, IsSound, AreSound, IsCutInto, cut_blank, cut_token, IsWritten}
use Rattle.expr_parser.proofs.Sound.{sound_front, sound_back}
use Rattle.expr_parser.proofs.BeforeEnds.{stands_before_end}
use Rattle.expr_parser.proofs.NamesStand.{list_name_stands}
use Rattle.expr_parser.proofs.TextsStand.{text_stands}
use Rattle.expr_parser.proofs.SignsStand.{sign_stands, range_sign_stands}
use Rattle.expr_parser.proofs.NumbersRead.{number_is_read}
use Rattle.expr_parser.proofs.AddressesRead.{address_is_read, block_is_read}
use Rattle.expr_parser.proofs.BeforeRanges.{number_stands_before_range, address_stands_before_range}
use Rattle.expr_parser.proofs.WrittenTexts.{one_written, blank_before, sign_before, regrouped, word_before}

-- ---- tokens before an end byte

number_stands : (n : ℤ) (text rest : List ℕ) → number_of text ≡ Some n → ends_before rest ≡ true → StandsFor kind.Number (signed n) rest (terminal.Number n)
number_stands n text rest h ends =
    let read = number_is_read n text h in
    stands_before_end kind.Number (signed n) rest (terminal.Number n) (ap is_some read) (ap (option_map terminal.Number) read) ends

address_stands : (a : Addr) (text rest : List ℕ) → IsAddrText text a → ends_before rest ≡ true → StandsFor kind.Address (addr_text a) rest (terminal.Address a)
address_stands a text rest h ends =
    let read = address_is_read a text h in
    stands_before_end kind.Address (addr_text a) rest (terminal.Address a) (a, read) (a, read, refl) ends

block_stands : (a : Addr) (bits : ℕ) (text rest : List ℕ) → IsBlockText text a bits → ends_before rest ≡ true
    → StandsFor kind.Block (addr_text a ++ codes "/" ++ decimal bits) rest (terminal.Block a bits)
block_stands a bits text rest h ends =
    let read = block_is_read a bits text h in
    stands_before_end kind.Block (addr_text a ++ codes "/" ++ decimal bits) rest (terminal.Block a bits) (a, bits, read) (a, bits, read, refl) ends

-- ---- literals

pub quoted_written : (text : List ℕ) → IsWritten (quoted text) (terminal.Text text ∷ [])
quoted_written text = one_written kind.Text (quoted text) (terminal.Text text) (λ rest ends. text_stands text rest)

pub lit_written : {t : Terminal} {l : Lit} → IsLiteral t l → IsSound t → IsWritten (lit_spelling l) (lit_terminal l ∷ [])
lit_written (text_literal {text = text}) sound = quoted_written text
lit_written (number_literal {n = n}) sound =
    one_written kind.Number (signed n) (terminal.Number n) (λ rest ends. number_stands n sound.0 rest sound.1 ends)
lit_written (address_literal {a = a}) sound =
    one_written kind.Address (addr_text a) (terminal.Address a) (λ rest ends. address_stands a sound.0 rest sound.1 ends)

-- ---- items

range_written : (k : TokenKind) (first last : List ℕ) (t u : Terminal) → ((rest : List ℕ) → StandsFor k first (46 ∷ 46 ∷ rest) t)
    → IsWritten last (u ∷ []) → IsWritten (first ++ codes ".." ++ last) (t ∷ terminal.To ∷ u ∷ [])
range_written k first last t u stands h rest us ends cut =
    let parts : (first ++ codes ".." ++ last) ++ rest ≡ first ++ (46 ∷ 46 ∷ last ++ rest)
    = append_assoc (first ++ codes "..") last rest ∙ append_assoc first (codes "..") (last ++ rest) in
    subst (λ v. IsCutInto v (t ∷ terminal.To ∷ u ∷ us)) (sym parts)
    (cut_token (stands (last ++ rest)) (cut_token (range_sign_stands (last ++ rest)) (h rest us ends cut)))

item_written : {ts : List Terminal} {i : Item} → IsListedItem ts i → AreSound ts → IsWritten (item_spelling i) (item_terminals i)
item_written (literal_item l) sound = lit_written l sound.0
item_written (block_item {a = a} {bits = bits}) sound =
    one_written kind.Block (addr_text a ++ codes "/" ++ decimal bits) (terminal.Block a bits) (λ rest ends. block_stands a bits sound.0.0 rest sound.0.1 ends)
item_written (numbers_item {first = first} {last = last}) sound =
    range_written kind.Number (signed first) (signed last) (terminal.Number first) (terminal.Number last)
    (λ rest. number_stands_before_range first sound.0.0 rest sound.0.1)
    (lit_written (number_literal {n = last}) sound.1.1.0)
item_written (addresses_item {first = first} {last = last}) sound =
    range_written kind.Address (addr_text first) (addr_text last) (terminal.Address first) (terminal.Address last)
    (λ rest. address_stands_before_range first sound.0.0 rest sound.0.1)
    (lit_written (address_literal {a = last}) sound.1.1.0)

-- before any rest, since a blank stands behind each item
abbrev AreWritten : List Item → Type 0
AreWritten is = (rest : List ℕ) (us : List Terminal) → IsCutInto rest us → IsCutInto (items_spelling is ++ rest) (items_terminals is ++ us)

item_before : (i : Item) (is : List Item) → IsWritten (item_spelling i) (item_terminals i) → AreWritten is → AreWritten (i ∷ is)
item_before i is h later rest us cut =
    regrouped (item_spelling i) (32 ∷ items_spelling is) rest (item_terminals i) (items_terminals is) us
    (h (32 ∷ items_spelling is ++ rest) (items_terminals is ++ us) refl (cut_blank refl (later rest us cut)))

items_written : {ts : List Terminal} {is : List Item} → IsListedItems ts is → AreSound ts → AreWritten is
items_written (one_item {i = i} d) sound = item_before i [] (item_written d sound) (λ rest us cut. cut)
items_written (more_items {ts = ts} {rest = rest} {i = i} {is = is} d ds) sound =
    item_before i is (item_written d (sound_front ts rest sound)) (items_written ds (sound_back ts rest sound))

in_braces : (is : List Item) → AreWritten is → IsWritten (items_spelling is ++ 125 ∷ []) (items_terminals is ++ terminal.CloseItems ∷ [])
in_braces is h rest us ends cut =
    regrouped (items_spelling is) (125 ∷ []) rest (items_terminals is) (terminal.CloseItems ∷ []) us
    (h (125 ∷ rest) (terminal.CloseItems ∷ us) (cut_token (sign_stands 125 rest terminal.CloseItems refl refl) cut))

-- ---- tests

order_before : (o : Order) (b : List ℕ) (us : List Terminal) → IsWritten b us → IsWritten (order_word o ++ codes " " ++ b) (terminal.Order o ∷ us)
order_before order.Eq b us h = word_before (codes "eq") (terminal.Order order.Eq) refl refl b us h
order_before order.Ne b us h = word_before (codes "ne") (terminal.Order order.Ne) refl refl b us h
order_before order.Lt b us h = word_before (codes "lt") (terminal.Order order.Lt) refl refl b us h
order_before order.Le b us h = word_before (codes "le") (terminal.Order order.Le) refl refl b us h
order_before order.Gt b us h = word_before (codes "gt") (terminal.Order order.Gt) refl refl b us h
order_before order.Ge b us h = word_before (codes "ge") (terminal.Order order.Ge) refl refl b us h

quoted_behind : (word text : List ℕ) (t : Terminal) → IsTrue (is_reserved word) → reserved word ≡ Some t
    → IsWritten (word ++ 32 ∷ quoted text) (t ∷ terminal.Text text ∷ [])
quoted_behind word text t is_word is = word_before word t is_word is (quoted text) (terminal.Text text ∷ []) (quoted_written text)

pub test_written : {ts : List Terminal} {t : Test} → IsTest ts t → AreSound ts → IsWritten (test_spelling t) (test_terminals t)
test_written (in_order {o = o} {l = l} d) sound = order_before o (lit_spelling l) (lit_terminal l ∷ []) (lit_written d sound.1.0)
test_written (contains {text = text}) sound = quoted_behind (codes "contains") text terminal.Contains refl refl
test_written (matches {text = text}) sound = quoted_behind (codes "matches") text terminal.Matches refl refl
test_written (wildcard {text = text}) sound = quoted_behind (codes "wildcard") text terminal.Wildcard refl refl
test_written (strict_wildcard {text = text}) sound =
    word_before (codes "strict") terminal.Strict refl refl (codes "wildcard" ++ 32 ∷ quoted text) (terminal.Wildcard ∷ terminal.Text text ∷ [])
    (quoted_behind (codes "wildcard") text terminal.Wildcard refl refl)
test_written (in_list {name = listed}) sound =
    word_before (codes "in") terminal.In refl refl (36 ∷ listed) (terminal.ListName listed ∷ [])
    (one_written kind.ListName (36 ∷ listed) (terminal.ListName listed) (λ rest ends. list_name_stands listed rest sound.1.0 ends))
test_written (in_items {ts = ts} {is = is} d) sound =
    let inside : List ℕ = items_spelling is ++ 125 ∷ [] in
    let braced : List Terminal = items_terminals is ++ terminal.CloseItems ∷ [] in
    word_before (codes "in") terminal.In refl refl (123 ∷ 32 ∷ inside) (terminal.OpenItems ∷ braced)
    (sign_before 123 terminal.OpenItems refl refl (32 ∷ inside) braced
    (blank_before inside braced (in_braces is (items_written d (sound_front ts (terminal.CloseItems ∷ []) sound.1.1)))))
