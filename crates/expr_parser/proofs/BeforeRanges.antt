-- A printed number or address is the longest token before the `..` of a range.
use Rattle.std.proofs.Common.{◌≡◌, ℕ, zero, suc, ◌^◌, ◌<◌, Bool, true, false, not, ◌||◌, ◌==◌, List, [], ◌∷◌, ◌++◌, length, take, Some, is_some, IsSome, option_map, decimal, ℤ, pos, negsuc, refl, ◌∙◌, ap, arith}
use Rattle.std.proofs.lemmas.Bool.{or_left, both_ways, not-true}
use Rattle.std.proofs.lemmas.Bool.Decides.{nat_tests}
use Rattle.std.proofs.lemmas.Fmt.{decimal_nonempty}
use Rattle.std.specs.List.{list_all, before_first, after_first}
use Rattle.edge_base.specs.declared.address.Addr.{Addr}
use Rattle.edge_base.specs.declared.terminal.Terminal.TheVariants as terminal
use Rattle.edge_base.specs.declared.token.TokenKind.{TokenKind}
use Rattle.edge_base.specs.declared.token.TokenKind.TheVariants as kind
use Rattle.edge_base.specs.Address.{IsAddrText, addr_text}
use Rattle.edge_base.specs.Spellings.{spellings_of, symbols}
use Rattle.edge_base.specs.Token.{is_digit, number_of, is_symbol, IsBlockText, IsTokenOf}
use Rattle.edge_base.specs.Cut.{IsLongest}
use Rattle.expr_lexer.proofs.ByteLemmas.{begins_with, begins-append, begins_by, begins_apart, begins_from_all, all_by}
use Rattle.expr_lexer.proofs.TakenLemmas.{one_passes, reserved_is_name}
use Rattle.expr_lexer.proofs.ApartLemmas.{is_number_byte, number_bytes, number_byte_is_no_dot, text_begins, raw_begins, list_name_begins}
use Rattle.edge_base.proofs.BlockLemmas.{is_slash, block_splits}
use Rattle.edge_base.specs.Printed.{signed}
use Rattle.expr_parser.proofs.NumbersRead.{IsInI64, number_in_range, number_is_read, decimal_digits}
use Rattle.expr_parser.proofs.AddressesRead.{address_is_read}
use Rattle.expr_parser.proofs.Dots.{is_spaced, is_no_dot, spaced-append, unspaced, undotted, undotted_some, digits_have_no_dot, address_spaced, name_spaced}
use Rattle.expr_parser.proofs.BlockBytes.{is_first_byte, bits_are_digits, address_begins}
use Rattle.expr_parser.proofs.LongestWhere.{EndsThere, longest_where}
use Rattle.expr_parser.proofs.Written.{StandsFor}

-- ---- numbers and bits have no dot

number_has_no_dot : (text : List ℕ) → IsSome (number_of text) → list_all is_no_dot text ≡ true
number_has_no_dot text h = all_by is_number_byte is_no_dot (λ byte holds. ap not (number_byte_is_no_dot byte holds)) text (number_bytes text h)

number_spaced : (text : List ℕ) → IsSome (number_of text) → is_spaced true text ≡ true
number_spaced [] h = absurd (cc)
number_spaced (byte ∷ text) h = undotted_some (byte ∷ text) (omega arith) (number_has_no_dot (byte ∷ text) h)

block_spaced : (text : List ℕ) (a : Addr) (bits : ℕ) → IsBlockText text a bits → is_spaced true text ≡ true
block_spaced text a bits h =
    ap (is_spaced true) (block_splits text bits h.1)
    ∙ spaced-append true (before_first is_slash text) (47 ∷ after_first is_slash text) (address_spaced (before_first is_slash text) a h.0)
    ∙ undotted (after_first is_slash text) (digits_have_no_dot (after_first is_slash text) (bits_are_digits (after_first is_slash text) bits h.1))

-- ---- the other kinds, by their first byte

-- a byte that numbers and addresses begin with
abbrev is_edge_byte : ℕ → Bool
is_edge_byte byte = is_first_byte byte || byte == 45

symbol_begins : (text : List ℕ) → is_symbol text ≡ true → begins_with is_edge_byte text ≡ false
symbol_begins text h = not-true _ (one_passes (λ (t : List ℕ). not (begins_with is_edge_byte t)) text (spellings_of symbols) h refl)

-- ---- before `..`

-- a token that begins as numbers and addresses may has no dot last or before another dot
token_spaced : (token_kind : TokenKind) (text : List ℕ) → begins_with is_edge_byte text ≡ true → IsTokenOf token_kind text → is_spaced true text ≡ true
token_spaced kind.Name text first h = name_spaced text h.0
token_spaced kind.Reserved text first h = name_spaced text (reserved_is_name text h)
token_spaced kind.Number text first h = number_spaced text h
token_spaced kind.Address text first h = address_spaced text h.0 h.1
token_spaced kind.Block text first h = block_spaced text h.0 h.1 h.2
token_spaced kind.Text text first h = absurd (begins_apart is_edge_byte 34 text refl (text_begins text h) first)
token_spaced kind.RawText text first h = absurd (begins_apart is_edge_byte 114 text refl (raw_begins text h) first)
token_spaced kind.ListName text first h = absurd (begins_apart is_edge_byte 36 text refl (list_name_begins text h) first)
token_spaced kind.Symbol text first h = absurd (both_ways _ (symbol_begins text h) first)

dots_unspaced : (more : ℕ) (rest : List ℕ) → is_spaced true (take more (46 ∷ rest)) ≡ false
dots_unspaced zero rest = refl
dots_unspaced (suc more) rest = refl

range_ends : (text rest : List ℕ) → begins_with is_edge_byte text ≡ true → EndsThere text (46 ∷ 46 ∷ rest)
range_ends text rest first = λ size other longer.
    both_ways _ (unspaced true text (take size (46 ∷ rest)) (dots_unspaced size rest))
    (token_spaced other (text ++ 46 ∷ take size (46 ∷ rest)) (begins-append is_edge_byte text (46 ∷ take size (46 ∷ rest)) first) longer)

longest_before_range : (text rest : List ℕ) (token_kind : TokenKind) → begins_with is_edge_byte text ≡ true → IsTokenOf token_kind text
    → IsLongest (text ++ 46 ∷ 46 ∷ rest) (length text) token_kind
longest_before_range text rest token_kind first h = longest_where token_kind text (46 ∷ 46 ∷ rest) h (range_ends text rest first)

-- ---- numbers and addresses begin so

digit_is_edge : (byte : ℕ) → is_digit byte ≡ true → is_edge_byte byte ≡ true
digit_is_edge byte h = grind (arith, nat_tests)

signed_begins : (n : ℤ) → IsInI64 n → begins_with is_edge_byte (signed n) ≡ true
signed_begins (pos n) h = let small : n < 2 ^ 64 = omega arith in
    begins_by is_digit is_edge_byte digit_is_edge (decimal n) (begins_from_all is_digit (decimal n) (decimal_nonempty n small) (decimal_digits n small))
signed_begins (negsuc n) h = refl

first_is_edge : (byte : ℕ) → is_first_byte byte ≡ true → is_edge_byte byte ≡ true
first_is_edge byte h = or_left (is_first_byte byte) (byte == 45) h

-- ---- what a range begins with

pub number_stands_before_range : (n : ℤ) (text rest : List ℕ) → number_of text ≡ Some n → StandsFor kind.Number (signed n) (46 ∷ 46 ∷ rest) (terminal.Number n)
number_stands_before_range n text rest h =
    let read : number_of (signed n) ≡ Some n = number_is_read n text h in record {
      longest = longest_before_range (signed n) rest kind.Number (signed_begins n (number_in_range text n h)) (ap is_some read);
      neighbour = refl;
      is_terminal = ap (option_map terminal.Number) read;
    }

pub address_stands_before_range : (a : Addr) (text rest : List ℕ) → IsAddrText text a → StandsFor kind.Address (addr_text a) (46 ∷ 46 ∷ rest) (terminal.Address a)
address_stands_before_range a text rest h =
    let read : IsAddrText (addr_text a) a = address_is_read a text h in record {
      longest = longest_before_range (addr_text a) rest kind.Address (begins_by is_first_byte is_edge_byte first_is_edge (addr_text a) (address_begins (addr_text a) a read))
          (a, read);
      neighbour = refl;
      is_terminal = (a, read, refl);
    }
