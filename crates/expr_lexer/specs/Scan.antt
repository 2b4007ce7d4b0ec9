-- Working vocabulary, which no public clause cites.
-- The longest token other than an address or a block, read byte by byte.
use Rattle.std.specs.Prelude.{ℕ, ◌+◌, ◌-◌, ◌*◌, ◌^◌, Bool, cond, not, ◌&&◌, ◌||◌, nat_lt, nat_le, ◌==◌, List, [], ◌∷◌, take, Option, Some, None}
use Rattle.std.specs.List.{position_or_len}
use Rattle.edge_base.specs.declared.token.TokenKind.{TokenKind}
use Rattle.edge_base.specs.declared.token.TokenKind.TheVariants as kind
use Rattle.edge_base.specs.Token.{is_digit, is_name_start, is_name_byte}
use Rattle.expr_lexer.specs.declared.scanner.State.{State}
use Rattle.expr_lexer.specs.declared.scanner.State.TheVariants as state
use Rattle.edge_base.specs.Bytes.{exclamation, quote, number_sign, dollar, ampersand, open_parenthesis, close_parenthesis, star, comma, minus, dot, digit_zero, colon, less, equals, greater, upper_a, upper_f, open_bracket, backslash, close_bracket, caret, lower_a, lower_f, lower_r, open_brace, bar, close_brace, tilde}

-- a byte that an address can hold
abbrev pub is_address_byte : ℕ → Bool
is_address_byte byte = is_digit byte || nat_le lower_a byte && nat_le byte lower_f || nat_le upper_a byte && nat_le byte upper_f || byte == colon || byte == dot

abbrev pub is_other_byte : ℕ → Bool
is_other_byte byte = not (is_address_byte byte)

-- how many bytes at the front an address can hold, as far as one reaches
abbrev pub stretch_of : List ℕ → ℕ
stretch_of text = position_or_len is_other_byte (take 45 text)

abbrev pub digit_of : ℕ → ℕ → ℕ → Option State
digit_of most size byte =
    cond (is_digit byte)
    (cond (nat_le (size * 10 + (byte - digit_zero)) most) (Some (state.Digits most (size * 10 + (byte - digit_zero)))) None) None

abbrev pub counting_of : ℕ → ℕ → Option State
counting_of most byte = cond (byte == digit_zero) None (digit_of most 0 byte)

abbrev pub leading_digit_of : ℕ → ℕ → Option State
leading_digit_of most byte = cond (byte == digit_zero) (Some (state.Whole kind.Number)) (counting_of most byte)

abbrev pub is_lone : ℕ → Bool
is_lone byte = byte == open_parenthesis || byte == close_parenthesis || byte == open_bracket || byte == close_bracket
    || byte == open_brace || byte == close_brace || byte == comma || byte == star || byte == tilde

abbrev pub is_doubled : ℕ → Bool
is_doubled byte = byte == dot || byte == ampersand || byte == caret || byte == bar || byte == equals

abbrev pub is_comparison : ℕ → Bool
is_comparison byte = byte == exclamation || byte == less || byte == greater

abbrev pub symbol_of : ℕ → Option State
symbol_of byte =
    cond (is_lone byte) (Some (state.Whole kind.Symbol))
    (cond (is_comparison byte) (Some state.Comparison) (cond (is_doubled byte) (Some (state.Half byte)) None))

abbrev pub first_of : ℕ → Option State
first_of byte =
    cond (byte == lower_r) (Some state.Letter)
    (cond (is_name_start byte) (Some state.Part)
    (cond (is_digit byte) (leading_digit_of (2 ^ 63 - 1) byte)
    (cond (byte == minus) (Some state.Minus)
    (cond (byte == quote) (Some state.Quoted)
    (cond (byte == dollar) (Some state.Dollar) (symbol_of byte))))))

abbrev pub part_of : ℕ → Option State
part_of byte = cond (byte == dot) (Some state.Dot) (cond (is_name_byte byte) (Some state.Part) None)

abbrev pub marks_after : ℕ → ℕ → Option State
marks_after marks byte =
    cond (byte == quote) (Some (state.Raw marks)) (cond (byte == number_sign && nat_lt marks 8) (Some (state.Marks (marks + 1))) None)

abbrev pub raw_of : ℕ → ℕ → State
raw_of marks byte =
    cond (byte == quote) (cond (marks == 0) (state.Whole kind.RawText) (state.Closing marks marks)) (state.Raw marks)

abbrev pub closing_of : ℕ → ℕ → ℕ → State
closing_of marks left byte =
    cond (byte == number_sign) (cond (nat_le left 1) (state.Whole kind.RawText) (state.Closing marks (left - 1))) (raw_of marks byte)

abbrev pub quoted_after : ℕ → State
quoted_after byte = cond (byte == quote) (state.Whole kind.Text) (cond (byte == backslash) state.Escaped state.Quoted)

abbrev pub list_name_after : ℕ → Option State
list_name_after byte = cond (is_name_byte byte) (Some state.ListName) None

-- the state behind one more byte
abbrev pub next_of : State → ℕ → Option State
next_of state.Start byte = first_of byte
next_of state.Bits byte = leading_digit_of 999 byte
next_of state.Letter byte = cond (byte == number_sign) (Some (state.Marks 1)) (cond (byte == quote) (Some (state.Raw 0)) (part_of byte))
next_of state.Part byte = part_of byte
next_of state.Dot byte = cond (is_name_start byte) (Some state.Part) None
next_of state.Minus byte = counting_of (2 ^ 63) byte
next_of (state.Digits most size) byte = digit_of most size byte
next_of state.Quoted byte = Some (quoted_after byte)
next_of state.Escaped byte = cond (byte == quote || byte == backslash) (Some state.Quoted) None
next_of (state.Marks marks) byte = marks_after marks byte
next_of (state.Raw marks) byte = Some (raw_of marks byte)
next_of (state.Closing marks left) byte = Some (closing_of marks left byte)
next_of state.Dollar byte = list_name_after byte
next_of state.ListName byte = list_name_after byte
next_of state.Comparison byte = cond (byte == equals) (Some (state.Whole kind.Symbol)) None
next_of (state.Half first) byte = cond (byte == first) (Some (state.Whole kind.Symbol)) None
next_of (state.Whole token_kind) byte = None

-- the kind of the token that ends in this state, a reserved word being a name
abbrev pub kind_in : State → Option TokenKind
kind_in state.Letter = Some kind.Name
kind_in state.Part = Some kind.Name
kind_in (state.Digits most size) = Some kind.Number
kind_in state.ListName = Some kind.ListName
kind_in state.Comparison = Some kind.Symbol
kind_in (state.Whole token_kind) = Some token_kind
kind_in state.Start = None
kind_in state.Bits = None
kind_in state.Dot = None
kind_in state.Minus = None
kind_in state.Quoted = None
kind_in state.Escaped = None
kind_in (state.Marks marks) = None
kind_in (state.Raw marks) = None
kind_in (state.Closing marks left) = None
kind_in state.Dollar = None
kind_in (state.Half first) = None

-- what follows a step, or what stands for none
abbrev pub with_next : {A : Type 0} → Option State → A → (State → A) → A
with_next None stop go = stop
with_next (Some next) stop go = go next

-- the kind of the token that a whole text is, read from a state on
abbrev pub kind_from : State → List ℕ → Option TokenKind
kind_from from [] = kind_in from
kind_from from (byte ∷ text) = with_next (next_of from byte) None (λ next. kind_from next text)
