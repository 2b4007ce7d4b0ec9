-- What a token of the Rules language is, kind by kind, and what it stands for.
use Rattle.std.specs.Prelude.{◌≡◌, ℕ, ◌+◌, ◌-◌, ◌^◌, Bool, true, false, cond, not, ◌&&◌, ◌||◌, nat_eq, nat_le, ◌==◌, List, [], ◌∷◌, length, map, drop, replicate, slice_index, codes, bytes_eq, ℤ, pos, neg_ℤ, Option, Some, None, option_map, IsTrue, IsSome}
use Rattle.std.specs.List.{list_all, list_any, starts_with, slice_split, before_first, after_first, between, prefix_len}
use Rattle.std.specs.Str.Parse.{digits_value}
use Rattle.edge_base.specs.declared.address.Addr.{Addr}
use Rattle.edge_base.specs.declared.token.Token.{Token}
use Rattle.edge_base.specs.declared.token.TokenKind.{TokenKind}
use Rattle.edge_base.specs.declared.token.TokenKind.TheVariants as kind
use Rattle.edge_base.specs.Address.{IsAddrText}
use Rattle.edge_base.specs.Spellings.{spellings_of, reserved_words, symbols}
use Rattle.edge_base.specs.Bytes.{tab, newline, carriage_return, space, quote, number_sign, dollar, minus, dot, slash, digit_zero, digit_one, digit_nine, upper_a, upper_z, backslash, underscore, lower_a, lower_r, lower_z}

-- space, tab, CR and LF
abbrev pub is_blank_byte : ℕ → Bool
is_blank_byte byte = byte == space || byte == tab || byte == carriage_return || byte == newline

abbrev pub is_digit : ℕ → Bool
is_digit byte = nat_le digit_zero byte && nat_le byte digit_nine

abbrev pub is_lower : ℕ → Bool
is_lower byte = nat_le lower_a byte && nat_le byte lower_z

abbrev pub is_upper : ℕ → Bool
is_upper byte = nat_le upper_a byte && nat_le byte upper_z

-- a lower-case letter or `_`
abbrev pub is_name_start : ℕ → Bool
is_name_start byte = is_lower byte || byte == underscore

-- a lower-case letter, a digit or `_`
abbrev pub is_name_byte : ℕ → Bool
is_name_byte byte = is_name_start byte || is_digit byte

-- a letter, a digit or `_`
abbrev pub is_word_byte : ℕ → Bool
is_word_byte byte = is_name_byte byte || is_upper byte

-- a lower-case letter or `_`, and then lower-case letters, digits and `_`
abbrev pub is_part : List ℕ → Bool
is_part [] = false
is_part (byte ∷ text) = is_name_start byte && list_all is_name_byte text

-- parts joined by `.`
abbrev pub is_name : List ℕ → Bool
is_name text = list_all is_part (slice_split (λ byte. byte == dot) text)

abbrev pub is_reserved : List ℕ → Bool
is_reserved text = list_any (bytes_eq text) (spellings_of reserved_words)

-- digits of which the first is not `0`
abbrev pub is_counting : List ℕ → Bool
is_counting [] = false
is_counting (byte ∷ text) = nat_le digit_one byte && nat_le byte digit_nine && list_all is_digit text

-- the size that such digits write, where it is at most `most`
abbrev pub size_of : ℕ → List ℕ → Option ℕ
size_of most digits =
    cond (is_counting digits && nat_le (digits_value 10 digits) most) (Some (digits_value 10 digits)) None

-- the number within i64 that a text writes: `0`, or an optional `-` and digits that don't begin with `0`
abbrev pub number_of : List ℕ → Option ℤ
number_of [] = None
number_of (byte ∷ text) =
    cond (bytes_eq (byte ∷ text) (codes "0")) (Some (pos 0))
    (cond (byte == minus) (option_map (λ size. neg_ℤ (pos size)) (size_of (2 ^ 63) text))
    (option_map pos (size_of (2 ^ 63 - 1) (byte ∷ text))))

-- the bits of a block: `0`, or one to three digits that don't begin with `0`
abbrev pub bits_of : List ℕ → Option ℕ
bits_of text = cond (bytes_eq text (codes "0")) (Some 0) (size_of 999 text)

-- an address, `/` and bits
abbrev pub IsBlockText : List ℕ → Addr → ℕ → Type 0
IsBlockText text addr bits =
    IsAddrText (before_first (λ byte. byte == slash) text) addr
    × (bits_of (after_first (λ byte. byte == slash) text) ≡ Some bits)

-- the bytes that a text stands for from here to its closing `"`, which ends it; `escaped` behind a `\`
abbrev pub quoted_of : Bool → List ℕ → Option (List ℕ)
quoted_of escaped [] = None
quoted_of true (byte ∷ text) =
    cond (byte == quote || byte == backslash) (option_map (λ bytes. byte ∷ bytes) (quoted_of false text)) None
quoted_of false (byte ∷ text) =
    cond (byte == quote) (cond (length text == 0) (Some []) None)
    (cond (byte == backslash) (quoted_of true text) (option_map (λ bytes. byte ∷ bytes) (quoted_of false text)))

-- the bytes that a text in `"` stands for
abbrev pub quoted_text_of : List ℕ → Option (List ℕ)
quoted_text_of [] = None
quoted_text_of (byte ∷ text) = cond (byte == quote) (quoted_of false text) None

-- the bytes up to the first `"` with `marks` marks `#` behind it, which end the text
abbrev pub raw_bytes_of : ℕ → List ℕ → Option (List ℕ)
raw_bytes_of marks [] = None
raw_bytes_of marks (byte ∷ text) =
    cond (byte == quote && starts_with nat_eq text (replicate marks number_sign))
    (cond (length text == marks) (Some []) None)
    (option_map (λ bytes. byte ∷ bytes) (raw_bytes_of marks text))

-- how many marks `#` stand at the front
abbrev pub marks_of : List ℕ → ℕ
marks_of text = prefix_len (λ byte. byte == number_sign) text

-- the bytes that a raw text stands for: `r`, up to 8 marks, `"`, the bytes, `"` and as many marks
abbrev pub raw_text_of : List ℕ → Option (List ℕ)
raw_text_of [] = None
raw_text_of (byte ∷ text) =
    cond (byte == lower_r && nat_le (marks_of text) 8 && slice_index text (marks_of text) == quote)
    (raw_bytes_of (marks_of text) (drop (marks_of text + 1) text)) None

-- the list that `$` and one or more lower-case letters, digits or `_` name
abbrev pub list_name_of : List ℕ → Option (List ℕ)
list_name_of [] = None
list_name_of (byte ∷ text) =
    cond (byte == dollar && not (length text == 0) && list_all is_name_byte text) (Some text) None

abbrev pub is_symbol : List ℕ → Bool
is_symbol text = list_any (bytes_eq text) (spellings_of symbols)

-- a text is a token of this kind
abbrev pub IsTokenOf : TokenKind → List ℕ → Type 0
IsTokenOf kind.Name text = IsTrue (is_name text) × IsTrue (not (is_reserved text))
IsTokenOf kind.Reserved text = IsTrue (is_reserved text)
IsTokenOf kind.Number text = IsSome (number_of text)
IsTokenOf kind.Address text = (addr : Addr) × IsAddrText text addr
IsTokenOf kind.Block text = (addr : Addr) × (bits : ℕ) × IsBlockText text addr bits
IsTokenOf kind.Text text = IsSome (quoted_text_of text)
IsTokenOf kind.RawText text = IsSome (raw_text_of text)
IsTokenOf kind.ListName text = IsSome (list_name_of text)
IsTokenOf kind.Symbol text = IsTrue (is_symbol text)

-- a token as it is spelled
pub record Word : Type 0 where
  pub kind : TokenKind
  pub spelling : List ℕ

-- the tokens of a text as they are spelled
abbrev pub words_of : List ℕ → List Token → List Word
words_of text tokens = map (λ token. record { kind = token.kind; spelling = between token.start token.end text }) tokens
