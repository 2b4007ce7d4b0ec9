-- How texts are escaped where they are printed, and how numbers and truth values are written.
use Rattle.std.specs.Prelude.{ℕ, suc, ◌+◌, ◌-◌, ◌/◌, ◌%◌, ℤ, pos, negsuc, Bool, true, false, ◌&&◌, not, nat_lt, ◌==◌, cond}
use Rattle.std.specs.Prelude.{List, [], ◌∷◌, ◌++◌, codes, decimal}
use Rattle.edge_base.specs.Bytes.{space, percent, comma, minus, digit_zero, upper_a, delete}

-- a byte that is printed as itself: none up to the blank, none from 0x7F on, no `%` and no `,`
abbrev pub is_printed_byte : ℕ → Bool
is_printed_byte byte = nat_lt space byte && nat_lt byte delete && not (byte == percent) && not (byte == comma)

-- a digit of a number in base 16, in upper case
abbrev pub hex_digit : ℕ → ℕ
hex_digit n = cond (nat_lt n 10) (digit_zero + n) (upper_a + (n - 10))

-- one byte as it is printed
abbrev pub escaped_byte : ℕ → List ℕ
escaped_byte byte = cond (is_printed_byte byte) (byte ∷ []) (percent ∷ hex_digit (byte / 16) ∷ hex_digit (byte % 16) ∷ [])

-- a text as it is printed
abbrev pub escaped : List ℕ → List ℕ
escaped [] = []
escaped (byte ∷ text) = escaped_byte byte ++ escaped text

-- a number in decimal, with `-` before a negative one
abbrev pub signed : ℤ → List ℕ
signed (pos n) = decimal n
signed (negsuc n) = minus ∷ decimal (suc n)

-- a truth value as a word
abbrev pub truth_word : Bool → List ℕ
truth_word true = codes "true"
truth_word false = codes "false"
