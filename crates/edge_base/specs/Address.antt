-- Which texts stand for which addresses, and how an address is printed.
use Rattle.std.specs.Prelude.{◌≡◌, ℕ, ◌+◌, ◌*◌, ◌/◌, ◌%◌, ◌^◌, List, [], ◌∷◌}
use Rattle.std.specs.List.{fold}
use Rattle.std.specs.Net.Grammar.{IsDotted, IsColonHex}
use Rattle.std.specs.Net.Text.{dotted_text, compressed_text, longest_zero_run}
use Rattle.edge_base.specs.declared.address.Addr.{Addr}
use Rattle.edge_base.specs.declared.address.Addr.TheVariants as addr

-- the number that digits write in a base, the highest digit first
abbrev pub number_in_base : ℕ → List ℕ → ℕ
number_in_base base digits = fold (λ number digit. number * base + digit) 0 digits

-- the text stands for the address: as V4 four decimal numbers below 256, without leading zeros and with dots
-- between them; as V6 eight groups of one to four hexadecimal digits with colons between them, where `::` may
-- stand for one zero group or more, and a V4 text for the last two
abbrev pub IsAddrText : List ℕ → Addr → Type 0
IsAddrText text (addr.V4 number) = (octets : List ℕ) × IsDotted text octets × (number ≡ number_in_base 256 octets)
IsAddrText text (addr.V6 number) = (groups : List ℕ) × IsColonHex text groups × (number ≡ number_in_base 65536 groups)

-- a text stands for at most one address
abbrev pub AddressIsUnique : Type 0
AddressIsUnique = (text : List ℕ) (a b : Addr) → IsAddrText text a → IsAddrText text b → a ≡ b

-- the eight groups of a V6 address, the highest first
unfoldable pub groups_of : ℕ → List ℕ
groups_of number =
    number / 2 ^ 112 % 65536 ∷ number / 2 ^ 96 % 65536 ∷ number / 2 ^ 80 % 65536 ∷ number / 2 ^ 64 % 65536
    ∷ number / 2 ^ 48 % 65536 ∷ number / 2 ^ 32 % 65536 ∷ number / 2 ^ 16 % 65536 ∷ number % 65536 ∷ []

-- groups in lower case, without leading zeros and with colons between them; the longest run of two or more zero
-- groups, the first of equal ones, is `::`
unfoldable pub groups_text : List ℕ → List ℕ
groups_text groups = compressed_text groups (longest_zero_run groups)

-- how an address is printed
abbrev pub addr_text : Addr → List ℕ
addr_text (addr.V4 number) = dotted_text (number / 2 ^ 24 % 256) (number / 2 ^ 16 % 256) (number / 2 ^ 8 % 256) (number % 256)
addr_text (addr.V6 number) = groups_text (groups_of number)
