-- A printed address is read as the same one, and so is a printed block.
use Rattle.std.proofs.Common.{ℕ, zero, suc, ◌-◌, ◌^◌, ◌<◌, ◌≤◌, Bool, true, false, List, [], ◌∷◌, ◌++◌, length, get_or, replicate, codes, decimal, inl, inr, sym, subst, arith, append_assoc}
use Rattle.std.proofs.lemmas.Int.Digits.{digits_value-lt}
use Rattle.std.proofs.Math.Nat.{pow-le-pow_right}
use Rattle.std.proofs.NetLemmas.Arrays.{eight_items}
use Rattle.std.proofs.NetLemmas.Texts.{AllSegments}
use Rattle.std.specs.List.{after_first}
use Rattle.std.specs.Net.Addr.{segments_of}
use Rattle.std.specs.Net.Grammar.{IsDotted, IsGroup, IsGroupsAfter, IsColonHex}
use Rattle.edge_base.specs.declared.address.Addr.{Addr}
use Rattle.edge_base.specs.declared.address.Addr.TheVariants as addr
use Rattle.edge_base.specs.Address.{number_in_base, IsAddrText, addr_text}
use Rattle.edge_base.proofs.AddressLemmas.{length-groups, IsAddrText-printed_v4, IsAddrText-printed_v6}
use Rattle.edge_base.specs.Token.{IsBlockText}
use Rattle.edge_base.proofs.BlockLemmas.{is_slash}
use Rattle.expr_lexer.proofs.BlockLemmas.{block_text}
use Rattle.expr_parser.proofs.NumbersRead.{bits_are_read}

-- ---- the ranges of addresses

-- each is below 2^16
abbrev AreSegments : List ℕ → Type 0
AreSegments [] = Unit {0}
AreSegments (segment ∷ segments) = (segment < 65536) × AreSegments segments

group_small : (text : List ℕ) (segment : ℕ) → IsGroup text segment → segment < 65536
group_small text segment h =
    let below = digits_value-lt 16 text h.0.0.1 in
    let most : 16 ^ length text ≤ 16 ^ 4 = pow-le-pow_right (omega arith) h.1 in
    omega (arith, h.0.1)

dotted_small : (text octets : List ℕ) → IsDotted text octets → AreSegments (segments_of octets)
dotted_small text octets h = rw h.value (omega (arith, h.fit.0, h.fit.1), (omega (arith, h.fit.2, h.fit.3), tt))

groups_small : (ipv4 : Bool) (lead text segments : List ℕ) → IsGroupsAfter ipv4 lead text segments → AreSegments segments
groups_small ipv4 lead text [] h = tt
groups_small ipv4 lead text (segment ∷ segments) h = elim h [
  | inl more ↦ (group_small more.0 segment more.3, groups_small ipv4 (codes ":") more.1 segments more.4)
  | inr last ↦ subst AreSegments (sym last.5) (dotted_small last.0 last.1 last.4)
]

small-append : (some more : List ℕ) → AreSegments some → AreSegments more → AreSegments (some ++ more)
small-append [] more h k = k
small-append (segment ∷ some) more h k = (h.0, small-append some more h.1 k)

small-zeros : (n : ℕ) → AreSegments (replicate n 0)
small-zeros zero = tt
small-zeros (suc n) = (omega arith, small-zeros n)

colon_hex_small : (text segments : List ℕ) → IsColonHex text segments → AreSegments segments
colon_hex_small text segments (inl full) = groups_small true [] text segments full.0
colon_hex_small text segments (inr some) =
    let zeros = replicate (8 - length some.head - length some.tail) 0 in
    subst AreSegments (sym some.value)
    (small-append (some.head ++ zeros) some.tail
    (small-append some.head zeros (groups_small false [] some.head_text some.head some.head_groups) (small-zeros (8 - length some.head - length some.tail)))
    (groups_small true [] some.tail_text some.tail some.tail_groups))

each_small : (segments : List ℕ) → AreSegments segments → AllSegments segments
each_small [] h k = omega arith
each_small (segment ∷ segments) h k = elim k as (λ j. get_or (segment ∷ segments) j 0 < 2 ^ 16) [ zero ↦ h.0 | suc j ↦ each_small segments h.1 j ]

eight_small : (a b c d e f g h : ℕ) → a < 2 ^ 16 → b < 2 ^ 16 → c < 2 ^ 16 → d < 2 ^ 16 → e < 2 ^ 16 → f < 2 ^ 16 → g < 2 ^ 16 → h < 2 ^ 16
    → number_in_base 65536 (a ∷ b ∷ c ∷ d ∷ e ∷ f ∷ g ∷ h ∷ []) < 2 ^ 128
eight_small a b c d e f g h p q r s t u v w = omega arith

v6_small : (text segments : List ℕ) → IsColonHex text segments → number_in_base 65536 segments < 2 ^ 128
v6_small text segments h =
    let small : AllSegments segments = each_small segments (colon_hex_small text segments h) in
    let items = eight_items segments (length-groups text segments h) in
    subst (λ (l : List ℕ). number_in_base 65536 l < 2 ^ 128) (sym items) (eight_small _ _ _ _ _ _ _ _ (small 0) (small 1) (small 2) (small 3) (small 4) (small 5) (small 6) (small 7))

four_small : (a b c d : ℕ) → a < 256 → b < 256 → c < 256 → d < 256 → number_in_base 256 (a ∷ b ∷ c ∷ d ∷ []) < 2 ^ 32
four_small a b c d p q r s = omega arith

v4_small : (text octets : List ℕ) → IsDotted text octets → number_in_base 256 octets < 2 ^ 32
v4_small text octets h = subst (λ (l : List ℕ). number_in_base 256 l < 2 ^ 32) (sym h.value) (four_small h.a h.b h.c h.d h.fit.0 h.fit.1 h.fit.2 h.fit.3)

pub address_is_read : (a : Addr) (text : List ℕ) → IsAddrText text a → IsAddrText (addr_text a) a
address_is_read (addr.V4 n) text h = let small : n < 2 ^ 32 = omega (arith, v4_small text h.0 h.1, h.2) in IsAddrText-printed_v4 n small
address_is_read (addr.V6 n) text h = let small : n < 2 ^ 128 = omega (arith, v6_small text h.0 h.1, h.2) in IsAddrText-printed_v6 n small

-- ---- blocks

pub block_is_read : (a : Addr) (bits : ℕ) (text : List ℕ) → IsBlockText text a bits → IsBlockText (addr_text a ++ codes "/" ++ decimal bits) a bits
block_is_read a bits text h = rw (append_assoc (addr_text a) (codes "/") (decimal bits))
    (block_text (addr_text a) (decimal bits) a bits (address_is_read a _ h.0) (bits_are_read bits (after_first is_slash text) h.1))
