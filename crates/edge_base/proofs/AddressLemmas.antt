-- Numbers of addresses, against the octets and groups that std's addresses hold.
use Rattle.std.proofs.Common.{◌≡◌, ℕ, zero, suc, ◌+◌, ◌-◌, ◌*◌, ◌/◌, ◌%◌, ◌^◌, ◌<◌, List, [], ◌∷◌, ◌++◌, length, get_or, replicate, refl, sym, ap, ◌∙◌, subst, arith, inl, inr, length-append}
use Rattle.std.proofs.lemmas.List.{length-replicate}
use Rattle.std.proofs.Math.Nat.{div-div-eq-div-mul}
use Rattle.std.specs.Int.{w32, w128, to_be_bytes, from_be_bytes}
use Rattle.std.specs.declared.net.ipv4_addr.Ipv4Addr.{Ipv4Addr}
use Rattle.std.specs.declared.net.ipv6_addr.Ipv6Addr.{Ipv6Addr}
use Rattle.std.specs.Net.Addr.{ipv4_octets, ipv6_segments, segments_of, octets_of, ipv4_bits, ipv6_bits, IsIpv4OfBits, IsIpv6OfBits}
use Rattle.std.specs.Net.Text.{ipv4_text, hex_groups_text}
use Rattle.std.specs.Net.Grammar.{IsDotted, IsColonHex, IsIpv4Text, IsIpv6Text}
use Rattle.std.proofs.NetLemmas.Arrays.{eight_items}
use Rattle.std.proofs.NetLemmas.Ipv6.{IsDotted-not_colon_hex}
use Rattle.std.proofs.NetLemmas.Texts.{AllSegments, IsColonHex-hex_groups_text}
use Rattle.std.proofs.NetLemmas.Theorems.{IsIpv4Text_unique, IsIpv6Text_unique}
use Rattle.edge_base.specs.declared.address.Addr.TheVariants as addr
use Rattle.edge_base.specs.Address.{number_in_base, IsAddrText, AddressIsUnique, groups_of, groups_text, addr_text}

number_in_base-four : (a b c d : ℕ) → from_be_bytes w32 (a ∷ b ∷ c ∷ d ∷ []) ≡ number_in_base 256 (a ∷ b ∷ c ∷ d ∷ [])
number_in_base-four a b c d = omega arith

-- a V4 text stands for the number of std's address
pub IsAddrText-ipv4 : (text : List ℕ) (a : Ipv4Addr) → IsIpv4Text text a → IsAddrText text (addr.V4 (ipv4_bits a))
unfolding ipv4_bits
IsAddrText-ipv4 text a h =
    (ipv4_octets a, h, rw h.value (number_in_base-four h.a h.b h.c h.d))

number_in_base-eight : (a b c d e f g h : ℕ) → from_be_bytes w128 (octets_of (a ∷ b ∷ c ∷ d ∷ e ∷ f ∷ g ∷ h ∷ [])) ≡ number_in_base 65536 (a ∷ b ∷ c ∷ d ∷ e ∷ f ∷ g ∷ h ∷ [])
number_in_base-eight a b c d e f g h = omega arith

length-filled : (head tail : List ℕ) (gap : ℕ) → length (head ++ replicate gap 0 ++ tail) ≡ length head + gap + length tail
length-filled head tail gap = simp (length-append, length-replicate)

-- what a V6 text spells has eight groups
pub length-groups : (text groups : List ℕ) → IsColonHex text groups → length groups ≡ 8
length-groups text groups (inl h) = h.1
length-groups text groups (inr h) =
    let whole = ap length h.value ∙ length-filled h.head h.tail (8 - length h.head - length h.tail) in
    omega (arith, h.room)

-- a V6 text stands for the number of std's address
pub IsAddrText-ipv6 : (text : List ℕ) (a : Ipv6Addr) → IsIpv6Text text a → IsAddrText text (addr.V6 (ipv6_bits a))
unfolding ipv6_bits
IsAddrText-ipv6 text a h =
    let g = ipv6_segments a in
    let items = eight_items g (length-groups text g h) in
    (g, h, subst (λ x. from_be_bytes w128 (octets_of x) ≡ number_in_base 65536 x) (sym items) (number_in_base-eight (get_or g 0 0) (get_or g 1 0) (get_or g 2 0) (get_or g 3 0) (get_or g 4 0) (get_or g 5 0) (get_or g 6 0) (get_or g 7 0)))

pub IsAddrText-unique : AddressIsUnique
IsAddrText-unique text (addr.V4 m) (addr.V4 n) h k =
    let same = IsIpv4Text_unique text (record { octets = h.0 }) (record { octets = k.0 }) h.1 k.1 in
    ap addr.V4 (h.2 ∙ ap (λ a. number_in_base 256 (ipv4_octets a)) same ∙ sym k.2)
IsAddrText-unique text (addr.V4 m) (addr.V6 n) h k = absurd (IsDotted-not_colon_hex text h.0 k.0 h.1 k.1)
IsAddrText-unique text (addr.V6 m) (addr.V4 n) h k = absurd (IsDotted-not_colon_hex text k.0 h.0 k.1 h.1)
IsAddrText-unique text (addr.V6 m) (addr.V6 n) h k =
    let same = IsIpv6Text_unique text (record { segments = h.0 }) (record { segments = k.0 }) h.1 k.1 in
    ap addr.V6 (h.2 ∙ ap (λ a. number_in_base 65536 (ipv6_segments a)) same ∙ sym k.2)

-- what std writes of the V4 address of a number
pub ipv4_text-number : (n : ℕ) (a : Ipv4Addr) → IsIpv4OfBits a n → ipv4_text (ipv4_octets a) ≡ addr_text (addr.V4 n)
unfolding IsIpv4OfBits
ipv4_text-number n a h = ap ipv4_text h

-- two octets next to each other are a group
two_octets : (n high low : ℕ) → high ≡ low * 256 → n / high % 256 * 256 + n / low % 256 ≡ n / low % 65536
two_octets n high low e =
    let m = n / low in
    let down : n / high ≡ m / 256 = ap (λ x. n / x) e ∙ sym (div-div-eq-div-mul n low 256) in
    rw down (omega arith)

last_octets : (n : ℕ) → n / 256 % 256 * 256 + n % 256 ≡ n % 65536
last_octets n = omega arith

segments_of-number : (n : ℕ) → segments_of (to_be_bytes w128 n) ≡ groups_of n
unfolding groups_of
segments_of-number n =
    rw (
      two_octets n (256 ^ 15) (256 ^ 14) refl,
      two_octets n (256 ^ 13) (256 ^ 12) refl,
      two_octets n (256 ^ 11) (256 ^ 10) refl,
      two_octets n (256 ^ 9) (256 ^ 8) refl,
      two_octets n (256 ^ 7) (256 ^ 6) refl,
      two_octets n (256 ^ 5) (256 ^ 4) refl,
      two_octets n (256 ^ 3) (256 ^ 2) refl,
      last_octets n,
    )

-- what std writes of the V6 address of a number, without a V4 tail
pub hex_groups_text-number : (n : ℕ) (a : Ipv6Addr) → IsIpv6OfBits a n → hex_groups_text (ipv6_segments a) ≡ addr_text (addr.V6 n)
unfolding IsIpv6OfBits hex_groups_text groups_text
hex_groups_text-number n a h = ap hex_groups_text (h ∙ segments_of-number n)

AllSegments-more : (x : ℕ) (xs : List ℕ) → x < 2 ^ 16 → AllSegments xs → AllSegments (x ∷ xs)
AllSegments-more x xs small all k = elim k as (λ j. get_or (x ∷ xs) j 0 < 2 ^ 16) [ zero ↦ small | suc j ↦ all j ]

AllSegments-groups_of : (n : ℕ) → AllSegments (groups_of n)
unfolding groups_of
AllSegments-groups_of n =
    let h = n % 65536 ∷ [] in
    let g = n / 2 ^ 16 % 65536 ∷ h in
    let f = n / 2 ^ 32 % 65536 ∷ g in
    let e = n / 2 ^ 48 % 65536 ∷ f in
    let d = n / 2 ^ 64 % 65536 ∷ e in
    let c = n / 2 ^ 80 % 65536 ∷ d in
    let b = n / 2 ^ 96 % 65536 ∷ c in
    AllSegments-more (n / 2 ^ 112 % 65536) b (omega arith) (AllSegments-more (n / 2 ^ 96 % 65536) c (omega arith)
    (AllSegments-more (n / 2 ^ 80 % 65536) d (omega arith) (AllSegments-more (n / 2 ^ 64 % 65536) e (omega arith)
    (AllSegments-more (n / 2 ^ 48 % 65536) f (omega arith) (AllSegments-more (n / 2 ^ 32 % 65536) g (omega arith)
    (AllSegments-more (n / 2 ^ 16 % 65536) h (omega arith) (AllSegments-more (n % 65536) [] (omega arith) (λ k. omega arith))))))))

-- a number by its quotient one group higher
up : (n low high : ℕ) → high ≡ low * 65536 → n / low ≡ n / high * 65536 + n / low % 65536
up n low high e =
    let m = n / low in
    let down : n / high ≡ m / 65536 = ap (λ x. n / x) e ∙ sym (div-div-eq-div-mul n low 65536) in
    rw down (omega arith)

number_in_base-groups_of : (n : ℕ) → n < 2 ^ 128 → n ≡ number_in_base 65536 (groups_of n)
unfolding groups_of
number_in_base-groups_of n small =
    let first : n / 2 ^ 112 < 65536 = omega arith in
    let a = up n (2 ^ 96) (2 ^ 112) refl in
    let b = up n (2 ^ 80) (2 ^ 96) refl in
    let c = up n (2 ^ 64) (2 ^ 80) refl in
    let d = up n (2 ^ 48) (2 ^ 64) refl in
    let e = up n (2 ^ 32) (2 ^ 48) refl in
    let f = up n (2 ^ 16) (2 ^ 32) refl in
    omega arith

-- a printed address is read as the same one
pub IsAddrText-printed_v4 : (n : ℕ) → n < 2 ^ 32 → IsAddrText (addr_text (addr.V4 n)) (addr.V4 n)
IsAddrText-printed_v4 n small =
    let octets = n / 2 ^ 24 % 256 ∷ n / 2 ^ 16 % 256 ∷ n / 2 ^ 8 % 256 ∷ n % 256 ∷ [] in
    let dotted : IsDotted (addr_text (addr.V4 n)) octets = record {
      a = n / 2 ^ 24 % 256;
      b = n / 2 ^ 16 % 256;
      c = n / 2 ^ 8 % 256;
      d = n % 256;
      fit = (omega arith, omega arith, omega arith, omega arith);
      value = refl;
      spelled = refl;
    } in
    (octets, dotted, omega arith)

pub IsAddrText-printed_v6 : (n : ℕ) → n < 2 ^ 128 → IsAddrText (addr_text (addr.V6 n)) (addr.V6 n)
unfolding hex_groups_text groups_text
IsAddrText-printed_v6 n small =
    let eight : length (groups_of n) ≡ 8 = unfold groups_of in refl in
    (groups_of n, IsColonHex-hex_groups_text (groups_of n) eight (AllSegments-groups_of n), number_in_base-groups_of n small)
