-- Of each text it can be told whether it is an address.
use Rattle.std.proofs.Common.{◌≡◌, ℕ, ◌⊎◌, inl, inr, List, [], ◌∷◌, ◌++◌, Option, Some, None, refl, sym, ◌∙◌, ap, subst, append-nil, lit≤, arith}
use Rattle.std.proofs.lemmas.Option.{none-some, same_Some}
use Rattle.std.specs.Net.Grammar.{IsDotted, IsColonHex}
use Rattle.std.specs.Net.Reader.{read_ipv4, read_ipv6}
use Rattle.std.proofs.NetLemmas.Ipv4.{read_ipv4_complete, read_ipv4_sound}
use Rattle.std.proofs.NetLemmas.Ipv6.{read_ipv6_complete, read_ipv6_sound}
use Rattle.edge_base.specs.declared.address.Addr.{Addr}
use Rattle.edge_base.specs.declared.address.Addr.TheVariants as addr
use Rattle.edge_base.specs.Address.{number_in_base, IsAddrText}

-- some value has the property, or none has it
abbrev pub Found : {A : Type 0} → (A → Type 0) → Type 0
Found {A} P = ((x : A) × P x) ⊎ ((x : A) → ¬ (P x))

-- ---- numbers that a text spells, by a reader that reads its grammar and nothing else

abbrev Read : Type 0
Read = Option (List ℕ × List ℕ)

module _ (Spells : List ℕ → List ℕ → Type 0) (reader : List ℕ → Read)
    (complete : (text numbers : List ℕ) → Spells text numbers → reader text ≡ Some (numbers, []))
    (sound : (text numbers : List ℕ) → reader text ≡ Some (numbers, []) → Spells text numbers) where
  found-read : (text : List ℕ) (read : Read) → reader text ≡ read → Found (Spells text)
  found-read text None is = inr (λ numbers spells. none-some (numbers, []) (sym is ∙ complete text numbers spells))
  found-read text (Some (numbers, [])) is = inl (numbers, sound text numbers is)
  found-read text (Some (numbers, byte ∷ rest)) is =
      inr (λ others spells. let ended = ap (λ p. p.1) (same_Some _ _ (sym (complete text others spells) ∙ is)) in absurd cc)

whole_ipv4 : (text octets : List ℕ) → IsDotted text octets → read_ipv4 text ≡ Some (octets, [])
whole_ipv4 text octets is = subst (λ whole. read_ipv4 whole ≡ Some (octets, [])) (append-nil text) (read_ipv4_complete text octets [] is (lit≤ tt))

sound_ipv4 : (text octets : List ℕ) → read_ipv4 text ≡ Some (octets, []) → IsDotted text octets
sound_ipv4 text octets is =
    let (front, is_text, is_dotted) = read_ipv4_sound text octets [] is in
    subst (λ whole. IsDotted whole octets) (sym (is_text ∙ append-nil front)) is_dotted

whole_ipv6 : (text groups : List ℕ) → IsColonHex text groups → read_ipv6 text ≡ Some (groups, [])
whole_ipv6 text groups is = subst (λ whole. read_ipv6 whole ≡ Some (groups, [])) (append-nil text) (read_ipv6_complete text groups [] is
    ((lit≤ tt, λ e. omega arith), λ e. absurd (omega arith)))

sound_ipv6 : (text groups : List ℕ) → read_ipv6 text ≡ Some (groups, []) → IsColonHex text groups
sound_ipv6 text groups is =
    let (front, is_text, is_hex) = read_ipv6_sound text groups [] is in
    subst (λ whole. IsColonHex whole groups) (sym (is_text ∙ append-nil front)) is_hex

pub found-dotted : (text : List ℕ) → Found (IsDotted text)
found-dotted text = found-read IsDotted read_ipv4 whole_ipv4 sound_ipv4 text (read_ipv4 text) refl

pub found-colon_hex : (text : List ℕ) → Found (IsColonHex text)
found-colon_hex text = found-read IsColonHex read_ipv6 whole_ipv6 sound_ipv6 text (read_ipv6 text) refl

-- ---- addresses

no_address : (text : List ℕ) → ((octets : List ℕ) → ¬ (IsDotted text octets)) → ((groups : List ℕ) → ¬ (IsColonHex text groups)) → (a : Addr) → ¬ (IsAddrText text a)
no_address text not_dotted not_hex (addr.V4 n) is = not_dotted is.0 is.1
no_address text not_dotted not_hex (addr.V6 n) is = not_hex is.0 is.1

of_parts : (text : List ℕ) → Found (IsDotted text) → Found (IsColonHex text) → Found (IsAddrText text)
of_parts text (inl (octets, is)) other = inl (addr.V4 (number_in_base 256 octets), (octets, is, refl))
of_parts text (inr not_dotted) (inl (groups, is)) = inl (addr.V6 (number_in_base 65536 groups), (groups, is, refl))
of_parts text (inr not_dotted) (inr not_hex) = inr (no_address text not_dotted not_hex)

pub found-address : (text : List ℕ) → Found (IsAddrText text)
found-address text = of_parts text (found-dotted text) (found-colon_hex text)
