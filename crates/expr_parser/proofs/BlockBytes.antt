-- The bytes of addresses and blocks: which they are, and with which they begin.
use Rattle.std.proofs.Common.{◌≡◌, ℕ, Bool, true, false, ◌&&◌, ◌||◌, ◌==◌, List, [], ◌∷◌, is_some, Some, codes, bytes_eq, inl, inr, refl, sym, ◌∙◌, ap, subst}
use Rattle.std.proofs.lemmas.Bool.{cases_Bool, and_parts, and_from, or_left}
use Rattle.std.proofs.lemmas.List.Folds.{list_all-append}
use Rattle.std.proofs.lemmas.Slice.Eq.{bytes_eq-Decides}
use Rattle.std.specs.List.{list_all, before_first, after_first}
use Rattle.edge_base.specs.declared.address.Addr.{Addr}
use Rattle.edge_base.specs.declared.token.TokenKind.{TokenKind}
use Rattle.edge_base.specs.Address.{IsAddrText}
use Rattle.edge_base.specs.Token.{is_digit, bits_of, IsBlockText, IsTokenOf}
use Rattle.expr_lexer.specs.Scan.{is_address_byte}
use Rattle.expr_lexer.specs.Fronts.{is_scanned}
use Rattle.expr_lexer.proofs.ByteLemmas.{begins_with, begins-append, all_by}
use Rattle.expr_lexer.proofs.StateLemmas.{is_dot}
use Rattle.expr_lexer.proofs.KindLemmas.{size_digits}
use Rattle.expr_lexer.proofs.ApartLemmas.{unscanned_cases}
use Rattle.expr_lexer.proofs.AddressLemmas.{address_face}
use Rattle.edge_base.proofs.BlockLemmas.{is_slash, block_splits}
use Rattle.expr_parser.proofs.Dots.{is_spaced, is_no_dot, address_spaced}

-- a byte that an address or a block can hold
abbrev pub is_block_byte : ℕ → Bool
is_block_byte byte = is_address_byte byte || byte == 47

pub bits_are_digits : (text : List ℕ) (bits : ℕ) → bits_of text ≡ Some bits → list_all is_digit text ≡ true
bits_are_digits text bits h = elim (cases_Bool (bytes_eq text (codes "0"))) [
  | inl lone ↦ subst (λ (t : List ℕ). list_all is_digit t ≡ true) (sym ((bytes_eq-Decides text (codes "0")).0 lone)) refl
  | inr other ↦ size_digits 999 text (ap is_some (rw other at h))
]

digit_is_block_byte : (byte : ℕ) → is_digit byte ≡ true → is_block_byte byte ≡ true
digit_is_block_byte byte h = rw h refl

address_byte_is_block_byte : (byte : ℕ) → is_address_byte byte ≡ true → is_block_byte byte ≡ true
address_byte_is_block_byte byte h = or_left _ _ h

address_bytes : (text : List ℕ) (a : Addr) → IsAddrText text a → list_all is_block_byte text ≡ true
address_bytes text a h = all_by is_address_byte is_block_byte address_byte_is_block_byte text (address_face text a h).bytes

block_bytes : (text : List ℕ) (a : Addr) (bits : ℕ) → IsBlockText text a bits → list_all is_block_byte text ≡ true
block_bytes text a bits h = subst (λ (t : List ℕ). list_all is_block_byte t ≡ true) (sym (block_splits text bits h.1))
    (list_all-append is_block_byte (before_first is_slash text) (47 ∷ after_first is_slash text)
    ∙ and_from _ _ (address_bytes (before_first is_slash text) a h.0)
    (all_by is_digit is_block_byte digit_is_block_byte (after_first is_slash text) (bits_are_digits (after_first is_slash text) bits h.1)))

pub unscanned_bytes : (k : TokenKind) (text : List ℕ) → is_scanned k ≡ false → IsTokenOf k text → list_all is_block_byte text ≡ true
unscanned_bytes k text among = unscanned_cases (λ (j : TokenKind). IsTokenOf j text → list_all is_block_byte text ≡ true) k among
    (λ h. address_bytes text h.0 h.1)
    (λ h. block_bytes text h.0 h.1 h.2)

-- ---- the first byte

-- a byte with which an address can begin: no dot
abbrev pub is_first_byte : ℕ → Bool
is_first_byte byte = is_address_byte byte && is_no_dot byte

undotted_is_first : (byte : ℕ) → is_address_byte byte ≡ true → is_dot byte ≡ false → is_first_byte byte ≡ true
undotted_is_first byte h k = rw (h, k) refl

spaced_begins : (text : List ℕ) → list_all is_address_byte text ≡ true → is_spaced true text ≡ true → begins_with is_first_byte text ≡ true
spaced_begins [] h spaced = absurd (cc)
spaced_begins (byte ∷ text) h spaced = elim (cases_Bool (is_dot byte)) [
  | inl dot ↦ absurd (let bad : false ≡ true = rw dot at spaced in cc)
  | inr other ↦ undotted_is_first byte (and_parts _ _ h).0 other
]

pub address_begins : (text : List ℕ) (a : Addr) → IsAddrText text a → begins_with is_first_byte text ≡ true
address_begins text a h = spaced_begins text (address_face text a h).bytes (address_spaced text a h)

block_begins : (text : List ℕ) (a : Addr) (bits : ℕ) → IsBlockText text a bits → begins_with is_first_byte text ≡ true
block_begins text a bits h = subst (λ (t : List ℕ). begins_with is_first_byte t ≡ true) (sym (block_splits text bits h.1))
    (begins-append is_first_byte (before_first is_slash text) (47 ∷ after_first is_slash text) (address_begins (before_first is_slash text) a h.0))

pub unscanned_begins : (k : TokenKind) (text : List ℕ) → is_scanned k ≡ false → IsTokenOf k text → begins_with is_first_byte text ≡ true
unscanned_begins k text among = unscanned_cases (λ (j : TokenKind). IsTokenOf j text → begins_with is_first_byte text ≡ true) k among
    (λ h. address_begins text h.0 h.1)
    (λ h. block_begins text h.0 h.1 h.2)
