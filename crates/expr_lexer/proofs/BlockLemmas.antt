-- The longest address and the longest block, by the stretch of bytes that an address can hold.
use Rattle.std.proofs.Common.{◌≡◌, ℕ, suc, zero, ◌+◌, ◌<◌, ◌≤◌, Bool, true, false, not, ◌==◌, nat_lt, unwrap_or, position, MatchOption, ltb-false, List, [], ◌∷◌, ◌++◌, length, take, drop, get_or, Option, Some, None, is_some, inl, inr, refl, sym, ◌∙◌, ap, subst, arith, eqb-true, zero-add, one-add, add-one, length-append, length-drop, take-append-drop, append_assoc, suc-add}
use Rattle.std.proofs.lemmas.Bool.{cases_Bool, and_parts}
use Rattle.std.proofs.lemmas.Bool.Decides.{nat_tests}
use Rattle.std.proofs.lemmas.List.{take_at, drop_at, length-take, length-take-le, get_or_at, drop-drop}
use Rattle.std.proofs.lemmas.Option.{cond_some}
use Rattle.std.specs.List.{list_all, position_or_len, before_first, after_first}
use Rattle.edge_base.specs.declared.address.Addr.{Addr}
use Rattle.edge_base.specs.declared.token.TokenKind.{TokenKind}
use Rattle.edge_base.specs.declared.token.TokenKind.TheVariants as kind
use Rattle.edge_base.specs.Address.{IsAddrText}
use Rattle.edge_base.specs.Token.{bits_of, IsBlockText, IsTokenOf}
use Rattle.edge_base.proofs.BlockLemmas.{is_slash, behind_slash, block_joined, block_splits}
use Rattle.expr_lexer.specs.declared.scanner.State.TheVariants as state
use Rattle.expr_lexer.specs.declared.fronts.Front.{Front}
use Rattle.expr_lexer.specs.Scan.{kind_from, is_address_byte, is_other_byte, stretch_of}
use Rattle.expr_lexer.specs.Fronts.{is_block, is_address, HasNoneAmong, IsAtLeast}
use Rattle.expr_lexer.proofs.StateLemmas.{kind_where, from_whole, not_zero}
use Rattle.expr_lexer.proofs.ByteLemmas.{all_by}
use Rattle.expr_lexer.proofs.KindLemmas.{from_counting}
use Rattle.expr_lexer.proofs.FrontLemmas.{HasNoneRead, IsLongestRead}
use Rattle.expr_lexer.proofs.AddressLemmas.{IsAddressFace, address_face}

-- ---- the stretch

passed : (byte : ℕ) → is_address_byte byte ≡ true → not (is_other_byte byte) ≡ true
passed byte h = rw h refl

stretch_covers_front : (size most : ℕ) (text : List ℕ) → size ≤ most → size ≤ length text → list_all is_address_byte (take size text) ≡ true
    → size ≤ position_or_len is_other_byte (take most text)
stretch_covers_front zero most text near within h = omega arith
stretch_covers_front (suc size) zero text near within h = absurd (omega arith)
stretch_covers_front (suc size) (suc most) [] near within h = absurd (omega arith)
stretch_covers_front (suc size) (suc most) (byte ∷ text) near within h =
    let both : (is_address_byte byte ≡ true) × (list_all is_address_byte (take size text) ≡ true) = and_parts _ _ h in
    let later : size ≤ position_or_len is_other_byte (take most text) = stretch_covers_front size most text (omega arith) (omega arith) both.1 in
    rw (passed byte both.0) (omega (arith, later))

place_fits : (test : ℕ → Bool) (text : List ℕ) → position_or_len test text ≤ length text
place_fits test [] = omega arith
place_fits test (byte ∷ text) = let later : position_or_len test text ≤ length text = place_fits test text in
    elim (cases_Bool (not (test byte))) [ inl here ↦ rw here (omega (arith, later)) | inr stop ↦ rw stop (omega arith) ]

pub stretch_within : (text : List ℕ) → stretch_of text ≤ length text
stretch_within text = omega (arith, place_fits is_other_byte (take 45 text), length-take 45 text)

-- ---- addresses

-- no address is longer than the stretch
pub address_in_stretch : (text : List ℕ) (size : ℕ) (a : Addr) → size ≤ length text → IsAddrText (take size text) a → size ≤ stretch_of text
address_in_stretch text size a within h =
    let face : IsAddressFace (take size text) = address_face (take size text) a h in
    stretch_covers_front size 45 text (omega (arith, face.short, length-take-le size text within)) within face.bytes

pub empty_is_no_address : (a : Addr) → ¬ (IsAddrText [] a)
empty_is_no_address a h = elim (address_face [] a h).sign [ inl colon ↦ cc | inr dotted ↦ (let bad : false ≡ true = dotted.0 in cc) ]

pub only_address : (token_kind : TokenKind) (text : List ℕ) → is_address token_kind ≡ true → IsTokenOf token_kind text → IsTokenOf kind.Address text
only_address kind.Address text among h = h
only_address kind.Name text among h = absurd (cc)
only_address kind.Reserved text among h = absurd (cc)
only_address kind.Number text among h = absurd (cc)
only_address kind.Block text among h = absurd (cc)
only_address kind.Text text among h = absurd (cc)
only_address kind.RawText text among h = absurd (cc)
only_address kind.ListName text among h = absurd (cc)
only_address kind.Symbol text among h = absurd (cc)

only_block : (token_kind : TokenKind) (text : List ℕ) → is_block token_kind ≡ true → IsTokenOf token_kind text → IsTokenOf kind.Block text
only_block kind.Block text among h = h
only_block kind.Name text among h = absurd (cc)
only_block kind.Reserved text among h = absurd (cc)
only_block kind.Number text among h = absurd (cc)
only_block kind.Address text among h = absurd (cc)
only_block kind.Text text among h = absurd (cc)
only_block kind.RawText text among h = absurd (cc)
only_block kind.ListName text among h = absurd (cc)
only_block kind.Symbol text among h = absurd (cc)

-- ---- blocks

front_stretch : (front rest : List ℕ) (most : ℕ) → list_all is_address_byte front ≡ true → length front ≤ most
    → position_or_len is_other_byte (take most (front ++ 47 ∷ rest)) ≡ length front
front_stretch [] rest zero h near = refl
front_stretch [] rest (suc most) h near = refl
front_stretch (byte ∷ front) rest zero h near = absurd (omega arith)
front_stretch (byte ∷ front) rest (suc most) h near =
    let both : (is_address_byte byte ≡ true) × (list_all is_address_byte front ≡ true) = and_parts _ _ h in
    rw (passed byte both.0, front_stretch front rest most both.1 (omega arith)) (one-add (length front))

address_byte_no_slash : (byte : ℕ) → is_address_byte byte ≡ true → not (is_slash byte) ≡ true
address_byte_no_slash byte h = grind (arith, nat_tests)

-- an address, `/` and bits are a block
pub block_text : (front rest : List ℕ) (a : Addr) (bits : ℕ) → IsAddrText front a → bits_of rest ≡ Some bits → IsBlockText (front ++ 47 ∷ rest) a bits
block_text front rest a bits h is =
    block_joined front rest a bits (all_by is_address_byte (λ byte. not (is_slash byte)) address_byte_no_slash front (address_face front a h).bytes) h is

zero_bits : (text : List ℕ) → kind_where (length text == 0) kind.Number ≡ kind_where (is_some (bits_of (48 ∷ text))) kind.Number
zero_bits [] = refl
zero_bits (byte ∷ text) = rw (not_zero (length text)) refl

pub from_bits : (text : List ℕ) → kind_from state.Bits text ≡ kind_where (is_some (bits_of text)) kind.Number
from_bits [] = refl
from_bits (byte ∷ text) = elim (cases_Bool (byte == 48)) [
  | inl is_zero ↦ rw (eqb-true byte 48 is_zero) (from_whole kind.Number text ∙ zero_bits text)
  | inr other ↦ rw other (rw other at (from_counting 999 byte text (omega arith)))
]

-- a block at the front of a text, in its parts
record IsBlockAt (text : List ℕ) (size : ℕ) : Type 0 where
  front : List ℕ
  bits : List ℕ
  behind : List ℕ
  a : Addr
  is_split : text ≡ front ++ 47 ∷ (bits ++ behind)
  is_address : IsAddrText front a
  read : kind_from state.Bits bits ≡ Some kind.Number
  is_size : size ≡ length front + 1 + length bits

block_at : (text : List ℕ) (size : ℕ) (a : Addr) (bits : ℕ) → size ≤ length text → IsBlockText (take size text) a bits → IsBlockAt text size
block_at text size a bits within h =
    let front = before_first is_slash (take size text) in
    let rest = after_first is_slash (take size text) in
    let parts : take size text ≡ front ++ 47 ∷ rest = block_splits (take size text) bits h.1 in
    record {
      front = front;
      bits = rest;
      behind = drop size text;
      a = a;
      is_split = sym (take-append-drop size text) ∙ ap (λ (l : List ℕ). l ++ drop size text) parts ∙ append_assoc front (47 ∷ rest) (drop size text);
      is_address = h.0;
      read = from_bits rest ∙ ap (λ (found : Option ℕ). kind_where (is_some found) kind.Number) h.1;
      is_size = sym (length-take-le size text within) ∙ ap length parts ∙ length-append front (47 ∷ rest)
          ∙ (let e : length front + suc (length rest) ≡ length front + 1 + length rest = omega arith in e);
    }

-- where the block's `/` stands
record IsSlashAt (text front rest : List ℕ) : Type 0 where
  place : stretch_of text ≡ length front
  within : stretch_of text < length text
  slash : get_or text (stretch_of text) 0 ≡ 47
  before : take (stretch_of text) text ≡ front
  after : drop (stretch_of text + 1) text ≡ rest

slash_in : (front rest : List ℕ) (a : Addr) → IsAddrText front a → IsSlashAt (front ++ 47 ∷ rest) front rest
slash_in front rest a h =
    let face : IsAddressFace front = address_face front a h in
    let place : stretch_of (front ++ 47 ∷ rest) ≡ length front = front_stretch front rest 45 face.bytes face.short in
    record {
      place = place;
      within = rw (place, length-append front (47 ∷ rest)) (omega arith);
      slash = rw place (get_or_at front 47 rest 0 (length front) refl);
      before = rw place (take_at front (47 ∷ rest) (length front) refl);
      after = rw place (behind_slash front rest);
    }

slash_at : (text front rest : List ℕ) (a : Addr) → text ≡ front ++ 47 ∷ rest → IsAddrText front a → IsSlashAt text front rest
slash_at text front rest a split h = subst (λ (t : List ℕ). IsSlashAt t front rest) (sym split) (slash_in front rest a h)

-- no block stands at the front where none of its parts does
no_block : (text : List ℕ)
    → (stretch_of text < length text → get_or text (stretch_of text) 0 ≡ 47 → (a : Addr) → IsAddrText (take (stretch_of text) text) a
    → ¬ (HasNoneRead state.Bits (drop (stretch_of text + 1) text)) → ⊥)
    → HasNoneAmong is_block text
no_block text lacks size token_kind among within token =
    let (a, bits, h) = only_block token_kind (take size text) among token in
    let b : IsBlockAt text size = block_at text size a bits within h in
    let at : IsSlashAt text b.front (b.bits ++ b.behind) = slash_at text b.front (b.bits ++ b.behind) b.a b.is_split b.is_address in
    lacks at.within at.slash b.a (subst (λ (t : List ℕ). IsAddrText t b.a) (sym at.before) b.is_address)
    (λ none. let unread : kind_from state.Bits (take (length b.bits) (drop (stretch_of text + 1) text)) ≡ None
    = none (length b.bits) (omega (arith, ap length at.after, length-append b.bits b.behind)) in
    let same : take (length b.bits) (drop (stretch_of text + 1) text) ≡ b.bits = ap (take (length b.bits)) at.after ∙ take_at b.bits b.behind (length b.bits) refl in
    let bad : None ≡ Some kind.Number = sym unread ∙ ap (kind_from state.Bits) same ∙ b.read in absurd (cc))

around_slash : (text : List ℕ) (at size : ℕ) → at < length text → get_or text at 0 ≡ 47 → take (at + 1 + size) text ≡ take at text ++ 47 ∷ take size (drop (at + 1) text)
around_slash [] at size within slash = absurd (omega arith)
around_slash (byte ∷ text) zero size within slash = rw (zero-add 1, one-add size) (ap (λ (b : ℕ). b ∷ take size text) slash)
around_slash (byte ∷ text) (suc at) size within slash =
    rw (add-one (suc at), suc-add (suc at) size) (ap (λ (rest : List ℕ). byte ∷ rest) (rw (add-one at) at (around_slash text at size (omega arith) slash)))

value_of : {A : Type 0} (found : Option A) → is_some found ≡ true → (x : A) × (found ≡ Some x)
value_of None h = absurd (cc)
value_of (Some x) h = (x, refl)

block_no_longer : (text : List ℕ) (bits : Front) (other : ℕ) → IsLongestRead state.Bits (drop (stretch_of text + 1) text) bits → other ≤ length text
    → IsTokenOf kind.Block (take other text) → other ≤ stretch_of text + 1 + bits.size
block_no_longer text bits other h fits (a, value, block) =
    let b : IsBlockAt text other = block_at text other a value fits block in
    let at : IsSlashAt text b.front (b.bits ++ b.behind) = slash_at text b.front (b.bits ++ b.behind) b.a b.is_split b.is_address in
    let same : take (length b.bits) (drop (stretch_of text + 1) text) ≡ b.bits = ap (take (length b.bits)) at.after ∙ take_at b.bits b.behind (length b.bits) refl in
    let longest : length b.bits ≤ bits.size = h.longest (length b.bits) kind.Number (omega (arith, ap length at.after, length-append b.bits b.behind))
    (ap (kind_from state.Bits) same ∙ b.read) in
    omega (arith, b.is_size, at.place)

block_is_longest : (text : List ℕ) (a : Addr) (bits : Front) → stretch_of text < length text → get_or text (stretch_of text) 0 ≡ 47
    → IsAddrText (take (stretch_of text) text) a → IsLongestRead state.Bits (drop (stretch_of text + 1) text) bits
    → IsAtLeast is_block text (record { size = stretch_of text + 1 + bits.size; kind = kind.Block })
block_is_longest text a bits within slash is_addr h =
    let rest = take bits.size (drop (stretch_of text + 1) text) in
    let read = cond_some (is_some (bits_of rest)) kind.Number bits.kind (sym (from_bits rest) ∙ h.read) in
    let (value, is) = value_of (bits_of rest) read.0 in
    record {
      within = omega (arith, h.within, length-drop (stretch_of text + 1) text);
      is_token = rw (around_slash text (stretch_of text) bits.size within slash)
          (a, value, block_text (take (stretch_of text) text) rest a value is_addr is);
      longest = λ other other_kind among fits token. block_no_longer text bits other h fits (only_block other_kind (take other text) among token);
    }

-- ---- the same at a place and a rest that are known by equations

pub no_block_at : (text : List ℕ) (at : ℕ) (rest : List ℕ) → at ≡ stretch_of text → rest ≡ drop (at + 1) text
    → (at < length text → get_or text at 0 ≡ 47 → (a : Addr) → IsAddrText (take at text) a → ¬ (HasNoneRead state.Bits rest) → ⊥)
    → HasNoneAmong is_block text
no_block_at text at rest place is lacks =
    no_block text (subst (λ (n : ℕ). n < length text → get_or text n 0 ≡ 47 → (a : Addr) → IsAddrText (take n text) a → ¬ (HasNoneRead state.Bits (drop (n + 1) text)) → ⊥) place
    (λ within slash a h some. lacks within slash a h (subst (λ (l : List ℕ). ¬ (HasNoneRead state.Bits l)) (sym is) some)))

pub block_is_longest_at : (text : List ℕ) (at : ℕ) (rest : List ℕ) (a : Addr) (bits : Front) → at ≡ stretch_of text → rest ≡ drop (at + 1) text
    → at < length text → get_or text at 0 ≡ 47 → IsAddrText (take at text) a → IsLongestRead state.Bits rest bits
    → IsAtLeast is_block text (record { size = at + 1 + bits.size; kind = kind.Block })
block_is_longest_at text at rest a bits place is within slash h read =
    subst (λ (n : ℕ). IsAtLeast is_block text (record { size = n + 1 + bits.size; kind = kind.Block })) (sym place)
    (block_is_longest text a bits (subst (λ (n : ℕ). n < length text) place within) (subst (λ (n : ℕ). get_or text n 0 ≡ 47) place slash)
    (subst (λ (n : ℕ). IsAddrText (take n text) a) place h)
    (subst (λ (n : ℕ). IsLongestRead state.Bits (drop (n + 1) text) bits) place (subst (λ (l : List ℕ). IsLongestRead state.Bits l bits) is read)))

-- ---- what an answer says, by whether there is one

pub some_from : {A : Type 0} (found : Option A) (P : Type 0) (Q : A → Type 0) → is_some found ≡ true → MatchOption found P Q → (x : A) × Q x
some_from None P Q some h = absurd (cc)
some_from (Some x) P Q some h = (x, h)

pub none_from : {A : Type 0} (found : Option A) (P : Type 0) (Q : A → Type 0) → is_some found ≡ false → MatchOption found P Q → P
none_from None P Q none h = h
none_from (Some x) P Q none h = absurd (cc)

-- ---- the place of the first byte that passes a test, or the length

pub place_or_length : (test : ℕ → Bool) (text : List ℕ) → unwrap_or (position test text) (length text) ≡ position_or_len test text
place_or_length test text = elim (cases_Bool (nat_lt (position_or_len test text) (length text))) [
  | inl there ↦ rw there refl
  | inr nowhere ↦ let past : length text ≤ position_or_len test text = ltb-false _ _ nowhere in rw nowhere (omega (arith, place_fits test text))
]
