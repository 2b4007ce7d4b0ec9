-- The text of a block, taken apart at its `/` and put together.
use Rattle.std.proofs.Common.{◌≡◌, ℕ, suc, ◌+◌, Bool, true, false, not, ◌==◌, List, [], ◌∷◌, ◌++◌, length, drop, Some, inl, inr, refl, sym, ◌∙◌, ap, arith, eqb-true, one-add, add-one}
use Rattle.std.proofs.lemmas.Bool.{cases_Bool, and_parts}
use Rattle.std.proofs.lemmas.List.{take_at, drop_at, drop-drop}
use Rattle.std.specs.List.{list_all, position_or_len, before_first, after_first}
use Rattle.edge_base.specs.declared.address.Addr.{Addr}
use Rattle.edge_base.specs.Address.{IsAddrText}
use Rattle.edge_base.specs.Token.{bits_of, IsBlockText}

abbrev pub is_slash : ℕ → Bool
is_slash byte = byte == 47

no_slash : (byte : ℕ) → not (is_slash byte) ≡ true → is_slash byte ≡ false
no_slash byte h = grind arith

slash_place : (front rest : List ℕ) → list_all (λ byte. not (is_slash byte)) front ≡ true → position_or_len is_slash (front ++ 47 ∷ rest) ≡ length front
slash_place [] rest h = refl
slash_place (byte ∷ front) rest h =
    let both : (not (is_slash byte) ≡ true) × (list_all (λ byte. not (is_slash byte)) front ≡ true) = and_parts _ _ h in
    rw (no_slash byte both.0, slash_place front rest both.1) (one-add (length front))

pub behind_slash : (front rest : List ℕ) → drop (length front + 1) (front ++ 47 ∷ rest) ≡ rest
behind_slash front rest = sym (drop-drop 1 (length front) (front ++ 47 ∷ rest)) ∙ ap (drop 1) (drop_at front (47 ∷ rest) (length front) refl)

-- an address without `/`, `/` and bits are a block
pub block_joined : (front rest : List ℕ) (a : Addr) (bits : ℕ) → list_all (λ byte. not (is_slash byte)) front ≡ true
    → IsAddrText front a → bits_of rest ≡ Some bits → IsBlockText (front ++ 47 ∷ rest) a bits
block_joined front rest a bits none h is =
    let place : position_or_len is_slash (front ++ 47 ∷ rest) ≡ length front = slash_place front rest none in
    (rw (place, take_at front (47 ∷ rest) (length front) refl) h, rw (place, behind_slash front rest) is)

drop_past : (n : ℕ) (byte : ℕ) (text : List ℕ) → drop (1 + n + 1) (byte ∷ text) ≡ drop (n + 1) text
drop_past n byte text = rw (one-add n, add-one (suc n), add-one n) refl

after_other : (byte : ℕ) (text : List ℕ) → is_slash byte ≡ false → after_first is_slash (byte ∷ text) ≡ after_first is_slash text
after_other byte text other = rw other (drop_past (position_or_len is_slash text) byte text)

before_other : (byte : ℕ) (text : List ℕ) → is_slash byte ≡ false → before_first is_slash (byte ∷ text) ≡ byte ∷ before_first is_slash text
before_other byte text other = rw (other, one-add (position_or_len is_slash text)) refl

pub block_splits : (text : List ℕ) (bits : ℕ) → bits_of (after_first is_slash text) ≡ Some bits → text ≡ before_first is_slash text ++ 47 ∷ after_first is_slash text
block_splits [] bits h = absurd (cc)
block_splits (byte ∷ text) bits h = elim (cases_Bool (is_slash byte)) [
  | inl slash ↦ rw slash (ap (λ (b : ℕ). b ∷ text) (eqb-true byte 47 slash))
  | inr other ↦ ap (λ (rest : List ℕ). byte ∷ rest) (block_splits text bits (ap bits_of (sym (after_other byte text other)) ∙ h))
      ∙ ap (λ (rest : List ℕ). rest ++ 47 ∷ after_first is_slash text) (sym (before_other byte text other))
      ∙ ap (λ (rest : List ℕ). before_first is_slash (byte ∷ text) ++ 47 ∷ rest) (sym (after_other byte text other))
]
