-- A token is the longest one at its place where nothing that goes on past it is a token, and may need nothing behind it.
use Rattle.std.proofs.Common.{◌≡◌, ℕ, suc, ◌+◌, ◌-◌, ◌<◌, ◌≤◌, true, false, List, [], ◌∷◌, ◌++◌, length, take, Option, Some, None, inl, inr, refl, sym, ◌∙◌, ap, subst, arith, length-append}
use Rattle.std.proofs.Math.Seq.{take-append_seam, take-append-add}
use Rattle.std.proofs.lemmas.Bool.{cases_lt}
use Rattle.edge_base.specs.declared.token.TokenKind.{TokenKind}
use Rattle.edge_base.specs.Token.{IsTokenOf}
use Rattle.edge_base.specs.Cut.{IsLongest, stands_apart, may_stand_before}
use Rattle.expr_lexer.specs.declared.scanner.State.{State}
use Rattle.expr_lexer.specs.Scan.{next_of, kind_in, kind_from, with_next}

-- no token goes on past the text into this rest
abbrev pub EndsThere : List ℕ → List ℕ → Type 0
EndsThere text [] = Unit {0}
EndsThere text (byte ∷ behind) = (size : ℕ) (other : TokenKind) → IsTokenOf other (text ++ byte ∷ take size behind) → ⊥

-- a front that goes on past the text holds the first byte of the rest
longer_front : (text : List ℕ) (byte : ℕ) (behind : List ℕ) (size : ℕ) → length text < size
    → take size (text ++ byte ∷ behind) ≡ text ++ byte ∷ take (size - length text - 1) behind
longer_front text byte behind size beyond =
    let parts : size ≡ length text + suc (size - length text - 1) = omega arith in
    ap (λ (n : ℕ). take n (text ++ byte ∷ behind)) parts ∙ take-append-add text (byte ∷ behind) (suc (size - length text - 1))

none_longer : (text rest : List ℕ) (size : ℕ) (other : TokenKind) → EndsThere text rest → length text < size → size ≤ length (text ++ rest)
    → IsTokenOf other (take size (text ++ rest)) → ⊥
none_longer text [] size other ends beyond within longer = omega (arith, length-append text [])
none_longer text (byte ∷ behind) size other ends beyond within longer =
    ends (size - length text - 1) other (subst (IsTokenOf other) (longer_front text byte behind size beyond) longer)

pub longest_where : (k : TokenKind) (text rest : List ℕ) → IsTokenOf k text → EndsThere text rest → IsLongest (text ++ rest) (length text) k
longest_where k text rest token ends = record {
  within = omega (arith, length-append text rest);
  is_token = subst (IsTokenOf k) (sym (take-append_seam text rest)) token;
  longest = λ other other_kind within longer. elim (cases_lt (length text) other) [
    | inl beyond ↦ absurd (none_longer text rest other other_kind ends beyond within longer)
    | inr fits ↦ fits
  ];
}

behind : (read : Option State) (k : TokenKind) (text longer : List ℕ) → ((next : State) → kind_from next text ≡ Some k → kind_from next longer ≡ None)
    → with_next read None (λ next. kind_from next text) ≡ Some k → with_next read None (λ next. kind_from next longer) ≡ None
behind None k text longer later h = refl
behind (Some next) k text longer later h = later next h

-- a kind whose tokens need nothing behind them to stand apart
pub may_stand_anywhere : (k : TokenKind) (rest : List ℕ) → stands_apart k ≡ false → may_stand_before k rest ≡ true
may_stand_anywhere k [] h = refl
may_stand_anywhere k (byte ∷ rest) h = rw h refl

-- where no state at which this kind ends reads the byte, nothing that goes on with it is read
pub read_no_further : (k : TokenKind) (byte : ℕ) (more : List ℕ) → ((from : State) → kind_in from ≡ Some k → next_of from byte ≡ None)
    → (from : State) (text : List ℕ) → kind_from from text ≡ Some k → kind_from from (text ++ byte ∷ more) ≡ None
read_no_further k byte more stops from [] h = ap (λ (read : Option State). with_next read None (λ next. kind_from next more)) (stops from h)
read_no_further k byte more stops from (first ∷ text) h =
    behind (next_of from first) k text (text ++ byte ∷ more) (λ next. read_no_further k byte more stops next text) h
