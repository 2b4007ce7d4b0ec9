-- Signs stand for their terminals before any rest.
use Rattle.std.proofs.Common.{◌≡◌, ℕ, ◌==◌, true, false, List, [], ◌∷◌, take, Option, Some, None, inl, inr, refl, sym, ◌∙◌, ap, arith}
use Rattle.std.proofs.lemmas.Bool.{cases_Bool, both_ways}
use Rattle.std.proofs.lemmas.Bool.Decides.{nat_tests}
use Rattle.edge_base.specs.declared.terminal.Terminal.{Terminal}
use Rattle.edge_base.specs.declared.terminal.Terminal.TheVariants as terminal
use Rattle.edge_base.specs.declared.token.TokenKind.{TokenKind}
use Rattle.edge_base.specs.declared.token.TokenKind.TheVariants as kind
use Rattle.edge_base.specs.Token.{is_digit, is_name_start, IsTokenOf}
use Rattle.edge_base.specs.Terminal.{symbol}
use Rattle.expr_lexer.specs.declared.scanner.State.{State}
use Rattle.expr_lexer.specs.declared.scanner.State.TheVariants as state
use Rattle.expr_lexer.specs.Scan.{kind_from, with_next, first_of, is_lone}
use Rattle.expr_lexer.specs.Fronts.{is_scanned}
use Rattle.expr_lexer.proofs.KindLemmas.{scan_gives}
use Rattle.expr_lexer.proofs.LongestLemmas.{shape_of, token_is_read}
use Rattle.expr_parser.proofs.BlockBytes.{is_first_byte, unscanned_begins}
use Rattle.expr_parser.proofs.LongestWhere.{EndsThere, longest_where, may_stand_anywhere}
use Rattle.expr_parser.proofs.Written.{StandsFor}

-- ---- signs of one byte that begin no other

record IsAlone (byte : ℕ) : Type 0 where
  letter : (byte == 114) ≡ false
  name : is_name_start byte ≡ false
  digit : is_digit byte ≡ false
  minus : (byte == 45) ≡ false
  quote : (byte == 34) ≡ false
  dollar : (byte == 36) ≡ false
  address : is_first_byte byte ≡ false

alone : (byte : ℕ) → is_lone byte ≡ true → IsAlone byte
alone byte h = record {
  letter = grind (arith, nat_tests);
  name = grind (arith, nat_tests);
  digit = grind (arith, nat_tests);
  minus = grind (arith, nat_tests);
  quote = grind (arith, nat_tests);
  dollar = grind (arith, nat_tests);
  address = grind (arith, nat_tests);
}

lone_is_whole : (byte : ℕ) → is_lone byte ≡ true → first_of byte ≡ Some (state.Whole kind.Symbol)
lone_is_whole byte lone = let a : IsAlone byte = alone byte lone in rw (a.letter, a.name, a.digit, a.minus, a.quote, a.dollar, lone) refl

lone_reads : (byte : ℕ) (text : List ℕ) → is_lone byte ≡ true → kind_from state.Start (byte ∷ text) ≡ kind_from (state.Whole kind.Symbol) text
lone_reads byte text lone = ap (λ (read : Option State). with_next read None (λ next. kind_from next text)) (lone_is_whole byte lone)

none_past_sign : (byte next : ℕ) (more : List ℕ) (other : TokenKind) → is_lone byte ≡ true → IsTokenOf other (byte ∷ next ∷ more) → ⊥
none_past_sign byte next more other lone longer = elim (cases_Bool (is_scanned other)) [
  | inl here ↦ let bad : None ≡ Some (shape_of other) = sym (lone_reads byte (next ∷ more) lone) ∙ token_is_read other (byte ∷ next ∷ more) here longer in cc
  | inr there ↦ both_ways (is_first_byte byte) (alone byte lone).address (unscanned_begins other (byte ∷ next ∷ more) there longer)
]

sign_ends : (byte : ℕ) (rest : List ℕ) → is_lone byte ≡ true → EndsThere (byte ∷ []) rest
sign_ends byte [] lone = tt
sign_ends byte (next ∷ behind) lone = λ size other longer. none_past_sign byte next (take size behind) other lone longer

pub sign_stands : (byte : ℕ) (rest : List ℕ) (t : Terminal) → is_lone byte ≡ true → symbol (byte ∷ []) ≡ Some t → StandsFor kind.Symbol (byte ∷ []) rest t
sign_stands byte rest t lone stands = record {
  longest = longest_where kind.Symbol (byte ∷ []) rest (scan_gives (byte ∷ []) kind.Symbol (lone_reads byte [] lone)) (sign_ends byte rest lone);
  neighbour = may_stand_anywhere kind.Symbol rest refl;
  is_terminal = stands;
}

-- ---- the sign of a range

none_past_range_sign : (next : ℕ) (more : List ℕ) (other : TokenKind) → IsTokenOf other (46 ∷ 46 ∷ next ∷ more) → ⊥
none_past_range_sign next more other longer = elim (cases_Bool (is_scanned other)) [
  | inl here ↦ let bad : None ≡ Some (shape_of other) = token_is_read other (46 ∷ 46 ∷ next ∷ more) here longer in cc
  | inr there ↦ let bad : false ≡ true = unscanned_begins other (46 ∷ 46 ∷ next ∷ more) there longer in cc
]

range_sign_ends : (rest : List ℕ) → EndsThere (46 ∷ 46 ∷ []) rest
range_sign_ends [] = tt
range_sign_ends (next ∷ behind) = λ size other longer. none_past_range_sign next (take size behind) other longer

pub range_sign_stands : (rest : List ℕ) → StandsFor kind.Symbol (46 ∷ 46 ∷ []) rest terminal.To
range_sign_stands rest = record {
  longest = longest_where kind.Symbol (46 ∷ 46 ∷ []) rest refl (range_sign_ends rest);
  neighbour = may_stand_anywhere kind.Symbol rest refl;
  is_terminal = refl;
}
