-- A text in quotes stands for its terminal before any rest.
use Rattle.std.proofs.Common.{◌≡◌, ℕ, ◌==◌, ◌||◌, true, false, List, [], ◌∷◌, ◌++◌, take, Some, None, is_some, option_map, inl, inr, refl, sym, ◌∙◌, ap}
use Rattle.std.proofs.lemmas.Bool.{cases_Bool, or_parts}
use Rattle.edge_base.specs.declared.terminal.Terminal.TheVariants as terminal
use Rattle.edge_base.specs.declared.token.TokenKind.{TokenKind}
use Rattle.edge_base.specs.declared.token.TokenKind.TheVariants as kind
use Rattle.edge_base.specs.Token.{quoted_of, quoted_text_of, IsTokenOf}
use Rattle.expr_lexer.specs.declared.scanner.State.{State}
use Rattle.expr_lexer.specs.declared.scanner.State.TheVariants as state
use Rattle.expr_lexer.specs.Scan.{next_of, kind_in, kind_from}
use Rattle.expr_lexer.specs.Fronts.{is_scanned}
use Rattle.expr_lexer.proofs.LongestLemmas.{shape_of, token_is_read}
use Rattle.expr_parser.specs.Spelling.{escaped_text, quoted}
use Rattle.expr_parser.proofs.BlockBytes.{unscanned_begins}
use Rattle.expr_parser.proofs.LongestWhere.{EndsThere, longest_where, may_stand_anywhere, read_no_further}
use Rattle.expr_parser.proofs.Written.{StandsFor}

-- ---- what is between the quotes

escaped_reads : (text : List ℕ) → quoted_of false (escaped_text text ++ 34 ∷ []) ≡ Some text
escaped_reads [] = refl
escaped_reads (byte ∷ text) = elim (cases_Bool (byte == 34 || byte == 92)) [
  | inl special ↦ rw (special, special) (ap (option_map (λ (bytes : List ℕ). byte ∷ bytes)) (escaped_reads text))
  | inr other ↦ let both = or_parts (byte == 34) (byte == 92) other in rw (other, both.0, both.1) (ap (option_map (λ (bytes : List ℕ). byte ∷ bytes)) (escaped_reads text))
]

quoted_reads : (text : List ℕ) → quoted_text_of (quoted text) ≡ Some text
quoted_reads text = escaped_reads text

-- ---- nothing goes on past the closing quote

text_stops : (byte : ℕ) (from : State) → kind_in from ≡ Some kind.Text → next_of from byte ≡ None
text_stops byte (state.Whole token_kind) h = refl
text_stops byte state.Letter h = absurd (cc)
text_stops byte state.Part h = absurd (cc)
text_stops byte (state.Digits most size) h = absurd (cc)
text_stops byte state.ListName h = absurd (cc)
text_stops byte state.Comparison h = absurd (cc)
text_stops byte state.Start h = absurd (cc)
text_stops byte state.Bits h = absurd (cc)
text_stops byte state.Dot h = absurd (cc)
text_stops byte state.Minus h = absurd (cc)
text_stops byte state.Quoted h = absurd (cc)
text_stops byte state.Escaped h = absurd (cc)
text_stops byte (state.Marks marks) h = absurd (cc)
text_stops byte (state.Raw marks) h = absurd (cc)
text_stops byte (state.Closing marks left) h = absurd (cc)
text_stops byte state.Dollar h = absurd (cc)
text_stops byte (state.Half first) h = absurd (cc)

none_past_text : (text : List ℕ) (byte : ℕ) (more : List ℕ) (other : TokenKind) → IsTokenOf other (quoted text ++ byte ∷ more) → ⊥
none_past_text text byte more other longer = elim (cases_Bool (is_scanned other)) [
  | inl here ↦
      let read : kind_from state.Start (quoted text) ≡ Some kind.Text = token_is_read kind.Text (quoted text) refl (ap is_some (quoted_reads text)) in
      let none : kind_from state.Start (quoted text ++ byte ∷ more) ≡ None = read_no_further kind.Text byte more (text_stops byte) state.Start (quoted text) read in
      let bad : None ≡ Some (shape_of other) = sym none ∙ token_is_read other (quoted text ++ byte ∷ more) here longer in cc
  | inr there ↦ let bad : false ≡ true = unscanned_begins other (quoted text ++ byte ∷ more) there longer in cc
]

text_ends : (text rest : List ℕ) → EndsThere (quoted text) rest
text_ends text [] = tt
text_ends text (byte ∷ behind) = λ size other longer. none_past_text text byte (take size behind) other longer

pub text_stands : (text rest : List ℕ) → StandsFor kind.Text (quoted text) rest (terminal.Text text)
text_stands text rest = record {
  longest = longest_where kind.Text (quoted text) rest (ap is_some (quoted_reads text)) (text_ends text rest);
  neighbour = may_stand_anywhere kind.Text rest refl;
  is_terminal = ap (option_map terminal.Text) (quoted_reads text);
}
