-- Each text has an answer of the parser.
use Rattle.std.proofs.Common.{◌≡◌, ◌≢◌, ◌⊎◌, ◌≤◌, ◌<◌, ◌||◌, ℕ, Bool, true, false, bytes_eq, cond, List, [], ◌∷◌, length, Option, Some, None, IsSome, IsTrue, option_map, Result, Ok, Err, refl, inl, inr}
use Rattle.std.proofs.lemmas.Bool.{cases_lt}
use Rattle.std.specs.List.{list_any, between}
use Rattle.edge_base.specs.declared.expression.Expr.{Expr}
use Rattle.edge_base.specs.declared.terminal.Terminal.{Terminal}
use Rattle.edge_base.specs.declared.terminal.Terminal.TheVariants as terminal
use Rattle.edge_base.specs.declared.token.Token.{Token}
use Rattle.edge_base.specs.declared.token.TokenKind.{TokenKind}
use Rattle.edge_base.specs.declared.token.TokenKind.TheVariants as kind
use Rattle.edge_base.specs.Cut.{IsCutBetween, IsCut, IsFirstFault}
use Rattle.edge_base.specs.Nesting.{nesting}
use Rattle.edge_base.specs.Spellings.{Spelling, reserved_words, symbols, spellings_of}
use Rattle.edge_base.specs.Terminal.{spelled, IsTerminalOf, AreTerminals}
use Rattle.edge_base.specs.Token.{IsTokenOf, words_of, number_of, quoted_text_of, raw_text_of, list_name_of}
use Rattle.expr_lexer.proofs.WholeLemmas.{cut_or_fault}
use Rattle.expr_parser.specs.Machine.{start, outcome, taken}
use Rattle.expr_parser.specs.Parsed.{IsTokenized, place_of, IsAnswer, HasAnswer, EachTextHasAnAnswer}
use Rattle.expr_parser.specs.declared.grammar.ParseFault.TheVariants as fault
use Rattle.expr_parser.proofs.Faults.{refused_is_fault}
use Rattle.expr_parser.proofs.Steps.{read_is_derived}

-- ---- each token is a terminal

spelled_test : (b : Bool) (t : Terminal) (all : List Spelling) (text : List ℕ) → (IsTrue (list_any (bytes_eq text) (spellings_of all)) → (t : Terminal) × (spelled all text ≡ Some t))
    → IsTrue (b || list_any (bytes_eq text) (spellings_of all)) → (found : Terminal) × (cond b (Some t) (spelled all text) ≡ Some found)
spelled_test true t all text goes is = (t, refl)
spelled_test false t all text goes is = goes is

spelled_found : (all : List Spelling) (text : List ℕ) → IsTrue (list_any (bytes_eq text) (spellings_of all)) → (t : Terminal) × (spelled all text ≡ Some t)
spelled_found [] text is = absurd (cc)
spelled_found (s ∷ rest) text is = spelled_test (bytes_eq text s.spelling) s.stands_for rest text (λ found. spelled_found rest text found) is

mapped_found : {A : Type 0} (f : A → Terminal) (o : Option A) → IsSome o → (t : Terminal) × (option_map f o ≡ Some t)
mapped_found f (Some a) is = (f a, refl)
mapped_found f None is = absurd (cc)

terminal_found : (k : TokenKind) (text : List ℕ) → IsTokenOf k text → (t : Terminal) × IsTerminalOf k text t
terminal_found kind.Name text is = (terminal.Name text, refl)
terminal_found kind.Reserved text is = spelled_found reserved_words text is
terminal_found kind.Number text is = mapped_found terminal.Number (number_of text) is
terminal_found kind.Address text (addr, is) = (terminal.Address addr, (addr, is, refl))
terminal_found kind.Block text (addr, bits, is) = (terminal.Block addr bits, (addr, bits, is, refl))
terminal_found kind.Text text is = mapped_found terminal.Text (quoted_text_of text) is
terminal_found kind.RawText text is = mapped_found terminal.Text (raw_text_of text) is
terminal_found kind.ListName text is = mapped_found terminal.ListName (list_name_of text) is
terminal_found kind.Symbol text is = spelled_found symbols text is

terminals_found : (text : List ℕ) (from to : ℕ) (tokens : List Token) → IsCutBetween text from to tokens → (ts : List Terminal) × AreTerminals (words_of text tokens) ts
terminals_found text from to [] cut = ([], tt)
terminals_found text from to (token ∷ tokens) cut =
    let t = terminal_found token.kind (between token.start token.end text) cut.2.is_longest.is_token in
    let ts = terminals_found text token.end to tokens cut.3 in
    (t.0 ∷ ts.0, (t.1, ts.1))

-- ---- each text has an answer

answer_of_tree : (text : List ℕ) (tokens : List Token) (ts : List Terminal) (e : Expr) → IsTokenized text tokens ts → outcome ts start ≡ Some e → HasAnswer text
answer_of_tree text tokens ts e tokenized read = elim (cases_lt 32 (nesting ts)) [
  | inl deep ↦ (Err fault.TooDeep, λ e. cc, (tokens, ts, e, tokenized, read_is_derived ts e read, deep))
  | inr flat ↦ (Ok e, λ e. cc, (tokens, ts, tokenized, read_is_derived ts e read, flat))
]

answer_of_terminals : (text : List ℕ) (tokens : List Token) (ts : List Terminal) → IsTokenized text tokens ts → (found : Option Expr) → outcome ts start ≡ found → HasAnswer text
answer_of_terminals text tokens ts tokenized None read =
    let place = taken ts start in
    (Err (fault.Syntax (place_of tokens (length text) place)), λ e. cc, (tokens, ts, place, tokenized, refused_is_fault ts read, refl))
answer_of_terminals text tokens ts tokenized (Some e) read = answer_of_tree text tokens ts e tokenized read

pub answer_found : EachTextHasAnAnswer
answer_found text = elim (cases_lt 4096 (length text)) [
  | inl long ↦ (Err fault.TooLong, λ e. cc, long)
  | inr few ↦ of_cut few (cut_or_fault text)
] where
  of_cut : length text ≤ 4096 → ((tokens : List Token) × IsCut text tokens) ⊎ ((at : ℕ) × IsFirstFault text at) → HasAnswer text
  of_cut few (inr (at, first)) = (Err (fault.Lex at), λ e. cc, (few, first))
  of_cut few (inl (tokens, cut)) =
      let ts = terminals_found text 0 (length text) tokens cut in
      answer_of_terminals text tokens ts.0 (record { few = few; is_cut = cut; are_terminals = ts.1 }) (outcome ts.0 start) refl
