-- What `parse` answers.
use Rattle.std.specs.Prelude.{◌≡◌, ◌≢◌, ℕ, zero, suc, ◌<◌, ◌≤◌, List, [], ◌∷◌, length, Ok, Err}
use Rattle.std.specs.declared.result.Result.{Result}
use Rattle.std.specs.List.{between}
use Rattle.edge_base.specs.declared.expression.Expr.{Expr}
use Rattle.edge_base.specs.declared.terminal.Terminal.{Terminal}
use Rattle.edge_base.specs.declared.token.Token.{Token}
use Rattle.edge_base.specs.Token.{IsTokenOf, words_of}
use Rattle.edge_base.specs.Cut.{IsCut, IsFirstFault}
use Rattle.edge_base.specs.Terminal.{AreTerminals}
use Rattle.edge_base.specs.Grammar.{Derives, IsFault}
use Rattle.edge_base.specs.Nesting.{nesting}
use Rattle.expr_parser.specs.declared.grammar.ParseFault.{ParseFault}
use Rattle.expr_parser.specs.declared.grammar.ParseFault.TheVariants as fault

-- each token lies in the text, and its bytes there are of its kind
abbrev pub AreTokensOf : List ℕ → List Token → Type 0
AreTokensOf text [] = Unit {0}
AreTokensOf text (token ∷ tokens) = (token.start ≤ token.end) × (token.end ≤ length text) × IsTokenOf token.kind (between token.start token.end text) × AreTokensOf text tokens

-- the tokens of a text of at most 4,096 bytes, and what they are to the grammar
pub record IsTokenized (text : List ℕ) (tokens : List Token) (terminals : List Terminal) : Type 0 where
  pub few : length text ≤ 4096
  pub is_cut : IsCut text tokens
  pub are_terminals : AreTerminals (words_of text tokens) terminals

-- the first byte of the token with this number, or the text's length behind the last
abbrev pub place_of : List Token → ℕ → ℕ → ℕ
place_of [] size k = size
place_of (token ∷ tokens) size zero = token.start
place_of (token ∷ tokens) size (suc k) = place_of tokens size k

-- what an answer says of the text
abbrev pub IsAnswer : List ℕ → Result Expr ParseFault → Type 0
IsAnswer text (Ok e) = (tokens : List Token) × (terminals : List Terminal) × IsTokenized text tokens terminals × Derives terminals e × (nesting terminals ≤ 32)
IsAnswer text (Err fault.TooLong) = 4096 < length text
IsAnswer text (Err (fault.Lex at)) = (length text ≤ 4096) × IsFirstFault text at
IsAnswer text (Err (fault.Syntax at)) = (tokens : List Token) × (terminals : List Terminal) × (place : ℕ) × IsTokenized text tokens terminals × IsFault terminals place × (at ≡ place_of tokens (length text) place)
IsAnswer text (Err fault.TooDeep) = (tokens : List Token) × (terminals : List Terminal) × (e : Expr) × IsTokenized text tokens terminals × Derives terminals e × (32 < nesting terminals)
IsAnswer text (Err fault.Memory) = Unit {0}

-- a text has one answer, but for want of memory
abbrev pub AnswersAreUnique : Type 0
AnswersAreUnique = (text : List ℕ) (a b : Result Expr ParseFault) → IsAnswer text a → IsAnswer text b → a ≢ Err fault.Memory → b ≢ Err fault.Memory → a ≡ b

-- an answer other than want of memory
abbrev pub HasAnswer : List ℕ → Type 0
HasAnswer text = (answer : Result Expr ParseFault) × (answer ≢ Err fault.Memory) × IsAnswer text answer

abbrev pub EachTextHasAnAnswer : Type 0
EachTextHasAnAnswer = (text : List ℕ) → HasAnswer text
