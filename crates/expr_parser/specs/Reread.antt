-- What is printed is read again as the same tree.
use Rattle.std.specs.Prelude.{◌≡◌, ◌≢◌, ℕ, ◌+◌, ◌≤◌, List, [], ◌∷◌, ◌++◌, length, Ok, Err}
use Rattle.std.specs.declared.result.Result.{Result}
use Rattle.edge_base.specs.declared.expression.Expr.{Expr}
use Rattle.edge_base.specs.declared.terminal.Terminal.{Terminal}
use Rattle.edge_base.specs.declared.terminal.Terminal.TheVariants as terminal
use Rattle.edge_base.specs.declared.token.Token.{Token}
use Rattle.edge_base.specs.Token.{words_of}
use Rattle.edge_base.specs.Cut.{IsCut}
use Rattle.edge_base.specs.Terminal.{AreTerminals}
use Rattle.edge_base.specs.Grammar.{Derives}
use Rattle.edge_base.specs.Nesting.{nesting}
use Rattle.expr_parser.specs.declared.grammar.ParseFault.{ParseFault}
use Rattle.expr_parser.specs.declared.grammar.ParseFault.TheVariants as fault
use Rattle.expr_parser.specs.Parsed.{IsAnswer}
use Rattle.expr_parser.specs.Spelling.{spelling}

-- the text's tokens are these terminals, and they derive the tree
pub record IsReadAs (text : List ℕ) (terminals : List Terminal) (e : Expr) : Type 0 where
  pub tokens : List Token
  pub is_cut : IsCut text tokens
  pub are_terminals : AreTerminals (words_of text tokens) terminals
  pub derives : Derives terminals e

-- how many `(` stand among terminals
abbrev pub opens : List Terminal → ℕ
opens [] = 0
opens (terminal.Open ∷ ts) = opens ts + 1
opens (t ∷ ts) = opens ts

-- a text is read as this tree, nests no deeper than these terminals, and has no more `(`
pub record IsReadWithin (text : List ℕ) (terminals : List Terminal) (e : Expr) : Type 0 where
  pub own : List Terminal
  pub is_read : IsReadAs text own e
  pub no_deeper : nesting own ≤ nesting terminals
  pub no_more : opens own ≤ opens terminals

-- where some text is read as the tree, this print is too, nests no deeper, and has no more `(`
abbrev pub IsReadAgain : List ℕ → Expr → Type 0
IsReadAgain print e = (text : List ℕ) (terminals : List Terminal) → IsReadAs text terminals e → IsReadWithin print terminals e

-- of a tree that `parse` gave the spelling, where it has at most 4,096 bytes, is parsed as the same tree
abbrev pub SpellingsAreParsedAgain : Type 0
SpellingsAreParsedAgain =
    (text : List ℕ) (e : Expr) → IsAnswer text (Ok e) → length (spelling e) ≤ 4096
    → (answer : Result Expr ParseFault) → IsAnswer (spelling e) answer → answer ≢ Err fault.Memory → answer ≡ Ok e

-- the print of a tree without a `(` and a `)` behind it is read as another tree or as none
abbrev pub PairsAreNeeded : Type 0
PairsAreNeeded =
    (e : Expr) (front inside back : List Terminal)
    → IsReadAs (spelling e) (front ++ terminal.Open ∷ inside ++ terminal.Close ∷ back) e → ¬ (Derives (front ++ inside ++ back) e)
