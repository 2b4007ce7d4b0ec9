-- Working vocabulary, which no public clause cites.
-- What the reading of terminals answers.
use Rattle.std.specs.Prelude.{ℕ, List, Option, MatchOption}
use Rattle.edge_base.specs.declared.expression.Expr.{Expr}
use Rattle.edge_base.specs.declared.terminal.Terminal.{Terminal}
use Rattle.edge_base.specs.Grammar.{Derives, IsFault}
use Rattle.expr_parser.specs.declared.reading.Reading.{Reading}
use Rattle.expr_parser.specs.declared.reading.Reading.TheVariants as reading

-- the tree of the terminals, or their first fault
abbrev pub IsReading : List Terminal → Reading → Type 0
IsReading ts (reading.Tree e) = Derives ts e
IsReading ts (reading.Fault at) = IsFault ts at

-- the first fault of the terminals, or that they derive a tree
abbrev pub IsFaultOrTree : List Terminal → Option ℕ → Type 0
IsFaultOrTree ts found = MatchOption found ((e : Expr) × Derives ts e) (λ at. IsFault ts at)
