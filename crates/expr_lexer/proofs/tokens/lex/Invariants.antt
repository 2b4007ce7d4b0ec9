use Rattle.std.proofs.Common.{◌-◌, ◌≤◌, length, All}
use Rattle.edge_base.specs.Cut.{IsCutBetween}
use Rattle.expr_lexer.specs.Lexed.{IsInside}
use Rattle.expr_lexer.proofs.tokens.lex.Given as goal

-- the tokens so far cut the text up to here
abbrev pub invariant-loop-at : goal.invariant-loop-at
invariant-loop-at l = record {
  here : l.at ≤ length l.text;
  cut : IsCutBetween l.text 0 l.at l.tokens;
  within : All (IsInside l.text) l.tokens;
}

abbrev pub decreases-loop-at : goal.decreases-loop-at
decreases-loop-at l = length l.text - l.at
