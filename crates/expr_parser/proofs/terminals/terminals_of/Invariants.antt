use Rattle.std.proofs.Common.{List, ◌++◌, drop}
use Rattle.edge_base.specs.declared.terminal.Terminal.{Terminal}
use Rattle.edge_base.specs.Token.{words_of}
use Rattle.edge_base.specs.Terminal.{AreTerminals}
use Rattle.expr_parser.specs.Parsed.{AreTokensOf}
use Rattle.expr_parser.proofs.terminals.terminals_of.Given as goal

-- the terminals of the tokens that are left complete those so far
abbrev pub invariant-loop-token : goal.invariant-loop-token
invariant-loop-token l = record {
  rest : AreTokensOf l.text (drop l.token-index l.tokens);
  completes : (more : List Terminal) → AreTerminals (words_of l.text (drop l.token-index l.tokens)) more → AreTerminals (words_of l.text l.tokens) (l.terminals.items ++ more);
}
