use Rattle.std.proofs.Common.{◌≡◌, ◌≤◌, max, drop}
use Rattle.edge_base.specs.Nesting.{open_now, deepest, nesting}
use Rattle.expr_parser.proofs.depth.nesting.Given as goal

-- what is open now, and that what is left decides the rest
abbrev pub invariant-loop-terminal : goal.invariant-loop-terminal
invariant-loop-terminal l = record {
  open_here : l.depth ≡ open_now l.pending l.around;
  few : l.depth ≤ l.terminal-index;
  below : l.deepest ≤ l.terminal-index;
  most : max l.deepest (deepest (drop l.terminal-index l.terminals) l.pending l.around) ≡ nesting l.terminals;
}
