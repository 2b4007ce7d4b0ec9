use Rattle.std.proofs.Common.{◌≡◌, ◌++◌, drop}
use Rattle.edge_main.specs.Summary.{rule_lines}
use Rattle.edge_main.proofs.summary.push_rules.Given as goal

-- what was written and the rules that are left make the whole
abbrev pub invariant-loop-rule : goal.invariant-loop-rule
invariant-loop-rule l = l.out ++ rule_lines (drop l.rule-index l.counts) ≡ l.fn.out ++ rule_lines l.counts
