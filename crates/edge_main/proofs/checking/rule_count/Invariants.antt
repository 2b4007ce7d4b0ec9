use Rattle.std.proofs.Common.{◌≡◌, ◌+◌, drop}
use Rattle.edge_main.specs.CheckEnded.{rules_kept}
use Rattle.edge_main.proofs.checking.rule_count.Given as goal

-- the rules that were counted and those that are left are all
abbrev pub invariant-loop-set : goal.invariant-loop-set
invariant-loop-set l = l.count + rules_kept (drop l.set-index l.sets) ≡ rules_kept l.sets
