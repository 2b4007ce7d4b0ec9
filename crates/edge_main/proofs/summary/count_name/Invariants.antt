use Rattle.std.proofs.Common.{◌≡◌, ◌++◌, take, drop}
use Rattle.edge_main.specs.Summary.{one_more}
use Rattle.edge_main.proofs.summary.count_name.Given as goal

-- all names in front of the place come before this one
abbrev pub invariant-loop-place : goal.invariant-loop-place
invariant-loop-place l = record {
  name : l.name ≡ l.fn.name;
  same : l.counts ≡ l.fn.counts;
  passed : one_more l.name l.counts.items ≡ take l.place l.counts.items ++ one_more l.name (drop l.place l.counts.items);
}
