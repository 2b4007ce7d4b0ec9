use Rattle.std.proofs.Common.{◌≡◌, ◌≤◌, ◌+◌, drop}
use Rattle.std.specs.List.{count_by}
use Rattle.edge_main.specs.Summary.{is_full}
use Rattle.edge_main.proofs.summary.full_in.Given as goal

-- the steps that were counted and those that are left are all
abbrev pub invariant-loop-step : goal.invariant-loop-step
invariant-loop-step l = record {
  counted : l.full + count_by is_full (drop l.step-index l.steps) ≡ count_by is_full l.steps;
  few : l.full ≤ l.step-index;
}
