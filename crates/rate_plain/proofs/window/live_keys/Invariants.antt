use Rattle.std.proofs.Common.{◌≡◌, ◌≤◌, ◌+◌, drop}
use Rattle.rate_plain.specs.LiveSteps.{made_live_count}
use Rattle.rate_plain.proofs.window.live_keys.Given as goal

-- the keys counted and those of the entries from the next one on are those of all
abbrev pub invariant-loop-place : goal.invariant-loop-place
invariant-loop-place l = record {
  is_count : l.live + made_live_count l.lanes l.lane l.at (drop l.place l.entries) ≡ made_live_count l.lanes l.lane l.at l.entries;
  within : l.live ≤ l.place;
}
