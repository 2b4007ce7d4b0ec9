use Rattle.std.proofs.Common.{◌≡◌, ◌≤◌, take}
use Rattle.rate_plain.specs.Window.{counted_of}
use Rattle.rate_plain.proofs.window.counted.Given as goal

-- what counts of the entries before the next one
abbrev pub invariant-loop-entry : goal.invariant-loop-entry
invariant-loop-entry l = record {
  is_count : l.counted ≡ counted_of l.key l.at (take l.entry-index l.entries);
  within : l.counted ≤ l.entry-index;
}
