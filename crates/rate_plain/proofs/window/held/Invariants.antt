use Rattle.std.proofs.Common.{◌≡◌, take}
use Rattle.rate_plain.specs.Window.{held_until}
use Rattle.rate_plain.proofs.window.held.Given as goal

-- until when the entries before the next one hold the key
abbrev pub invariant-loop-entry : goal.invariant-loop-entry
invariant-loop-entry l = l.held ≡ held_until l.key l.at (take l.entry-index l.entries)
