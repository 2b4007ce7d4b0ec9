use Rattle.std.proofs.Common.{◌≡◌, take}
use Rattle.rate_plain.specs.Window.{latest_of, entries_in}
use Rattle.rate_plain.proofs.window.moment.Given as goal

-- the latest moment of the lane's entries before the next one
abbrev pub invariant-loop-entry : goal.invariant-loop-entry
invariant-loop-entry l = l.at ≡ latest_of l.fn.asked (entries_in l.lanes l.lane (take l.entry-index l.entries))
