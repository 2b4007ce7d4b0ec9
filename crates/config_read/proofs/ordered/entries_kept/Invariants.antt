use Rattle.std.proofs.Common.{◌≡◌, ◌++◌, map}
use Rattle.config_read.specs.Members.{shown, kept}
use Rattle.config_read.proofs.ordered.entries_kept.Given as goal

-- the members so far and those that are left are all
abbrev pub invariant-loop-entry : goal.invariant-loop-entry
invariant-loop-entry l = map shown l.found.items ++ map kept l.entry-iterator ≡ map kept l.fn.ordered.entries
