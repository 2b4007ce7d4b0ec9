use Rattle.std.proofs.Common.{◌≡◌, ◌++◌, map}
use Rattle.serde_json.specs.View.{members_view}
use Rattle.config_read.specs.Members.{entries_of, shown}
use Rattle.config_read.proofs.members.entries_of.Given as goal

-- the members so far and those that are left are all
abbrev pub invariant-loop-name : goal.invariant-loop-name
invariant-loop-name l =
    map shown l.found.items ++ entries_of (members_view l.name-iterator) ≡ entries_of (members_view l.fn.members.entries)
