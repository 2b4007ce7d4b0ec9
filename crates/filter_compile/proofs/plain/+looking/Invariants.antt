-- the members before the next one are plain
use Rattle.std.proofs.Common.{◌≡◌, true, take}
use Rattle.std.specs.List.{list_all}
use Rattle.filter_compile.specs.Plain.{is_plain_node}
use Rattle.filter_compile.proofs.plain.+looking.Given as goal

abbrev pub invariant-are_plain-loop-member : goal.invariant-are_plain-loop-member
invariant-are_plain-loop-member l = list_all (is_plain_node l.room) (take l.member-index l.members) ≡ true
