use Rattle.std.proofs.Common.{◌≡◌, length, take}
use Rattle.std.specs.List.{AllZip}
use Rattle.list_store.specs.Parts.{AreFineBefore}
use Rattle.list_store.specs.Members.{AreMembersOf}
use Rattle.list_store.proofs.lists.members_of.Given as goal

-- the lists before the next one have no fault, and these members
abbrev pub invariant-loop-part : goal.invariant-loop-part
invariant-loop-part l = record {
  made : AllZip AreMembersOf (take l.part-index l.parts) l.members.items;
  fine : AreFineBefore l.parts l.part-index;
  count : length l.members.items ≡ l.part-index;
}
