use Rattle.std.proofs.Common.{◌≡◌, take}
use Rattle.edge_fields.specs.Schemes.{IsUnlisted}
use Rattle.edge_fields.proofs.scheme.list_named.Given as goal

-- none of the lists so far has the name
abbrev pub invariant-loop-list : goal.invariant-loop-list
invariant-loop-list l = record {
  counted : l.at ≡ l.list-index;
  others : IsUnlisted (take l.list-index l.lists) l.name;
}
