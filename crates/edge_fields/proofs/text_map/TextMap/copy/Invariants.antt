use Rattle.std.proofs.Common.{◌≡◌, take}
use Rattle.edge_fields.proofs.text_map.TextMap.copy.Given as goal

-- the entries so far are copied
abbrev pub invariant-loop-key : goal.invariant-loop-key
invariant-loop-key l = l.map ≡ take l.key-index l.self
