-- what the other keys lead to from here is what all lead to from the start
use Rattle.std.proofs.Common.{◌≡◌, drop}
use Rattle.serde_json.specs.View.{view}
use Rattle.func_lib.specs.Json.{found_at}
use Rattle.func_lib.proofs.json.found_at.Given as goal

abbrev pub invariant-loop-key : goal.invariant-loop-key
invariant-loop-key l = found_at (drop l.key-index l.keys) (view l.found) ≡ found_at l.keys (view l.json)
