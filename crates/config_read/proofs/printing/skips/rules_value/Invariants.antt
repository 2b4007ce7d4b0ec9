use Rattle.std.proofs.Common.{◌≡◌, map, drop}
use Rattle.serde_json.specs.Data.{no_members}
use Rattle.serde_json.specs.View.{members_view}
use Rattle.config_read.specs.Printed.{put_all, printed_skipped}
use Rattle.config_read.proofs.printing.skips.rules_value.Given as goal

-- the members so far with those that are left are all
abbrev pub invariant-loop-set_id : goal.invariant-loop-set_id
invariant-loop-set_id l = put_all (members_view l.map.entries) (map printed_skipped (drop l.set_id-index l.rules)) ≡ put_all no_members (map printed_skipped l.rules)
