use Rattle.std.proofs.Common.{◌≡◌, map, drop}
use Rattle.serde_json.specs.Data.{no_members}
use Rattle.serde_json.specs.View.{members_view}
use Rattle.config_read.specs.Printed.{put_all, printed_header}
use Rattle.config_read.proofs.printing.rewrites.headers_value.Given as goal

-- the members so far with those that are left are all
abbrev pub invariant-loop-header : goal.invariant-loop-header
invariant-loop-header l = put_all (members_view l.map.entries) (map printed_header (drop l.header-index l.headers)) ≡ put_all no_members (map printed_header l.headers)
