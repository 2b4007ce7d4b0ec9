use Rattle.std.proofs.Common.{◌≡◌, take}
use Rattle.edge_base.proofs.message.copy_headers.Given as goal

abbrev pub invariant-loop-header : goal.invariant-loop-header
invariant-loop-header l = l.copy ≡ take l.header-index l.headers
