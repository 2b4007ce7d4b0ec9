-- the changes before the next one are applied
use Rattle.std.proofs.Common.{◌≡◌, take}
use Rattle.rewrite_apply.specs.Rewrites.{headers_after}
use Rattle.rewrite_apply.proofs.header_list.apply_headers.Given as goal

abbrev pub invariant-loop-change : goal.invariant-loop-change
invariant-loop-change l = l.headers ≡ headers_after (take l.change-index l.changes) l.fn.headers
