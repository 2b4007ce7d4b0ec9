-- the headers before the next one are kept, but for those of the name
use Rattle.std.proofs.Common.{◌≡◌, take}
use Rattle.rewrite_apply.specs.Rewrites.{without}
use Rattle.rewrite_apply.proofs.header_list.without.Given as goal

abbrev pub invariant-loop-header : goal.invariant-loop-header
invariant-loop-header l = l.kept ≡ without l.name (take l.header-index l.headers)
