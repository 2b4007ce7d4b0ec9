-- the lines of the headers before the next one are added
use Rattle.std.proofs.Common.{◌≡◌, ◌++◌, take}
use Rattle.http_front.specs.Replies.{header_lines}
use Rattle.http_front.proofs.replies.push_headers.Given as goal

abbrev pub invariant-loop-header : goal.invariant-loop-header
invariant-loop-header l = l.text ≡ l.fn.text ++ header_lines (take l.header-index l.headers)
