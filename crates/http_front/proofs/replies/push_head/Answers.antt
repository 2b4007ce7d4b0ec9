use Rattle.http_front.specs.Replies.{status_line, header_lines, length_line, closing}
use Rattle.http_front.proofs.ReplyLemmas.{added}
use Rattle.http_front.proofs.replies.push_head.Goals as goal

pub returns : goal.returns
returns c =
    added c.args.text.now c.push_status_line.new.text c.push_headers.new.text c.push_length.new.text c.push.new.self
    (status_line c.args.status) (header_lines c.args.headers.now) (length_line c.args.status c.args.body.now) closing
    c.in_ok-push_status_line.ensures c.in_ok-push_headers.ensures c.in_ok-push_length.ensures c.in_ok-push.ensures.ok
