use Rattle.std.proofs.Common.{◌≡◌, ◌∙◌, ◌++◌}
use Rattle.http_front.specs.Replies.{head_text, body_of}
use Rattle.http_front.proofs.replies.reply_bytes.Goals as goal

pub returns : goal.returns
returns c =
    let status = c.args.status in
    let head : c.push_head.new.text ≡ head_text status c.args.headers.now c.args.body.now =
    c.in_ok-push_head.ensures
    ∙ (λ j. c.new-text.ensures j ++ head_text status (c.as_slice.ensures j) (c.bytes.ensures j)) in
    let body : c.body_of.result.now ≡ body_of status c.args.body.now c.args.to_head =
    c.body_of.ensures ∙ (λ j. body_of status (c.bytes-2.ensures j) c.args.to_head) in
    c.into_text.ensures ∙ c.in_ok-push.ensures.ok ∙ (λ j. head j ++ body j)
