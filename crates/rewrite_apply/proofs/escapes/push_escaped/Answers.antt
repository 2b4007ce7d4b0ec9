use Rattle.std.proofs.Common.{◌++◌, ◌∙◌, sym, ap, take, get_or, append_assoc}
use Rattle.rewrite_apply.specs.Rewrites.{escaped_byte, escaped_in}
use Rattle.rewrite_apply.proofs.RewriteLemmas.{escaped_in-take_more}
use Rattle.rewrite_apply.proofs.escapes.push_escaped.Goals as goal

pub loop-byte-preserved : goal.loop-byte-preserved
loop-byte-preserved c =
    let part = c.args.part in let bytes = c.args.bytes.now in let i = c.loop-byte.byte-index in let begun = c.args.text.now in
    c.in_ok-push_byte.ensures
    ∙ ap (λ front. front ++ escaped_byte part (get_or bytes i 0)) c.loop-byte.invariant
    ∙ append_assoc begun (escaped_in part (take i bytes)) (escaped_byte part (get_or bytes i 0))
    ∙ ap (λ rest. begun ++ rest) (sym (escaped_in-take_more part bytes i c.loop-byte-test.true))
