use Rattle.std.proofs.Common.{◌++◌, ◌∙◌, sym, ap, take, get_or, append_assoc}
use Rattle.edge_base.specs.Printed.{escaped_byte, escaped}
use Rattle.edge_base.proofs.EscapedLemmas.{escaped-take_more}
use Rattle.edge_base.proofs.builder.TextBuilder.push_escaped.Goals as goal

pub loop-byte-preserved : goal.loop-byte-preserved
loop-byte-preserved c =
    let text = c.args.text.now in
    let i = c.loop-byte.byte-index in
    let begun = c.args.self.now in
    c.in_ok-push_escaped_byte.ensures.ok
    ∙ ap (λ front. front ++ escaped_byte (get_or text i 0)) c.loop-byte.invariant
    ∙ append_assoc begun (escaped (take i text)) (escaped_byte (get_or text i 0))
    ∙ ap (λ rest. begun ++ rest) (sym (escaped-take_more text i c.loop-byte-test.true))
