use Rattle.std.proofs.Common.{◌++◌, ◌==◌, ◌||◌, cond, [], ◌∷◌, ◌∙◌, sym, ap, take, get_or, append_assoc}
use Rattle.expr_parser.specs.Spelling.{escaped_text}
use Rattle.expr_parser.proofs.SpellingLaws.{escaped_text-take_more}
use Rattle.expr_parser.proofs.phrases.push_escaped_text.Goals as goal

pub loop-byte-preserved : goal.loop-byte-preserved
loop-byte-preserved c =
    let text = c.args.text.now in
    let i = c.loop-byte.byte-index in
    let begun = c.args.out.now in
    let b = get_or text i 0 in
    c.in_ok-push_escaped.ensures
    ∙ ap (λ front. front ++ cond (b == 34 || b == 92) (92 ∷ b ∷ []) (b ∷ [])) c.loop-byte.invariant
    ∙ append_assoc begun (escaped_text (take i text)) (cond (b == 34 || b == 92) (92 ∷ b ∷ []) (b ∷ []))
    ∙ ap (λ rest. begun ++ rest) (sym (escaped_text-take_more text i c.loop-byte-test.true))
