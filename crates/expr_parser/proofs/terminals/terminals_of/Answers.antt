use Rattle.std.proofs.Common.{◌≡◌, [], drop, subst, append-nil}
use Rattle.std.proofs.lemmas.List.{drop_all}
use Rattle.edge_base.specs.Token.{words_of}
use Rattle.edge_base.specs.Terminal.{AreTerminals}
use Rattle.expr_parser.proofs.terminals.terminals_of.Goals as goal

pub returns : goal.returns
returns c =
    let loop = c.loop-token in
    let none : drop loop.token-index c.args.tokens.now ≡ [] = drop_all loop.token-index c.args.tokens.now c.loop-token-test.false in
    let done = loop.invariant.completes [] (rw none tt) in
    subst (λ v. AreTerminals (words_of c.args.text.now c.args.tokens.now) v) (append-nil loop.terminals.items) done
