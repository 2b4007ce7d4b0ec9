use Rattle.expr_parser.proofs.CutTokens.{tokens_of_cut}
use Rattle.expr_parser.proofs.grammar.parse.Goals as goal

pub parse_tokens-requires-clause-are_tokens : goal.parse_tokens-requires-clause-are_tokens
parse_tokens-requires-clause-are_tokens c =
    rw c.as_slice.ensures (tokens_of_cut c.args.text.now c.in-Ok.tokens c.in-Ok.ensures.ok c.in-Ok.ensures.within)
