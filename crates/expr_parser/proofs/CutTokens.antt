-- The tokens of a cut lie in the text, and are of their kinds.
use Rattle.std.proofs.Common.{ℕ, suc, ◌<◌, ◌≤◌, List, [], ◌∷◌, length, arith}
use Rattle.std.specs.List.{All}
use Rattle.edge_base.specs.declared.token.Token.{Token}
use Rattle.edge_base.specs.Cut.{IsCutBetween, IsCut}
use Rattle.expr_parser.specs.Parsed.{AreTokensOf}

tokens_between : (text : List ℕ) (start end : ℕ) (tokens : List Token) → IsCutBetween text start end tokens
    → All (λ token. (token.start < token.end) × (token.end ≤ length text)) tokens → AreTokensOf text tokens
tokens_between text start end [] h a = tt
tokens_between text start end (token ∷ tokens) h a =
    let here : (token.start < token.end) × (token.end ≤ length text) = a 0 token (omega arith) in
    (h.2.in_order, here.1, h.2.is_longest.is_token, tokens_between text token.end end tokens h.3 (λ k d less. a (suc k) d (omega arith)))

pub tokens_of_cut : (text : List ℕ) (tokens : List Token) → IsCut text tokens → All (λ token. (token.start < token.end) × (token.end ≤ length text)) tokens
    → AreTokensOf text tokens
tokens_of_cut text tokens h a = tokens_between text 0 (length text) tokens h a
