use Rattle.std.proofs.Common.{◌≡◌, ℕ, zero, suc, ◌<◌, ◌≤◌, List, [], ◌∷◌, length, refl, ap, arith}
use Rattle.std.specs.Prelude.{slice_index_or}
use Rattle.edge_base.specs.declared.token.Token.{Token}
use Rattle.expr_parser.specs.Parsed.{place_of}
use Rattle.expr_parser.proofs.grammar.place_of.Goals as goal

place_at : (tokens : List Token) (size k : ℕ) (t : Token) → k < length tokens → t ≡ slice_index_or tokens k t → t.start ≡ place_of tokens size k
place_at [] size k t h q = absurd (omega arith)
place_at (u ∷ tokens) size zero t h q = ap (λ (v : Token). v.start) q
place_at (u ∷ tokens) size (suc k) t h q = place_at tokens size k t (omega arith) q

place_past : (tokens : List Token) (size k : ℕ) → length tokens ≤ k → size ≡ place_of tokens size k
place_past [] size k h = refl
place_past (u ∷ tokens) size zero h = absurd (omega arith)
place_past (u ∷ tokens) size (suc k) h = place_past tokens size k (omega arith)

pub returns-in-Some : goal.returns-in-Some
returns-in-Some c = place_at c.args.tokens.now c.args.size c.args.at c.in-Some.token.now c.in-Some.ensures.lookup.3.0 c.in-Some.ensures.lookup.1

pub returns-in-None : goal.returns-in-None
returns-in-None c = place_past c.args.tokens.now c.args.size c.args.at c.in-None.ensures.lookup.3
