-- What is printed is read again as the same tree, and parsed as it where it is short enough.
use Rattle.std.proofs.Common.{ℕ, ◌≤◌, List, length, arith}
use Rattle.std.specs.Prelude.{Ok}
use Rattle.edge_base.specs.declared.expression.Expr.{Expr}
use Rattle.expr_parser.specs.Parsed.{IsTokenized, IsAnswer, AnswersAreUnique}
use Rattle.expr_parser.specs.Spelling.{spelling}
use Rattle.expr_parser.specs.Reread.{IsReadAs, IsReadAgain, SpellingsAreParsedAgain}
use Rattle.expr_parser.proofs.CutInto.{cut_of}
use Rattle.expr_parser.proofs.FewestPairs.{printed_opens_fewest}
use Rattle.expr_parser.proofs.PrintedDerives.{printed_derives}
use Rattle.expr_parser.proofs.PrintedNests.{printed_nests_no_deeper}
use Rattle.expr_parser.proofs.PrintedTrees.{printed_is_cut_into}
use Rattle.expr_parser.proofs.Sound.{sound_of_cut}
use Rattle.expr_parser.proofs.TreeTerminals.{terminals_at}

pub spelling_is_read : (e : Expr) → IsReadAgain (spelling e) e
spelling_is_read e text terminals read =
    let sound = sound_of_cut text read.tokens terminals read.is_cut read.are_terminals in
    let found = cut_of (spelling e) (terminals_at e 0) (printed_is_cut_into terminals e read.derives sound) in
    record {
      own = terminals_at e 0;
      is_read = record { tokens = found.0; is_cut = found.1; are_terminals = found.2; derives = printed_derives terminals e read.derives };
      no_deeper = printed_nests_no_deeper terminals e read.derives;
      no_more = printed_opens_fewest terminals e read.derives;
    }

spelling_is_answer : (text : List ℕ) (e : Expr) → IsAnswer text (Ok e) → length (spelling e) ≤ 4096 → IsAnswer (spelling e) (Ok e)
spelling_is_answer text e h few =
    let read : IsReadAs text h.1 e = record { tokens = h.0; is_cut = h.2.is_cut; are_terminals = h.2.are_terminals; derives = h.3 } in
    let again = spelling_is_read e text h.1 read in
    let tokenized : IsTokenized (spelling e) again.is_read.tokens again.own = record { few = few; is_cut = again.is_read.is_cut; are_terminals = again.is_read.are_terminals } in
    (again.is_read.tokens, again.own, tokenized, again.is_read.derives, omega (arith, again.no_deeper, h.4))

pub spelling_is_parsed : AnswersAreUnique → SpellingsAreParsedAgain
spelling_is_parsed unique text e h few answer is some =
    unique (spelling e) answer (Ok e) is (spelling_is_answer text e h few) some (λ same. cc)
