use Rattle.std.proofs.Common.{◌∙◌, ◌++◌, sym}
use Rattle.edge_base.specs.Spellings.{brackets, marks, joining_signs, order_signs, test_signs}
use Rattle.expr_parser.proofs.Spelled.{spelled_first, spelled_after}
use Rattle.expr_parser.proofs.spellings.symbol.Goals as goal

pub returns-in-Some-order_sign : goal.returns-in-Some-order_sign
returns-in-Some-order_sign c =
    let text = c.args.text.now in
    sym (spelled_after brackets (marks ++ (joining_signs ++ (order_signs ++ test_signs))) text (sym c.in_default.ensures)
    ∙ spelled_after marks (joining_signs ++ (order_signs ++ test_signs)) text (sym c.in_default-mark.ensures)
    ∙ spelled_after joining_signs (order_signs ++ test_signs) text (sym c.in_default-joining_sign.ensures)
    ∙ spelled_first order_signs test_signs text _ (sym c.in-Some-order_sign.ensures))
