use Rattle.std.proofs.Common.{◌∙◌, ◌++◌, sym}
use Rattle.edge_base.specs.Spellings.{joining_words, order_words, test_words, truth_words}
use Rattle.expr_parser.proofs.Spelled.{spelled_first, spelled_after}
use Rattle.expr_parser.proofs.spellings.reserved.Goals as goal

pub returns-in-Some-test_word : goal.returns-in-Some-test_word
returns-in-Some-test_word c =
    let text = c.args.text.now in
    sym (spelled_after joining_words (order_words ++ (test_words ++ truth_words)) text (sym c.in_default.ensures)
    ∙ spelled_after order_words (test_words ++ truth_words) text (sym c.in_default-order_word.ensures)
    ∙ spelled_first test_words truth_words text _ (sym c.in-Some-test_word.ensures))
