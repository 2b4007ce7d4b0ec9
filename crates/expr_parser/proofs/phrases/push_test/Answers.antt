use Rattle.expr_parser.proofs.phrases.push_test.Goals as goal

pub returns-in-StrictWild : goal.returns-in-StrictWild
returns-in-StrictWild c = rw c.in-StrictWild.is (rw c.bytes-in-StrictWild.ensures at c.push_text_test-in-StrictWild.ensures)
