use Rattle.std.proofs.Common.{◌≡◌, ◌∙◌, ℕ, zero, suc, ◌-◌, ap, sym, refl, rules, arith}
use Rattle.std.specs.List.{list_all}
use Rattle.std.proofs.lemmas.List.Folds.{list_all_at}
use Rattle.tree_eval.proofs.NodeLemmas.{all_step}
use Rattle.filter_compile.specs.Plain.{is_plain_node}
use Rattle.filter_compile.proofs.PlainLemmas.{plain-lit, plain-field, plain-call, plain-at, plain-key, plain-each, plain-then, plain-else, plain-not, plain-and, plain-xor_more, plain-xor_over, plain-or}
use Rattle.filter_compile.proofs.plain.+looking.Goals as goal

pub is_plain-returns-in-Lit : goal.is_plain-returns-in-Lit
is_plain-returns-in-Lit t c = sym (ap (is_plain_node c.args.room) c.in-Lit.is ∙ plain-lit c.args.room c.in-Lit.field-0)

pub is_plain-returns-in-Field : goal.is_plain-returns-in-Field
is_plain-returns-in-Field t c = c.is_plain_field.ensures ∙ sym (ap (is_plain_node c.args.room) c.in-Field.is ∙ plain-field c.args.room c.in-Field.id)

pub is_plain-returns-in-Call : goal.is_plain-returns-in-Call
is_plain-returns-in-Call t c = sym (ap (is_plain_node c.args.room) c.in-Call.is ∙ plain-call c.args.room c.in-Call.field-0 c.in-Call.field-1)

pub is_plain-returns-in-At : goal.is_plain-returns-in-At
is_plain-returns-in-At t c =
    c.is_plain.ensures ∙ ap (is_plain_node c.args.room) c.get.ensures ∙ sym (ap (is_plain_node c.args.room) c.in-At.is ∙ plain-at c.args.room c.in-At.of c.in-At.field-1)

pub is_plain-returns-in-Key : goal.is_plain-returns-in-Key
is_plain-returns-in-Key t c = sym (ap (is_plain_node c.args.room) c.in-Key.is ∙ plain-key c.args.room c.in-Key.field-0 c.in-Key.field-1)

pub is_plain-returns-in-Each : goal.is_plain-returns-in-Each
is_plain-returns-in-Each t c =
    c.is_plain-in-Each.ensures ∙ ap (is_plain_node c.args.room) c.get-in-Each.ensures ∙ sym (ap (is_plain_node c.args.room) c.in-Each.is ∙ plain-each c.args.room c.in-Each.of)

pub is_plain-returns-then-is_plain_test : goal.is_plain-returns-then-is_plain_test
is_plain-returns-then-is_plain_test t c =
    plain-then c.args.room c.args.node.now c.in-Test.of c.in-Test.test c.is_plain_test.result c.is_plain-then-is_plain_test.result c.in-Test.is c.is_plain_test.ensures c.if-is_plain_test.true
    (c.is_plain-then-is_plain_test.ensures ∙ ap (is_plain_node c.args.room) c.get-then-is_plain_test.ensures)

pub is_plain-returns-else-is_plain_test : goal.is_plain-returns-else-is_plain_test
is_plain-returns-else-is_plain_test t c =
    plain-else c.args.room c.args.node.now c.in-Test.of c.in-Test.test c.is_plain_test.result c.in-Test.is c.is_plain_test.ensures c.if-is_plain_test.false

pub is_plain-returns-in-Not : goal.is_plain-returns-in-Not
is_plain-returns-in-Not t c =
    c.is_plain-in-Not.ensures ∙ ap (is_plain_node c.args.room) c.get-in-Not.ensures ∙ sym (ap (is_plain_node c.args.room) c.in-Not.is ∙ plain-not c.args.room c.in-Not.of)

pub is_plain-returns-in-And : goal.is_plain-returns-in-And
is_plain-returns-in-And t c =
    c.are_plain.ensures ∙ ap (list_all (is_plain_node c.args.room)) c.as_slice.ensures ∙ sym (ap (is_plain_node c.args.room) c.in-And.is ∙ plain-and c.args.room c.in-And.members)

pub is_plain-returns-then-room-gt0 : goal.is_plain-returns-then-room-gt0
is_plain-returns-then-room-gt0 t c =
    c.are_plain-then-room-gt0.ensures ∙ ap (list_all (is_plain_node (c.args.room - 1))) c.as_slice-then-room-gt0.ensures
    ∙ plain-xor_more c.args.room (c.args.room - 1) c.args.node.now c.in-Xor.members c.in-Xor.is (let more = c.if-room-gt0.true in omega arith)

pub is_plain-returns-else-room-gt0 : goal.is_plain-returns-else-room-gt0
is_plain-returns-else-room-gt0 t c = plain-xor_over c.args.room c.args.node.now c.in-Xor.members c.in-Xor.is c.if-room-gt0.false

pub is_plain-returns-in-Or : goal.is_plain-returns-in-Or
is_plain-returns-in-Or t c =
    c.are_plain-in-Or.ensures ∙ ap (list_all (is_plain_node c.args.room)) c.as_slice-in-Or.ensures ∙ sym (ap (is_plain_node c.args.room) c.in-Or.is ∙ plain-or c.args.room c.in-Or.members)
