use Rattle.std.proofs.Common.{◌∙◌, ap, sym}
use Rattle.std.specs.List.{list_any}
use Rattle.ruleset_model.specs.Built.{speaks_of_reply}
use Rattle.ruleset_model.proofs.SpokenLemmas.{spoken-call, spoken-and, spoken-xor, spoken-or}
use Rattle.ruleset_model.proofs.spoken.+speaking.Goals as goal

pub speaks_of_reply-returns-in-Call : goal.speaks_of_reply-returns-in-Call
speaks_of_reply-returns-in-Call t c =
    c.is_one_of_reply.ensures ∙ ap (list_any speaks_of_reply) c.as_slice.ensures ∙ spoken-call _ _ ∙ ap speaks_of_reply (sym c.in-Call.is)

pub speaks_of_reply-returns-in-And : goal.speaks_of_reply-returns-in-And
speaks_of_reply-returns-in-And t c =
    c.is_one_of_reply-in-And.ensures ∙ ap (list_any speaks_of_reply) c.as_slice-in-And.ensures ∙ spoken-and _ ∙ ap speaks_of_reply (sym c.in-And.is)

pub speaks_of_reply-returns-in-Xor : goal.speaks_of_reply-returns-in-Xor
speaks_of_reply-returns-in-Xor t c =
    c.is_one_of_reply-in-Xor.ensures ∙ ap (list_any speaks_of_reply) c.as_slice-in-Xor.ensures ∙ spoken-xor _ ∙ ap speaks_of_reply (sym c.in-Xor.is)

pub speaks_of_reply-returns-in-Or : goal.speaks_of_reply-returns-in-Or
speaks_of_reply-returns-in-Or t c =
    c.is_one_of_reply-in-Or.ensures ∙ ap (list_any speaks_of_reply) c.as_slice-in-Or.ensures ∙ spoken-or _ ∙ ap speaks_of_reply (sym c.in-Or.is)
