use Rattle.edge_core.proofs.caller.Caller.back.Given as goal

abbrev pub ghost-reply_to : goal.ghost-reply_to
ghost-reply_to g a = g.meaning
