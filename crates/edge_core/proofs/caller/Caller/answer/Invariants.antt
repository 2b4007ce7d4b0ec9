use Rattle.edge_core.specs.Turns.{config_under, config_behind}
use Rattle.edge_core.proofs.caller.Caller.answer.Given as goal

abbrev pub ghost-go_on : goal.ghost-go_on
ghost-go_on g a = g.meaning (config_under a.judge.running)

abbrev pub ghost-go_back_on : goal.ghost-go_back_on
ghost-go_back_on g a = g.meaning (config_behind a.back.backing)
