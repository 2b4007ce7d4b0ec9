use Rattle.std.specs.Arc.{arc_value}
use Rattle.gate_run.proofs.MeaningLemmas.{meaning_of}
use Rattle.edge_main.proofs.run.Run.judge.Given as goal

abbrev pub ghost-judge_recorded : goal.ghost-judge_recorded
ghost-judge_recorded a = meaning_of (arc_value a.picked.config).lists
