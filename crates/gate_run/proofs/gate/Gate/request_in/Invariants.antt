use Rattle.std.specs.Arc.{arc_value}
use Rattle.gate_run.proofs.MeaningLemmas.{meaning_of}
use Rattle.gate_run.proofs.gate.Gate.request_in.Given as goal

abbrev pub ghost-judge_request : goal.ghost-judge_request
ghost-judge_request g a = meaning_of (arc_value a.picked.config).lists
