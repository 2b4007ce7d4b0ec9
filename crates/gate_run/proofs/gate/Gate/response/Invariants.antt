use Rattle.std.specs.Arc.{arc_value}
use Rattle.gate_run.proofs.MeaningLemmas.{meaning_of}
use Rattle.gate_run.proofs.gate.Gate.response.Given as goal

abbrev pub ghost-judge_reply : goal.ghost-judge_reply
ghost-judge_reply g a = meaning_of (arc_value a.judged.config).lists
