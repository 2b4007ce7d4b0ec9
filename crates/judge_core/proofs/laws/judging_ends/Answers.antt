use Rattle.std.proofs.Common.{[]}
use Rattle.judge_core.specs.Judging.{judging, judgement}
use Rattle.judge_core.proofs.TalkLemmas.{talks_end}
use Rattle.judge_core.proofs.laws.judging_ends.Goals as goal

pub returns : goal.returns
returns c = λ listed config request reply. talks_end judgement (judging listed config request) reply []
