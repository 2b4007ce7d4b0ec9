use Rattle.judge_core.specs.Judging.{judging, judgement}
use Rattle.judge_core.proofs.TalkLemmas.{none_is_overtold, answers_are_taken, fronts_ask}
use Rattle.judge_core.proofs.laws.answers_are_taken.Goals as goal

pub returns-clause-none : goal.returns-clause-none
returns-clause-none c = λ listed config request. none_is_overtold judgement (judging listed config request)

pub returns-clause-taken : goal.returns-clause-taken
returns-clause-taken c = λ listed config request answers ask answer. answers_are_taken judgement (judging listed config request) answers ask answer

pub returns-clause-fronts : goal.returns-clause-fronts
returns-clause-fronts c = λ listed config request answers more answer. fronts_ask judgement (judging listed config request) answers more answer
