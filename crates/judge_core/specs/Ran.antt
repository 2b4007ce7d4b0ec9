-- Working vocabulary, which no public clause cites.
-- What is left where the judging came to a stop.
use Rattle.std.specs.Prelude.{◌≡◌, Option, None, Some}
use Rattle.rate_plain.specs.declared.entry.Answer.{Answer}
use Rattle.ruleset_model.specs.ConfigParts.{ConfigParts}
use Rattle.judge_core.specs.declared.carried.State.{State}
use Rattle.judge_core.specs.declared.outcome.Asked.{Asked}
use Rattle.judge_core.specs.declared.outcome.Place.{Place}
use Rattle.judge_core.specs.declared.outcome.Ran.{Ran}
use Rattle.judge_core.specs.declared.outcome.Ran.TheVariants as ran
use Rattle.judge_core.specs.Carried.{Carried, End, Passed, Closed}
use Rattle.judge_core.specs.Machine.{left, left_between, given}
use Rattle.judge_core.specs.Places.{carried_of}
use Rattle.judge_core.specs.Talk.{Talk, Ends, Asks}
use Rattle.judge_core.specs.Values.{Listed}

abbrev pub ran_seen : Listed → ConfigParts → Ran → Carried → Talk End
ran_seen listed config ran.Passed c = Ends (Passed c)
ran_seen listed config (ran.Closed verdict name) c = Ends (Closed verdict name c)
ran_seen listed config (ran.Asks ask asked) c = Asks ask (given listed config asked c)

-- what was left at the place is what is left where the judging came to a stop
abbrev pub Runs : Listed → ConfigParts → Place → State → State → Ran → Type 0
Runs listed config from before after r =
    left listed config from (carried_of config before) ≡ ran_seen listed config r (carried_of config after)

-- what was left once the step was answered that a rule asked
abbrev pub Resumes : Listed → ConfigParts → Asked → Answer → State → State → Ran → Type 0
Resumes listed config asked answer before after r =
    given listed config asked (carried_of config before) answer ≡ ran_seen listed config r (carried_of config after)

-- what is left once the judging is told an answer where it asked a step, or nothing where it begins
abbrev pub due : Listed → ConfigParts → Option Asked → Option Answer → Carried → Talk End
due listed config None answer c = left_between listed config 0 c
due listed config (Some asked) None c = left_between listed config 0 c
due listed config (Some asked) (Some answer) c = given listed config asked c answer

abbrev pub GoesOn : Listed → ConfigParts → Option Asked → Option Answer → State → State → Ran → Type 0
GoesOn listed config asked answer before after r =
    due listed config asked answer (carried_of config before) ≡ ran_seen listed config r (carried_of config after)
