-- Working vocabulary, which no public clause cites.
-- What is left of a judging at the places where the judge stands, as a talk.
use Rattle.std.specs.Prelude.{◌≡◌, ℕ, ◌+◌, ◌-◌, ◌*◌, ◌<◌, Bool, List, [], ◌∷◌, drop, Option, None, Some, slice_get}
use Rattle.override_plan.specs.declared.overrides.Overrides.{Overrides}
use Rattle.override_plan.specs.declared.plain.Effective.{Effective}
use Rattle.override_plan.specs.declared.plain.Plain.{Plain}
use Rattle.rate_plain.specs.KeyParts.{KeyParts}
use Rattle.rate_plain.specs.declared.entry.Answer.{Answer}
use Rattle.ruleset_model.specs.ConfigParts.{ConfigParts}
use Rattle.ruleset_model.specs.declared.phase.Phase.{Phase}
use Rattle.ruleset_model.specs.declared.phase.Phase.TheVariants as phase
use Rattle.ruleset_model.specs.declared.act.Act.{Act}
use Rattle.ruleset_model.specs.declared.act.Act.TheVariants as act
use Rattle.ruleset_model.specs.declared.act.Redirect.{Redirect}
use Rattle.ruleset_model.specs.declared.limit.Limit.{Limit}
use Rattle.ruleset_model.specs.declared.ruleset.Rule.{Rule}
use Rattle.ruleset_model.specs.declared.ruleset.Ruleset.{Ruleset}
use Rattle.judge_core.specs.declared.carried.RulePlace.{RulePlace}
use Rattle.judge_core.specs.declared.carried.State.{State}
use Rattle.judge_core.specs.declared.outcome.Asked.{Asked}
use Rattle.judge_core.specs.declared.outcome.Inner.{Inner}
use Rattle.judge_core.specs.declared.outcome.Outcome.{Outcome}
use Rattle.judge_core.specs.declared.outcome.Outcome.TheVariants as outcome
use Rattle.judge_core.specs.declared.outcome.Place.{Place}
use Rattle.judge_core.specs.declared.outcome.Reached.{Reached}
use Rattle.judge_core.specs.declared.outcome.Reached.TheVariants as reach
use Rattle.judge_core.specs.declared.outcome.Step.{Step}
use Rattle.judge_core.specs.declared.outcome.Step.TheVariants as step
use Rattle.judge_core.specs.declared.outcome.Walk.{Walk as WalkPlace}
use Rattle.judge_core.specs.declared.outcome.Where.{Where}
use Rattle.judge_core.specs.declared.outcome.Where.TheVariants as at
use Rattle.judge_core.specs.Carried.{Carried, End, Passed, Closed, Deed, Goes, Leaves, Closes, Executes}
use Rattle.judge_core.specs.Acting.{redirecting}
use Rattle.judge_core.specs.Changing.{phase_end}
use Rattle.judge_core.specs.Places.{carried_of, rule_at}
use Rattle.judge_core.specs.Reaching.{answered, acted_where, keeping, limited, reached}
use Rattle.judge_core.specs.Talk.{Talk, Ends, Asks, ◌>>=◌}
use Rattle.judge_core.specs.Values.{Listed}
use Rattle.judge_core.specs.Walks.{place_of, inner_place_of, next_inner}
use Rattle.judge_core.specs.Walk.{then_next, executed, back, executing, entered, phase_ended, phases}

-- ---- what a rule did
abbrev pub executes_by : Act → Carried → Deed
executes_by (act.Execute place overrides) c = Executes place overrides c
executes_by other c = Goes c

abbrev pub deed_of : Rule → Outcome → Carried → Deed
deed_of rule outcome.Goes c = Goes c
deed_of rule outcome.Leaves c = Leaves c
deed_of rule (outcome.Closes verdict name) c = Closes verdict name c
deed_of rule outcome.Executes c = executes_by rule.act c

abbrev pub reach_seen : Listed → Ruleset → Rule → Plain → Reached → Carried → Talk Deed
reach_seen listed set rule action (reach.Came outcome) c = Ends (deed_of rule outcome c)
reach_seen listed set rule action (reach.Asks ask holds) c =
    Asks ask (λ answer. Ends (answered listed set rule action holds c answer))

-- ---- what is left
-- the phases by their numbers: those of a request, its end, and that of a reply
abbrev pub order : List (Option Phase)
order =
    Some phase.DynamicRedirect ∷ Some phase.Transform ∷ Some phase.FirewallCustom ∷ Some phase.RateLimit
    ∷ Some phase.FirewallManaged ∷ Some phase.LateTransform ∷ None ∷ Some phase.ResponseTransform ∷ []

-- the phase with a number
abbrev pub numbered : Option (Option Phase) → Option Phase
numbered None = None
numbered (Some found) = found

abbrev pub phase_numbered : ℕ → Option Phase
phase_numbered number = numbered (slice_get order number)

-- those before the next end
abbrev pub until_end : List (Option Phase) → List Phase
until_end [] = []
until_end (None ∷ rest) = []
until_end (Some found ∷ rest) = found ∷ until_end rest

-- the phases from the one with this number on
abbrev pub left_between : Listed → ConfigParts → ℕ → Carried → Talk End
left_between listed config number c = phases listed config (until_end (drop number order)) c

-- the rest of a phase, and then the next ones
abbrev pub leaving : Listed → ConfigParts → ℕ → Talk Deed → Talk End
leaving listed config number talk = talk >>= phase_ended (left_between listed config number)

-- the rules of the entry point from this one on
abbrev pub rest_of_entry : Listed → ConfigParts → ℕ → Option Ruleset → ℕ → Carried → Talk Deed
rest_of_entry listed config holder None next c = Ends (Goes c)
rest_of_entry listed config holder (Some set) next c = entered listed config holder set next (drop next set.rules) c

abbrev pub rest_entered : Listed → ConfigParts → ℕ → ℕ → Carried → Talk Deed
rest_entered listed config holder next c =
    rest_of_entry listed config holder (slice_get config.rulesets holder) next c

-- the overrides with which a rule executes
abbrev pub overrides_by : Act → Option Overrides
overrides_by (act.Execute place overrides) = Some overrides
overrides_by other = None

abbrev pub overrides_in : Option Rule → Option Overrides
overrides_in None = None
overrides_in (Some rule) = overrides_by rule.act

-- the rules of the executed ruleset from this one on
abbrev pub rest_under : Listed → Option Overrides → ℕ → Option Ruleset → ℕ → Carried → Talk Deed
rest_under listed None holder set next c = Ends (Goes c)
rest_under listed (Some overrides) holder None next c = Ends (Goes c)
rest_under listed (Some overrides) holder (Some set) next c =
    executed listed overrides holder set next (drop next set.rules) c

abbrev pub rest_executed : Listed → ConfigParts → RulePlace → Inner → Carried → Talk Deed
rest_executed listed config by inner c =
    rest_under listed (overrides_in (rule_at config by)) inner.set (slice_get config.rulesets inner.set) inner.next c

-- the rest of the phase, where the rule at the place in the entry point gave this
abbrev pub around_entry : Listed → ConfigParts → ℕ → WalkPlace → Talk Deed → Talk End
around_entry listed config number walk talk =
    leaving listed config number
    (talk >>= executing listed config >>= then_next (rest_entered listed config walk.set (walk.next + 1)))

-- the rest of the phase, where the executed ruleset gave this
abbrev pub around_executed : Listed → ConfigParts → ℕ → WalkPlace → Talk Deed → Talk End
around_executed listed config number walk talk =
    leaving listed config number (talk >>= back >>= then_next (rest_entered listed config walk.set (walk.next + 1)))

abbrev pub left_entry : Listed → ConfigParts → ℕ → WalkPlace → Carried → Talk End
left_entry listed config number walk c = leaving listed config number (rest_entered listed config walk.set walk.next c)

abbrev pub left_executed : Listed → ConfigParts → ℕ → WalkPlace → Inner → Carried → Talk End
left_executed listed config number walk inner c =
    around_executed listed config number walk (rest_executed listed config (place_of walk) inner c)

abbrev pub left_at : Listed → ConfigParts → ℕ → Where → Carried → Talk End
left_at listed config number at.Between c = left_between listed config number c
left_at listed config number (at.Entry walk) c = left_entry listed config number walk c
left_at listed config number (at.Executed walk inner) c = left_executed listed config number walk inner c

-- what is left at a place
abbrev pub left : Listed → ConfigParts → Place → Carried → Talk End
left listed config place c = left_at listed config place.phase place.at c

-- ---- one step
-- what the rule does once its step is answered
abbrev pub answered_rule : Listed → Ruleset → Option Rule → Asked → Carried → Answer → Deed
answered_rule listed set None asked c answer = Goes c
answered_rule listed set (Some rule) asked c answer = answered listed set rule asked.action asked.holds c answer

abbrev pub answered_in : Listed → Option Ruleset → ℕ → Asked → Carried → Answer → Deed
answered_in listed None number asked c answer = Goes c
answered_in listed (Some set) number asked c answer =
    answered_rule listed set (slice_get set.rules number) asked c answer

abbrev pub answered_at : Listed → ConfigParts → RulePlace → Asked → Carried → Answer → Deed
answered_at listed config place asked c answer =
    answered_in listed (slice_get config.rulesets place.set) place.rule asked c answer

-- the rest of the phase, where the rule at the place in the executed ruleset gave this
abbrev pub around_inner : Listed → ConfigParts → ℕ → WalkPlace → Inner → Talk Deed → Talk End
around_inner listed config number walk inner talk =
    around_executed listed config number walk
    (talk >>= then_next (rest_executed listed config (place_of walk) (next_inner inner)))

-- where the rule executes under overrides, the rest goes on by the answer; else the phase ends
abbrev pub given_under :
    Listed → ConfigParts → ℕ → WalkPlace → Inner → Option Overrides → Asked → Carried → Answer → Talk End
given_under listed config number walk inner None asked c answer = left_between listed config number (phase_end c)
given_under listed config number walk inner (Some overrides) asked c answer =
    around_inner listed config number walk inner
    (Ends (answered_at listed config (inner_place_of inner) asked c answer))

abbrev pub given_at : Listed → ConfigParts → ℕ → Where → Asked → Carried → Answer → Talk End
given_at listed config number at.Between asked c answer = left_between listed config number c
given_at listed config number (at.Entry walk) asked c answer =
    around_entry listed config number walk (Ends (answered_at listed config (place_of walk) asked c answer))
given_at listed config number (at.Executed walk inner) asked c answer =
    given_under listed config number walk inner (overrides_in (rule_at config (place_of walk))) asked c answer

-- what is left once the step that a rule asked is answered
abbrev pub given : Listed → ConfigParts → Asked → Carried → Answer → Talk End
given listed config asked c answer = given_at listed config asked.place.phase asked.place.at asked c answer

-- what is left after a step
abbrev pub stepped : Listed → ConfigParts → Step → Carried → Talk End
stepped listed config (step.Moved place) c = left listed config place c
stepped listed config (step.Closed verdict name) c = Ends (Closed verdict name c)
stepped listed config step.Passed c = Ends (Passed c)
stepped listed config (step.Asks ask asked) c = Asks ask (given listed config asked c)

-- ---- how far it is to the end
abbrev pub weight_at : ℕ → Where → ℕ
weight_at number at.Between = (8 - number) * 2000000
weight_at number (at.Entry walk) = (8 - number) * 2000000 + (1 + (1000 - walk.next) * 1003)
weight_at number (at.Executed walk inner) =
    (8 - number) * 2000000 + (1 + (1000 - (walk.next + 1)) * 1003) + (1 + (1000 - inner.next))

abbrev pub weight : Place → ℕ
weight place = weight_at place.phase place.at

-- a step that moves comes nearer to the end
abbrev pub IsNearer : Place → Step → Type 0
IsNearer place (step.Moved next) = weight next < weight place
IsNearer place other = Unit {0}

-- ---- what calls ensure
-- what a rule does to what was carried is what came of it
abbrev pub Does : ConfigParts → Rule → (Carried → Deed) → State → State → Outcome → Type 0
Does config rule deed before after outcome =
    deed (carried_of config before) ≡ deed_of rule outcome (carried_of config after)

-- what a rule that is reached does, or asks, is what came of it
abbrev pub IsReached : Listed → ConfigParts → RulePlace → Ruleset → Rule → Effective → State → State → Reached → Type 0
IsReached listed config place set rule effective before after r =
    reached listed place.set place.rule set rule effective (carried_of config before)
    ≡ reach_seen listed set rule effective.action r (carried_of config after)

abbrev pub Asking :
    Listed → ConfigParts → RulePlace → Ruleset → Rule → Plain → Limit → Bool → State → State → Reached → Type 0
Asking listed config place set rule action limit holds before after r =
    limited listed place.set place.rule set rule action limit holds (carried_of config before)
    ≡ reach_seen listed set rule action r (carried_of config after)

abbrev pub Redirects : Listed → ConfigParts → Ruleset → Rule → Redirect → State → Outcome → Type 0
Redirects listed config set rule redirect state outcome =
    Does config rule (redirecting listed set rule redirect) state state outcome

-- a rule with its ruleset acts, where its condition is true
abbrev pub ActsWhere : Listed → ConfigParts → Ruleset → Rule → Plain → Bool → State → State → Outcome → Type 0
ActsWhere listed config set rule action holds before after outcome =
    Does config rule (acted_where listed set rule action holds) before after outcome

-- the rule is kept with its key, where it counts by the reply
abbrev pub IsKept : ConfigParts → RulePlace → Limit → KeyParts → State → State → Type 0
IsKept config place limit key before after =
    carried_of config after ≡ keeping place.set place.rule limit key (carried_of config before)

-- what a rule does whose step is answered is what came of it
abbrev pub IsAnswered : Listed → ConfigParts → Ruleset → Rule → Asked → Answer → State → State → Outcome → Type 0
IsAnswered listed config set rule asked answer before after outcome =
    answered listed set rule asked.action asked.holds (carried_of config before) answer
    ≡ deed_of rule outcome (carried_of config after)

-- what was left is what is left after the step
abbrev pub Steps : Listed → ConfigParts → (Carried → Talk End) → State → State → Step → Type 0
Steps listed config rest before after step =
    rest (carried_of config before) ≡ stepped listed config step (carried_of config after)

abbrev pub BetweenSteps : Listed → ConfigParts → ℕ → State → Step → Type 0
BetweenSteps listed config number state step = Steps listed config (left_between listed config number) state state step

abbrev pub EntrySteps : Listed → ConfigParts → ℕ → WalkPlace → State → State → Step → Type 0
EntrySteps listed config number walk before after step =
    Steps listed config (left_entry listed config number walk) before after step

abbrev pub ExecutedSteps : Listed → ConfigParts → ℕ → WalkPlace → Inner → State → State → Step → Type 0
ExecutedSteps listed config number walk inner before after step =
    Steps listed config (left_executed listed config number walk inner) before after step

-- the same, where the rule at the place did this
abbrev pub EntrySettles : Listed → ConfigParts → ℕ → WalkPlace → Rule → Outcome → State → State → Step → Type 0
EntrySettles listed config number walk rule outcome before after step =
    Steps listed config (λ c. around_entry listed config number walk (Ends (deed_of rule outcome c))) before after step

abbrev pub InnerSettles : Listed → ConfigParts → ℕ → WalkPlace → Inner → Rule → Outcome → State → Step → Type 0
InnerSettles listed config number walk inner rule outcome state step =
    Steps listed config (λ c. around_inner listed config number walk inner (Ends (deed_of rule outcome c)))
    state state step

-- the same, where the step is answered that the rule at the place asked
abbrev pub EntryAnswers : Listed → ConfigParts → ℕ → WalkPlace → Asked → Answer → State → State → Step → Type 0
EntryAnswers listed config number walk asked answer before after step =
    Steps listed config (λ c. given_at listed config number (at.Entry walk) asked c answer) before after step

abbrev pub InnerAnswers :
    Listed → ConfigParts → ℕ → WalkPlace → Inner → Asked → Answer → State → State → Step → Type 0
InnerAnswers listed config number walk inner asked answer before after step =
    Steps listed config (λ c. given_at listed config number (at.Executed walk inner) asked c answer) before after step

abbrev pub Answers : Listed → ConfigParts → Asked → Answer → State → State → Step → Type 0
Answers listed config asked answer before after step =
    Steps listed config (λ c. given listed config asked c answer) before after step

-- the same, where the action executes
abbrev pub Executing : Listed → ConfigParts → ℕ → WalkPlace → Act → State → Step → Type 0
Executing listed config number walk a state step =
    Steps listed config (λ c. around_entry listed config number walk (Ends (executes_by a c))) state state step

-- places
abbrev pub entry_at : ℕ → WalkPlace → Place
entry_at number walk = record { phase = number; at = at.Entry walk }

abbrev pub executed_at : ℕ → WalkPlace → Inner → Place
executed_at number walk inner = record { phase = number; at = at.Executed walk inner }
