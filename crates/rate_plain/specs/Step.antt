-- What a step leaves of a counter that is seen by the lists that it stands for.
use Rattle.std.specs.Prelude.{◌≡◌, ℕ, List, [], ◌∷◌, ◌++◌, MatchResult}
use Rattle.std.specs.declared.result.Result.{Result}
use Rattle.rate_plain.specs.Window.{answer_of}
use Rattle.rate_plain.specs.History.{entry_of}
use Rattle.rate_plain.specs.declared.entry.Ask.{Ask}
use Rattle.rate_plain.specs.declared.entry.Answer.{Answer}
use Rattle.rate_plain.specs.declared.entry.Entry.{Entry}
use Rattle.rate_plain.specs.declared.fault.StepFault.{StepFault}

-- the lanes, the room and the lists that something stands for
abbrev pub Standing : Type 1
Standing = ℕ → ℕ → List Entry → Type 0

-- it holds of all that something stands for
abbrev pub WhereStands : Standing → Standing → Type 0
WhereStands stands holds = (lanes cap : ℕ) (history : List Entry) → stands lanes cap history → holds lanes cap history

-- an answer is the rule's, and the list has one entry more after it; after a refusal it is the same
abbrev pub TakesStep : Standing → ℕ → Ask → Result Answer StepFault → Standing
TakesStep after caller ask result lanes cap history =
    MatchResult result
    (λ answer. (answer ≡ answer_of lanes cap history ask)
    × after lanes cap (history ++ entry_of lanes cap history caller ask ∷ []))
    (λ _. after lanes cap history)
