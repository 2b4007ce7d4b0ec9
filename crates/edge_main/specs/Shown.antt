-- What an output shows of the counter.
use Rattle.std.specs.Prelude.{◌≡◌, ◌≢◌, ℕ, zero, suc, ◌+◌, List, [], ◌∷◌, ◌++◌, map, length}
use Rattle.edge_base.specs.declared.message.Request.{Request}
use Rattle.rate_plain.specs.History.{IsLegal}
use Rattle.rate_plain.specs.declared.entry.Answer.{Answer}
use Rattle.rate_plain.specs.declared.entry.Counted.{Counted}
use Rattle.rate_plain.specs.declared.entry.Entry.{Entry}
use Rattle.ruleset_model.specs.ConfigParts.{ConfigParts}
use Rattle.judge_core.specs.Judging.{judge, judging, judgement}
use Rattle.judge_core.specs.Talk.{Done}
use Rattle.judge_core.specs.Values.{Listed}
use Rattle.edge_main.specs.Answered.{RunState, LineKind, Answered}
use Rattle.edge_main.specs.Answered as line
use Rattle.edge_main.specs.Counting.{talked}
use Rattle.edge_main.specs.Output.{IsRunOf}

-- the steps that a line shows
abbrev pub steps_in : LineKind → List Counted
steps_in (line.request parts) = parts.counts
steps_in other = []

-- the steps that an output shows, line by line
abbrev pub steps_of : List Answered → List Counted
steps_of [] = []
steps_of (answered ∷ run) = steps_in answered.kind ++ steps_of run

-- so many numbers in order, from this one on
abbrev pub counting_on : ℕ → ℕ → List ℕ
counting_on first zero = []
counting_on first (suc more) = first ∷ counting_on (suc first) more

abbrev pub positions_of : List Counted → List ℕ
positions_of steps = map (λ (step : Counted). step.position) steps

abbrev pub answers_in : List Counted → List Answer
answers_in steps = map (λ (step : Counted). step.answer) steps

abbrev pub answers_of : List Entry → List Answer
answers_of history = map (λ (entry : Entry). entry.answer) history

-- the positions in an output are those from 0 on, in order, as many as there are steps
abbrev pub PositionsAreInOrder : Type 0
PositionsAreInOrder = (input : List ℕ) (run : List Answered) (to : RunState) → IsRunOf input run to
    → positions_of (steps_of run) ≡ counting_on 0 (length to.history)

-- the answers in an output are those of all steps, in order, and the steps are a legal history
abbrev pub HistoryIsLegal : Type 0
HistoryIsLegal = (input : List ℕ) (run : List Answered) (to : RunState) → IsRunOf input run to
    → (answers_in (steps_of run) ≡ answers_of to.history) × IsLegal 64 4096 to.history

-- what is judged with the answers that are shown is what the judging comes to by them
abbrev pub ShownIsJudged : Type 0
ShownIsJudged = (listed : Listed) (config : ConfigParts) (request : Request) (history : List Entry)
    → judge listed config request (answers_in (talked (judging listed config request) history).counts)
    ≡ Done (judgement (talked (judging listed config request) history).ended)
