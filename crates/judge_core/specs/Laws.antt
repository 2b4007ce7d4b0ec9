-- What holds of every judging, whatever the counter answers.
use Rattle.std.specs.Prelude.{◌≡◌, ◌≢◌, List, [], ◌∷◌, ◌++◌}
use Rattle.edge_base.specs.declared.message.Request.{Request}
use Rattle.rate_plain.specs.declared.entry.Ask.{Ask}
use Rattle.rate_plain.specs.declared.entry.Answer.{Answer}
use Rattle.ruleset_model.specs.ConfigParts.{ConfigParts}
use Rattle.judge_core.specs.Judging.{Judgement, judge, judging}
use Rattle.judge_core.specs.Talk.{Talk, Ends, Asks, Counts, Done, Overtold}
use Rattle.judge_core.specs.Values.{Listed}

-- before the first answer no answer is left over
abbrev pub NoneIsOvertold : Type 0
NoneIsOvertold =
    (listed : Listed) (config : ConfigParts) (request : Request) → judge listed config request [] ≢ Overtold

-- where a step is asked, any answer is taken
abbrev pub AnswersAreTaken : Type 0
AnswersAreTaken = (listed : Listed) (config : ConfigParts) (request : Request) (answers : List Answer) (ask : Ask)
    (answer : Answer) → judge listed config request answers ≡ Counts ask
    → judge listed config request (answers ++ answer ∷ []) ≢ Overtold

-- where all answers were taken, a step was asked before each of them
abbrev pub FrontsAsk : Type 0
FrontsAsk = (listed : Listed) (config : ConfigParts) (request : Request) (answers more : List Answer)
    (answer : Answer) →
    judge listed config request (answers ++ answer ∷ more) ≢ Overtold →
    (ask : Ask) × (judge listed config request answers ≡ Counts ask)

-- the answers of a counter that replies to each ask by the answers before it
abbrev pub replies : {A : Type 0} → (List Answer → Ask → Answer) → List Answer → Talk A → List Answer
replies reply past (Ends a) = []
replies reply past (Asks ask answered) =
    reply past ask ∷ replies reply (past ++ reply past ask ∷ []) (answered (reply past ask))

-- whatever the counter replies, the judging comes to its end
abbrev pub JudgingEnds : Type 0
JudgingEnds = (listed : Listed) (config : ConfigParts) (request : Request) (reply : List Answer → Ask → Answer) →
    (judged : Judgement)
    × (judge listed config request (replies reply [] (judging listed config request)) ≡ Done judged)
