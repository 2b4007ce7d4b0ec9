-- What a step's result says: it was counted, or refused.
use Rattle.std.specs.Prelude.{◌≡◌, ℕ, List, MatchResult}
use Rattle.std.specs.declared.result.Result.{Result}
use Rattle.rate_plain.specs.declared.entry.Ask.{Ask}
use Rattle.rate_plain.specs.declared.entry.Entry.{Entry}
use Rattle.rate_plain.specs.declared.entry.Counted.{Counted}
use Rattle.rate_shared.specs.declared.rule.Shape.{Shape}
use Rattle.rate_shared.specs.Steps.{Sat, Drew}
use Rattle.rate_shared.specs.Hands.{next_entry}
use Rattle.rate_shared.specs.Promise.{Counts}

-- the ask was counted, and a refusal changes nothing
abbrev pub Answers : {F : Type 0} → Shape → ℕ → List Entry → List Entry → Ask → Result Counted F → Type 0
Answers shape caller before after ask result = MatchResult result (λ c. Counts shape caller before after ask c) (λ _. after ≡ before)

-- the answer is the one of the entry that the lane in hand gives
abbrev pub AnswersNext : {F : Type 0} → Sat → ℕ → Ask → Result Counted F → Type 0
AnswersNext me caller ask result = MatchResult result (λ c. (next_entry me caller ask).answer ≡ c.answer) (λ _. Unit {0})

-- this entry was drawn at the position told, and a refusal draws nothing
abbrev pub DrewNext : {F : Type 0} → Sat → Sat → ℕ → Ask → Result Counted F → Type 0
DrewNext before after caller ask result = MatchResult result (λ c. Drew (next_entry before caller ask) before c.position after) (λ _. after ≡ before)
