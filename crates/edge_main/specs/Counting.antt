-- A talk with the counter of `replay`: each step is answered by the window rule over all steps before it.
use Rattle.std.specs.Prelude.{◌≡◌, ◌⊎◌, ℕ, ◌^◌, List, [], ◌∷◌, ◌++◌, length}
use Rattle.rate_plain.specs.History.{entry_of}
use Rattle.rate_plain.specs.Window.{answer_of}
use Rattle.rate_plain.specs.declared.entry.Ask.{Ask}
use Rattle.rate_plain.specs.declared.entry.Answer.{Answer}
use Rattle.rate_plain.specs.declared.entry.Counted.{Counted}
use Rattle.rate_plain.specs.declared.entry.Entry.{Entry}
use Rattle.judge_core.specs.Talk.{Talk, Ends, Asks}

-- the counter has 64 lanes, each with room for 4,096 live keys; this is its answer to a step
abbrev pub replied : List Entry → Ask → Answer
replied history ask = answer_of 64 4096 history ask

-- the history with the step, which caller 0 has asked
abbrev pub with_step : List Entry → Ask → List Entry
with_step history ask = history ++ entry_of 64 4096 history 0 ask ∷ []

-- the step as a line shows it: the number of steps before it, and what it was told
abbrev pub shown_step : List Entry → Ask → Counted
shown_step history ask = record { position = length history; answer = replied history ask }

-- what a talk has come to: its end, all steps then, and the steps of the talk as they are shown
pub record Talked (A : Type 0) : Type 0 where
  pub ended : A
  pub history : List Entry
  pub counts : List Counted

abbrev pub after_step : {A : Type 0} → Counted → Talked A → Talked A
after_step shown t = record { ended = t.ended; history = t.history; counts = shown ∷ t.counts }

-- the talk with the counter, after the steps of this history
abbrev pub talked : {A : Type 0} → Talk A → List Entry → Talked A
talked (Ends a) history = record { ended = a; history = history; counts = [] }
talked (Asks ask answered) history =
    after_step (shown_step history ask) (talked (answered (replied history ask)) (with_step history ask))

-- somewhere in the talk a step is asked where 2^50 steps were taken
abbrev pub IsSpentIn : {A : Type 0} → Talk A → List Entry → Type 0
IsSpentIn (Ends a) history = ⊥
IsSpentIn (Asks ask answered) history =
    (length history ≡ 2 ^ 50) ⊎ IsSpentIn (answered (replied history ask)) (with_step history ask)
