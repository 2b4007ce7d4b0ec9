-- A talk with the counter. It comes to its end, or it asks a step and goes on by the answer.
use Rattle.std.specs.Prelude.{List, [], ◌∷◌, Option, None, Some}
use Rattle.rate_plain.specs.declared.entry.Ask.{Ask}
use Rattle.rate_plain.specs.declared.entry.Answer.{Answer}

pub data Talk (A : Type 0) : Type 0 where
  Ends : A → Talk A
  Asks : Ask → (Answer → Talk A) → Talk A

-- first the one, and then, by its end, the other
infixl 10 ◌>>=◌
abbrev pub ◌>>=◌ : {A B : Type 0} → Talk A → (A → Talk B) → Talk B
(Ends a) >>= go = go a
(Asks ask answered) >>= go = Asks ask (λ answer. answered answer >>= go)

-- what a talk has come to: it asks a step, or it is at its end; or it was told more than it asked
pub data Stand (A : Type 0) : Type 0 where
  Counts : Ask → Stand A
  Done : A → Stand A
  Overtold : Stand A

-- the talk after some answers, where it asked for each of them
abbrev pub after : {A : Type 0} → Talk A → List Answer → Option (Talk A)
after talk [] = Some talk
after (Ends a) (answer ∷ answers) = None
after (Asks ask answered) (answer ∷ answers) = after (answered answer) answers

-- what the talk has come to when it was told these answers: it takes one at each of its asks
abbrev pub told : {A : Type 0} → Talk A → List Answer → Stand A
told (Ends a) [] = Done a
told (Ends a) (answer ∷ answers) = Overtold
told (Asks ask answered) [] = Counts ask
told (Asks ask answered) (answer ∷ answers) = told (answered answer) answers
