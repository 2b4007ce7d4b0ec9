-- What a talk has come to, answer by answer.
use Rattle.std.proofs.Common.{◌≡◌, ◌≢◌, List, [], ◌∷◌, ◌++◌, Some, refl, ap}
use Rattle.rate_plain.specs.declared.entry.Ask.{Ask}
use Rattle.rate_plain.specs.declared.entry.Answer.{Answer}
use Rattle.judge_core.specs.Judging.{seen_as}
use Rattle.judge_core.specs.Laws.{replies}
use Rattle.judge_core.specs.Talk.{Talk, Ends, Asks, Counts, Done, Overtold, after, told}

pub none_is_overtold : {A B : Type 0} (f : A → B) (talk : Talk A) → seen_as f (told talk []) ≢ Overtold
none_is_overtold f (Ends a) over = cc
none_is_overtold f (Asks ask answered) over = cc

pub answers_are_taken : {A B : Type 0} (f : A → B) (talk : Talk A) (answers : List Answer) (ask : Ask) (answer : Answer) → seen_as f (told talk answers) ≡ Counts ask → seen_as f (told talk (answers ++ answer ∷ [])) ≢ Overtold
answers_are_taken f (Ends a) [] ask answer asks = absurd (cc)
answers_are_taken f (Ends a) (one ∷ answers) ask answer asks = absurd (cc)
answers_are_taken f (Asks next answered) [] ask answer asks = none_is_overtold f (answered answer)
answers_are_taken f (Asks next answered) (one ∷ answers) ask answer asks = answers_are_taken f (answered one) answers ask answer asks

pub fronts_ask : {A B : Type 0} (f : A → B) (talk : Talk A) (answers more : List Answer) (answer : Answer) → seen_as f (told talk (answers ++ answer ∷ more)) ≢ Overtold → (ask : Ask) × (seen_as f (told talk answers) ≡ Counts ask)
fronts_ask f (Ends a) [] more answer taken = absurd (taken refl)
fronts_ask f (Ends a) (one ∷ answers) more answer taken = absurd (taken refl)
fronts_ask f (Asks next answered) [] more answer taken = (next, refl)
fronts_ask f (Asks next answered) (one ∷ answers) more answer taken = fronts_ask f (answered one) answers more answer taken

pub talks_end : {A B : Type 0} (f : A → B) (talk : Talk A) (reply : List Answer → Ask → Answer) (past : List Answer) → (b : B) × (seen_as f (told talk (replies reply past talk)) ≡ Done b)
talks_end f (Ends a) reply past = (f a, refl)
talks_end f (Asks ask answered) reply past = talks_end f (answered (reply past ask)) reply (past ++ reply past ask ∷ [])

-- what is left after more answers is what they leave of what was left
pub after_more : {A : Type 0} (talk : Talk A) (answers more : List Answer) (left : Talk A) → after talk answers ≡ Some left
    → after talk (answers ++ more) ≡ after left more
after_more talk [] more left is = let same : talk ≡ left = cc in ap (λ t. after t more) same
after_more (Ends a) (answer ∷ answers) more left is = absurd (cc)
after_more (Asks ask answered) (answer ∷ answers) more left is = after_more (answered answer) answers more left is

-- what the talk has come to is what its rest has come to without a further answer
pub told_after : {A : Type 0} (talk : Talk A) (answers : List Answer) (left : Talk A) → after talk answers ≡ Some left
    → told talk answers ≡ told left []
told_after talk [] left is = let same : talk ≡ left = cc in ap (λ t. told t []) same
told_after (Ends a) (answer ∷ answers) left is = absurd (cc)
told_after (Asks ask answered) (answer ∷ answers) left is = told_after (answered answer) answers left is
