-- A talk with the counter, step by step.
use Rattle.std.proofs.Common.{◌≡◌, ℕ, ◌^◌, List, [], ◌∷◌, ◌++◌, length, Option, None, Some, Result, Ok, Err, IsErrAnd, IsErrOf, inl, inr, refl, sym, ap, subst, ◌∙◌, append_assoc, append-nil}
use Rattle.rate_plain.specs.declared.entry.Ask.{Ask}
use Rattle.rate_plain.specs.declared.entry.Answer.{Answer}
use Rattle.rate_plain.specs.declared.entry.Counted.{Counted}
use Rattle.rate_plain.specs.declared.entry.Entry.{Entry}
use Rattle.rate_plain.specs.declared.fault.StepFault.{StepFault}
use Rattle.rate_plain.specs.declared.fault.StepFault.TheVariants as fault
use Rattle.rate_lane.specs.declared.lanes.Lanes.{Lanes}
use Rattle.judge_core.specs.Carried.{End}
use Rattle.judge_core.specs.Judging.{seen_as}
use Rattle.judge_core.specs.Stands.{with_answer}
use Rattle.judge_core.specs.Talk.{Talk, Ends, Asks, Stand, Counts, Done, after, told}
use Rattle.judge_core.proofs.TalkLemmas.{after_more, told_after}
use Rattle.edge_main.specs.Counting.{replied, with_step, shown_step, talked, IsSpentIn}
use Rattle.edge_main.specs.Stepping.{IsCounter, TookStep, IsTalking, IsUnder, IsTalked}

-- a refusal that `?` hands on is the refusal
pub same_fault : {T U : Type 0} (r : Result T StepFault) (x : StepFault) → IsErrAnd r (λ y. y ≡ x) → r ≡ Err fault.Spent
    → IsErrOf {T = U} {E = StepFault} (Err x) fault.Spent
same_fault (Ok value) x from is = absurd cc
same_fault (Err y) x from is = let same : y ≡ x = from in cc

-- ---- what is left of a talk

-- at first all is left
pub talking_opens : {A : Type 0} (talk : Talk A) (history : List Entry) (before : List Counted) → IsTalking talk history before talk history before
talking_opens talk history before = record { ended_is = refl; history_is = refl; counts_are = refl; spends = λ spent. spent }

-- a step that was answered as the counter answers
pub talking_step : {A : Type 0} (talk : Talk A) (history : List Entry) (before : List Counted) (ask : Ask) (answered : Answer → Talk A)
    (now : List Entry) (shown : List Counted) → IsTalking talk history before (Asks ask answered) now shown
    → IsTalking talk history before (answered (replied now ask)) (with_step now ask) (shown ++ shown_step now ask ∷ [])
talking_step talk history before ask answered now shown so = record {
  ended_is = so.ended_is;
  history_is = so.history_is;
  counts_are =
      so.counts_are ∙ sym (append_assoc shown (shown_step now ask ∷ []) (talked (answered (replied now ask)) (with_step now ask)).counts);
  spends = λ spent. so.spends (inr spent);
}

-- a step that is one too many
pub talking_spent : {A : Type 0} (talk : Talk A) (history : List Entry) (before : List Counted) (ask : Ask) (answered : Answer → Talk A)
    (now : List Entry) (shown : List Counted) → IsTalking talk history before (Asks ask answered) now shown → length now ≡ 2 ^ 50
    → IsSpentIn talk history
talking_spent talk history before ask answered now shown so full = so.spends (inl full)

-- ---- what a machine tells of it

asks_left : {A B : Type 0} (seen : A → B) (left : Talk A) (ask : Ask) → seen_as seen (told left []) ≡ Counts ask
    → (answered : Answer → Talk A) × (left ≡ Asks ask answered)
asks_left seen (Ends a) ask is = absurd (cc)
asks_left seen (Asks next answered) ask is =
    let same : next ≡ ask = cc in
    (answered, ap (λ one. Asks one answered) same)

done_left : {A B : Type 0} (seen : A → B) (left : Talk A) (b : B) → seen_as seen (told left []) ≡ Done b
    → (a : A) × (left ≡ Ends a) × (seen a ≡ b)
done_left seen (Ends a) b is = let same : seen a ≡ b = cc in (a, refl, same)
done_left seen (Asks next answered) b is = absurd (cc)

-- what is left after all answers is what is seen
seen_left : {B : Type 0} (seen : End → B) (talk left : Talk End) (answers : List Answer) (stand : Stand B) → after talk answers ≡ Some left
    → seen_as seen (told talk answers) ≡ stand → seen_as seen (told left []) ≡ stand
seen_left seen talk left answers stand is_after is = sym (ap (seen_as seen) (told_after talk answers left is_after)) ∙ is

module _ {B : Type 0} (seen : End → B) (talk : Talk End) (Stands : List Answer → Type 0) (before : List Counted) (answer : Option Answer)
    (counter : Lanes) (shown : List Counted) (history : List Entry) (so : IsUnder talk Stands before answer counter shown history) where
  -- it asks a step
  abbrev Asking : Ask → Type 0
  Asking ask = seen_as seen (told talk (with_answer answer so.past)) ≡ Counts ask

  left_asks : (ask : Ask) → Asking ask → (answered : Answer → Talk End) × (so.left ≡ Asks ask answered)
  left_asks ask asks =
      asks_left seen so.left ask (seen_left seen talk so.left (with_answer answer so.past) (Counts ask) so.is_after asks)

  -- the step was taken
  pub under_step : (ask : Ask) → Asking ask → (StandsThen : List Answer → Type 0) → StandsThen (with_answer answer so.past)
      → (counter' : Lanes) (shown' : List Counted) (told_then : Answer) → TookStep ask shown counter' shown' told_then so.now
      → IsUnder talk StandsThen before (Some told_then) counter' shown' history
  under_step ask asks StandsThen stands counter' shown' told_then took =
      let (answered, is_left) = left_asks ask asks in
      let so_far = subst (λ left. IsTalking talk history before left so.now shown) is_left so.talking in
      let more = after_more talk (with_answer answer so.past) (told_then ∷ []) so.left so.is_after in
      record {
        past = with_answer answer so.past;
        stands = stands;
        left = answered (replied so.now ask);
        is_after = more ∙ ap (λ left. after left (told_then ∷ [])) is_left ∙ ap (λ one. Some (answered one)) took.answer_is;
        now = with_step so.now ask;
        counter_is = took.counter_is;
        talking =
            subst (λ steps. IsTalking talk history before (answered (replied so.now ask)) (with_step so.now ask) steps) (sym took.shown_is)
            (talking_step talk history before ask answered so.now shown so_far);
      }

  -- the counter can take no step
  pub under_full : (ask : Ask) → Asking ask → length so.now ≡ 2 ^ 50 → IsSpentIn talk history
  under_full ask asks full =
      let (answered, is_left) = left_asks ask asks in
      talking_spent talk history before ask answered so.now shown
      (subst (λ left. IsTalking talk history before left so.now shown) is_left so.talking) full

  -- it is at its end
  pub under_done : (b : B) → seen_as seen (told talk (with_answer answer so.past)) ≡ Done b → IsTalked seen talk before counter shown b history
  under_done b done =
      let (ended, is_left, is_seen) =
      done_left seen so.left b (seen_left seen talk so.left (with_answer answer so.past) (Done b) so.is_after done) in
      let at_end = subst (λ left. IsTalking talk history before left so.now shown) is_left so.talking in
      record {
        ended_is = ap seen at_end.ended_is ∙ is_seen;
        counter_is = subst (IsCounter counter) (sym at_end.history_is) so.counter_is;
        counts_are = sym (append-nil shown) ∙ sym at_end.counts_are;
      }

-- a machine that begins
pub under_opens : (talk : Talk End) (Stands : List Answer → Type 0) → Stands [] → (before : List Counted) (counter : Lanes) (history : List Entry)
    → IsCounter counter history → IsUnder talk Stands before None counter before history
under_opens talk Stands stands before counter history counts = record {
  past = [];
  stands = stands;
  left = talk;
  is_after = refl;
  now = history;
  counter_is = counts;
  talking = talking_opens talk history before;
}
