-- The loops between a judging and the counter, step by step.
use Rattle.std.proofs.Common.{◌≡◌, ℕ, ◌^◌, List, [], ◌∷◌, ◌++◌, Option, Some, None, Result, Ok, Err, IsErrAnd, MatchResult, length, refl, sym, ap, ap₂, ◌∙◌, subst, subst₂, append-nil}
use Rattle.rate_plain.specs.History.{IsLegal, own_of, ask_of}
use Rattle.rate_plain.specs.declared.entry.Ask.{Ask}
use Rattle.rate_plain.specs.declared.entry.Answer.{Answer}
use Rattle.rate_plain.specs.declared.entry.Counted.{Counted}
use Rattle.rate_plain.specs.declared.entry.Entry.{Entry}
use Rattle.rate_plain.specs.declared.fault.StepFault.{StepFault}
use Rattle.rate_plain.specs.declared.fault.StepFault.TheVariants as fault
use Rattle.rate_shared.specs.Callers.{history_of, own_history}
use Rattle.rate_shared.specs.declared.rule.Shape.{Shape}
use Rattle.rate_shared.specs.declared.seen.Seen.{Seen}
use Rattle.judge_core.specs.Stands.{with_answer}
use Rattle.judge_core.specs.Talk.{Stand, Counts, Done}
use Rattle.gate_run.specs.Promises.{Grew, StoppedAt}
use Rattle.gate_run.specs.Stepping.{TookStep, IsUnder, IsTalking}
use Rattle.gate_run.specs.Went.{answers_of, AreAsked, WentTo, counts_from}
use Rattle.gate_run.proofs.WentLemmas.{asked-none, asked-more, answers-more, further, grew_on, own_on, shown_on}

-- ---- refusals
-- a refusal that `?` hands on is the refusal
pub refused_as : {T E : Type 0} (r : Result T E) (why : E) (P : T → Type 0) (Q : E → Type 0) → IsErrAnd r (λ e. e ≡ why) → Q why → MatchResult r P Q
refused_as (Ok value) why P Q is q = absurd is
refused_as (Err e) why P Q is q = let same : e ≡ why = is in subst Q (sym same) q

not_spent : fault.Memory ≡ fault.Spent → ⊥
not_spent same = cc

-- ---- a loop
module _ {T J : Type 0} (judging : List Answer → Stand T) (Stands : List Answer → J → Type 0) where
  under_step : (own : List Entry) (one two : J) (answer : Option Answer) (ask : Ask) (entry : Entry) (told : Answer) (so : IsUnder judging Stands own one answer)
      → judging (with_answer answer so.past) ≡ Counts ask → Stands (with_answer answer so.past) two → ask_of entry ≡ ask → told ≡ entry.answer
      → IsUnder judging Stands (own ++ entry ∷ []) two (Some told)
  under_step own one two answer ask entry told so asks stands asked its = record {
    past = with_answer answer so.past;
    stands = stands;
    heard = (λ i. so.heard i ++ its i ∷ []) ∙ sym (answers-more own entry);
    asked =
        asked-more (λ (answers : List Answer) (ask : Ask). judging answers ≡ Counts ask) own entry so.asked
        (subst₂ (λ (answers : List Answer) (ask : Ask). judging answers ≡ Counts ask) so.heard (sym asked) asks);
  }

  module _ (shape : Shape) (first : Seen) where
    pub talking_opens : (one : J) (shown : List Counted) → shown ≡ [] → Stands [] one → IsLegal shape.lanes shape.cap (history_of first)
        → IsTalking judging Stands shape first first one None shown
    talking_opens one shown none stands legal = record {
      new = [];
      seen = record { grown = sym (append-nil (history_of first)); legal = legal };
      shows = none;
      under =
          record { past = []; stands = stands; heard = refl; asked = asked-none (λ (answers : List Answer) (ask : Ask). judging answers ≡ Counts ask) };
    }

    module _ (now : Seen) (one : J) (answer : Option Answer) (shown : List Counted) (so : IsTalking judging Stands shape first now one answer shown) where
      -- a step was taken
      pub talking_step : (after : Seen) (two : J) (ask : Ask) (shown' : List Counted) (told : Answer)
          → judging (with_answer answer so.under.past) ≡ Counts ask → Stands (with_answer answer so.under.past) two
          → TookStep shape first.caller (history_of now) (history_of after) ask shown shown' told
          → IsTalking judging Stands shape first after two (Some told) shown'
      talking_step after two ask shown' told asks stands took =
          let caller = first.caller in
          let before = history_of first in
          let own = own_on shape caller before (history_of now) so.new (history_of after) ask took.counted so.seen took.counts in
          record {
            new = further shape caller before (history_of now) so.new (history_of after) ask took.counted so.seen took.counts;
            seen = grew_on shape caller before (history_of now) so.new (history_of after) ask took.counted so.seen took.counts;
            shows =
                took.shows ∙ ap (λ (cs : List Counted). cs ++ took.counted ∷ []) so.shows
                ∙ sym (shown_on shape caller before (history_of now) so.new (history_of after) ask took.counted so.seen took.counts);
            under =
                subst (λ (entries : List Entry). IsUnder judging Stands entries two (Some told)) (sym own)
                (under_step (own_of so.new caller) one two answer ask took.counts.entry told so.under asks stands took.counts.asked
                (took.its ∙ sym took.counts.answer));
          }

      -- it is done
      pub came_to : (end : T) → judging (with_answer answer so.under.past) ≡ Done end → WentTo judging (own_of so.new first.caller) end
      came_to end done = record { asked = so.under.asked; done = ap judging (sym so.under.heard) ∙ done }

      -- its turn was refused memory
      pub talking_refused : StoppedAt judging shape first now fault.Memory
      talking_refused = record {
        new = so.new;
        grew = so.seen;
        asked = so.under.asked;
        spent = λ spent. absurd (not_spent spent);
        one_more = λ spent. absurd (not_spent spent);
      }

      -- a step was refused
      pub talking_stopped : (after : Seen) (ask : Ask) (why : StepFault) → history_of after ≡ history_of now → after.caller ≡ now.caller
          → (why ≡ fault.Spent → length (own_history now) ≡ 2 ^ 40) → judging (with_answer answer so.under.past) ≡ Counts ask
          → StoppedAt judging shape first after why
      talking_stopped after ask why same caller full asks = record {
        new = so.new;
        grew = subst (λ (history : List Entry). Grew shape (history_of first) history so.new) (sym same) so.seen;
        asked = so.under.asked;
        spent = λ spent. ap₂ (λ (history : List Entry) (number : ℕ). length (own_of history number)) same caller ∙ full spent;
        one_more = λ spent. (ask, ap judging (sym so.under.heard) ∙ asks);
      }
