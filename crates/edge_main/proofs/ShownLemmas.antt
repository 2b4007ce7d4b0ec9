-- The steps that an output shows: their positions, their answers, and that they are a legal history.
use Rattle.std.proofs.Common.{◌≡◌, ℕ, zero, suc, ◌+◌, List, [], ◌∷◌, ◌++◌, map, length, length-append, Option, None, Some, refl, sym, ap, ap₂, subst, ◌∙◌, arith, append_assoc, append-nil}
use Rattle.std.proofs.lemmas.List.{map-append}
use Rattle.rate_plain.specs.History.{Follows, IsLegal, entry_of}
use Rattle.rate_plain.specs.Laws.{LegalStepByStep}
use Rattle.rate_plain.specs.declared.entry.Ask.{Ask}
use Rattle.rate_plain.specs.declared.entry.Answer.{Answer}
use Rattle.rate_plain.specs.declared.entry.Counted.{Counted}
use Rattle.rate_plain.specs.declared.entry.Entry.{Entry}
use Rattle.edge_base.specs.declared.message.Reply.{Reply}
use Rattle.edge_outside.specs.Lines.{lines_of}
use Rattle.ruleset_model.specs.ConfigParts.{ConfigParts}
use Rattle.judge_core.specs.Judging.{Judgement, judging, judgement, backing, seen_as}
use Rattle.judge_core.specs.Talk.{Talk, Ends, Asks, Done, told}
use Rattle.judge_core.specs.Values.{Listed}
use Rattle.edge_main.specs.Answered.{RunState, opening, Answered, reply_backed, request_talked, followed, reply_used, judged}
use Rattle.edge_main.specs.Counting.{replied, with_step, talked}
use Rattle.edge_main.specs.Output.{IsAnswered, IsRun}
use Rattle.edge_main.specs.Output as answered
use Rattle.edge_main.specs.Shown.{steps_in, steps_of, counting_on, positions_of, answers_in, answers_of, PositionsAreInOrder, HistoryIsLegal, ShownIsJudged}

-- ---- numbers in order
counting-more : (first a b : ℕ) → counting_on first (a + b) ≡ counting_on first a ++ counting_on (first + a) b
counting-more first zero b =
    let none : zero + b ≡ b = omega arith in
    let same : first ≡ first + zero = omega arith in
    ap (counting_on first) none ∙ ap (λ n. counting_on n b) same
counting-more first (suc a) b =
    let one : suc a + b ≡ suc (a + b) = omega arith in
    let same : suc first + a ≡ first + suc a = omega arith in
    ap (counting_on first) one
    ∙ ap (λ rest. first ∷ rest) (counting-more (suc first) a b ∙ ap (λ n. counting_on (suc first) a ++ counting_on n b) same)

-- ---- what steps after a history are: as many entries more, at the places behind it, with their answers, and legal

pub record AreSteps (before after : List Entry) (steps : List Counted) : Type 0 where
  pub more : length after ≡ length before + length steps
  pub places : positions_of steps ≡ counting_on (length before) (length steps)
  pub answers : answers_of after ≡ answers_of before ++ answers_in steps
  pub legal : IsLegal 64 4096 before → IsLegal 64 4096 after

no_steps : (history : List Entry) → AreSteps history history []
no_steps history = record {
  more = omega arith;
  places = refl;
  answers = sym (append-nil (answers_of history));
  legal = λ legal. legal;
}

steps_then : (a b c : List Entry) (some more : List Counted) → AreSteps a b some → AreSteps b c more → AreSteps a c (some ++ more)
steps_then a b c some more p q =
    let size : length (some ++ more) ≡ length some + length more = length-append some more in
    record {
      more = omega (arith, p.more, q.more, size);
      places =
          map-append (λ (step : Counted). step.position) some more
          ∙ ap₂ (λ xs ys. xs ++ ys) p.places (q.places ∙ ap (λ n. counting_on n (length more)) p.more)
          ∙ sym (counting-more (length a) (length some) (length more))
          ∙ ap (counting_on (length a)) (sym size);
      answers =
          q.answers ∙ ap (λ xs. xs ++ answers_in more) p.answers ∙ append_assoc (answers_of a) (answers_in some) (answers_in more)
          ∙ ap (λ xs. answers_of a ++ xs) (sym (map-append (λ (step : Counted). step.answer) some more));
      legal = λ legal. q.legal (p.legal legal);
    }

module _ (law : LegalStepByStep) where
  -- one step
  one_step : (history : List Entry) (ask : Ask) → AreSteps history (with_step history ask) (record { position = length history; answer = replied history ask } ∷ [])
  one_step history ask =
      let entry = entry_of 64 4096 history 0 ask in
      record {
        more = length-append history (entry ∷ []);
        places = refl;
        answers = map-append (λ (one : Entry). one.answer) history (entry ∷ []);
        legal = λ legal. law.more 64 4096 history entry legal (record { moment = refl; answer = refl });
      }

  talked_steps : {A : Type 0} (talk : Talk A) (history : List Entry) → AreSteps history (talked talk history).history (talked talk history).counts
  talked_steps (Ends a) history = no_steps history
  talked_steps (Asks ask answered) history =
      steps_then history (with_step history ask) (talked (answered (replied history ask)) (with_step history ask)).history
      (record { position = length history; answer = replied history ask } ∷ []) (talked (answered (replied history ask)) (with_step history ask)).counts
      (one_step history ask) (talked_steps (answered (replied history ask)) (with_step history ask))

  backed_steps : (listed : Listed) (config : ConfigParts) (one : Judgement) (used : Option (Reply × ℕ)) (history : List Entry)
      → AreSteps history (reply_backed listed config one used history).history (reply_backed listed config one used history).counts
  backed_steps listed config one None history = no_steps history
  backed_steps listed config one (Some used) history = talked_steps (backing listed config one used.0 used.1) history

  -- ---- a line, and a run
  pub line_steps : (s : RunState) (given : List ℕ) (this : Answered) → IsAnswered s given this → AreSteps s.history this.after.history (steps_in this.kind)
  line_steps s given this (answered.blank h p) = subst (λ (t : Answered). AreSteps s.history t.after.history (steps_in t.kind)) (sym p) (no_steps s.history)
  line_steps s given this (answered.bad why h p) = subst (λ (t : Answered). AreSteps s.history t.after.history (steps_in t.kind)) (sym p) (no_steps s.history)
  line_steps s given this (answered.deployment value config h e p) =
      subst (λ (t : Answered). AreSteps s.history t.after.history (steps_in t.kind)) (sym p) (no_steps s.history)
  line_steps s given this (answered.no_deployment value place cause h e p) =
      subst (λ (t : Answered). AreSteps s.history t.after.history (steps_in t.kind)) (sym p) (no_steps s.history)
  line_steps s given this (answered.request recorded listed h e p) =
      let t = request_talked listed s recorded.request in
      let back = followed listed s recorded.reply t in
      subst (λ (t : Answered). AreSteps s.history t.after.history (steps_in t.kind)) (sym p)
      (steps_then s.history t.history back.history t.counts back.counts
      (talked_steps (judging listed s.config recorded.request) s.history)
      (backed_steps listed s.config (judgement t.ended) (reply_used (judgement t.ended).verdict.kind recorded.reply) t.history))

  run_steps : (from to : RunState) (lines : List (List ℕ)) (run : List Answered) → IsRun from lines run to → AreSteps from.history to.history (steps_of run)
  run_steps from to [] [] is = subst (λ (s : RunState). AreSteps from.history s.history []) is (no_steps from.history)
  run_steps from to [] (this ∷ run) is = absurd is
  run_steps from to (given ∷ lines) [] is = absurd is
  run_steps from to (given ∷ lines) (this ∷ run) is =
      steps_then from.history this.after.history to.history (steps_in this.kind) (steps_of run) (line_steps from given this is.0)
      (run_steps this.after to lines run is.1)

  pub history_legal : HistoryIsLegal
  history_legal input run to is =
      let steps = run_steps opening to (lines_of input) run is in (sym steps.answers, steps.legal (law.none 64 4096))

  pub positions_in_order : PositionsAreInOrder
  positions_in_order input run to is =
      let steps = run_steps opening to (lines_of input) run is in
      let more : length to.history ≡ 0 + length (steps_of run) = steps.more in
      let size : length (steps_of run) ≡ length to.history = omega (arith, more) in
      steps.places ∙ ap (counting_on 0) size

-- ---- what is shown is judged
told_shown : {A : Type 0} (talk : Talk A) (history : List Entry) → told talk (answers_in (talked talk history).counts) ≡ Done (talked talk history).ended
told_shown (Ends a) history = refl
told_shown (Asks ask answered) history = told_shown (answered (replied history ask)) (with_step history ask)

pub shown_judged : ShownIsJudged
shown_judged listed config request history = ap (seen_as judgement) (told_shown (judging listed config request) history)
