-- What a judging stands for, turn by turn.
use Rattle.std.proofs.Common.{◌≡◌, List, [], ◌∷◌, Option, None, Some, refl, sym, ap, ◌∙◌}
use Rattle.std.specs.Arc.{arc_value}
use Rattle.edge_base.specs.declared.message.Request.{Request}
use Rattle.edge_base.specs.declared.rule_name.RuleName.{RuleName}
use Rattle.rate_plain.specs.declared.entry.Ask.{Ask}
use Rattle.rate_plain.specs.declared.entry.Answer.{Answer}
use Rattle.ruleset_model.specs.ConfigParts.{ConfigParts}
use Rattle.ruleset_model.specs.declared.picked.Picked.{Picked}
use Rattle.ruleset_model.specs.declared.verdict.VerdictKind.{VerdictKind}
use Rattle.ruleset_model.specs.declared.verdict.VerdictKind.TheVariants as kind
use Rattle.judge_core.specs.declared.judging.Judged.{Judged}
use Rattle.judge_core.specs.declared.judging.Running.{Running}
use Rattle.judge_core.specs.declared.outcome.Asked.{Asked}
use Rattle.judge_core.specs.declared.outcome.Ran.{Ran}
use Rattle.judge_core.specs.declared.outcome.Ran.TheVariants as ran
use Rattle.judge_core.specs.Carried.{Carried, End, Passed, Closed}
use Rattle.judge_core.specs.Judging.{judging, judgement, judged_as, seen_as}
use Rattle.judge_core.specs.Machine.{given}
use Rattle.judge_core.specs.Places.{carried_of}
use Rattle.judge_core.specs.Ran.{due, ran_seen, GoesOn}
use Rattle.judge_core.specs.Stands.{Course, IsLeft, IsUnderWay, IsJudged, Fits, Proceeds, TellsAsk, TellsDone, judgement_of, opened, opening, told_more, with_answer}
use Rattle.judge_core.specs.Talk.{Talk, Ends, Asks, Done, after}
use Rattle.judge_core.specs.Values.{Listed, AreTold}
use Rattle.judge_core.proofs.TalkLemmas.{after_more, told_after}

-- what is left once the answer is told, where it may be told
due_after : (listed : Listed) (config : ConfigParts) (whole talk : Talk End) (asked : Option Asked) (c : Carried) (answers : List Answer)
    (answer : Option Answer) → after whole answers ≡ Some talk → IsLeft listed config asked c talk → Fits asked answer
    → after whole (with_answer answer answers) ≡ Some (due listed config asked answer c)
due_after listed config whole talk None c answers None is left fits = is ∙ ap Some left
due_after listed config whole talk None c answers (Some answer) is left fits = absurd fits
due_after listed config whole talk (Some asked) c answers None is left fits = absurd fits
due_after listed config whole talk (Some asked) c answers (Some answer) is left fits =
    after_more whole answers (answer ∷ []) talk is ∙ ap (λ t. after t (answer ∷ [])) left.1

turned : (listed : Listed) (course : Course) (running now : Running) (answer : Option Answer) (r : Ran)
    → IsUnderWay listed course running → Fits running.asked answer → Proceeds listed answer running now r
    → after (judging listed course.config course.request) (with_answer answer course.answers)
    ≡ Some (ran_seen listed course.config r (carried_of course.config now.state))
turned listed course running now answer r way fits goes =
    let here : GoesOn listed course.config running.asked answer running.state now.state r = rw way.config at goes in
    due_after listed course.config (judging listed course.config course.request) way.talk running.asked (carried_of course.config running.state)
    course.answers answer way.is_after way.is_left fits
    ∙ ap Some here

pub tells_ask : (listed : Listed) (course : Course) (running now : Running) (answer : Option Answer) (ask : Ask) (asked : Asked)
    → AreTold listed (arc_value running.picked.config) → IsUnderWay listed course running → Fits running.asked answer
    → now.picked ≡ running.picked → Proceeds listed answer running now (ran.Asks ask asked)
    → TellsAsk listed (told_more answer course) (record { running = Some (record now { asked = Some asked }) }) ask
tells_ask listed course running now answer ask asked told way fits same goes =
    let left = turned listed course running now answer (ran.Asks ask asked) way fits goes in
    let talk : Talk End = Asks ask (given listed course.config asked (carried_of course.config now.state)) in
    record {
      asks = ap (seen_as judgement) (told_after (judging listed course.config course.request) (with_answer answer course.answers) talk left);
      stands = record {
        number = ap (λ picked. picked.number) same ∙ way.number;
        config = ap (λ picked. arc_value picked.config) same ∙ way.config;
        talk = talk;
        is_after = left;
        is_left = (ask, refl);
      };
      told = rw same told;
      may = λ next. tt;
    }

ended : (listed : Listed) (course : Course) (running now : Running) (answer : Option Answer) (end : End) (verdict : VerdictKind)
    (rule : Option RuleName) (judged : Judged)
    → after (judging listed course.config course.request) (with_answer answer course.answers) ≡ Some (Ends end)
    → judgement end ≡ judged_as verdict rule (carried_of course.config now.state) → IsUnderWay listed course running
    → now.picked ≡ running.picked → IsJudged now verdict rule judged
    → TellsDone listed (told_more answer course) judged
ended listed course running now answer end verdict rule judged left is_end way same is =
    let config : arc_value now.picked.config ≡ course.config = ap (λ picked. arc_value picked.config) same ∙ way.config in
    let judgement_is : judgement_of judged ≡ judged_as verdict rule (carried_of course.config now.state) = rw config at is.judgement in
    record {
      version = is.version ∙ ap (λ picked. picked.number) same ∙ way.number;
      config = is.config ∙ config;
      done =
          ap (seen_as judgement) (told_after (judging listed course.config course.request) (with_answer answer course.answers) (Ends end) left)
          ∙ ap Done (is_end ∙ sym judgement_is);
    }

pub tells_closed : (listed : Listed) (course : Course) (running now : Running) (answer : Option Answer) (verdict : VerdictKind)
    (name : RuleName) (judged : Judged) → IsUnderWay listed course running → Fits running.asked answer
    → now.picked ≡ running.picked → Proceeds listed answer running now (ran.Closed verdict name)
    → IsJudged now verdict (Some name) judged → TellsDone listed (told_more answer course) judged
tells_closed listed course running now answer verdict name judged way fits same goes is =
    ended listed course running now answer (Closed verdict name (carried_of course.config now.state)) verdict (Some name) judged
    (turned listed course running now answer (ran.Closed verdict name) way fits goes) refl way same is

pub tells_passed : (listed : Listed) (course : Course) (running now : Running) (answer : Option Answer) (judged : Judged)
    → IsUnderWay listed course running → Fits running.asked answer
    → now.picked ≡ running.picked → Proceeds listed answer running now ran.Passed
    → IsJudged now kind.Pass None judged → TellsDone listed (told_more answer course) judged
tells_passed listed course running now answer judged way fits same goes is =
    ended listed course running now answer (Passed (carried_of course.config now.state)) kind.Pass None judged
    (turned listed course running now answer ran.Passed way fits goes) refl way same is

-- at first nothing is left but all phases
pub starts : (listed : Listed) (picked : Picked) (request : Request) (running : Running) → running.picked ≡ picked → running.asked ≡ None
    → running.state ≡ opened request → IsUnderWay listed (opening picked request) running
starts listed picked request running same asked opens =
    record {
      number = ap (λ one. one.number) same;
      config = ap (λ one. arc_value one.config) same;
      talk = judging listed (arc_value picked.config) request;
      is_after = refl;
      is_left = rw (asked, opens) refl;
    }
