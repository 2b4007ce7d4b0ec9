-- What is left of the judging of a reply, turn by turn.
use Rattle.std.proofs.Common.{◌≡◌, ℕ, ◌+◌, true, false, List, [], ◌∷◌, drop, Option, None, Some, slice_get, refl, ap, ◌∙◌, add-one}
use Rattle.std.specs.Arc.{arc_value}
use Rattle.edge_base.specs.declared.message.Reply.{Reply}
use Rattle.rate_plain.specs.declared.entry.Answer.{Answer}
use Rattle.rate_plain.specs.declared.entry.Ask.{Ask}
use Rattle.ruleset_model.specs.ConfigParts.{ConfigParts}
use Rattle.ruleset_model.specs.declared.ruleset.Rule.{Rule}
use Rattle.ruleset_model.specs.declared.ruleset.Ruleset.{Ruleset}
use Rattle.judge_core.specs.declared.backing.Backed.TheVariants as backed
use Rattle.judge_core.specs.declared.backing.Backed.{Backed}
use Rattle.judge_core.specs.declared.backing.Backing.{Backing}
use Rattle.judge_core.specs.declared.backing.Stage.TheVariants as stage
use Rattle.judge_core.specs.declared.backing.Stage.{Stage}
use Rattle.judge_core.specs.declared.counting.KeptAsk.{KeptAsk}
use Rattle.judge_core.specs.declared.judging.Judged.{Judged}
use Rattle.judge_core.specs.declared.kept.KeptCount.{KeptCount}
use Rattle.judge_core.specs.declared.outcome.Asked.{Asked}
use Rattle.judge_core.specs.declared.outcome.Ran.{Ran}
use Rattle.judge_core.specs.declared.outcome.Ran.TheVariants as ran
use Rattle.judge_core.specs.Backing.{BackCourse, IsBackLeft, IsBackUnderWay, FitsStage, TellsBackAsk, TellsReply, IsBacked, BackProceeds, EndsSoon, back_due, back_more, back_opened, back_opening, reply_phase}
use Rattle.judge_core.specs.Carried.{Carried, End}
use Rattle.judge_core.specs.Judging.{backing, carried_at, counting_at, counting_in, limit_in, kept_then, seen_as}
use Rattle.judge_core.specs.Limits.{counts_reply}
use Rattle.judge_core.specs.Places.{carried_of, rule_at, Reaches}
use Rattle.judge_core.specs.Ran.{ran_seen}
use Rattle.judge_core.specs.Stands.{judgement_of, with_answer}
use Rattle.judge_core.specs.Talk.{Talk, Asks, Done, after, told}
use Rattle.judge_core.specs.Values.{Listed, AreTold}
use Rattle.judge_core.proofs.StepLemmas.{drop_found, drop_none}
use Rattle.judge_core.proofs.TalkLemmas.{after_more, told_after}

-- ---- the rules that count
pub no_counting : (config : ConfigParts) (kept : KeptCount) → rule_at config (record { set = kept.holder; rule = kept.rule }) ≡ None
    → counting_at config kept ≡ None
no_counting config kept none = ap (λ rule. counting_in (limit_in rule)) none

pub counting_here : (config : ConfigParts) (kept : KeptCount) (set : Ruleset) (rule : Rule)
    → Reaches config (record { set = kept.holder; rule = kept.rule }) set rule → counting_at config kept ≡ counting_in rule.limit
counting_here config kept set rule there = rw (there.set_there, there.rule_there) refl

pub kept_none : (listed : Listed) (config : ConfigParts) (at : ℕ) (c : Carried) (kept : List KeptCount) (number : ℕ) → slice_get kept number ≡ None
    → kept_then listed config at c (drop number kept) ≡ reply_phase listed config c
unfolding kept_then
kept_none listed config at c kept number none = rw (drop_none kept number none) refl

pub kept_passes : (listed : Listed) (config : ConfigParts) (at : ℕ) (c : Carried) (kept : List KeptCount) (number : ℕ) (one : KeptCount)
    → slice_get kept number ≡ Some one → counts_reply listed (counting_at config one) c ≡ false
    → kept_then listed config at c (drop number kept) ≡ kept_then listed config at c (drop (number + 1) kept)
unfolding kept_then
kept_passes listed config at c kept number one there passes =
    ap (kept_then listed config at c) (drop_found kept number one there) ∙ rw (add-one number, passes) refl

pub kept_asks : (listed : Listed) (config : ConfigParts) (at : ℕ) (c : Carried) (kept : List KeptCount) (number : ℕ) (one : KeptCount)
    → slice_get kept number ≡ Some one → counts_reply listed (counting_at config one) c ≡ true
    → kept_then listed config at c (drop number kept)
    ≡ Asks (record { key = one.key; asked = at; adds = true }) (λ answer. kept_then listed config at c (drop (number + 1) kept))
unfolding kept_then
kept_asks listed config at c kept number one there counts =
    ap (kept_then listed config at c) (drop_found kept number one there) ∙ rw (add-one number, counts) refl

-- ---- the phase
-- where the phase came to a stop, so did the judging
pub stopped : (listed : Listed) (config : ConfigParts) (at : ℕ) (kept : List KeptCount) (talk : Talk End) (c : Carried) (r : Ran) (seen : Backed)
    → talk ≡ ran_seen listed config r c → EndsSoon r seen → IsBacked listed config at kept c talk seen
stopped listed config at kept talk c ran.Passed seen is soon = rw soon (_, is, refl)
stopped listed config at kept talk c (ran.Closed verdict name) seen is soon = rw soon (_, is, refl)
stopped listed config at kept talk c (ran.Asks ask asked) seen is soon = rw soon is

-- ---- turns
due_after : (listed : Listed) (config : ConfigParts) (whole talk : Talk End) (at : ℕ) (kept : List KeptCount) (asked : Stage) (c : Carried)
    (answers : List Answer) (answer : Option Answer) → after whole answers ≡ Some talk → IsBackLeft listed config at kept asked c talk
    → FitsStage asked answer → after whole (with_answer answer answers) ≡ Some (back_due listed config at kept asked answer c)
due_after listed config whole talk at kept stage.Begins c answers None is left fits = is ∙ ap Some left
due_after listed config whole talk at kept stage.Begins c answers (Some answer) is left fits = absurd fits
due_after listed config whole talk at kept (stage.Counted next) c answers None is left fits = absurd fits
due_after listed config whole talk at kept (stage.Counted next) c answers (Some answer) is left fits =
    after_more whole answers (answer ∷ []) talk is ∙ ap (λ t. after t (answer ∷ [])) left.1
due_after listed config whole talk at kept (stage.Walked asked) c answers None is left fits = absurd fits
due_after listed config whole talk at kept (stage.Walked asked) c answers (Some answer) is left fits =
    after_more whole answers (answer ∷ []) talk is ∙ ap (λ t. after t (answer ∷ [])) left.1

-- what is left after the turn, and how it was left
turned : (listed : Listed) (course : BackCourse) (before now : Backing) (answer : Option Answer) (r : Backed)
    → IsBackUnderWay listed course before → FitsStage before.stage answer → BackProceeds listed answer before now r
    → now.at ≡ before.at → now.kept ≡ before.kept
    → (talk : Talk End)
    × (after (backing listed course.config course.judged course.reply course.at) (with_answer answer course.answers) ≡ Some talk)
    × IsBacked listed course.config now.at now.kept (carried_of course.config now.state) talk r
turned listed course before now answer r way fits goes same_at same_kept = (
  back_due listed course.config before.at before.kept before.stage answer (carried_of course.config before.state),
  due_after listed course.config (backing listed course.config course.judged course.reply course.at) way.talk before.at before.kept before.stage
      (carried_of course.config before.state) course.answers answer way.is_after way.is_left fits,
  rw (same_at, same_kept) (rw way.config at goes),
)

asks_next : (listed : Listed) (course : BackCourse) (before now : Backing) (next : Stage) (answer : Option Answer) (ask : Ask)
    (go : Answer → Talk End) (talk : Talk End) → AreTold listed (arc_value before.config) → IsBackUnderWay listed course before
    → now.config ≡ before.config
    → after (backing listed course.config course.judged course.reply course.at) (with_answer answer course.answers) ≡ Some talk
    → talk ≡ Asks ask go → IsBackLeft listed course.config now.at now.kept next (carried_of course.config now.state) talk
    → ((one : Answer) → FitsStage next (Some one))
    → TellsBackAsk listed (back_more answer course) (record { backing = Some (record now { stage = next }) }) ask
asks_next listed course before now next answer ask go talk lists way same left is is_left fits =
    record {
      asks =
          ap (seen_as (λ (end : End). (carried_at end).reply))
          (told_after (backing listed course.config course.judged course.reply course.at) (with_answer answer course.answers) talk left
          ∙ ap (λ t. told t []) is);
      stands = record {
        config = ap arc_value same ∙ way.config;
        talk = talk;
        is_after = left;
        is_left = is_left;
      };
      told = rw same lists;
      may = fits;
    }

pub tells_counted : (listed : Listed) (course : BackCourse) (before now : Backing) (answer : Option Answer) (found : KeptAsk)
    → AreTold listed (arc_value before.config) → IsBackUnderWay listed course before → FitsStage before.stage answer
    → now.config ≡ before.config → now.at ≡ before.at → now.kept ≡ before.kept
    → BackProceeds listed answer before now (backed.Counts found)
    → TellsBackAsk listed (back_more answer course) (record { backing = Some (record now { stage = stage.Counted found.next }) }) found.ask
tells_counted listed course before now answer found lists way fits same same_at same_kept goes =
    let left = turned listed course before now answer (backed.Counts found) way fits goes same_at same_kept in
    asks_next listed course before now (stage.Counted found.next) answer found.ask _ left.0 lists way same left.1 left.2
    (found.ask, left.2) (λ one. tt)

pub tells_asked : (listed : Listed) (course : BackCourse) (before now : Backing) (answer : Option Answer) (ask : Ask) (asked : Asked)
    → AreTold listed (arc_value before.config) → IsBackUnderWay listed course before → FitsStage before.stage answer
    → now.config ≡ before.config → now.at ≡ before.at → now.kept ≡ before.kept
    → BackProceeds listed answer before now (backed.Asks ask asked)
    → TellsBackAsk listed (back_more answer course) (record { backing = Some (record now { stage = stage.Walked asked }) }) ask
tells_asked listed course before now answer ask asked lists way fits same same_at same_kept goes =
    let left = turned listed course before now answer (backed.Asks ask asked) way fits goes same_at same_kept in
    asks_next listed course before now (stage.Walked asked) answer ask _ left.0 lists way same left.1 left.2 (ask, left.2) (λ one. tt)

pub tells_reply : (listed : Listed) (course : BackCourse) (before now : Backing) (answer : Option Answer) (reply : Reply)
    → IsBackUnderWay listed course before → FitsStage before.stage answer → now.at ≡ before.at → now.kept ≡ before.kept
    → BackProceeds listed answer before now backed.Ended → now.state.reply ≡ Some reply
    → TellsReply listed (back_more answer course) reply
tells_reply listed course before now answer reply way fits same_at same_kept goes is_reply =
    let left = turned listed course before now answer backed.Ended way fits goes same_at same_kept in
    ap (seen_as (λ (end : End). (carried_at end).reply))
    (told_after (backing listed course.config course.judged course.reply course.at) (with_answer answer course.answers) left.0 left.1
    ∙ ap (λ t. told t []) left.2.1)
    ∙ ap Done (left.2.2 ∙ is_reply)

-- at first all kept rules and the phase are left
pub starts : (listed : Listed) (judged : Judged) (reply : Reply) (at : ℕ) (now : Backing) → now.config ≡ judged.config → now.at ≡ at
    → now.kept ≡ judged.kept → now.stage ≡ stage.Begins → now.state ≡ back_opened judged.request reply judged.skips
    → IsBackUnderWay listed (back_opening judged reply at) now
starts listed judged reply at now same same_at same_kept begins opens =
    record {
      config = ap arc_value same;
      talk = backing listed (arc_value judged.config) (judgement_of judged) reply at;
      is_after = refl;
      is_left = rw (same_at, same_kept, begins, opens) refl;
    }
