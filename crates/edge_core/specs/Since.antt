-- What came of a request since its version was picked, and of a reply since it came: in every run, each verdict and each
-- reply that is shown is the judge's, by the answers to the caller's own steps since then.
use Rattle.std.specs.Prelude.{◌≡◌, ℕ, List, ◌∷◌, ◌++◌, drop, map, length, Some, slice_get}
use Rattle.edge_base.specs.declared.message.Reply.{Reply}
use Rattle.rate_plain.specs.History.{own_of}
use Rattle.rate_plain.specs.declared.entry.Answer.{Answer}
use Rattle.rate_plain.specs.declared.entry.Entry.{Entry}
use Rattle.ruleset_model.specs.declared.verdict.Verdict.{Verdict}
use Rattle.judge_core.specs.Backing.{BackCourse}
use Rattle.judge_core.specs.Judging.{Judgement}
use Rattle.judge_core.specs.Stands.{Course}
use Rattle.judge_core.specs.Talk.{Done}
use Rattle.edge_core.specs.declared.event.Event.{Event}
use Rattle.edge_core.specs.declared.event.Event.TheVariants as event
use Rattle.edge_core.specs.declared.event.Shown.{Shown}
use Rattle.edge_core.specs.declared.event.Shown.TheVariants as showing
use Rattle.edge_core.specs.World.{Came, Judged, WorldParts, Terms, opening_world}
use Rattle.edge_core.specs.Steps.{IsStep, config_of, judged_so, number_of, replied_so}
use Rattle.edge_core.specs.Runs.{IsRun}

-- the answers to the caller's own steps from one world to a later one: each once, and in order
abbrev pub answers_since : ℕ → WorldParts → WorldParts → List Answer
answers_since caller from to = map (λ (entry : Entry). entry.answer) (own_of (drop (length from.history) to.history) caller)

-- a run in which an event was seen, with the run before it and the run since then
pub record HasSeen (terms : Terms) (from to : WorldParts) (events : List Event) (shown : List Shown) (happened : Event) (what : Shown) : Type 0 where
  pub earlier : List Event
  pub earlier_shown : List Shown
  pub before : WorldParts
  pub after : WorldParts
  pub since : List Event
  pub since_shown : List Shown
  pub events_are : events ≡ earlier ++ happened ∷ since
  pub shown_are : shown ≡ earlier_shown ++ what ∷ since_shown
  pub earlier_run : IsRun terms from earlier earlier_shown before
  pub step : IsStep terms before happened (record { world = after; shown = what })
  pub since_run : IsRun terms after since since_shown to

-- the caller's version was picked for its request, and the answers are those since then
pub record PickedSince (terms : Terms) (from to : WorldParts) (events : List Event) (shown : List Shown) (caller : ℕ) (course : Course) : Type 0 where
  pub seen : HasSeen terms from to events shown (event.Pick caller) (showing.Picked course.number)
  pub request : slice_get seen.before.callers caller ≡ Some (Came course.request)
  pub number : course.number ≡ number_of seen.before.published
  pub config : course.config ≡ config_of seen.before.published
  pub answers : course.answers ≡ answers_since caller seen.after to

-- the caller's reply came for what was judged of its request, and the answers are those since then
pub record BackSince (terms : Terms) (from to : WorldParts) (events : List Event) (shown : List Shown) (caller : ℕ) (course : BackCourse) : Type 0 where
  pub seen : HasSeen terms from to events shown (event.Back caller course.reply course.at) showing.Nothing
  pub judged : slice_get seen.before.callers caller ≡ Some (Judged course.config course.judged)
  pub answers : course.answers ≡ answers_since caller seen.after to

-- each verdict that is shown is the judge's for the configuration that was picked
abbrev pub VerdictsAreJudged : Type 0
VerdictsAreJudged = (terms : Terms) (callers : ℕ) (events : List Event) (shown : List Shown) (to next : WorldParts) (caller : ℕ)
    (verdict : Verdict) → IsRun terms (opening_world callers) events shown to
    → IsStep terms to (event.Done caller) (record { world = next; shown = showing.Verdict verdict })
    → (course : Course) × (judged : Judgement) × PickedSince terms (opening_world callers) to events shown caller course
    × (judged_so terms.meaning course ≡ Done judged) × (judged.verdict ≡ verdict)

-- and so is each reply, by the configuration and the judgement of its request
abbrev pub RepliesAreJudged : Type 0
RepliesAreJudged = (terms : Terms) (callers : ℕ) (events : List Event) (shown : List Shown) (to next : WorldParts) (caller : ℕ)
    (reply : Reply) → IsRun terms (opening_world callers) events shown to
    → IsStep terms to (event.Done caller) (record { world = next; shown = showing.Replied reply })
    → (course : BackCourse) × BackSince terms (opening_world callers) to events shown caller course
    × (replied_so terms.meaning course ≡ Done (Some reply))
