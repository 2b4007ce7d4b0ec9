-- What shows that an event didn't fit, or that a deployment was refused, has changed nothing.
use Rattle.std.proofs.Common.{◌≡◌, ℕ, List, Option, None, Some, slice_get, slice_set, refl, sym, ap, subst, ◌∙◌}
use Rattle.serde_json.specs.Data.{Data}
use Rattle.serde_json.specs.View.{view}
use Rattle.edge_base.specs.declared.message.Reply.{Reply}
use Rattle.edge_base.specs.declared.message.Request.{Request}
use Rattle.rate_plain.specs.declared.entry.Ask.{Ask}
use Rattle.ruleset_model.specs.ConfigParts.{ConfigParts}
use Rattle.ruleset_model.specs.declared.verdict.VerdictKind.{VerdictKind}
use Rattle.ruleset_model.specs.declared.verdict.VerdictKind.TheVariants as kind
use Rattle.judge_core.specs.Backing.{BackCourse}
use Rattle.judge_core.specs.Judging.{Judgement}
use Rattle.judge_core.specs.Stands.{Course}
use Rattle.judge_core.specs.Talk.{Stand, Counts, Done, Overtold}
use Rattle.judge_core.specs.Values.{Listed}
use Rattle.edge_core.specs.declared.event.Event.{Event}
use Rattle.edge_core.specs.declared.event.Event.TheVariants as event
use Rattle.edge_core.specs.declared.event.Shown.{Shown}
use Rattle.edge_core.specs.declared.event.Shown.TheVariants as shown
use Rattle.edge_core.specs.World.{CallerParts, Idle, Came, UnderWay, Judged, Backing, WorldParts, Terms}
use Rattle.edge_core.specs.Steps.{Move, Outcome, IsStep, IsDeployed, arriving, picking, finishing, backing, judged_in, judged_so, replied_in, replied_so, reply_came, moves, moved, counts, counted, asked_by, number_of, config_of}
use Rattle.edge_core.specs.Laws.{IsTurnedAway, RefusalsChangeNothing}
use Rattle.edge_core.proofs.PlaceLemmas.{set_same}

-- where the caller is turned away it stays
abbrev pub Stays : (CallerParts → Move) → Type 0
Stays does = (state : CallerParts) → IsTurnedAway (does state).shown → (does state).state ≡ state

arriving_stays : (request : Request) → Stays (arriving request)
arriving_stays request Idle away = absurd away
arriving_stays request (Came other) away = refl
arriving_stays request (UnderWay course) away = refl
arriving_stays request (Judged config judged) away = absurd away
arriving_stays request (Backing course) away = refl

picking_stays : (number : ℕ) (config : ConfigParts) → Stays (picking number config)
picking_stays number config Idle away = refl
picking_stays number config (Came request) away = absurd away
picking_stays number config (UnderWay course) away = refl
picking_stays number config (Judged of judged) away = refl
picking_stays number config (Backing course) away = refl

judged_stays : (course : Course) (stand : Stand Judgement) → IsTurnedAway (judged_in course stand).shown → (judged_in course stand).state ≡ UnderWay course
judged_stays course (Counts ask) away = refl
judged_stays course (Done judged) away = absurd away
judged_stays course Overtold away = refl

replied_stays : (course : BackCourse) (stand : Stand (Option Reply)) → IsTurnedAway (replied_in course stand).shown → (replied_in course stand).state ≡ Backing course
replied_stays course (Counts ask) away = refl
replied_stays course (Done None) away = refl
replied_stays course (Done (Some reply)) away = absurd away
replied_stays course Overtold away = refl

finishing_stays : (meaning : ConfigParts → Listed) → Stays (finishing meaning)
finishing_stays meaning Idle away = refl
finishing_stays meaning (Came request) away = refl
finishing_stays meaning (UnderWay course) away = judged_stays course (judged_so meaning course) away
finishing_stays meaning (Judged config judged) away = refl
finishing_stays meaning (Backing course) away = replied_stays course (replied_so meaning course) away

came_stays : (config : ConfigParts) (judged : Judgement) (reply : Reply) (at : ℕ) (passed : VerdictKind) → IsTurnedAway (reply_came config judged reply at passed).shown
    → (reply_came config judged reply at passed).state ≡ Judged config judged
came_stays config judged reply at kind.Pass away = absurd away
came_stays config judged reply at (kind.Block response) away = refl
came_stays config judged reply at kind.Challenge away = refl
came_stays config judged reply at (kind.Redirect status target) away = refl

backing_stays : (reply : Reply) (at : ℕ) → Stays (backing reply at)
backing_stays reply at Idle away = refl
backing_stays reply at (Came request) away = refl
backing_stays reply at (UnderWay course) away = refl
backing_stays reply at (Judged config judged) away = came_stays config judged reply at judged.verdict.kind away
backing_stays reply at (Backing course) away = refl

-- and so does the world
moves_stay : (caller : ℕ) (world : WorldParts) (does : CallerParts → Move) → Stays does → (found : Option CallerParts) → slice_get world.callers caller ≡ found
    → IsTurnedAway (moves caller world does found).shown → (moves caller world does found).world ≡ world
moves_stay caller world does stay None is away = refl
moves_stay caller world does stay (Some state) is away =
    let same : slice_set world.callers caller (does state).state ≡ world.callers =
    ap (slice_set world.callers caller) (stay state away) ∙ set_same world.callers caller state is in
    ap (λ (callers : List CallerParts). record { published = world.published; history = world.history; callers = callers }) same

counted_stay : (terms : Terms) (caller : ℕ) (world : WorldParts) (state : CallerParts) (asked : Option Ask)
    → IsTurnedAway (counted terms caller world state asked).shown → (counted terms caller world state asked).world ≡ world
counted_stay terms caller world state None away = refl
counted_stay terms caller world state (Some ask) away = absurd away

counts_stay : (terms : Terms) (caller : ℕ) (world : WorldParts) (found : Option CallerParts) → IsTurnedAway (counts terms caller world found).shown
    → (counts terms caller world found).world ≡ world
counts_stay terms caller world None away = refl
counts_stay terms caller world (Some state) away = counted_stay terms caller world state (asked_by terms.meaning state) away

deployed_stay : (value : Data) (world next : WorldParts) (what : Shown) → IsDeployed value world next what → IsTurnedAway what → next ≡ world
deployed_stay value world next shown.Nothing is away = absurd is
deployed_stay value world next shown.Unfit is away = absurd is
deployed_stay value world next (shown.Picked number) is away = absurd is
deployed_stay value world next (shown.Counted position answer) is away = absurd is
deployed_stay value world next (shown.Verdict verdict) is away = absurd is
deployed_stay value world next (shown.Replied reply) is away = absurd is
deployed_stay value world next (shown.Deployed number) is away = absurd away
deployed_stay value world next (shown.Refused place cause) (reads, same) away = same

by_moves : (caller : ℕ) (world : WorldParts) (does : CallerParts → Move) → Stays does → (outcome : Outcome)
    → outcome ≡ moves caller world does (slice_get world.callers caller) → IsTurnedAway outcome.shown → outcome.world ≡ world
by_moves caller world does stay outcome is away =
    ap (λ (o : Outcome). o.world) is
    ∙ moves_stay caller world does stay (slice_get world.callers caller) refl (subst (λ (o : Outcome). IsTurnedAway o.shown) is away)

pub refusals_change_nothing : RefusalsChangeNothing
refusals_change_nothing terms from (event.Arrive caller request) outcome is away = by_moves caller from (arriving request) (arriving_stays request) outcome is away
refusals_change_nothing terms from (event.Pick caller) outcome is away =
    let number = number_of from.published in
    let config = config_of from.published in
    by_moves caller from (picking number config) (picking_stays number config) outcome is away
refusals_change_nothing terms from (event.Count caller) outcome is away =
    ap (λ (o : Outcome). o.world) is
    ∙ counts_stay terms caller from (slice_get from.callers caller) (subst (λ (o : Outcome). IsTurnedAway o.shown) is away)
refusals_change_nothing terms from (event.Done caller) outcome is away =
    by_moves caller from (finishing terms.meaning) (finishing_stays terms.meaning) outcome is away
refusals_change_nothing terms from (event.Back caller reply at) outcome is away = by_moves caller from (backing reply at) (backing_stays reply at) outcome is away
refusals_change_nothing terms from (event.Deploy value) outcome is away = deployed_stay (view value) from outcome.world outcome.shown is away
