-- What each event does to a caller, and what has come of it since its version was picked, or since its reply came.
use Rattle.std.proofs.Common.{◌≡◌, ◌⊎◌, ℕ, ◌≤◌, ◌==◌, cond, List, [], ◌∷◌, ◌++◌, length, drop, map, filter, Option, None, Some, slice_get, slice_set, inl, inr, refl, sym, ap, subst, ◌∙◌, append-nil, append_assoc, eq-eqb, ne_eqb, length-append, arith}
use Rattle.std.proofs.Math.Seq.{drop-length}
use Rattle.std.proofs.lemmas.Bool.{cases_eq}
use Rattle.std.proofs.lemmas.List.{drop-append-le, map-append}
use Rattle.std.proofs.lemmas.List.Elements.{filter-append}
use Rattle.serde_json.specs.Data.{Data}
use Rattle.serde_json.specs.View.{view}
use Rattle.edge_base.specs.declared.message.Reply.{Reply}
use Rattle.edge_base.specs.declared.message.Request.{Request}
use Rattle.rate_plain.specs.History.{own_of, entry_of}
use Rattle.rate_plain.specs.Window.{answer_of}
use Rattle.rate_plain.specs.declared.entry.Answer.{Answer}
use Rattle.rate_plain.specs.declared.entry.Ask.{Ask}
use Rattle.rate_plain.specs.declared.entry.Entry.{Entry}
use Rattle.ruleset_model.specs.ConfigParts.{ConfigParts}
use Rattle.ruleset_model.specs.declared.verdict.VerdictKind.{VerdictKind}
use Rattle.ruleset_model.specs.declared.verdict.VerdictKind.TheVariants as kind
use Rattle.judge_core.specs.Backing.{BackCourse, back_more}
use Rattle.judge_core.specs.Judging.{Judgement}
use Rattle.judge_core.specs.Stands.{Course, told_more}
use Rattle.judge_core.specs.Talk.{Stand, Counts, Done, Overtold}
use Rattle.edge_core.specs.declared.event.Event.{Event}
use Rattle.edge_core.specs.declared.event.Event.TheVariants as event
use Rattle.edge_core.specs.declared.event.Shown.{Shown}
use Rattle.edge_core.specs.declared.event.Shown.TheVariants as shown
use Rattle.edge_core.specs.World.{CallerParts, Idle, Came, UnderWay, Judged, Backing, WorldParts, Terms}
use Rattle.edge_core.specs.Steps.{Move, Outcome, IsStep, IsDeployed, arriving, picking, finishing, backing, judged_in, judged_so, replied_in, replied_so, reply_came, moves, moved, counts, counted, asked_by, answered, number_of, config_of}
use Rattle.edge_core.specs.Runs.{IsRun}
use Rattle.edge_core.specs.Since.{answers_since, HasSeen, PickedSince, BackSince}
use Rattle.edge_core.proofs.PlaceLemmas.{set_same, get_set_same, get_set_other}
use Rattle.edge_core.proofs.RunLemmas.{run_more, moves_history}

-- ---- the answers to a caller's own steps
abbrev pub own_answers : ℕ → List Entry → List Answer
own_answers caller entries = map (λ (entry : Entry). entry.answer) (own_of entries caller)

own_answers-append : (caller : ℕ) (xs ys : List Entry) → own_answers caller (xs ++ ys) ≡ own_answers caller xs ++ own_answers caller ys
own_answers-append caller xs ys =
    ap (map (λ (entry : Entry). entry.answer)) (filter-append (λ (entry : Entry). entry.caller == caller) xs ys)
    ∙ map-append (λ (entry : Entry). entry.answer) (own_of xs caller) (own_of ys caller)

own_one : (caller : ℕ) (entry : Entry) → entry.caller ≡ caller → own_answers caller (entry ∷ []) ≡ entry.answer ∷ []
own_one caller entry is = ap (λ b. map (λ (e : Entry). e.answer) (cond b (entry ∷ []) [])) (eq-eqb entry.caller caller is)

others_one : (caller : ℕ) (entry : Entry) → (entry.caller ≡ caller → ⊥) → own_answers caller (entry ∷ []) ≡ []
others_one caller entry other = ap (λ b. map (λ (e : Entry). e.answer) (cond b (entry ∷ []) [])) (ne_eqb entry.caller caller other)

pub answers_more : (caller : ℕ) (since now next : WorldParts) (more : List Entry) → length since.history ≤ length now.history → next.history ≡ now.history ++ more
    → answers_since caller since next ≡ answers_since caller since now ++ own_answers caller more
answers_more caller since now next more within is =
    ap (λ h. own_answers caller (drop (length since.history) h)) is
    ∙ ap (own_answers caller) (drop-append-le (length since.history) now.history more within)
    ∙ own_answers-append caller (drop (length since.history) now.history) more

pub answers_none : (caller : ℕ) (now : WorldParts) → answers_since caller now now ≡ []
answers_none caller now = ap (own_answers caller) (drop-length now.history)

-- ---- what an event does to a caller
-- it is neither judged nor is its reply
abbrev pub IsAway : CallerParts → Type 0
IsAway Idle = Unit {0}
IsAway (Came request) = Unit {0}
IsAway (UnderWay course) = ⊥
IsAway (Judged config judged) = Unit {0}
IsAway (Backing course) = ⊥

-- a request for which a version is picked
abbrev pub picked_course : WorldParts → Request → Course
picked_course now request = record { number = number_of now.published; config = config_of now.published; request = request; answers = [] }

abbrev pub back_course : ConfigParts → Judgement → Reply → ℕ → BackCourse
back_course config judged reply at = record { config = config; judged = judged; reply = reply; at = at; answers = [] }

pub data Effect (caller : ℕ) (now next : WorldParts) (happened : Event) (what : Shown) : Type 0 where
  same : (more : List Entry) → next.history ≡ now.history ++ more → own_answers caller more ≡ []
      → slice_get next.callers caller ≡ slice_get now.callers caller → Effect caller now next happened what
  away : (more : List Entry) → next.history ≡ now.history ++ more → (state : CallerParts) → slice_get next.callers caller ≡ Some state → IsAway state
      → Effect caller now next happened what
  picked : (request : Request) → happened ≡ event.Pick caller → what ≡ shown.Picked (number_of now.published) → next.history ≡ now.history ++ []
      → slice_get now.callers caller ≡ Some (Came request) → slice_get next.callers caller ≡ Some (UnderWay (picked_course now request))
      → Effect caller now next happened what
  replied : (config : ConfigParts) (judged : Judgement) (reply : Reply) (at : ℕ) → happened ≡ event.Back caller reply at → what ≡ shown.Nothing
      → next.history ≡ now.history ++ [] → slice_get now.callers caller ≡ Some (Judged config judged)
      → slice_get next.callers caller ≡ Some (Backing (back_course config judged reply at)) → Effect caller now next happened what
  told : (more : List Entry) (answer : Answer) (course : Course) → next.history ≡ now.history ++ more → own_answers caller more ≡ answer ∷ []
      → slice_get now.callers caller ≡ Some (UnderWay course) → slice_get next.callers caller ≡ Some (UnderWay (told_more (Some answer) course))
      → Effect caller now next happened what
  told_back : (more : List Entry) (answer : Answer) (course : BackCourse) → next.history ≡ now.history ++ more → own_answers caller more ≡ answer ∷ []
      → slice_get now.callers caller ≡ Some (Backing course) → slice_get next.callers caller ≡ Some (Backing (back_more (Some answer) course))
      → Effect caller now next happened what

-- a caller's own event, by the state that it finds: the state stays, or nothing is under way in the next one, or it is one
-- of those that begin something
pub data Own (caller : ℕ) (now : WorldParts) (happened : Event) (state : CallerParts) (move : Move) : Type 0 where
  stay : move.state ≡ state → Own caller now happened state move
  leave : IsAway move.state → Own caller now happened state move
  begins : Effect caller now (moved caller now move).world happened (moved caller now move).shown → Own caller now happened state move

module _ (terms : Terms) (caller : ℕ) (now : WorldParts) where
  -- the event of another caller
  others_callers : (k : ℕ) (does : CallerParts → Move) (found : Option CallerParts) → (k ≡ caller → ⊥)
      → slice_get (moves k now does found).world.callers caller ≡ slice_get now.callers caller
  others_callers k does None other = refl
  others_callers k does (Some state) other = get_set_other now.callers k caller (does state).state other

  others_move : (k : ℕ) (does : CallerParts → Move) (happened : Event) (outcome : Outcome) → (k ≡ caller → ⊥)
      → outcome ≡ moves k now does (slice_get now.callers k) → Effect caller now outcome.world happened outcome.shown
  others_move k does happened outcome other is =
      let found = slice_get now.callers k in
      same [] (ap (λ (o : Outcome). o.world.history) is ∙ moves_history k now does found ∙ sym (append-nil now.history)) refl
      (ap (λ (o : Outcome). slice_get o.world.callers caller) is ∙ others_callers k does found other)

  others_counted : (k : ℕ) (happened : Event) (state : CallerParts) (asked : Option Ask) → (k ≡ caller → ⊥)
      → Effect caller now (counted terms k now state asked).world happened (counted terms k now state asked).shown
  others_counted k happened state None other = same [] (sym (append-nil now.history)) refl refl
  others_counted k happened state (Some ask) other =
      let entry = entry_of terms.lanes terms.cap now.history k ask in
      same (entry ∷ []) refl (others_one caller entry other)
      (get_set_other now.callers k caller (answered (answer_of terms.lanes terms.cap now.history ask) state) other)

  others_count : (k : ℕ) (happened : Event) (found : Option CallerParts) → (k ≡ caller → ⊥)
      → Effect caller now (counts terms k now found).world happened (counts terms k now found).shown
  others_count k happened None other = same [] (sym (append-nil now.history)) refl refl
  others_count k happened (Some state) other = others_counted k happened state (asked_by terms.meaning state) other

  own_effect : (happened : Event) (state : CallerParts) (move : Move) → slice_get now.callers caller ≡ Some state → Own caller now happened state move
      → Effect caller now (moved caller now move).world happened (moved caller now move).shown
  own_effect happened state move is (stay kept) =
      same [] (sym (append-nil now.history)) refl
      (ap (λ xs. slice_get xs caller) (ap (slice_set now.callers caller) kept ∙ set_same now.callers caller state is))
  own_effect happened state move is (leave gone) = away [] (sym (append-nil now.history)) move.state (get_set_same now.callers caller state move.state is) gone
  own_effect happened state move is (begins effect) = effect

  own_moves : (does : CallerParts → Move) (happened : Event)
      → ((state : CallerParts) → slice_get now.callers caller ≡ Some state → Own caller now happened state (does state))
      → (found : Option CallerParts) → slice_get now.callers caller ≡ found
      → Effect caller now (moves caller now does found).world happened (moves caller now does found).shown
  own_moves does happened own None is = same [] (sym (append-nil now.history)) refl refl
  own_moves does happened own (Some state) is = own_effect happened state (does state) is (own state is)

  own_move : (does : CallerParts → Move) (happened : Event) (outcome : Outcome)
      → ((state : CallerParts) → slice_get now.callers caller ≡ Some state → Own caller now happened state (does state))
      → outcome ≡ moves caller now does (slice_get now.callers caller) → Effect caller now outcome.world happened outcome.shown
  own_move does happened outcome own is =
      subst (λ (o : Outcome). Effect caller now o.world happened o.shown) (sym is)
      (own_moves does happened own (slice_get now.callers caller) refl)

  arrives : (happened : Event) (request : Request) (state : CallerParts) → Own caller now happened state (arriving request state)
  arrives happened request Idle = leave tt
  arrives happened request (Came other) = stay refl
  arrives happened request (UnderWay course) = stay refl
  arrives happened request (Judged config judged) = leave tt
  arrives happened request (Backing course) = stay refl

  picks : (state : CallerParts) → slice_get now.callers caller ≡ Some state
      → Own caller now (event.Pick caller) state (picking (number_of now.published) (config_of now.published) state)
  picks Idle is = stay refl
  picks (Came request) is =
      begins (picked request refl refl (sym (append-nil now.history)) is
      (get_set_same now.callers caller (Came request) (UnderWay (picked_course now request)) is))
  picks (UnderWay course) is = stay refl
  picks (Judged config judged) is = stay refl
  picks (Backing course) is = stay refl

  judged_own : (happened : Event) (course : Course) (stand : Stand Judgement) → Own caller now happened (UnderWay course) (judged_in course stand)
  judged_own happened course (Counts ask) = stay refl
  judged_own happened course (Done judged) = leave tt
  judged_own happened course Overtold = stay refl

  replied_own : (happened : Event) (course : BackCourse) (stand : Stand (Option Reply)) → Own caller now happened (Backing course) (replied_in course stand)
  replied_own happened course (Counts ask) = stay refl
  replied_own happened course (Done None) = stay refl
  replied_own happened course (Done (Some reply)) = leave tt
  replied_own happened course Overtold = stay refl

  finishes : (happened : Event) (state : CallerParts) → Own caller now happened state (finishing terms.meaning state)
  finishes happened Idle = stay refl
  finishes happened (Came request) = stay refl
  finishes happened (UnderWay course) = judged_own happened course (judged_so terms.meaning course)
  finishes happened (Judged config judged) = stay refl
  finishes happened (Backing course) = replied_own happened course (replied_so terms.meaning course)

  came_own : (config : ConfigParts) (judged : Judgement) (reply : Reply) (at : ℕ) (passed : VerdictKind)
      → slice_get now.callers caller ≡ Some (Judged config judged)
      → Own caller now (event.Back caller reply at) (Judged config judged) (reply_came config judged reply at passed)
  came_own config judged reply at kind.Pass is =
      begins (replied config judged reply at refl refl (sym (append-nil now.history)) is
      (get_set_same now.callers caller (Judged config judged) (Backing (back_course config judged reply at)) is))
  came_own config judged reply at (kind.Block response) is = stay refl
  came_own config judged reply at kind.Challenge is = stay refl
  came_own config judged reply at (kind.Redirect status target) is = stay refl

  backs : (reply : Reply) (at : ℕ) (state : CallerParts) → slice_get now.callers caller ≡ Some state
      → Own caller now (event.Back caller reply at) state (backing reply at state)
  backs reply at Idle is = stay refl
  backs reply at (Came request) is = stay refl
  backs reply at (UnderWay course) is = stay refl
  backs reply at (Judged config judged) is = came_own config judged reply at judged.verdict.kind is
  backs reply at (Backing course) is = stay refl

  own_counted : (happened : Event) (state : CallerParts) (asked : Option Ask) → slice_get now.callers caller ≡ Some state → asked_by terms.meaning state ≡ asked
      → Effect caller now (counted terms caller now state asked).world happened (counted terms caller now state asked).shown
  own_counted happened state None is asks = same [] (sym (append-nil now.history)) refl refl
  own_counted happened Idle (Some ask) is asks = absurd (cc)
  own_counted happened (Came request) (Some ask) is asks = absurd (cc)
  own_counted happened (UnderWay course) (Some ask) is asks =
      let entry = entry_of terms.lanes terms.cap now.history caller ask in
      told (entry ∷ []) entry.answer course refl (own_one caller entry refl) is
      (get_set_same now.callers caller (UnderWay course) (UnderWay (told_more (Some entry.answer) course)) is)
  own_counted happened (Judged config judged) (Some ask) is asks = absurd (cc)
  own_counted happened (Backing course) (Some ask) is asks =
      let entry = entry_of terms.lanes terms.cap now.history caller ask in
      told_back (entry ∷ []) entry.answer course refl (own_one caller entry refl) is
      (get_set_same now.callers caller (Backing course) (Backing (back_more (Some entry.answer) course)) is)

  own_count : (happened : Event) (found : Option CallerParts) → slice_get now.callers caller ≡ found
      → Effect caller now (counts terms caller now found).world happened (counts terms caller now found).shown
  own_count happened None is = same [] (sym (append-nil now.history)) refl refl
  own_count happened (Some state) is = own_counted happened state (asked_by terms.meaning state) is refl

  deployed : (value : Data) (happened : Event) (next : WorldParts) (what : Shown) → IsDeployed value now next what → Effect caller now next happened what
  deployed value happened next shown.Nothing is = absurd is
  deployed value happened next shown.Unfit is = absurd is
  deployed value happened next (shown.Picked number) is = absurd is
  deployed value happened next (shown.Counted position answer) is = absurd is
  deployed value happened next (shown.Verdict verdict) is = absurd is
  deployed value happened next (shown.Replied reply) is = absurd is
  deployed value happened next (shown.Deployed number) (config, stands, kept, numbered) =
      same [] (ap (λ (w : WorldParts). w.history) kept ∙ sym (append-nil now.history)) refl (ap (λ (w : WorldParts). slice_get w.callers caller) kept)
  deployed value happened next (shown.Refused place cause) (reads, kept) =
      same [] (ap (λ (w : WorldParts). w.history) kept ∙ sym (append-nil now.history)) refl (ap (λ (w : WorldParts). slice_get w.callers caller) kept)

  -- an event of a caller that is this one or another
  abbrev Has : (ℕ → Event) → Outcome → ℕ → Type 0
  Has happened outcome k = IsStep terms now (happened k) outcome → Effect caller now outcome.world (happened k) outcome.shown

  by_caller : (happened : ℕ → Event) (outcome : Outcome) (k : ℕ) → Has happened outcome caller → ((k ≡ caller → ⊥) → Has happened outcome k) → Has happened outcome k
  by_caller happened outcome k own others = elim (cases_eq k caller) [
    | inl one ↦ subst (Has happened outcome) (sym one) own
    | inr other ↦ others other
  ]

  pub effect : (happened : Event) (outcome : Outcome) → IsStep terms now happened outcome → Effect caller now outcome.world happened outcome.shown
  effect (event.Arrive k request) outcome is =
      by_caller (λ k. event.Arrive k request) outcome k (own_move (arriving request) _ outcome (λ state at. arrives _ request state))
      (λ other. others_move k (arriving request) _ outcome other) is
  effect (event.Pick k) outcome is =
      let does = picking (number_of now.published) (config_of now.published) in
      by_caller (λ k. event.Pick k) outcome k (own_move does _ outcome picks) (λ other. others_move k does _ outcome other) is
  effect (event.Count k) outcome is =
      by_caller (λ k. event.Count k) outcome k
      (λ is. subst (λ (o : Outcome). Effect caller now o.world (event.Count caller) o.shown) (sym is) (own_count _ (slice_get now.callers caller) refl))
      (λ other is. subst (λ (o : Outcome). Effect caller now o.world (event.Count k) o.shown) (sym is) (others_count k _ (slice_get now.callers k) other)) is
  effect (event.Done k) outcome is =
      by_caller (λ k. event.Done k) outcome k (own_move (finishing terms.meaning) _ outcome (λ state at. finishes _ state))
      (λ other. others_move k (finishing terms.meaning) _ outcome other) is
  effect (event.Back k reply at) outcome is =
      by_caller (λ k. event.Back k reply at) outcome k (own_move (backing reply at) _ outcome (backs reply at))
      (λ other. others_move k (backing reply at) _ outcome other) is
  effect (event.Deploy value) outcome is = deployed (view value) (event.Deploy value) outcome.world outcome.shown is
