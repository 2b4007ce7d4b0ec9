-- In every run, what is under way for a caller has been seen to begin, and has the answers to its own steps since then.
use Rattle.std.proofs.Common.{◌≡◌, ℕ, ◌≤◌, List, [], ◌∷◌, ◌++◌, length, Option, None, Some, slice_get, replicate, refl, sym, ap, subst, ◌∙◌, zero, suc, append-nil, append_assoc, length-append, arith}
use Rattle.edge_base.specs.declared.message.Reply.{Reply}
use Rattle.rate_plain.specs.declared.entry.Answer.{Answer}
use Rattle.rate_plain.specs.declared.entry.Entry.{Entry}
use Rattle.ruleset_model.specs.declared.verdict.Verdict.{Verdict}
use Rattle.judge_core.specs.Backing.{BackCourse, back_more}
use Rattle.judge_core.specs.Judging.{Judgement}
use Rattle.judge_core.specs.Stands.{Course, told_more}
use Rattle.judge_core.specs.Talk.{Stand, Counts, Done, Overtold}
use Rattle.edge_core.specs.declared.event.Event.{Event}
use Rattle.edge_core.specs.declared.event.Event.TheVariants as event
use Rattle.edge_core.specs.declared.event.Shown.{Shown}
use Rattle.edge_core.specs.declared.event.Shown.TheVariants as showing
use Rattle.edge_core.specs.World.{CallerParts, Idle, Came, UnderWay, Judged, Backing, WorldParts, Terms, opening_world}
use Rattle.edge_core.specs.Steps.{Outcome, IsStep, finishing, judged_in, judged_so, replied_in, replied_so, moves}
use Rattle.edge_core.specs.Runs.{IsRun}
use Rattle.edge_core.specs.Since.{answers_since, HasSeen, PickedSince, BackSince, VerdictsAreJudged, RepliesAreJudged}
use Rattle.edge_core.proofs.RunLemmas.{run_more}
use Rattle.edge_core.proofs.SinceLemmas.{Effect, effect, own_answers, answers_more, answers_none, picked_course, back_course}
use Rattle.edge_core.proofs.SinceLemmas as did

-- one value of each
some_same : {A : Type 0} {x y : A} → Some x ≡ Some y → x ≡ y
some_same is = cc

under_same : {a b : Course} → UnderWay a ≡ UnderWay b → a ≡ b
under_same is = cc

back_is : {a b : BackCourse} → Backing a ≡ Backing b → a ≡ b
back_is is = cc

back_under : {a : BackCourse} {b : Course} → Backing a ≡ UnderWay b → ⊥
back_under is = absurd (cc)

under_back : {a : Course} {b : BackCourse} → UnderWay a ≡ Backing b → ⊥
under_back is = absurd (cc)

idle_under : {b : Course} → Idle ≡ UnderWay b → ⊥
idle_under is = absurd (cc)

idle_back : {b : BackCourse} → Idle ≡ Backing b → ⊥
idle_back is = absurd (cc)

module _ (terms : Terms) where
  -- the history only grows
  abbrev Grows : WorldParts → WorldParts → Type 0
  Grows now next = (more : List Entry) × (next.history ≡ now.history ++ more)

  effect_grows : (caller : ℕ) (now next : WorldParts) (happened : Event) (what : Shown) → Effect caller now next happened what → Grows now next
  effect_grows caller now next happened what (did.same more is none kept) = (more, is)
  effect_grows caller now next happened what (did.away more is state at gone) = (more, is)
  effect_grows caller now next happened what (did.picked request a b is at onward) = ([], is)
  effect_grows caller now next happened what (did.replied config judged reply moment a b is at onward) = ([], is)
  effect_grows caller now next happened what (did.told more answer course is one at onward) = (more, is)
  effect_grows caller now next happened what (did.told_back more answer course is one at onward) = (more, is)

  run_grows : (now to : WorldParts) (events : List Event) (shown : List Shown) → IsRun terms now events shown to → Grows now to
  run_grows now to [] [] same = ([], ap (λ (w : WorldParts). w.history) (sym same) ∙ sym (append-nil now.history))
  run_grows now to [] (s ∷ shown) run = absurd run
  run_grows now to (e ∷ events) [] run = absurd run
  run_grows now to (e ∷ events) (s ∷ shown) (next, step, rest) =
      let first = effect_grows 0 now next e s (effect terms 0 now e (record { world = next; shown = s }) step) in
      let onward = run_grows next to events shown rest in
      (first.0 ++ onward.0, onward.1 ∙ ap (λ h. h ++ onward.0) first.1 ∙ append_assoc now.history first.0 onward.0)

  run_within : (now to : WorldParts) (events : List Event) (shown : List Shown) → IsRun terms now events shown to → length now.history ≤ length to.history
  run_within now to events shown run =
      let grown = run_grows now to events shown run in
      omega (arith, ap (λ h. length h) grown.1, length-append now.history grown.0)

-- what is known of a caller after a run
pub record Known (terms : Terms) (from : WorldParts) (caller : ℕ) (to : WorldParts) (events : List Event) (shown : List Shown) : Type 0 where
  pub run : IsRun terms from events shown to
  pub under : (course : Course) → slice_get to.callers caller ≡ Some (UnderWay course) → PickedSince terms from to events shown caller course
  pub back : (course : BackCourse) → slice_get to.callers caller ≡ Some (Backing course) → BackSince terms from to events shown caller course

-- one event more
module _ (terms : Terms) (from : WorldParts) (caller : ℕ) (now next : WorldParts) (events : List Event) (shown : List Shown) (e : Event) (s : Shown)
    (known : Known terms from caller now events shown) (step : IsStep terms now e (record { world = next; shown = s })) where
  seen_more : (happened : Event) (what : Shown) → HasSeen terms from now events shown happened what
      → HasSeen terms from next (events ++ e ∷ []) (shown ++ s ∷ []) happened what
  seen_more happened what seen = record {
    earlier = seen.earlier;
    earlier_shown = seen.earlier_shown;
    before = seen.before;
    after = seen.after;
    since = seen.since ++ e ∷ [];
    since_shown = seen.since_shown ++ s ∷ [];
    events_are = ap (λ xs. xs ++ e ∷ []) seen.events_are ∙ append_assoc seen.earlier (happened ∷ seen.since) (e ∷ []);
    shown_are = ap (λ xs. xs ++ s ∷ []) seen.shown_are ∙ append_assoc seen.earlier_shown (what ∷ seen.since_shown) (s ∷ []);
    earlier_run = seen.earlier_run;
    step = seen.step;
    since_run = run_more terms seen.after now next seen.since seen.since_shown e s seen.since_run step;
  }

  seen_now : (happened : Event) (what : Shown) → e ≡ happened → s ≡ what → HasSeen terms from next (events ++ e ∷ []) (shown ++ s ∷ []) happened what
  seen_now happened what is shows = record {
    earlier = events;
    earlier_shown = shown;
    before = now;
    after = next;
    since = [];
    since_shown = [];
    events_are = ap (λ x. events ++ x ∷ []) is;
    shown_are = ap (λ x. shown ++ x ∷ []) shows;
    earlier_run = known.run;
    step = subst (λ x. IsStep terms now x (record { world = next; shown = what })) is (subst (λ x. IsStep terms now e (record { world = next; shown = x })) shows step);
    since_run = refl;
  }

  answers_then : (happened : Event) (what : Shown) (seen : HasSeen terms from now events shown happened what) (more : List Entry) → next.history ≡ now.history ++ more
      → answers_since caller seen.after next ≡ answers_since caller seen.after now ++ own_answers caller more
  answers_then happened what seen more is =
      answers_more caller seen.after now next more (run_within terms seen.after now seen.since seen.since_shown seen.since_run) is

  picked_same : (course : Course) (more : List Entry) → next.history ≡ now.history ++ more → own_answers caller more ≡ []
      → PickedSince terms from now events shown caller course → PickedSince terms from next (events ++ e ∷ []) (shown ++ s ∷ []) caller course
  unfolding seen_more
  picked_same course more is none p = record {
    seen = seen_more (event.Pick caller) (showing.Picked course.number) p.seen;
    request = p.request;
    number = p.number;
    config = p.config;
    answers =
        p.answers ∙ sym (append-nil (answers_since caller p.seen.after now)) ∙ ap (λ xs. answers_since caller p.seen.after now ++ xs) (sym none)
        ∙ sym (answers_then (event.Pick caller) (showing.Picked course.number) p.seen more is);
  }

  picked_told : (course : Course) (answer : Answer) (more : List Entry) → next.history ≡ now.history ++ more → own_answers caller more ≡ answer ∷ []
      → PickedSince terms from now events shown caller course
      → PickedSince terms from next (events ++ e ∷ []) (shown ++ s ∷ []) caller (told_more (Some answer) course)
  unfolding seen_more
  picked_told course answer more is one p = record {
    seen = seen_more (event.Pick caller) (showing.Picked course.number) p.seen;
    request = p.request;
    number = p.number;
    config = p.config;
    answers =
        ap (λ xs. xs ++ answer ∷ []) p.answers ∙ ap (λ xs. answers_since caller p.seen.after now ++ xs) (sym one)
        ∙ sym (answers_then (event.Pick caller) (showing.Picked course.number) p.seen more is);
  }

  back_same : (course : BackCourse) (more : List Entry) → next.history ≡ now.history ++ more → own_answers caller more ≡ []
      → BackSince terms from now events shown caller course → BackSince terms from next (events ++ e ∷ []) (shown ++ s ∷ []) caller course
  unfolding seen_more
  back_same course more is none p = record {
    seen = seen_more (event.Back caller course.reply course.at) showing.Nothing p.seen;
    judged = p.judged;
    answers =
        p.answers ∙ sym (append-nil (answers_since caller p.seen.after now)) ∙ ap (λ xs. answers_since caller p.seen.after now ++ xs) (sym none)
        ∙ sym (answers_then (event.Back caller course.reply course.at) showing.Nothing p.seen more is);
  }

  back_told : (course : BackCourse) (answer : Answer) (more : List Entry) → next.history ≡ now.history ++ more → own_answers caller more ≡ answer ∷ []
      → BackSince terms from now events shown caller course
      → BackSince terms from next (events ++ e ∷ []) (shown ++ s ∷ []) caller (back_more (Some answer) course)
  unfolding seen_more
  back_told course answer more is one p = record {
    seen = seen_more (event.Back caller course.reply course.at) showing.Nothing p.seen;
    judged = p.judged;
    answers =
        ap (λ xs. xs ++ answer ∷ []) p.answers ∙ ap (λ xs. answers_since caller p.seen.after now ++ xs) (sym one)
        ∙ sym (answers_then (event.Back caller course.reply course.at) showing.Nothing p.seen more is);
  }

  abbrev Under : Course → Type 0
  Under course = PickedSince terms from next (events ++ e ∷ []) (shown ++ s ∷ []) caller course

  abbrev Behind : BackCourse → Type 0
  Behind course = BackSince terms from next (events ++ e ∷ []) (shown ++ s ∷ []) caller course

  under_next : Effect caller now next e s → (course : Course) → slice_get next.callers caller ≡ Some (UnderWay course) → Under course
  unfolding seen_now
  under_next (did.same more is none kept) course at = picked_same course more is none (known.under course (sym kept ∙ at))
  under_next (did.away more is state onward gone) course at =
      let same : state ≡ UnderWay course = some_same (sym onward ∙ at) in absurd (subst did.IsAway same gone)
  under_next (did.picked request is shows history came onward) course at =
      let same : picked_course now request ≡ course = under_same (some_same (sym onward ∙ at)) in
      subst Under same (record {
        seen = seen_now (event.Pick caller) (showing.Picked (picked_course now request).number) is shows;
        request = came;
        number = refl;
        config = refl;
        answers = sym (answers_none caller next);
      })
  under_next (did.replied config judged reply moment is shows history judged_at onward) course at = absurd (back_under (some_same (sym onward ∙ at)))
  under_next (did.told more answer earlier is one under onward) course at =
      let same : told_more (Some answer) earlier ≡ course = under_same (some_same (sym onward ∙ at)) in
      subst Under same (picked_told earlier answer more is one (known.under earlier under))
  under_next (did.told_back more answer earlier is one under onward) course at = absurd (back_under (some_same (sym onward ∙ at)))

  back_next : Effect caller now next e s → (course : BackCourse) → slice_get next.callers caller ≡ Some (Backing course) → Behind course
  unfolding seen_now
  back_next (did.same more is none kept) course at = back_same course more is none (known.back course (sym kept ∙ at))
  back_next (did.away more is state onward gone) course at =
      let same : state ≡ Backing course = some_same (sym onward ∙ at) in absurd (subst did.IsAway same gone)
  back_next (did.picked request is shows history came onward) course at = absurd (under_back (some_same (sym onward ∙ at)))
  back_next (did.replied config judged reply moment is shows history judged_at onward) course at =
      let same : back_course config judged reply moment ≡ course = back_is (some_same (sym onward ∙ at)) in
      subst Behind same (record {
        seen = seen_now (event.Back caller reply moment) showing.Nothing is shows;
        judged = judged_at;
        answers = sym (answers_none caller next);
      })
  back_next (did.told more answer earlier is one under onward) course at = absurd (under_back (some_same (sym onward ∙ at)))
  back_next (did.told_back more answer earlier is one under onward) course at =
      let same : back_more (Some answer) earlier ≡ course = back_is (some_same (sym onward ∙ at)) in
      subst Behind same (back_told earlier answer more is one (known.back earlier under))

  pub known_more : Known terms from caller next (events ++ e ∷ []) (shown ++ s ∷ [])
  known_more =
      let does = effect terms caller now e (record { world = next; shown = s }) step in
      record { run = run_more terms from now next events shown e s known.run step; under = under_next does; back = back_next does }

module _ (terms : Terms) (from : WorldParts) (caller : ℕ) where
  -- the rest of a run
  pub known_all : (now to : WorldParts) (events rest : List Event) (shown rest_shown : List Shown) → Known terms from caller now events shown → IsRun terms now rest rest_shown to
      → Known terms from caller to (events ++ rest) (shown ++ rest_shown)
  known_all now to events [] shown [] known same =
      subst (λ (w : WorldParts). Known terms from caller w (events ++ []) (shown ++ [])) same
      (subst (λ xs. Known terms from caller now xs (shown ++ [])) (sym (append-nil events)) (subst (λ xs. Known terms from caller now events xs) (sym (append-nil shown)) known))
  known_all now to events [] shown (s ∷ rest_shown) known run = absurd run
  known_all now to events (e ∷ rest) shown [] known run = absurd run
  known_all now to events (e ∷ rest) shown (s ∷ rest_shown) known (next, step, run) =
      let more = known_all next to (events ++ e ∷ []) rest (shown ++ s ∷ []) rest_shown (known_more terms from caller now next events shown e s known step) run in
      subst (λ xs. Known terms from caller to xs (shown ++ s ∷ rest_shown)) (append_assoc events (e ∷ []) rest)
      (subst (λ xs. Known terms from caller to ((events ++ e ∷ []) ++ rest) xs) (append_assoc shown (s ∷ []) rest_shown) more)

-- at first nothing is under way
idle_only : (n k : ℕ) (state : CallerParts) → slice_get (replicate n Idle) k ≡ Some state → Idle ≡ state
idle_only zero k state is = absurd (cc)
idle_only (suc n) zero state is = some_same is
idle_only (suc n) (suc k) state is = idle_only n k state is

known_first : (terms : Terms) (callers caller : ℕ) → Known terms (opening_world callers) caller (opening_world callers) [] []
known_first terms callers caller = record {
  run = refl;
  under = λ course at. absurd (idle_under (idle_only callers caller (UnderWay course) at));
  back = λ course at. absurd (idle_back (idle_only callers caller (Backing course) at));
}

-- ---- what a verdict and a reply tell
module _ (terms : Terms) (caller : ℕ) (verdict : Verdict) where
  judged_by : (course : Course) (stand : Stand Judgement) → judged_so terms.meaning course ≡ stand → showing.Verdict verdict ≡ (judged_in course stand).shown
      → (judged : Judgement) × (judged_so terms.meaning course ≡ Done judged) × (judged.verdict ≡ verdict)
  judged_by course (Counts ask) is shows = absurd (cc)
  judged_by course (Done judged) is shows = let same : verdict ≡ judged.verdict = cc in (judged, is, sym same)
  judged_by course Overtold is shows = absurd (cc)

  not_replied : (course : BackCourse) (stand : Stand (Option Reply)) → showing.Verdict verdict ≡ (replied_in course stand).shown → ⊥
  not_replied course (Counts ask) shows = absurd (cc)
  not_replied course (Done None) shows = absurd (cc)
  not_replied course (Done (Some reply)) shows = absurd (cc)
  not_replied course Overtold shows = absurd (cc)

  pub judged_found : (world : WorldParts) (found : Option CallerParts) → showing.Verdict verdict ≡ (moves caller world (finishing terms.meaning) found).shown
      → (course : Course) × (found ≡ Some (UnderWay course)) × ((judged : Judgement) × (judged_so terms.meaning course ≡ Done judged) × (judged.verdict ≡ verdict))
  judged_found world None shows = absurd (cc)
  judged_found world (Some Idle) shows = absurd (cc)
  judged_found world (Some (Came request)) shows = absurd (cc)
  judged_found world (Some (UnderWay course)) shows = (course, refl, judged_by course (judged_so terms.meaning course) refl shows)
  judged_found world (Some (Judged config judged)) shows = absurd (cc)
  judged_found world (Some (Backing course)) shows = absurd (not_replied course (replied_so terms.meaning course) shows)

module _ (terms : Terms) (caller : ℕ) (reply : Reply) where
  replied_by : (course : BackCourse) (stand : Stand (Option Reply)) → replied_so terms.meaning course ≡ stand → showing.Replied reply ≡ (replied_in course stand).shown
      → replied_so terms.meaning course ≡ Done (Some reply)
  replied_by course (Counts ask) is shows = absurd (cc)
  replied_by course (Done None) is shows = absurd (cc)
  replied_by course (Done (Some other)) is shows = let same : other ≡ reply = cc in is ∙ ap (λ one. Done (Some one)) same
  replied_by course Overtold is shows = absurd (cc)

  not_judged : (course : Course) (stand : Stand Judgement) → showing.Replied reply ≡ (judged_in course stand).shown → ⊥
  not_judged course (Counts ask) shows = absurd (cc)
  not_judged course (Done judged) shows = absurd (cc)
  not_judged course Overtold shows = absurd (cc)

  pub replied_found : (world : WorldParts) (found : Option CallerParts) → showing.Replied reply ≡ (moves caller world (finishing terms.meaning) found).shown
      → (course : BackCourse) × (found ≡ Some (Backing course)) × (replied_so terms.meaning course ≡ Done (Some reply))
  replied_found world None shows = absurd (cc)
  replied_found world (Some Idle) shows = absurd (cc)
  replied_found world (Some (Came request)) shows = absurd (cc)
  replied_found world (Some (UnderWay course)) shows = absurd (not_judged course (judged_so terms.meaning course) shows)
  replied_found world (Some (Judged config judged)) shows = absurd (cc)
  replied_found world (Some (Backing course)) shows = (course, refl, replied_by course (replied_so terms.meaning course) refl shows)

pub verdicts_are_judged : VerdictsAreJudged
verdicts_are_judged terms callers events shown to next caller verdict run step =
    let opening = opening_world callers in
    let known = known_all terms opening caller opening to [] events [] shown (known_first terms callers caller) run in
    let (course, at, (judged, is, same)) = judged_found terms caller verdict to (slice_get to.callers caller) (ap (λ (o : Outcome). o.shown) step) in
    (course, judged, known.under course at, is, same)

pub replies_are_judged : RepliesAreJudged
replies_are_judged terms callers events shown to next caller reply run step =
    let opening = opening_world callers in
    let known = known_all terms opening caller opening to [] events [] shown (known_first terms callers caller) run in
    let (course, at, is) = replied_found terms caller reply to (slice_get to.callers caller) (ap (λ (o : Outcome). o.shown) step) in
    (course, known.back course at, is)
