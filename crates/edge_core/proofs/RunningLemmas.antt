-- A run in the code: after each event the world stands where a run over the events so far comes to.
use Rattle.std.proofs.Common.{◌≡◌, ℕ, List, [], ◌∷◌, ◌++◌, refl, sym, ap, subst, ◌∙◌, append-nil, append_assoc, inl, inr}
use Rattle.rate_plain.specs.Step.{Standing}
use Rattle.rate_plain.specs.declared.fault.StepFault.{StepFault}
use Rattle.rate_plain.specs.declared.fault.StepFault.TheVariants as fault
use Rattle.ruleset_model.specs.ConfigParts.{ConfigParts}
use Rattle.judge_core.specs.Values.{Listed}
use Rattle.edge_core.specs.declared.event.Event.{Event}
use Rattle.edge_core.specs.declared.event.Shown.{Shown}
use Rattle.edge_core.specs.declared.world.World.{World}
use Rattle.edge_core.specs.World.{WorldParts, Terms}
use Rattle.edge_core.specs.Steps.{IsStep, IsSpent}
use Rattle.edge_core.specs.Stands.{IsOutcome, IsSomewhere, LeavesAt, StepsTo, Wherever, terms_of}
use Rattle.edge_core.specs.Runs.{IsRun, RunsSo, RunsTo, StopsAt}
use Rattle.edge_core.proofs.RunLemmas.{run_more}

module _ {T : Type 0} (stands : T → Standing) (meaning : ConfigParts → Listed) (events : List Event) (from : World T) where
  pub starts : RunsSo stands meaning events from from events []
  starts = λ lanes cap parts is. ([], parts, refl, refl, is)

  module _ (world next : World T) (rest more : List Event) (shown : List Shown) (happened : Event)
      (so : RunsSo stands meaning events from world rest shown) (is_next : rest ≡ happened ∷ more) where
    -- one event more
    pub goes_on : (what : Shown) → Wherever stands meaning world (StepsTo stands happened next what) → RunsSo stands meaning events from next more (shown ++ what ∷ [])
    goes_on what steps = λ lanes cap parts is.
        let (front, now, split, run, world_is) = so lanes cap parts is in
        let (outcome, step, out) = steps lanes cap now world_is in
        let step_is : IsStep (terms_of meaning lanes cap) now happened (record { world = outcome.world; shown = what }) =
        subst (λ (s : Shown). IsStep (terms_of meaning lanes cap) now happened (record { world = outcome.world; shown = s })) (sym out.shown_is) step in (
          front ++ happened ∷ [],
          outcome.world,
          split ∙ ap (λ es. front ++ es) is_next ∙ sym (append_assoc front (happened ∷ []) more),
          run_more (terms_of meaning lanes cap) parts now outcome.world front shown happened what run step_is,
          out.world_is,
        )

    pub stands_on : (what : Shown) → IsSomewhere stands meaning world → Wherever stands meaning world (StepsTo stands happened next what) → IsSomewhere stands meaning next
    stands_on what (lanes, cap, now, is) steps =
        let (outcome, step, out) = steps lanes cap now is in (lanes, cap, outcome.world, out.world_is)

    -- the event ends in a fault
    pub stops : (why : StepFault) → Wherever stands meaning world (LeavesAt stands happened next why)
        → (why ≡ fault.Spent → Wherever stands meaning world (λ terms now. IsSpent terms now happened))
        → Wherever stands meaning from (StopsAt stands events next why)
    stops why leaves spent = λ lanes cap parts is.
        let (front, now, split, run, world_is) = so lanes cap parts is in
        let (left, left_is, after) = leaves lanes cap now world_is in
        record {
          front = front;
          rest = rest;
          are = split;
          shown = shown;
          now = now;
          run = run;
          left = left;
          is_stopped = inl (record {
            happened = happened;
            more = more;
            is_next = is_next;
            is_left = left_is;
            spent = λ is_spent. spent is_spent lanes cap now world_is;
          });
          world_is = after;
        }

  -- what is shown finds no memory
  pub is_crowded : (world : World T) (rest : List Event) (shown : List Shown) → RunsSo stands meaning events from world rest shown
      → Wherever stands meaning from (StopsAt stands events world fault.Memory)
  is_crowded world rest shown so = λ lanes cap parts is.
      let (front, now, split, run, world_is) = so lanes cap parts is in
      record {
        front = front;
        rest = rest;
        are = split;
        shown = shown;
        now = now;
        run = run;
        left = now;
        is_stopped = inr (refl, refl);
        world_is = world_is;
      }

  -- no event is left
  pub ends : (world : World T) (rest : List Event) (shown : List Shown) → RunsSo stands meaning events from world rest shown → rest ≡ []
      → Wherever stands meaning from (RunsTo stands events world shown)
  ends world rest shown so none = λ lanes cap parts is.
      let (front, now, split, run, world_is) = so lanes cap parts is in
      let all : front ≡ events = sym (split ∙ ap (λ es. front ++ es) none ∙ append-nil front) in
      (now, subst (λ es. IsRun (terms_of meaning lanes cap) parts es shown now) all run, world_is)
