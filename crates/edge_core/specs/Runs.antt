-- Runs: events in the order in which they happen, and what they show.
use Rattle.std.specs.Prelude.{◌≡◌, ◌⊎◌, List, [], ◌∷◌, ◌++◌}
use Rattle.rate_plain.specs.Step.{Standing}
use Rattle.rate_plain.specs.declared.fault.StepFault.{StepFault}
use Rattle.rate_plain.specs.declared.fault.StepFault.TheVariants as fault
use Rattle.ruleset_model.specs.ConfigParts.{ConfigParts}
use Rattle.judge_core.specs.Values.{Listed}
use Rattle.edge_core.specs.declared.event.Event.{Event}
use Rattle.edge_core.specs.declared.event.Shown.{Shown}
use Rattle.edge_core.specs.declared.world.World.{World}
use Rattle.edge_core.specs.World.{WorldParts, Terms}
use Rattle.edge_core.specs.Steps.{IsStep, IsLeft, IsSpent}
use Rattle.edge_core.specs.Stands.{IsWorld, Wherever}

-- from one world, these events show these in turn and come to another world
abbrev pub IsRun : Terms → WorldParts → List Event → List Shown → WorldParts → Type 0
IsRun terms from [] [] to = from ≡ to
IsRun terms from [] (what ∷ shown) to = ⊥
IsRun terms from (happened ∷ events) [] to = ⊥
IsRun terms from (happened ∷ events) (what ∷ shown) to =
    (next : WorldParts) × IsStep terms from happened (record { world = next; shown = what }) × IsRun terms next events shown to

-- the world has come to where a run over these events comes to
abbrev pub RunsTo : {T : Type 0} → (T → Standing) → List Event → World T → List Shown → Terms → WorldParts → Type 0
RunsTo stands events next shown terms parts =
    (to : WorldParts) × IsRun terms parts events shown to × IsWorld stands terms next to

-- an event ended in a fault
pub record IsFault (terms : Terms) (now : WorldParts) (rest : List Event) (why : StepFault) (left : WorldParts) : Type 0 where
  pub happened : Event
  pub more : List Event
  pub is_next : rest ≡ happened ∷ more
  pub is_left : IsLeft terms now happened why left
  pub spent : why ≡ fault.Spent → IsSpent terms now happened

-- there was no memory for what is shown
abbrev pub IsCrowded : WorldParts → StepFault → WorldParts → Type 0
IsCrowded now why left = (why ≡ fault.Memory) × (left ≡ now)

-- a run over the first of these events was stopped by the next one's fault, or as what is shown found no memory
pub record StopsAt {T : Type 0} (stands : T → Standing) (events : List Event) (next : World T) (why : StepFault) (terms : Terms) (parts : WorldParts) : Type 0 where
  pub front : List Event
  pub rest : List Event
  pub are : events ≡ front ++ rest
  pub shown : List Shown
  pub now : WorldParts
  pub run : IsRun terms parts front shown now
  pub left : WorldParts
  pub is_stopped : IsFault terms now rest why left ⊎ IsCrowded now why left
  pub world_is : IsWorld stands terms next left

-- ---- inside a run; no public clause cites this word
-- wherever the world stood at first, it stands where a run over the events before these comes to
abbrev pub RunsSo :
    {T : Type 0} → (T → Standing) → (ConfigParts → Listed) → List Event → World T → World T → List Event → List Shown → Type 0
RunsSo stands meaning events from world rest shown =
    Wherever stands meaning from (λ terms parts. (front : List Event) × (now : WorldParts) × (events ≡ front ++ rest)
    × IsRun terms parts front shown now × IsWorld stands terms world now)
