-- What holds of every run, whatever happens in it.
use Rattle.std.specs.Prelude.{◌≡◌, ℕ, List}
use Rattle.rate_plain.specs.History.{IsLegal}
use Rattle.edge_core.specs.declared.event.Event.{Event}
use Rattle.edge_core.specs.declared.event.Shown.{Shown}
use Rattle.edge_core.specs.declared.event.Shown.TheVariants as shown
use Rattle.edge_core.specs.World.{WorldParts, Terms, opening_world}
use Rattle.edge_core.specs.Steps.{Outcome, IsStep}
use Rattle.edge_core.specs.Runs.{IsRun}

-- all steps of a run, whoever took them, are one legal history
abbrev pub HistoriesAreLegal : Type 0
HistoriesAreLegal = (terms : Terms) (callers : ℕ) (events : List Event) (shown : List Shown) (to : WorldParts)
    → IsRun terms (opening_world callers) events shown to → IsLegal terms.lanes terms.cap to.history

-- a deployment that is refused, and an event that doesn't fit
abbrev pub IsTurnedAway : Shown → Type 0
IsTurnedAway (shown.Refused place cause) = Unit {0}
IsTurnedAway shown.Unfit = Unit {0}
IsTurnedAway other = ⊥

-- they leave the world as it was
abbrev pub RefusalsChangeNothing : Type 0
RefusalsChangeNothing = (terms : Terms) (from : WorldParts) (happened : Event) (outcome : Outcome)
    → IsStep terms from happened outcome → IsTurnedAway outcome.shown → outcome.world ≡ from
