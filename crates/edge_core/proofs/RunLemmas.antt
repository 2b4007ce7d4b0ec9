-- A run with one event more, and its history.
use Rattle.std.proofs.Common.{◌≡◌, ℕ, List, [], ◌∷◌, ◌++◌, Option, None, Some, slice_get, refl, sym, ap, subst, ◌∙◌}
use Rattle.rate_plain.specs.History.{IsLegal, entry_of}
use Rattle.rate_plain.proofs.LegalLemmas.{legal_none, legal_more}
use Rattle.rate_plain.specs.declared.entry.Ask.{Ask}
use Rattle.serde_json.specs.Data.{Data}
use Rattle.serde_json.specs.View.{view}
use Rattle.edge_core.specs.declared.event.Event.{Event}
use Rattle.edge_core.specs.declared.event.Event.TheVariants as event
use Rattle.edge_core.specs.declared.event.Shown.{Shown}
use Rattle.edge_core.specs.declared.event.Shown.TheVariants as shown
use Rattle.edge_core.specs.World.{CallerParts, WorldParts, Terms, opening_world}
use Rattle.edge_core.specs.Steps.{Move, Outcome, IsStep, IsDeployed, moves, counts, counted, asked_by}
use Rattle.edge_core.specs.Runs.{IsRun}
use Rattle.edge_core.specs.Laws.{HistoriesAreLegal}

-- a run and then one event more
pub run_more : (terms : Terms) (from now next : WorldParts) (events : List Event) (shown : List Shown) (happened : Event) (what : Shown)
    → IsRun terms from events shown now → IsStep terms now happened (record { world = next; shown = what })
    → IsRun terms from (events ++ happened ∷ []) (shown ++ what ∷ []) next
run_more terms from now next [] [] happened what same step = (
  next,
  subst (λ (w : WorldParts). IsStep terms w happened (record { world = next; shown = what })) (sym same) step,
  refl,
)
run_more terms from now next [] (s ∷ shown) happened what run step = absurd run
run_more terms from now next (e ∷ events) [] happened what run step = absurd run
run_more terms from now next (e ∷ events) (s ∷ shown) happened what (onward, first, rest) step =
    (onward, first, run_more terms onward now next events shown happened what rest step)

-- ---- the history
pub moves_history : (caller : ℕ) (world : WorldParts) (does : CallerParts → Move) (found : Option CallerParts)
    → (moves caller world does found).world.history ≡ world.history
moves_history caller world does None = refl
moves_history caller world does (Some state) = refl

counted_legal : (terms : Terms) (caller : ℕ) (world : WorldParts) (state : CallerParts) (asked : Option Ask)
    → IsLegal terms.lanes terms.cap world.history → IsLegal terms.lanes terms.cap (counted terms caller world state asked).world.history
counted_legal terms caller world state None legal = legal
counted_legal terms caller world state (Some ask) legal =
    legal_more terms.lanes terms.cap world.history (entry_of terms.lanes terms.cap world.history caller ask) legal
    (record { moment = refl; answer = refl })

counts_legal : (terms : Terms) (caller : ℕ) (world : WorldParts) (found : Option CallerParts)
    → IsLegal terms.lanes terms.cap world.history → IsLegal terms.lanes terms.cap (counts terms caller world found).world.history
counts_legal terms caller world None legal = legal
counts_legal terms caller world (Some state) legal = counted_legal terms caller world state (asked_by terms.meaning state) legal

deployed_history : (value : Data) (world next : WorldParts) (what : Shown) → IsDeployed value world next what → next.history ≡ world.history
deployed_history value world next shown.Nothing is = absurd is
deployed_history value world next shown.Unfit is = absurd is
deployed_history value world next (shown.Picked number) is = absurd is
deployed_history value world next (shown.Counted position answer) is = absurd is
deployed_history value world next (shown.Verdict verdict) is = absurd is
deployed_history value world next (shown.Replied reply) is = absurd is
deployed_history value world next (shown.Deployed number) (config, stands, same, numbered) = ap (λ (w : WorldParts). w.history) same
deployed_history value world next (shown.Refused place cause) (reads, same) = ap (λ (w : WorldParts). w.history) same

module _ (terms : Terms) where
  abbrev Legal : WorldParts → Type 0
  Legal world = IsLegal terms.lanes terms.cap world.history

  moved_legal : (from : WorldParts) (outcome : Outcome) (caller : ℕ) (does : CallerParts → Move) (found : Option CallerParts)
      → Legal from → outcome ≡ moves caller from does found → Legal outcome.world
  moved_legal from outcome caller does found legal is =
      let same = ap (λ (o : Outcome). o.world.history) is ∙ moves_history caller from does found in
      subst (IsLegal terms.lanes terms.cap) (sym same) legal

  pub step_legal : (from : WorldParts) (happened : Event) (outcome : Outcome) → Legal from → IsStep terms from happened outcome → Legal outcome.world
  step_legal from (event.Arrive caller request) outcome legal is = moved_legal from outcome caller _ _ legal is
  step_legal from (event.Pick caller) outcome legal is = moved_legal from outcome caller _ _ legal is
  step_legal from (event.Count caller) outcome legal is =
      subst (λ (o : Outcome). Legal o.world) (sym is) (counts_legal terms caller from (slice_get from.callers caller) legal)
  step_legal from (event.Done caller) outcome legal is = moved_legal from outcome caller _ _ legal is
  step_legal from (event.Back caller reply at) outcome legal is = moved_legal from outcome caller _ _ legal is
  step_legal from (event.Deploy value) outcome legal is =
      subst (IsLegal terms.lanes terms.cap) (sym (deployed_history (view value) from outcome.world outcome.shown is)) legal

  pub run_legal : (from to : WorldParts) (events : List Event) (shown : List Shown) → Legal from → IsRun terms from events shown to → Legal to
  run_legal from to [] [] legal same = subst Legal same legal
  run_legal from to [] (s ∷ shown) legal run = absurd run
  run_legal from to (e ∷ events) [] legal run = absurd run
  run_legal from to (e ∷ events) (s ∷ shown) legal (next, step, rest) =
      run_legal next to events shown (step_legal from e (record { world = next; shown = s }) legal step) rest

pub histories_legal : HistoriesAreLegal
histories_legal terms callers events shown to run =
    run_legal terms (opening_world callers) to events shown (legal_none terms.lanes terms.cap) run
