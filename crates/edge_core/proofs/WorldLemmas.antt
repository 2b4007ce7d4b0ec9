-- A world whose caller was taken out, and then put back in another state.
use Rattle.std.proofs.Common.{◌≡◌, ℕ, ◌+◌, ◌-◌, false, List, [], ◌∷◌, ◌++◌, Option, None, Some, slice_get, slice_set, refl, sym, ap, subst, ◌∙◌, arith}
use Rattle.std.specs.Arc.{arc_value}
use Rattle.std.specs.Option.{unwrap_or}
use Rattle.rate_plain.specs.Step.{Standing}
use Rattle.ruleset_model.specs.ConfigParts.{ConfigParts}
use Rattle.version_store.specs.Notices.{IsVersion, puts_of, last_put}
use Rattle.version_store.specs.declared.notice.Notice.{Notice}
use Rattle.judge_core.specs.Values.{Listed}
use Rattle.edge_core.specs.declared.caller.Caller.{Caller}
use Rattle.edge_core.specs.declared.caller.Caller.TheVariants as kinds
use Rattle.edge_core.specs.declared.event.Shown.{Shown}
use Rattle.edge_core.specs.declared.event.Shown.TheVariants as shown
use Rattle.edge_core.specs.declared.version.Version.{Version}
use Rattle.edge_core.specs.declared.world.World.{World}
use Rattle.edge_core.specs.World.{CallerParts, WorldParts, Terms, empty_config}
use Rattle.edge_core.specs.World as here
use Rattle.edge_core.specs.Stands.{IsCaller, AreCallers, IsWorld, IsOutcome, IsMoved, MovesBy}
use Rattle.edge_core.specs.Steps.{Move, Outcome, number_of, config_of, unfit, moves, moved, given_up, picking, with_caller}
use Rattle.edge_core.proofs.PlaceLemmas.{set_again, set_past}
use Rattle.edge_core.proofs.CallerLemmas.{set_callers, found_at, not_found_at}

-- the version in force
pub number_is : (published : List Notice) (number : ℕ) (config : ConfigParts) → IsVersion published number false config → number_of published ≡ number
number_is published number config version = omega (arith, version.numbered)

pub config_is : (published : List Notice) (number : ℕ) (config : ConfigParts) → IsVersion published number false config → config_of published ≡ config
config_is published number config version = ap (λ found. unwrap_or found empty_config) version.last

module _ {T : Type 0} (stands : T → Standing) (terms : Terms) (before : World T) (parts : WorldParts) (caller : ℕ) (is : IsWorld stands terms before parts) where
  -- the caller was taken out: its request is given up
  pub taken_out : (after : World T) → after.tally ≡ before.tally → after.version ≡ before.version
      → after.callers.items ≡ slice_set before.callers.items caller kinds.Idle → IsWorld stands terms after (given_up caller parts)
  taken_out after tally version callers = record {
    tally = subst (λ t. stands t terms.lanes terms.cap parts.history) (sym tally) is.tally;
    version = subst (λ (v : Version). IsVersion parts.published v.number false (arc_value v.config)) (sym version) is.version;
    callers =
        subst (λ xs. AreCallers terms.meaning xs (slice_set parts.callers caller here.Idle)) (sym callers)
        (set_callers terms.meaning before.callers.items parts.callers caller kinds.Idle here.Idle is.callers tt);
  }

  -- the world has no such caller
  pub not_there : (after : World T) (event : CallerParts → Move) → slice_get before.callers.items caller ≡ None → after.tally ≡ before.tally → after.version ≡ before.version
      → after.callers.items ≡ slice_set before.callers.items caller kinds.Idle
      → (outcome : Outcome) × (outcome ≡ moves caller parts event (slice_get parts.callers caller)) × IsOutcome stands terms after shown.Unfit outcome
  not_there after event none tally version callers =
      let nobody = not_found_at terms.meaning before.callers.items parts.callers caller is.callers none in
      let same = callers ∙ set_past before.callers.items caller kinds.Idle none in (
        unfit parts,
        sym (ap (moves caller parts event) nobody),
        record {
          world_is = record {
            tally = subst (λ t. stands t terms.lanes terms.cap parts.history) (sym tally) is.tally;
            version = subst (λ (v : Version). IsVersion parts.published v.number false (arc_value v.config)) (sym version) is.version;
            callers = subst (λ xs. AreCallers terms.meaning xs parts.callers) (sym same) is.callers;
          };
          shown_is = refl;
        },
      )

  -- the caller was put back as the event has made it
  pub put_back : (after : World T) (event : CallerParts → Move) (state : Caller) (made : Caller × Shown) → slice_get before.callers.items caller ≡ Some state
      → MovesBy terms.meaning event state made → after.tally ≡ before.tally → after.version ≡ before.version
      → after.callers.items ≡ slice_set (slice_set before.callers.items caller kinds.Idle) caller made.0
      → (outcome : Outcome) × (outcome ≡ moves caller parts event (slice_get parts.callers caller)) × IsOutcome stands terms after made.1 outcome
  put_back after event state made some by tally version callers =
      let (other, found, one) = found_at terms.meaning before.callers.items parts.callers caller state is.callers some in
      let made_is = by other one in
      let same = callers ∙ set_again before.callers.items caller kinds.Idle made.0 in (
        moved caller parts (event other),
        sym (ap (moves caller parts event) found),
        record {
          world_is = record {
            tally = subst (λ t. stands t terms.lanes terms.cap parts.history) (sym tally) is.tally;
            version = subst (λ (v : Version). IsVersion parts.published v.number false (arc_value v.config)) (sym version) is.version;
            callers =
                subst (λ xs. AreCallers terms.meaning xs (slice_set parts.callers caller (event other).state)) (sym same)
                (set_callers terms.meaning before.callers.items parts.callers caller made.0 (event other).state is.callers made_is.state);
          };
          shown_is = made_is.shown_is;
        },
      )

  -- the event is a pick of the version in force
  pub in_force : (version : Version) (state : Caller) (made : Caller × Shown) → version ≡ before.version
      → MovesBy terms.meaning (picking version.number (arc_value version.config)) state made
      → MovesBy terms.meaning (picking (number_of parts.published) (config_of parts.published)) state made
  in_force version state made same by =
      let number : version.number ≡ number_of parts.published =
      ap (λ (v : Version). v.number) same ∙ sym (number_is parts.published before.version.number (arc_value before.version.config) is.version) in
      let config : arc_value version.config ≡ config_of parts.published =
      ap (λ (v : Version). arc_value v.config) same ∙ sym (config_is parts.published before.version.number (arc_value before.version.config) is.version) in
      subst (λ (c : ConfigParts). MovesBy terms.meaning (picking (number_of parts.published) c) state made) config
      (subst (λ n. MovesBy terms.meaning (picking n (arc_value version.config)) state made) number by)
