-- A step of a world's counter: what is left where it was taken, where none was asked, and where memory was wanted.
use Rattle.std.proofs.Common.{◌≡◌, ℕ, ◌^◌, false, List, [], ◌∷◌, ◌++◌, length, Option, None, Some, slice_get, slice_set, refl, sym, ap, subst, ◌∙◌, inl, inr}
use Rattle.std.specs.Prelude.{◌⊎◌, option_and_then}
use Rattle.std.specs.Arc.{arc_value}
use Rattle.rate_plain.specs.History.{entry_of}
use Rattle.rate_plain.specs.Step.{Standing}
use Rattle.rate_plain.specs.Window.{answer_of}
use Rattle.rate_plain.specs.declared.entry.Answer.{Answer}
use Rattle.rate_plain.specs.declared.entry.Ask.{Ask}
use Rattle.rate_plain.specs.declared.entry.Entry.{Entry}
use Rattle.rate_plain.specs.declared.fault.StepFault.{StepFault}
use Rattle.rate_plain.specs.declared.fault.StepFault.TheVariants as fault
use Rattle.version_store.specs.Notices.{IsVersion}
use Rattle.edge_core.specs.declared.caller.Caller.{Caller}
use Rattle.edge_core.specs.declared.caller.Caller.TheVariants as kinds
use Rattle.edge_core.specs.declared.event.Event.TheVariants as event
use Rattle.edge_core.specs.declared.event.Shown.TheVariants as shown
use Rattle.edge_core.specs.declared.version.Version.{Version}
use Rattle.edge_core.specs.declared.world.World.{World}
use Rattle.edge_core.specs.World.{CallerParts, WorldParts, Terms}
use Rattle.edge_core.specs.World as here
use Rattle.edge_core.specs.Stands.{IsCaller, AreCallers, HasAsked, IsAnswered, IsWorld, LeavesAt, StepsTo, asked_now}
use Rattle.edge_core.specs.Steps.{IsSpent, TookStep, answered, asked_at, asked_by, counts, counted, given_up, unfit, with_caller, with_step}
use Rattle.edge_core.proofs.CallerLemmas.{IsSomeCaller, get_callers, set_callers, found_at}
use Rattle.edge_core.proofs.MoveLemmas.{asked_is}

module _ {T : Type 0} (stands : T → Standing) (terms : Terms) (before : World T) (parts : WorldParts) (caller : ℕ) (is : IsWorld stands terms before parts) where
  -- the world has come to this history, and this caller to this state
  come : (after : World T) (history : List Entry) (one : Caller) (other : CallerParts) → stands after.tally terms.lanes terms.cap history → after.version ≡ before.version
      → after.callers.items ≡ slice_set before.callers.items caller one → IsCaller terms.meaning one other
      → IsWorld stands terms after (with_caller caller other (record parts { history = history }))
  come after history one other tally version callers one_is = record {
    tally = tally;
    version = subst (λ (v : Version). IsVersion parts.published v.number false (arc_value v.config)) (sym version) is.version;
    callers =
        subst (λ xs. AreCallers terms.meaning xs (slice_set parts.callers caller other)) (sym callers)
        (set_callers terms.meaning before.callers.items parts.callers caller one other is.callers one_is);
  }

  -- the step that the caller asks is that of the definition
  asks_alike : (found : Option Caller) (other : Option CallerParts) → IsSomeCaller terms.meaning found other
      → option_and_then asked_now found ≡ asked_at terms parts other
  asks_alike None None alike = refl
  asks_alike None (Some other) alike = absurd alike
  asks_alike (Some one) None alike = absurd alike
  asks_alike (Some one) (Some other) alike = asked_is terms.meaning one other alike

  asks_so : option_and_then asked_now (slice_get before.callers.items caller) ≡ asked_at terms parts (slice_get parts.callers caller)
  asks_so =
      asks_alike (slice_get before.callers.items caller) (slice_get parts.callers caller)
      (get_callers terms.meaning before.callers.items parts.callers caller is.callers)

  -- ---- none is asked
  counts_none : (found : Option CallerParts) → asked_at terms parts found ≡ None → unfit parts ≡ counts terms caller parts found
  counts_none None none = refl
  counts_none (Some state) none = sym (ap (counted terms caller parts state) none)

  pub nothing_asked : (after : World T) → option_and_then asked_now (slice_get before.callers.items caller) ≡ None → after ≡ before
      → StepsTo stands (event.Count caller) after shown.Unfit terms parts
  nothing_asked after none same = (
    unfit parts,
    counts_none (slice_get parts.callers caller) (sym asks_so ∙ none),
    record { world_is = subst (λ (w : World T). IsWorld stands terms w parts) (sym same) is; shown_is = refl },
  )

  pub none_spends : option_and_then asked_now (slice_get before.callers.items caller) ≡ None → IsSpent terms parts (event.Count caller) → ⊥
  none_spends none ((ask, asks), full) = let nothing : None ≡ Some ask = sym (sym asks_so ∙ none) ∙ asks in absurd (cc)

  -- ---- a step is asked
  some_of : (found : Option Caller) (ask : Ask) → option_and_then asked_now found ≡ Some ask
      → (state : Caller) × (found ≡ Some state) × (asked_now state ≡ Some ask)
  some_of None ask asks = absurd (cc)
  some_of (Some state) ask asks = (state, refl, asks)

  module _ (ask : Ask) (asked : option_and_then asked_now (slice_get before.callers.items caller) ≡ Some ask) where
    asks_it : asked_at terms parts (slice_get parts.callers caller) ≡ Some ask
    asks_it = sym asks_so ∙ asked

    pub has_asked : (state : Caller) × (slice_get before.callers.items caller ≡ Some state) × HasAsked terms.meaning state
    has_asked =
        let (state, some, asks) = some_of (slice_get before.callers.items caller) ask asked in
        let (other, found, one) = found_at terms.meaning before.callers.items parts.callers caller state is.callers some in
        (state, some, (ask, other, asks, one))

    pub spends : length parts.history ≡ 2 ^ 50 → IsSpent terms parts (event.Count caller)
    spends full = ((ask, asks_it), full)

    -- it was taken, and answered
    pub answered_so : (after : World T) (answer : Answer) (position : ℕ) → answer ≡ answer_of terms.lanes terms.cap parts.history ask
        → stands after.tally terms.lanes terms.cap (parts.history ++ entry_of terms.lanes terms.cap parts.history caller ask ∷ [])
        → position ≡ length parts.history → after.version ≡ before.version
        → IsAnswered terms.meaning answer caller before.callers.items after.callers.items
        → StepsTo stands (event.Count caller) after (shown.Counted position answer) terms parts
    answered_so after answer position answers tally counted_so version (state, next, some, takes, callers) =
        let (other, found, one) = found_at terms.meaning before.callers.items parts.callers caller state is.callers some in
        let asking : asked_by terms.meaning other ≡ Some ask = sym (ap (asked_at terms parts) found) ∙ asks_it in
        let next_is = subst (λ (a : Answer). IsCaller terms.meaning next (answered a other)) answers (takes other one) in (
          counted terms caller parts other (Some ask),
          sym (ap (counts terms caller parts) found ∙ ap (counted terms caller parts other) asking),
          record {
            world_is =
                come after (parts.history ++ entry_of terms.lanes terms.cap parts.history caller ask ∷ []) next
                (answered (answer_of terms.lanes terms.cap parts.history ask) other) tally version callers next_is;
            shown_is = λ i. shown.Counted (counted_so i) (answers i);
          },
        )

    -- it was taken, and then memory was wanted: the caller's request is given up
    pub taken_then_left : (after : World T)
        → stands after.tally terms.lanes terms.cap (parts.history ++ entry_of terms.lanes terms.cap parts.history caller ask ∷ [])
        → after.version ≡ before.version → after.callers.items ≡ slice_set before.callers.items caller kinds.Idle
        → LeavesAt stands (event.Count caller) after fault.Memory terms parts
    taken_then_left after tally version callers = (
      given_up caller (with_step terms caller ask parts),
      inr (ask, asks_it, refl),
      come after (parts.history ++ entry_of terms.lanes terms.cap parts.history caller ask ∷ []) kinds.Idle here.Idle tally version callers tt,
    )

    -- it was refused
    pub left_for_memory : (after : World T) → stands after.tally terms.lanes terms.cap parts.history → after.version ≡ before.version
        → after.callers.items ≡ slice_set before.callers.items caller kinds.Idle → LeavesAt stands (event.Count caller) after fault.Memory terms parts
    left_for_memory after tally version callers =
        (given_up caller parts, inl refl, come after parts.history kinds.Idle here.Idle tally version callers tt)

    pub left_as_spent : (after : World T) → stands after.tally terms.lanes terms.cap parts.history → after.version ≡ before.version
        → after.callers.items ≡ slice_set before.callers.items caller kinds.Idle → LeavesAt stands (event.Count caller) after fault.Spent terms parts
    left_as_spent after tally version callers =
        (given_up caller parts, refl, come after parts.history kinds.Idle here.Idle tally version callers tt)

    pub left_for : (after : World T) (why : StepFault) → stands after.tally terms.lanes terms.cap parts.history → after.version ≡ before.version
        → after.callers.items ≡ slice_set before.callers.items caller kinds.Idle → LeavesAt stands (event.Count caller) after why terms parts
    left_for after fault.Memory = left_for_memory after
    left_for after fault.Spent = left_as_spent after
