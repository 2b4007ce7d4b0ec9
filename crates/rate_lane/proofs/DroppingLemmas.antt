-- What a lane keeps, and what it may drop.
use Rattle.std.proofs.Common.{◌≡◌, ◌≤◌, Bool, true, false, cond, List, length, Some, None, refl, sym, ap, ◌∙◌, subst}
use Rattle.rate_plain.specs.KeyParts.{KeyParts}
use Rattle.rate_plain.specs.Keys.{same_key}
use Rattle.rate_plain.specs.Window.{is_live}
use Rattle.rate_plain.proofs.KeyLemmas.{same_key-Decides}
use Rattle.rate_plain.proofs.DeadLemmas.{dead_later}
use Rattle.rate_plain.specs.declared.entry.Entry.{Entry}
use Rattle.rate_lane.specs.KeyState.{IsStateOf}
use Rattle.rate_lane.specs.Index.{state_of, IsKept, KeepsAll}
use Rattle.rate_lane.specs.Lane.{IsLaneOf}
use Rattle.rate_lane.specs.declared.key_state.KeyState.{KeyState}
use Rattle.rate_lane.specs.declared.lane.Lane.{Lane}

-- a dead key is as good as dropped
pub dropping_keeps : (before after : Lane) (history : List Entry) (dropped : KeyParts) → IsLaneOf before history → is_live dropped before.moment history ≡ false → after.moment ≡ before.moment →
    ((key : KeyParts) → state_of after.index.entries key ≡ cond (same_key dropped key) None (state_of before.index.entries key)) → IsLaneOf after history
dropping_keeps before after history dropped stands dead same changed = record {
  moment = same ∙ stands.moment;
  keeps = subst (λ at. KeepsAll after.index.entries at history) (sym same)
      (λ key. subst (λ s. IsKept s key before.moment history) (sym (changed key)) (by key (same_key dropped key) refl));
}
  where
    by : (key : KeyParts) (b : Bool) → same_key dropped key ≡ b → IsKept (cond b None (state_of before.index.entries key)) key before.moment history
    by key true own = λ later h.
        ap (λ k. is_live k later history) (sym ((same_key-Decides dropped key).0 own)) ∙ dead_later dropped before.moment later history h dead
    by key false other = stands.keeps key

-- a ring has no more places than the threshold
pub few_moments : (lane : Lane) (history : List Entry) (key : KeyParts) (state : KeyState) → IsLaneOf lane history → state_of lane.index.entries key ≡ Some state →
    (length state.moments.items ≤ state.moments.capacity) × (state.moments.capacity ≤ key.threshold)
few_moments lane history key state stands found =
    let its : IsStateOf state key lane.moment history = subst (λ s. IsKept s key lane.moment history) found (stands.keeps key) in
    (its.within, its.places)
