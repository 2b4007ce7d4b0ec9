-- What a step takes before anything changes.
use Rattle.std.proofs.Common.{◌≡◌, ℕ, ◌<◌, false, cond, not, ◌&&◌, Some, None, is_err, IsErr, MatchResult, OnOk, OnErr, sym, ap, ◌∙◌, true≢false, lt-ltb}
use Rattle.std.specs.declared.result.Result.{Result}
use Rattle.std.specs.declared.result.Result.TheVariants.{Ok, Err}
use Rattle.rate_plain.specs.KeyParts.{KeyParts}
use Rattle.rate_plain.specs.declared.entry.Ask.{Ask}
use Rattle.rate_lane.specs.KeyState.{has_room}
use Rattle.rate_lane.specs.Index.{Entries, state_of, live_at}
use Rattle.rate_lane.specs.Stepping.{is_roomy, needs_memory}
use Rattle.rate_lane.specs.declared.key_state.KeyState.{KeyState}

-- what holds anyway holds on an error
pub on_err : {T E : Type 0} (r : Result T E) (P : Type 0) → P → OnErr r P
on_err (Ok x) P p = tt
on_err (Err e) P p = p

-- what is left after an error
pub on_fault : {T E : Type 0} (r : Result T E) (P : T → Type 0) (Q : Type 0) → IsErr r → Q → MatchResult r P (λ _. Q)
on_fault (Ok x) P Q failed q = absurd (true≢false (sym failed))
on_fault (Err e) P Q failed q = q

-- what holds where a call succeeded, holds where it didn't fail
pub from_ok : {T E : Type 0} (r : Result T E) (P : Type 0) → is_err r ≡ false → OnOk r P → P
from_ok (Ok x) P ok p = p
from_ok (Err e) P ok p = absurd (true≢false ok)

-- the state of a key that is live
pub live_is : (entries : Entries) (key : KeyParts) (state : KeyState) (at : ℕ) → Some state ≡ state_of entries key → at < state.live_until → live_at at (state_of entries key) ≡ Some state
live_is entries key state at found live = ap (live_at at) (sym found) ∙ ap (λ b. cond b (Some state) None) (lt-ltb at state.live_until live)

-- a step that needs no memory finds room in the ring of a live key where it adds
pub no_need : (entries : Entries) (ask : Ask) (state : KeyState) (at : ℕ) → Some state ≡ state_of entries ask.key → at < state.live_until → needs_memory entries ask at ≡ false → (ask.adds && not (has_room state)) ≡ false
no_need entries ask state at found live spared = ap (λ s. ask.adds && not (is_roomy s)) (sym (live_is entries ask.key state at found live)) ∙ spared
