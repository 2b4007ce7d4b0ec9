-- How many places the rings have after a step.
use Rattle.std.proofs.Common.{◌≡◌, ℕ, Bool, true, false, cond, ◌&&◌, Some, None, refl, sym, ap, ◌∙◌}
use Rattle.rate_plain.specs.KeyParts.{KeyParts}
use Rattle.rate_plain.specs.Keys.{same_key}
use Rattle.rate_plain.proofs.KeyLemmas.{same_key-Decides}
use Rattle.rate_plain.specs.declared.entry.Ask.{Ask}
use Rattle.rate_plain.specs.declared.entry.Answer.{Answer}
use Rattle.rate_lane.specs.KeyState.{with_room}
use Rattle.rate_lane.specs.Index.{Entries, state_of, live_at}
use Rattle.rate_lane.specs.Stepping.{places_in, grown_in, StepsLive, KeepsRings, GrowsRings}
use Rattle.rate_lane.specs.declared.key_state.KeyState.{KeyState}
use Rattle.rate_lane.proofs.LaneLemmas.{set_changed}
use Rattle.rate_lane.proofs.SteppingLemmas.{live_is}
use Rattle.rate_lane.proofs.SweptLemmas.{kept_live}

-- where nothing changed
pub rings_kept : (before after : Entries) → after ≡ before → KeepsRings before after
rings_kept before after unchanged key state found = ap places_in (sym found ∙ ap (λ es. state_of es key) unchanged)

-- where the state of one key was set
pub rings_set : (before after : Entries) (key : KeyParts) (new : KeyState) → ((q : KeyParts) → state_of after q ≡ cond (same_key key q) (Some new) (state_of before q)) → new.moments.capacity ≡ places_in (state_of before key) → KeepsRings before after
rings_set before after key new changed places q state found = by (same_key key q) refl
  where
    by : (b : Bool) → same_key key q ≡ b → state.moments.capacity ≡ places_in (state_of before q)
    by true same =
        ap places_in (sym found ∙ changed q ∙ ap (λ b. cond b (Some new) (state_of before q)) same)
        ∙ places ∙ ap (λ k. places_in (state_of before k)) ((same_key-Decides key q).0 same)
    by false other = ap places_in (sym found ∙ changed q ∙ ap (λ b. cond b (Some new) (state_of before q)) other)

-- where dead keys were dropped, and then a step of a dead key was taken
pub rings_dead : (before swept after : Entries) (ask : Ask) (at : ℕ) → live_at at (state_of before ask.key) ≡ None → ((q : KeyParts) → state_of swept q ≡ live_at at (state_of before q)) → KeepsRings swept after → GrowsRings before after ask at
rings_dead before swept after ask at dead kept rings key state found = rings key state found ∙ ap places_in (kept key) ∙ by ask.adds (same_key ask.key key) refl
  where
    by : (adds same : Bool) → same_key ask.key key ≡ same →
        places_in (live_at at (state_of before key)) ≡ cond (adds && same) (grown_in key.threshold (live_at at (state_of before key))) (places_in (live_at at (state_of before key)))
    by false same s = refl
    by true false s = refl
    by true true s =
        let none : live_at at (state_of before key) ≡ None = ap (λ k. live_at at (state_of before k)) (sym ((same_key-Decides ask.key key).0 s)) ∙ dead in
        ap places_in none ∙ sym (ap (grown_in key.threshold) none)

-- where a step of a live key was taken, and then dead keys were dropped
pub rings_live : (before after swept : Entries) (ask : Ask) (at : ℕ) (answer : Answer) → StepsLive before after ask at answer → ((q : KeyParts) → state_of swept q ≡ live_at at (state_of after q)) → GrowsRings before swept ask at
rings_live before after swept ask at answer stepped kept key state found = by (same_key ask.key key) refl
  where
    there : state_of after key ≡ Some state
    there = kept_live at (state_of after key) state (sym (kept key) ∙ found)

    changed : state_of after key ≡ cond (same_key ask.key key) (Some stepped.new) (state_of before key)
    changed = set_changed before after ask.key stepped.old stepped.new stepped.found stepped.entries key

    lives : live_at at (state_of before ask.key) ≡ Some stepped.old
    lives = live_is before ask.key stepped.old at (sym stepped.found) stepped.live

    own : (adds : Bool) → (cond adds (with_room ask.key.threshold stepped.old) stepped.old).moments.capacity ≡ cond (adds && true) (grown_in ask.key.threshold (Some stepped.old)) (places_in (Some stepped.old))
    own true = refl
    own false = refl

    by : (same : Bool) → same_key ask.key key ≡ same → state.moments.capacity ≡ cond (ask.adds && same) (grown_in key.threshold (live_at at (state_of before key))) (places_in (live_at at (state_of before key)))
    by true same =
        ap places_in (sym there ∙ changed ∙ ap (λ b. cond b (Some stepped.new) (state_of before key)) same)
        ∙ stepped.places ∙ own ask.adds
        ∙ ap (λ s. cond (ask.adds && true) (grown_in ask.key.threshold s) (places_in s)) (sym lives)
        ∙ ap (λ k. cond (ask.adds && true) (grown_in k.threshold (live_at at (state_of before k))) (places_in (live_at at (state_of before k)))) ((same_key-Decides ask.key key).0 same)
    by false other =
        let was : state_of after key ≡ state_of before key = changed ∙ ap (λ b. cond b (Some stepped.new) (state_of before key)) other in
        ap places_in (sym found ∙ kept key ∙ ap (live_at at) was)
        ∙ sym (ap (λ b. cond b (grown_in key.threshold (live_at at (state_of before key))) (places_in (live_at at (state_of before key)))) (never ask.adds))
      where
        never : (adds : Bool) → (adds && false) ≡ false
        never true = refl
        never false = refl
