-- How many of a lane's keys are live.
use Rattle.std.proofs.Common.{◌≡◌, ℕ, max, nat_lt, List, filter, Option, Some, None, refl, sym, ap, ◌∙◌, subst, arith}
use Rattle.std.specs.List.{IsDistinct}
use Rattle.std.specs.Map.{keys_of}
use Rattle.std.proofs.lemmas.List.Sums.{length-filter}
use Rattle.std.proofs.lemmas.Map.Made.{IsDistinct-keys_filter}
use Rattle.std.proofs.lemmas.Map.Entries.{lookup-filter-values, option_filter}
use Rattle.rate_plain.specs.KeyParts.{KeyParts}
use Rattle.rate_plain.specs.Keys.{same_key}
use Rattle.rate_plain.specs.Window.{latest_of, live_count}
use Rattle.rate_plain.proofs.KeyLemmas.{same_key-equiv}
use Rattle.rate_plain.specs.declared.entry.Entry.{Entry}
use Rattle.rate_lane.specs.Index.{Entries, state_of, live_at, live_among, IsKept, KeepsAll}
use Rattle.rate_lane.specs.declared.key_state.KeyState.{KeyState}
use Rattle.rate_lane.proofs.LaneLemmas.{live_are_kept}
use Rattle.rate_lane.proofs.SweptLemmas.{live_is_kept, live_twice}
use Rattle.rate_lane.proofs.LaneStepLemmas.{keeps_later, latest_is}

-- the live ones of the keys
abbrev live_only : ℕ → Entries → Entries
live_only at entries = filter (λ e. nat_lt at e.1.live_until) entries

-- the state of each of them
live_state : (at : ℕ) (entries : Entries) → IsDistinct same_key (keys_of entries) → (q : KeyParts) → state_of (live_only at entries) q ≡ live_at at (state_of entries q)
live_state at entries unique q = lookup-filter-values same_key-equiv (λ state. nat_lt at state.live_until) q entries unique ∙ by (state_of entries q)
  where
    by : (s : Option KeyState) → option_filter (λ state. nat_lt at state.live_until) s ≡ live_at at s
    by None = refl
    by (Some state) = refl

-- those that are kept and live are all that are
pub live_counted : (moment asked at : ℕ) (entries : Entries) (history : List Entry) → IsDistinct same_key (keys_of entries) → moment ≡ latest_of 0 history → KeepsAll entries moment history → at ≡ max moment asked → live_among at entries ≡ live_count 1 0 (latest_of asked history) history
live_counted moment asked at entries history unique last was is =
    sym (length-filter (λ e. nat_lt at e.1.live_until) entries)
    ∙ live_are_kept (live_only at entries) at 0 history refl (IsDistinct-keys_filter same_key (λ e. nat_lt at e.1.live_until) entries unique)
    (λ q. ap (live_at at) (live_state at entries unique q) ∙ live_twice at (state_of entries q) ∙ sym (live_state at entries unique q))
    (λ q. subst (λ s. IsKept s q at history) (sym (live_state at entries unique q)) (live_is_kept q at history (state_of entries q) (keeps_later entries moment at history (omega (arith, is)) was q)))
    ∙ ap (λ m. live_count 1 0 m history) (latest_is history asked moment at last is)
