-- What holds when all callers have come back.
use Rattle.std.specs.Prelude.{◌≡◌, ℕ, ◌<◌, Bool, true, false, ◌==◌, List, All, Any, length, slice_index, sum_by}
use Rattle.std.specs.List.{list_any}
use mathlib.Core.List.{IsPrefix}
use Rattle.rate_plain.specs.History.{IsLegal, own_of}
use Rattle.rate_plain.specs.declared.entry.Entry.{Entry}
use Rattle.rate_shared.specs.declared.rule.Shape.{Shape}
use Rattle.rate_shared.specs.declared.seen.Seen.{Seen}
use Rattle.rate_shared.specs.declared.closing.Totals.{Totals}
use Rattle.rate_shared.specs.Callers.{history_of}

-- a caller is among them
abbrev pub has_caller : ℕ → List Seen → Bool
has_caller k seens = list_any (λ seen. seen.caller == k) seens

-- each caller is among them
abbrev pub AreAll : ℕ → List Seen → Type 0
AreAll callers seens = (k : ℕ) → k < callers → has_caller k seens ≡ true

-- a caller isn't among them
abbrev pub OneIsMissing : ℕ → List Seen → Type 0
OneIsMissing callers seens = (k : ℕ) × (k < callers) × (has_caller k seens ≡ false)

-- the list has the steps of each of these callers that is among the others, where a function of the callers' numbers
-- gives what they have taken
abbrev pub HasTaken : List ℕ → List Seen → List Seen → Type 0
HasTaken own seens others =
    (f : ℕ → ℕ) → All (λ seen. seen.taken ≡ f seen.caller) seens → (k : ℕ) → has_caller k others ≡ true → slice_index own k ≡ f k

-- a caller has seen a beginning of the history, and all of its own entries
pub record StandsIn (history : List Entry) (seen : Seen) : Type 0 where
  pub begins : IsPrefix (history_of seen) history
  pub own : own_of history seen.caller ≡ own_of (history_of seen) seen.caller

-- there is a legal history of this length, of these callers' entries alone, in which all of them stand
pub record Gathers (shape : Shape) (seens : List Seen) (count : ℕ) : Type 0 where
  pub history : List Entry
  pub long : length history ≡ count
  pub legal : IsLegal shape.lanes shape.cap history
  pub by_callers : All (λ entry. entry.caller < shape.callers) history
  pub each : All (StandsIn history) seens

-- the longest that a caller has seen is the whole history: it is legal, all others begin it, and it has the entries of
-- each caller that this has seen of its own, and no others
pub record Closes (shape : Shape) (seens : List Seen) (totals : Totals) : Type 0 where
  pub longest : List Entry
  pub one : Any (λ seen. history_of seen ≡ longest) seens
  pub each : All (StandsIn longest) seens
  pub legal : IsLegal shape.lanes shape.cap longest
  pub history : totals.history ≡ length longest
  pub count : length totals.own ≡ shape.callers
  pub own : (k : ℕ) → k < shape.callers → slice_index totals.own k ≡ length (own_of longest k)
  pub sum : sum_by (λ n. n) totals.own ≡ totals.history
