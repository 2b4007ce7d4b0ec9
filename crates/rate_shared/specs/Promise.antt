-- What a caller is promised: of what it has seen, and of legal histories.
use Rattle.std.specs.Prelude.{◌≡◌, ℕ, ◌+◌, ◌<◌, List, [], ◌∷◌, ◌++◌, All, length}
use mathlib.Core.List.{IsPrefix}
use Rattle.rate_plain.specs.History.{IsLegal, own_of, ask_of}
use Rattle.rate_plain.specs.declared.entry.Ask.{Ask}
use Rattle.rate_plain.specs.declared.entry.Entry.{Entry}
use Rattle.rate_plain.specs.declared.entry.Counted.{Counted}
use Rattle.rate_shared.specs.declared.rule.Shape.{Shape}

-- a caller has seen more: a legal history of the callers' entries alone, with no further one of its own
pub record Grows (shape : Shape) (caller : ℕ) (before after : List Entry) : Type 0 where
  pub seen : IsPrefix before after
  pub legal : IsLegal shape.lanes shape.cap after
  pub by_callers : All (λ entry. entry.caller < shape.callers) after
  pub own : own_of after caller ≡ own_of before caller

-- a caller has seen more: a legal history of the callers' entries alone, which ends with the entry of its ask, its
-- only further one, at the position told
pub record Counts (shape : Shape) (caller : ℕ) (before after : List Entry) (ask : Ask) (counted : Counted) : Type 0 where
  pub between : List Entry
  pub entry : Entry
  pub grown : after ≡ between ++ entry ∷ []
  pub seen : IsPrefix before between
  pub own : own_of between caller ≡ own_of before caller
  pub legal : IsLegal shape.lanes shape.cap after
  pub by_callers : All (λ entry. entry.caller < shape.callers) after
  pub its : entry.caller ≡ caller
  pub asked : ask_of entry ≡ ask
  pub answer : entry.answer ≡ counted.answer
  pub position : length after ≡ counted.position + 1
