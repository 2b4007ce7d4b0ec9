-- What a counter that keeps the whole list stands for.
use Rattle.std.specs.Prelude.{◌≡◌, ℕ, List}
use Rattle.rate_plain.specs.History.{entry_of}
use Rattle.rate_plain.specs.declared.entry.Ask.{Ask}
use Rattle.rate_plain.specs.declared.entry.Entry.{Entry}
use Rattle.rate_plain.specs.declared.plain.PlainCounter.{PlainCounter}

-- it keeps just this list, and its two numbers
pub record IsPlain (counter : PlainCounter) (lanes cap : ℕ) (history : List Entry) : Type 0 where
  pub kept : counter.entries ≡ history
  pub its_lanes : counter.lanes ≡ lanes
  pub its_cap : counter.cap ≡ cap

-- the entry that an ask makes after those that it keeps
abbrev pub entry_after : PlainCounter → ℕ → Ask → Entry
entry_after counter caller ask = entry_of counter.lanes counter.cap counter.entries caller ask
