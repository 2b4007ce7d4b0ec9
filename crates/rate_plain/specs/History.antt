-- The history of all steps, as every counter stands for it.
use Rattle.std.specs.Prelude.{◌≡◌, ℕ, ◌<◌, ◌==◌, List, All, map, filter, length, take, slice_index_or}
use Rattle.rate_plain.specs.KeyParts.{KeyParts}
use Rattle.rate_plain.specs.Keys.{lane_of_key}
use Rattle.rate_plain.specs.Window.{moment_of, answer_of}
use Rattle.rate_plain.specs.declared.entry.Ask.{Ask}
use Rattle.rate_plain.specs.declared.entry.Entry.{Entry}

-- what an entry was asked
abbrev pub ask_of : Entry → Ask
ask_of entry = record { key = entry.key; asked = entry.asked; adds = entry.adds }

-- the entry that a caller's ask makes after these
abbrev pub entry_of : ℕ → ℕ → List Entry → ℕ → Ask → Entry
entry_of lanes cap history caller ask = record {
  caller = caller;
  key = ask.key;
  asked = ask.asked;
  at = moment_of lanes history ask.key ask.asked;
  adds = ask.adds;
  answer = answer_of lanes cap history ask;
}

-- the entry's moment and answer are those that the rule gives after the entries before it
pub record Follows (lanes cap : ℕ) (before : List Entry) (entry : Entry) : Type 0 where
  pub moment : entry.at ≡ moment_of lanes before entry.key entry.asked
  pub answer : entry.answer ≡ answer_of lanes cap before (ask_of entry)

-- each entry follows those before it
abbrev pub IsLegal : ℕ → ℕ → List Entry → Type 0
IsLegal lanes cap history = (k : ℕ) (d : Entry) → k < length history →
    Follows lanes cap (take k history) (slice_index_or history k d)

-- an entry as caller 0 would have made it
abbrev pub without_caller : Entry → Entry
without_caller entry = record {
  caller = 0;
  key = entry.key;
  asked = entry.asked;
  at = entry.at;
  adds = entry.adds;
  answer = entry.answer;
}

-- the lists differ in callers alone
abbrev pub AreAlike : List Entry → List Entry → Type 0
AreAlike a b = map without_caller a ≡ map without_caller b

-- the entries of a caller
abbrev pub own_of : List Entry → ℕ → List Entry
own_of history caller = filter (λ entry. entry.caller == caller) history

-- the entries are all of this key's lane
abbrev pub AreOneLane : ℕ → KeyParts → List Entry → Type 0
AreOneLane lanes key history = All (λ entry. lane_of_key lanes entry.key ≡ lane_of_key lanes key) history
