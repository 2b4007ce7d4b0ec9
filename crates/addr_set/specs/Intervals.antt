-- Intervals of numbers.
use Rattle.std.specs.Prelude.{◌≡◌, ℕ, ◌+◌, ◌-◌, ◌*◌, ◌/◌, ◌^◌, ◌<◌, ◌≤◌, Bool, ◌&&◌, ◌||◌, nat_le, List}
use Rattle.std.specs.List.{list_any, AllPairs}
use Rattle.addr_set.specs.declared.intervals.Interval.{Interval}

-- whether a number is one of an interval
abbrev pub is_in : Interval → ℕ → Bool
is_in interval number = nat_le interval.first number && nat_le number interval.last

-- whether it is one of some interval
abbrev pub is_in_any : List Interval → ℕ → Bool
is_in_any intervals number = list_any (λ interval. is_in interval number) intervals

-- the intervals have the numbers that others had, and those of one more
abbrev pub Adds : List Interval → List Interval → Interval → Type 0
Adds before now next = (number : ℕ) → is_in_any now number ≡ (is_in_any before number || is_in next number)

-- the first of the numbers that differ from a number in their last bits at most
abbrev pub first_of_block : ℕ → ℕ → ℕ
first_of_block last_bits number = number / 2 ^ last_bits * 2 ^ last_bits

-- the last of them
abbrev pub last_of_block : ℕ → ℕ → ℕ
last_of_block last_bits number = first_of_block last_bits number + (2 ^ last_bits - 1)

-- all of them
abbrev pub block_of : ℕ → ℕ → Interval
block_of last_bits number = record { first = first_of_block last_bits number; last = last_of_block last_bits number }

-- each interval begins no later than those after it, and between its end and their beginning there is another number
abbrev pub AreApart : List Interval → Type 0
AreApart intervals = AllPairs (λ one later. (one.first ≤ later.first) × (one.last + 1 < later.first)) intervals
