-- Which single step makes its key live, as the code looks for it.
use Rattle.std.specs.Prelude.{ℕ, max, Bool, cond, ◌&&◌, ◌||◌, ◌==◌, nat_lt, List, map, filter, Option, Some, None, is_some}
use Rattle.std.specs.List.{list_any}
use Rattle.std.specs.Set.{distinct_count}
use Rattle.rate_plain.specs.KeyParts.{KeyParts}
use Rattle.rate_plain.specs.Keys.{same_key, lane_of_key}
use Rattle.rate_plain.specs.Window.{is_counted}
use Rattle.rate_plain.specs.declared.entry.Entry.{Entry}
use Rattle.rate_plain.specs.declared.entry.Answer.{Answer}
use Rattle.rate_plain.specs.declared.entry.Answer.TheVariants.{Pass, Over, Full}

-- the end that an answer told, where it lies above the moment
abbrev pub end_above : ℕ → Answer → Option ℕ
end_above at Pass = None
end_above at (Over until) = cond (nat_lt at until) (Some until) None
end_above at Full = None

-- the later of an end so far, if there is one, and one more
abbrev pub later_of : Option ℕ → ℕ → ℕ
later_of None end = end
later_of (Some so_far) end = max so_far end

-- the step counts, or told an end above the moment
abbrev pub makes_live : ℕ → Entry → Bool
makes_live at entry = is_counted at entry || is_some (end_above at entry.answer)

-- one of the steps makes the key live
abbrev pub is_made_live : KeyParts → ℕ → List Entry → Bool
is_made_live key at entries = list_any (λ entry. makes_live at entry && same_key key entry.key) entries

-- the step makes its key live, and the key has this lane
abbrev pub makes_live_in : ℕ → ℕ → ℕ → Entry → Bool
makes_live_in lanes lane at entry = makes_live at entry && lane_of_key lanes entry.key == lane

-- how many keys the steps of a lane make live
abbrev pub made_live_count : ℕ → ℕ → ℕ → List Entry → ℕ
made_live_count lanes lane at entries =
    distinct_count same_key (map (λ entry. entry.key) (filter (makes_live_in lanes lane at) entries))
