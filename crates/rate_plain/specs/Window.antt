-- The window rule: which steps of a key still count, which mitigation still runs, and what the next step is told.
-- All of it is said of the whole list of the steps so far.
use Rattle.std.specs.Prelude.{ℕ, ◌+◌, max, Bool, true, false, cond, not, ◌&&◌, ◌||◌, ◌==◌, nat_lt, nat_le, List, map, filter, filter_map, sum_by, fold, Option, Some, None, is_some}
use Rattle.std.specs.List.{reduce}
use Rattle.std.specs.Set.{distinct_count}
use Rattle.rate_plain.specs.KeyParts.{KeyParts}
use Rattle.rate_plain.specs.Keys.{same_key, lane_of_key}
use Rattle.rate_plain.specs.declared.entry.Ask.{Ask}
use Rattle.rate_plain.specs.declared.entry.Entry.{Entry}
use Rattle.rate_plain.specs.declared.entry.Answer.{Answer}
use Rattle.rate_plain.specs.declared.entry.Answer.TheVariants.{Pass, Over, Full}

-- the step was let through
abbrev pub is_pass : Answer → Bool
is_pass Pass = true
is_pass (Over until) = false
is_pass Full = false

-- the end of the mitigation that an answer tells, if it tells one
abbrev pub end_of : Answer → Option ℕ
end_of Pass = None
end_of (Over until) = Some until
end_of Full = None

-- the entries of a key
abbrev pub entries_of : KeyParts → List Entry → List Entry
entries_of key history = filter (λ entry. same_key key entry.key) history

-- the entries whose key has this lane, of so many lanes
abbrev pub entries_in : ℕ → ℕ → List Entry → List Entry
entries_in lanes lane history = filter (λ entry. lane_of_key lanes entry.key == lane) history

-- the greater of a moment and the greatest of these entries
abbrev pub latest_of : ℕ → List Entry → ℕ
latest_of moment entries = fold max moment (map (λ entry. entry.at) entries)

-- the moment of a step: the greater of the one that it asks and the greatest of its lane
abbrev pub moment_of : ℕ → List Entry → KeyParts → ℕ → ℕ
moment_of lanes history key asked = latest_of asked (entries_in lanes (lane_of_key lanes key) history)

-- the entry added, was let through, and its period has not ended
abbrev pub is_counted : ℕ → Entry → Bool
is_counted at entry = entry.adds && is_pass entry.answer && nat_lt at (entry.at + entry.key.period)

-- what a step weighs in its window
abbrev pub weight_of : Entry → ℕ
weight_of entry = 1

-- how much of a key is counted at a moment
abbrev pub counted_of : KeyParts → ℕ → List Entry → ℕ
counted_of key at history = sum_by weight_of (filter (is_counted at) (entries_of key history))

-- until when a key is held at a moment, if it is: the greatest end above the moment that one of its steps was told
abbrev pub held_until : KeyParts → ℕ → List Entry → Option ℕ
held_until key at history =
    reduce max (filter (nat_lt at) (filter_map (λ entry. end_of entry.answer) (entries_of key history)))

-- something of the key is counted, or it is held
abbrev pub is_live : KeyParts → ℕ → List Entry → Bool
is_live key at history = nat_lt 0 (counted_of key at history) || is_some (held_until key at history)

-- how many keys of a lane are live at a moment
abbrev pub live_count : ℕ → ℕ → ℕ → List Entry → ℕ
live_count lanes lane at history =
    distinct_count same_key
    (filter (λ key. is_live key at history) (map (λ entry. entry.key) (entries_in lanes lane history)))

-- the lane has no room for this key: it isn't live, and as many as may be are
abbrev pub is_shut_out : ℕ → ℕ → List Entry → KeyParts → ℕ → Bool
is_shut_out lanes cap history key at =
    not (is_live key at history) && nat_le cap (live_count lanes (lane_of_key lanes key) at history)

-- a key that is held is told until when, any other the further answer
abbrev pub held_or : Option ℕ → Answer → Answer
held_or None further = further
held_or (Some until) further = Over until

-- the answer at a moment, by the first that applies: held, not adding, no room, at the threshold, let through
abbrev pub answer_at : ℕ → ℕ → List Entry → Ask → ℕ → Answer
answer_at lanes cap history ask at =
    held_or (held_until ask.key at history)
    (cond (not ask.adds) Pass
    (cond (is_shut_out lanes cap history ask.key at) Full
    (cond (counted_of ask.key at history == ask.key.threshold) (Over (at + ask.key.timeout))
    Pass)))

-- the answer to an ask, of so many lanes with room for so many keys each
abbrev pub answer_of : ℕ → ℕ → List Entry → Ask → Answer
answer_of lanes cap history ask = answer_at lanes cap history ask (moment_of lanes history ask.key ask.asked)
