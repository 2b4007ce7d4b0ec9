-- What clauses see of callers, notes, and the counters that they belong to.
use Rattle.std.specs.Prelude.{◌≡◌, ℕ, ◌+◌, ◌≤◌, ◌<◌, List, [], ◌∷◌, length, slice_index_or}
use Rattle.std.specs.declared.result.Result.{Result}
use Rattle.atomic_table.specs.Seated.{TableId}
use Rattle.rate_plain.specs.History.{own_of}
use Rattle.rate_plain.specs.declared.entry.Ask.{Ask}
use Rattle.rate_plain.specs.declared.entry.Counted.{Counted}
use Rattle.rate_plain.specs.declared.entry.Entry.{Entry}
use Rattle.rate_shared.specs.declared.rule.Shape.{Shape}
use Rattle.rate_shared.specs.declared.seen.Seen.{Seen}
use Rattle.rate_shared.specs.declared.seen.Note.{Note}
use Rattle.rate_shared.specs.declared.seen.Held.{Held}
use Rattle.rate_shared.specs.declared.counters.Counters.{Counters}
use Rattle.rate_shared.specs.Hands.{SitsAt, seen_of, IsHeld}
use Rattle.rate_shared.specs.Answering.{Answers}

-- what a caller has seen
abbrev pub history_of : Seen → List Entry
history_of seen = seen_of seen.seat.me

-- its own entries in that
abbrev pub own_history : Seen → List Entry
own_history seen = own_of (history_of seen) seen.caller

-- what its maker had seen when the note was made
abbrev pub noted_of : Note → List Entry
noted_of note = seen_of note.seat.me

-- what the caller of a `Held` has seen
abbrev pub history_of_held : Held → List Entry
history_of_held held = seen_of held.seat.me

-- how many lanes, live keys in each, and callers there are
abbrev pub shape_of : Counters → Shape
shape_of counters = counters.table.shared.key

-- which table the counters have
abbrev pub table_of : Counters → TableId
table_of counters = counters.table.shared.table_id

-- the caller or the note belongs to these counters
abbrev pub IsOf : Counters → Seen → Type 0
IsOf counters seen = SitsAt (table_of counters) (shape_of counters) seen.seat

abbrev pub IsNoteOf : Counters → Note → Type 0
IsNoteOf counters note = SitsAt (table_of counters) (shape_of counters) note.seat

-- the `Held` has the turn of its lane, and the lane, which stands for its entries
pub record IsHeldOf (counters : Counters) (held : Held) : Type 0 where
  pub sits : SitsAt (table_of counters) (shape_of counters) held.seat
  pub holds : IsHeld held.seat held.caller held.taken held.number held.lane

-- the same caller of the same counters
abbrev pub IsSameCaller : Seen → Seen → Type 0
IsSameCaller before after =
    (after.caller ≡ before.caller) × (after.seat.table_id ≡ before.seat.table_id)
    × (after.seat.me.0.shape ≡ before.seat.me.0.shape)

-- a step of the caller was counted, or refused
abbrev pub TakesStep : {F : Type 0} → Shape → Seen → Seen → Ask → Result Counted F → Type 0
TakesStep shape before after ask result = Answers shape before.caller (history_of before) (history_of after) ask result

-- a caller of the table with this number, which has seen nothing
abbrev pub Opens : TableId → Shape → ℕ → Seen → Type 0
Opens table shape number seen = SitsAt table shape seen.seat × (seen.caller ≡ number) × (history_of seen ≡ [])

-- the k-th of these has the number k, sits at this table, and has seen nothing
abbrev pub AllOpen : TableId → Shape → List Seen → Type 0
AllOpen table shape seens = (k : ℕ) (d : Seen) → k < length seens → Opens table shape k (slice_index_or seens k d)

-- counters of so many lanes with this room, and as many callers as were asked for
pub record IsMade (lanes cap callers : ℕ) (counters : Counters) (seens : List Seen) : Type 0 where
  pub shape : shape_of counters ≡ record { lanes = lanes; cap = cap; callers = callers }
  pub count : length seens ≡ callers
  pub fresh : AllOpen (table_of counters) (shape_of counters) seens
