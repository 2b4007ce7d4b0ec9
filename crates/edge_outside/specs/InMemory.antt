-- A source and a sink in memory as contracts see them, and what each call makes of them.
use Rattle.std.specs.Prelude.{◌≡◌, ◌⊎◌, ℕ, ◌-◌, ◌<◌, List, [], ◌++◌, Some, length, take, drop, min, Contains}
use Rattle.edge_outside.specs.Faults.{next_count}
use Rattle.edge_outside.specs.Shown.{SourceShown, SinkShown}

-- a source over a text: what was taken and what is left of it, the most that a read moves, the numbers of the reads
-- that fail, and the counts of reads and of faults
pub record Supply : Type 0 where
  pub taken : List ℕ
  pub left : List ℕ
  pub piece : ℕ
  pub fail_at : List ℕ
  pub calls : ℕ
  pub faults : ℕ

-- a sink: what it got, the room that is left, the most that a write moves, the numbers of the writes that fail, and the
-- counts of writes and of faults
pub record Store : Type 0 where
  pub got : List ℕ
  pub room : ℕ
  pub piece : ℕ
  pub fail_at : List ℕ
  pub calls : ℕ
  pub faults : ℕ

-- a source of these bytes before its first read
abbrev pub new_supply : List ℕ → ℕ → List ℕ → Supply
new_supply bytes piece fail_at = record { taken = []; left = bytes; piece = piece; fail_at = fail_at; calls = 0; faults = 0 }

-- a sink before its first write
abbrev pub new_store : ℕ → ℕ → List ℕ → Store
new_store room piece fail_at = record { got = []; room = room; piece = piece; fail_at = fail_at; calls = 0; faults = 0 }

-- how many bytes a read into a piece of this length moves
abbrev pub read_count : Supply → ℕ → ℕ
read_count supply len = min len (min supply.piece (length supply.left))

-- after a read of n bytes
abbrev pub after_read : Supply → ℕ → Supply
after_read supply n = record supply { taken = supply.taken ++ take n supply.left; left = drop n supply.left; calls = next_count supply.calls }

-- after a read that failed
abbrev pub after_failed_read : Supply → Supply
after_failed_read supply = record supply { calls = next_count supply.calls; faults = next_count supply.faults }

-- the next write of a piece of this length fails: its number is one that fails, or there is no room for any of it
abbrev pub FailsToWrite : Store → ℕ → Type 0
FailsToWrite store len = Contains store.fail_at store.calls ⊎ ((store.room ≡ 0) × (0 < len))

-- how many bytes of a piece of this length a write takes
abbrev pub write_count : Store → ℕ → ℕ
write_count store len = min len (min store.piece store.room)

-- after a write that took these bytes
abbrev pub after_write : Store → List ℕ → Store
after_write store bytes = record store { got = store.got ++ bytes; room = store.room - length bytes; calls = next_count store.calls }

-- after a write that failed
abbrev pub after_failed_write : Store → Store
after_failed_write store = record store { calls = next_count store.calls; faults = next_count store.faults }

-- what a source in memory shows
abbrev pub source_shown : Supply → SourceShown
source_shown supply = record { taken = Some supply.taken; left = Some supply.left; faults = supply.faults }

-- what a sink in memory shows
abbrev pub sink_shown : Store → SinkShown
sink_shown store = record { got = Some store.got; faults = store.faults }
