-- A document that is read from an input: all of it, where it isn't too long. No public clause cites these words.
use Rattle.std.specs.Prelude.{◌≡◌, ℕ, ◌^◌, ◌≤◌, ◌↔◌, nat_le, if◌then◌else◌, List, [], length, Option, Some, None, Result, Err}
use Rattle.std.specs.Io.KnownBytes.{Appends, Consumes}
use Rattle.edge_main.specs.declared.document.ReadingFault.{ReadingFault}
use Rattle.edge_main.specs.declared.document.ReadingFault.TheVariants as fault
use Rattle.edge_main.specs.declared.statuses.Status.{Status}
use Rattle.edge_main.specs.declared.statuses.Status.TheVariants as status

-- what is kept of these bytes: all, where they are at most 1,048,576, and else nothing
abbrev pub kept_of : List ℕ → Option (List ℕ)
kept_of bytes = if nat_le (length bytes) 1048576 then Some bytes else None

-- the input was read to its end, and this is what is kept of it
abbrev pub KeepsWhole : Option (List ℕ) → Option (List ℕ) → Option (List ℕ) → Type 0
KeepsWhole left left' kept = (text : List ℕ) → left ≡ Some text → (left' ≡ Some []) × (kept ≡ kept_of text)

-- bytes were taken, and the reading ended for the length of the input exactly where they are 2^40
pub record TookDocument {A : Type 0} (left left' taken taken' : Option (List ℕ)) (answer : Result A ReadingFault) : Type 0 where
  pub bytes : List ℕ
  pub consumed : Consumes left left' bytes
  pub appended : Appends taken taken' bytes
  pub limit : (answer ≡ Err fault.LongInput) ↔ (length bytes ≡ 2 ^ 40)

-- a reading under way: what was taken so far, and what is kept of it
pub record IsReading (kept : Option (List ℕ)) (count : ℕ) (left left' taken taken' : Option (List ℕ)) : Type 0 where
  pub bytes : List ℕ
  pub consumed : Consumes left left' bytes
  pub appended : Appends taken taken' bytes
  pub counted : count ≡ length bytes
  pub few : count ≤ 2 ^ 40
  pub is_kept : kept ≡ kept_of bytes

-- the status that this ends the run with
abbrev pub reading_status : ReadingFault → Status
reading_status fault.Read = status.ReadFault
reading_status fault.Memory = status.Memory
reading_status fault.LongInput = status.LongInput
