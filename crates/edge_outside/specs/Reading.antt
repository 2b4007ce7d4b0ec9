-- What a line reader stands for, and what each of its steps says of the text before it.
use Rattle.std.specs.Prelude.{◌≡◌, ℕ, ◌+◌, ◌-◌, ◌^◌, ◌<◌, ◌≤◌, Bool, true, false, List, [], ◌∷◌, ◌++◌, length, Option, Some, None}
use Rattle.std.specs.Prelude.{option_to_list, if◌then◌else◌, Result, IfOk}
use Rattle.std.specs.Io.KnownBytes.{Appends, Consumes, IsAtEnd}
use Rattle.edge_outside.specs.Lines.{lines_of, NoNewline, HasNewline}
use Rattle.edge_outside.specs.Told.{Gave}
use Rattle.edge_outside.specs.declared.failure.Failed.{Failed}
use Rattle.edge_outside.specs.declared.line_reader.LineReader.{LineReader}
use Rattle.edge_outside.specs.declared.line_reader.LineStep.{LineStep}
use Rattle.edge_outside.specs.declared.line_reader.LineStep.TheVariants as step

-- the line that was given last
abbrev pub line_of : LineReader → List ℕ
line_of reader = reader.buffer.line

-- the bytes that were taken and are neither given nor read past
abbrev pub ahead_of : LineReader → List ℕ
ahead_of reader = reader.buffer.begun ++ reader.buffer.rest ++ option_to_list reader.aside

-- what was read past: nothing, or the front of a line that is too long
abbrev pub IsPast : Bool → List ℕ → Type 0
IsPast false past = past ≡ []
IsPast true past = (2 ^ 20 < length past) × NoNewline past

-- the reader stands before this text, which ends with what its source has left
pub record Stands (reader : LineReader) (left : Option (List ℕ)) (text : List ℕ) : Type 0 where
  pub past : List ℕ
  pub source : List ℕ
  pub is_past : IsPast reader.long past
  pub is_left : left ≡ Some source
  pub is_text : text ≡ past ++ (ahead_of reader ++ source)

-- the text begins with this line, and the reader stands after it
pub record Gives (reader : LineReader) (left : Option (List ℕ)) (text line : List ℕ) : Type 0 where
  pub rest : List ℕ
  pub is_first : lines_of text ≡ line ∷ lines_of rest
  pub after : Stands reader left rest

-- what a step says of the text that the reader stood before
abbrev pub StepOf : LineStep → LineReader → Option (List ℕ) → List ℕ → Type 0
StepOf step.Line reader left text = (length (line_of reader) ≤ 2 ^ 20) × Gives reader left text (line_of reader)
StepOf step.Long reader left text = (line : List ℕ) × (2 ^ 20 < length line) × Gives reader left text line
StepOf step.End reader left text = (text ≡ []) × Stands reader left []
StepOf step.Fault reader left text = Stands reader left text
StepOf step.LongInput reader left text = Stands reader left text

-- the step says what it must of each text that the reader stood before, while the source went from one rest to another
abbrev pub StepsOn : LineReader → Option (List ℕ) → LineReader → Option (List ℕ) → LineStep → Type 0
StepsOn before left now rest step = (text : List ℕ) → Stands before left text → StepOf step now rest text

-- the same where the source isn't asked
abbrev pub StepsInside : LineReader → LineReader → LineStep → Type 0
StepsInside before now step = (left : Option (List ℕ)) → StepsOn before left now left step

-- the same where the source is at its end
abbrev pub StepsAtEnd : LineReader → LineReader → LineStep → Type 0
StepsAtEnd before now step = (left : Option (List ℕ)) (text : List ℕ) → IsAtEnd left → Stands before left text → StepOf step now left text

-- the reader stands before each text that it stood before
abbrev pub StandsStill : LineReader → LineReader → Type 0
StandsStill before now = (left : Option (List ℕ)) (text : List ℕ) → Stands before left text → Stands now left text

-- the reader took these bytes, and gave and passed nothing
pub record Took (before now : LineReader) (bytes : List ℕ) : Type 0 where
  pub is_ahead : ahead_of now ≡ ahead_of before ++ bytes
  pub is_long : now.long ≡ before.long
  pub is_taken : now.taken ≡ before.taken + length bytes

-- the reader took what one read of its source gave, as many bytes as the answer counts
abbrev pub TookFrom :
    {S : Type 0} → (S → Option (List ℕ)) → (S → Option (List ℕ)) → S → S → LineReader → LineReader → Result ℕ Failed → Type 0
TookFrom left taken source source' reader reader' result =
    (bytes : List ℕ) × Took reader reader' bytes × Gave left taken source source' bytes × IfOk result (λ count. length bytes ≡ count)

-- the reader counted what its source gave
abbrev pub TakesOn : {S : Type 0} → (S → Option (List ℕ)) → (S → Option (List ℕ)) → S → S → LineReader → LineReader → Type 0
TakesOn left taken source source' reader reader' =
    (bytes : List ℕ) × Consumes (left source) (left source') bytes × Appends (taken source) (taken source') bytes
    × (reader'.taken ≡ reader.taken + length bytes)

-- the next line stands whole in what was taken
abbrev pub HoldsLine : LineReader → Type 0
HoldsLine reader = HasNewline reader.buffer.rest

-- all that was taken was looked at
abbrev pub IsLooked : LineReader → Type 0
IsLooked reader = (reader.buffer.rest ≡ []) × (reader.aside ≡ None)

-- how many lines the reader can still give, at most: the bytes not yet taken, those taken and not given, and one for a
-- line that is read past
abbrev pub weight : LineReader → ℕ
weight reader = (2 ^ 40 - reader.taken) + length (ahead_of reader) + (if reader.long then 1 else 0)
