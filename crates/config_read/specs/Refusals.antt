-- What the reading of a part of a configuration may come to, part after part in the reading order.
use Rattle.std.specs.Prelude.{◌≡◌, ℕ, Bool, true, false, ◌⊎◌, List, [], ◌∷◌, ◌++◌, Option, None, Some, Result, Ok, Err}
use Rattle.config_read.specs.declared.fault.Cause.{Cause}
use Rattle.config_read.specs.declared.fault.ConfigFault.{ConfigFault}
use Rattle.config_read.specs.declared.fault.ConfigFault.TheVariants as fault

-- refused at this place, for this cause
pub record Refusal : Type 0 where
  pub place : List ℕ
  pub cause : Cause

-- what a reading may come to: nothing is refused, or this is refused first
abbrev pub Table : Type 1
Table = Option Refusal → Type 0

-- nothing is read
abbrev pub nothing : Table
nothing o = o ≡ None

-- the first part is read, and the second where the first refuses nothing
infixr 4 ◌▸◌
abbrev pub ◌▸◌ : Table → Table → Table
(a ▸ b) None = a None × b None
(a ▸ b) (Some refused) = a (Some refused) ⊎ (a None × b (Some refused))

-- refused at this place for this cause, exactly where the test is true
abbrev pub refuse : List ℕ → Cause → Bool → Table
refuse place cause test None = test ≡ false
refuse place cause test (Some refused) = (test ≡ true) × (refused ≡ record { place = place; cause = cause })

-- refused at this place for this cause, exactly where the fact fails
abbrev pub refuse_unless : List ℕ → Cause → Type 0 → Table
refuse_unless place cause Fact None = Fact
refuse_unless place cause Fact (Some refused) = ¬ Fact × (refused ≡ record { place = place; cause = cause })

-- each element is read behind those before it, which stand for these
abbrev pub each : {D X : Type 0} → (List X → D → Table) → (D → X) → List X → List D → Table
each table stands earlier [] = nothing
each table stands earlier (d ∷ ds) = table earlier d ▸ each table stands (earlier ++ stands d ∷ []) ds

-- what a fault tells of a reading; want of memory tells nothing
abbrev pub Refuses : ConfigFault → Table → Type 0
Refuses (fault.Refused place cause) table = table (Some (record { place = place; cause = cause }))
Refuses fault.Memory table = Unit {0}

-- an answer follows a table: nothing is refused where something is given, and a refusal is the first
abbrev pub IsAnswerOf : {A : Type 0} → Result A ConfigFault → Table → Type 0
IsAnswerOf (Ok given) table = table None
IsAnswerOf (Err e) table = Refuses e table

-- a reading comes to one thing
abbrev pub IsSettled : Table → Type 0
IsSettled table = (a b : Option Refusal) → table a → table b → a ≡ b

-- what is told of a refusal; want of memory takes its place
abbrev pub Tells : ConfigFault → List ℕ → Cause → Type 0
Tells (fault.Refused place cause) at why = (place ≡ at) × (cause ≡ why)
Tells fault.Memory at why = Unit {0}
