-- What `replay` writes for an input: a run over its lines in order, each answered by what it is and by how far the run
-- has come.
use Rattle.std.specs.Prelude.{◌≡◌, ℕ, List, [], ◌∷◌, ◌++◌, ⊤, Option, Err}
use Rattle.serde_json.specs.Data.{Data}
use Rattle.edge_outside.specs.Lines.{lines_of}
use Rattle.ruleset_model.specs.ConfigParts.{ConfigParts}
use Rattle.judge_core.specs.Values.{Listed}
use Rattle.config_read.specs.Answered.{StandsFor}
use Rattle.config_read.specs.declared.fault.Cause.{Cause}
use Rattle.config_read.specs.declared.fault.ConfigFault.TheVariants as fault
use Rattle.config_read.specs.Judged.{judged as judgement_with_patterns}
use Rattle.config_read.specs.Reads.{Reads, IsFirstRefusal, document_table}
use Rattle.config_read.specs.Refusals.{Refusal}
use Rattle.trace_form.specs.Item.{IsBlank, IsDeploy, IsAsk, IsNoItem}
use Rattle.trace_form.specs.declared.item.Recorded.{Recorded}
use Rattle.trace_form.specs.declared.refusal.BadCause.{BadCause}
use Rattle.edge_main.specs.Answered.{RunState, opening, Answered, passed_by, refused, put_in_force, turned_down, judged}
use Rattle.gate_run.specs.Named.{IsMeaningOf}

-- the document is taken, and stands for this configuration
abbrev pub IsTaken : Data → ConfigParts → Type 0
IsTaken value config = StandsFor value config

-- the document is refused at this place, for this cause
abbrev pub IsTurnedDown : Data → List ℕ → Cause → Type 0
IsTurnedDown value place cause = Reads value (Err (fault.Refused place cause))

-- the answer to a line of the input, where the run has come so far
pub data IsAnswered (s : RunState) (given : List ℕ) (answered : Answered) : Type 0 where
  blank : IsBlank given → answered ≡ passed_by s → IsAnswered s given answered
  bad : (why : BadCause) → IsNoItem given why → answered ≡ refused s why → IsAnswered s given answered
  deployment : (value : Data) (config : ConfigParts) → IsDeploy given value → IsTaken value config
      → answered ≡ put_in_force s config → IsAnswered s given answered
  no_deployment : (value : Data) (place : List ℕ) (cause : Cause) → IsDeploy given value → IsTurnedDown value place cause
      → answered ≡ turned_down s place cause → IsAnswered s given answered
  request : (recorded : Recorded) (listed : Listed) → IsAsk given recorded → IsMeaningOf s.config.lists listed
      → answered ≡ judged listed s recorded → IsAnswered s given answered

-- these lines, in order, are answered so, from one state to another
abbrev pub IsRun : RunState → List (List ℕ) → List Answered → RunState → Type 0
IsRun from [] [] to = from ≡ to
IsRun from [] (answered ∷ run) to = ⊥
IsRun from (given ∷ lines) [] to = ⊥
IsRun from (given ∷ lines) (answered ∷ run) to = IsAnswered from given answered × IsRun answered.after lines run to

-- a run over the whole input
abbrev pub IsRunOf : List ℕ → List Answered → RunState → Type 0
IsRunOf input run to = IsRun opening (lines_of input) run to

-- the texts of these answers, joined
abbrev pub texts_of : List Answered → List ℕ
texts_of [] = []
texts_of (answered ∷ run) = answered.text ++ texts_of run

-- an output of the input: the texts of some run over it
abbrev pub IsOutput : List ℕ → List ℕ → Type 0
IsOutput input out = (run : List Answered) × (to : RunState) × IsRunOf input run to × (out ≡ texts_of run)

-- no pattern decides anything of the document: whatever may be refused of it, or that nothing is, is the same where
-- patterns are left out
abbrev pub HasNoPatterns : Data → Type 0
HasNoPatterns value = (o : Option Refusal) → document_table judgement_with_patterns value o → IsFirstRefusal value o

-- no deployment of the input has a pattern
abbrev pub IsWithoutPatterns : List (List ℕ) → Type 0
IsWithoutPatterns [] = ⊤
IsWithoutPatterns (given ∷ lines) = ((value : Data) → IsDeploy given value → HasNoPatterns value) × IsWithoutPatterns lines

-- each input without patterns has one run, and so one output
abbrev pub RunsAreUnique : Type 0
RunsAreUnique = (input : List ℕ) (a b : List Answered) (x y : RunState) → IsWithoutPatterns (lines_of input)
    → IsRunOf input a x → IsRunOf input b y → (a ≡ b) × (x ≡ y)

abbrev pub OutputsAreUnique : Type 0
OutputsAreUnique = (input a b : List ℕ) → IsWithoutPatterns (lines_of input) → IsOutput input a → IsOutput input b → a ≡ b

abbrev pub EveryInputHasAnOutput : Type 0
EveryInputHasAnOutput = (input : List ℕ) → (out : List ℕ) × IsOutput input out
