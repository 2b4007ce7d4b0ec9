-- Each input has an output, and one without patterns has one run, and so one output.
use Rattle.std.proofs.Common.{◌≡◌, ℕ, List, [], ◌∷◌, ◌++◌, length, ◌⊎◌, Option, Some, None, Ok, refl, sym, ap, ap₂, subst, ◌∙◌, inl, inr, append_assoc, arith}
use Rattle.std.proofs.lemmas.Option.{none-some, same_Some}
use Rattle.serde_json.specs.Data.{Data}
use Rattle.edge_outside.specs.Lines.{lines_of}
use Rattle.list_store.specs.declared.part.ListPart.{ListPart}
use Rattle.list_store.specs.Parts.{AreFineBefore}
use Rattle.ruleset_model.specs.ConfigParts.{ConfigParts}
use Rattle.ruleset_model.specs.Data.{ConfigData}
use Rattle.judge_core.specs.Values.{Listed}
use Rattle.config_read.specs.declared.fault.Cause.{Cause}
use Rattle.config_read.specs.Answered.{IsTaken as IsRead, IsRefused}
use Rattle.config_read.specs.DataLaws.{BuiltConfigurationsAreTheirData}
use Rattle.config_read.specs.Reads.{FirstRefusalIsOne}
use Rattle.config_read.specs.Refusals.{Refusal}
use Rattle.trace_form.specs.Item.{IsBlank, IsDeploy, IsAsk, IsNoItem}
use Rattle.trace_form.specs.declared.item.Recorded.{Recorded}
use Rattle.trace_form.specs.declared.refusal.BadCause.{BadCause}
use Rattle.trace_form.proofs.ItemLemmas.{IsDeploy-unique, IsAsk-unique, IsNoItem-unique, blank-not_deploy, blank-not_ask, blank-not_no_item, deploy-not_ask, deploy-not_no_item, ask-not_no_item, Kind, kind-found}
use Rattle.trace_form.proofs.ItemLemmas as kind
use Rattle.edge_main.specs.Answered.{RunState, opening, Answered, passed_by, refused, put_in_force, turned_down, judged}
use Rattle.gate_run.specs.Named.{IsMeaningOf}
use Rattle.edge_main.specs.Output.{IsAnswered, IsRun, IsOutput, IsTaken, IsTurnedDown, HasNoPatterns, IsWithoutPatterns, texts_of, RunsAreUnique, OutputsAreUnique, EveryInputHasAnOutput}
use Rattle.edge_main.specs.Output as answered
use Rattle.config_read.proofs.DocumentRead.{documents_are_read, document_fine}
use Rattle.gate_run.proofs.MeaningLemmas.{meaning_of, meaning_is, meaning_unique}

-- ---- one run after another

pub run-append : (from mid to : RunState) (front rest : List (List ℕ)) (a b : List Answered) → IsRun from front a mid
    → IsRun mid rest b to → IsRun from (front ++ rest) (a ++ b) to
run-append from mid to [] rest [] b p q = subst (λ s. IsRun s rest b to) (sym p) q
run-append from mid to [] rest (this ∷ a) b p q = absurd p
run-append from mid to (given ∷ front) rest [] b p q = absurd p
run-append from mid to (given ∷ front) rest (this ∷ a) b p q = (p.0, run-append this.after mid to front rest a b p.1 q)

pub texts-append : (a b : List Answered) → texts_of (a ++ b) ≡ texts_of a ++ texts_of b
texts-append [] b = refl
texts-append (this ∷ a) b =
    ap (λ xs. this.text ++ xs) (texts-append a b) ∙ sym (append_assoc this.text (texts_of a) (texts_of b))

-- ---- a line is answered

-- the lists in force are fine
abbrev pub IsFineAt : RunState → Type 0
IsFineAt s = AreFineBefore s.config.lists (length s.config.lists)

pub opening_fine : IsFineAt opening
opening_fine = λ k d below. absurd (omega (arith, below))

-- those of a document that is taken
pub taken_fine : (value : Data) (config : ConfigParts) → IsTaken value config → AreFineBefore config.lists (length config.lists)
taken_fine value config taken =
    subst (λ (parts : List ListPart). AreFineBefore parts (length parts)) (sym (ap (λ (d : ConfigData). d.lists) taken.reads.1))
    (document_fine value taken.reads.0)

-- they stay so line by line
answered_fine : (s : RunState) (given : List ℕ) (this : Answered) → IsFineAt s → IsAnswered s given this → IsFineAt this.after
answered_fine s given this fine (answered.blank h p) = subst (λ (t : Answered). IsFineAt t.after) (sym p) fine
answered_fine s given this fine (answered.bad why h p) = subst (λ (t : Answered). IsFineAt t.after) (sym p) fine
answered_fine s given this fine (answered.deployment value config h e p) = subst (λ (t : Answered). IsFineAt t.after) (sym p) (taken_fine value config e)
answered_fine s given this fine (answered.no_deployment value place cause h e p) = subst (λ (t : Answered). IsFineAt t.after) (sym p) fine
answered_fine s given this fine (answered.request recorded listed h e p) = subst (λ (t : Answered). IsFineAt t.after) (sym p) fine

pub run_fine : (from to : RunState) (lines : List (List ℕ)) (run : List Answered) → IsFineAt from → IsRun from lines run to → IsFineAt to
run_fine from to [] [] fine is = subst IsFineAt is fine
run_fine from to [] (this ∷ run) fine is = absurd is
run_fine from to (given ∷ lines) [] fine is = absurd is
run_fine from to (given ∷ lines) (this ∷ run) fine is = run_fine this.after to lines run (answered_fine from given this fine is.0) is.1

-- a line has an answer
abbrev Answers : RunState → List ℕ → Type 0
Answers s given = (this : Answered) × IsAnswered s given this

kind_goes : (s : RunState) (given : List ℕ) → IsFineAt s → Kind given → Answers s given
kind_goes s given fine (kind.blank h) = (passed_by s, answered.blank h refl)
kind_goes s given fine (kind.deploy value h) = of_value (documents_are_read value) where
  of_value : IsRead value ⊎ IsRefused value → Answers s given
  of_value (inl (config, stands)) = (put_in_force s config, answered.deployment value config h stands refl)
  of_value (inr (place, cause, reads)) = (turned_down s place cause, answered.no_deployment value place cause h reads refl)
kind_goes s given fine (kind.ask recorded h) =
    let listed = meaning_of s.config.lists in
    (judged listed s recorded, answered.request recorded listed h (meaning_is s.config.lists fine) refl)
kind_goes s given fine (kind.no_item why h) = (refused s why, answered.bad why h refl)

-- some run over these lines
pub some_run : (from : RunState) (lines : List (List ℕ)) → IsFineAt from → (run : List Answered) × (to : RunState) × IsRun from lines run to
some_run from [] fine = ([], from, refl)
some_run from (given ∷ lines) fine =
    let this = kind_goes from given fine (kind-found given) in
    let rest = some_run this.0.after lines (answered_fine from given this.0 fine this.1) in
    (this.0 ∷ rest.0, rest.1, (this.1, rest.2))

pub every_input_has_an_output : EveryInputHasAnOutput
every_input_has_an_output input =
    let some = some_run opening (lines_of input) opening_fine in
    (texts_of some.0, (some.0, some.1, some.2, refl))

-- ---- a deployment without patterns is read in one way

module _ (one_refusal : FirstRefusalIsOne) (data_law : BuiltConfigurationsAreTheirData) where
  taken-not_refused : (value : Data) (config : ConfigParts) (place : List ℕ) (cause : Cause) → HasNoPatterns value → IsTaken value config
      → ¬ (IsTurnedDown value place cause)
  taken-not_refused value config place cause plain taken refusal =
      let refused_as : Refusal = record { place = place; cause = cause } in
      none-some refused_as (one_refusal value None (Some refused_as) (plain None taken.reads.0) (plain (Some refused_as) refusal))

  same_refusal : (value : Data) (place other : List ℕ) (cause why : Cause) → HasNoPatterns value → IsTurnedDown value place cause
      → IsTurnedDown value other why → (place ≡ other) × (cause ≡ why)
  same_refusal value place other cause why plain p q =
      let first : Refusal = record { place = place; cause = cause } in
      let second : Refusal = record { place = other; cause = why } in
      let same = same_Some first second (one_refusal value (Some first) (Some second) (plain (Some first) p) (plain (Some second) q)) in
      (ap (λ (r : Refusal). r.place) same, ap (λ (r : Refusal). r.cause) same)

  same_config : (value : Data) (a b : ConfigParts) → IsTaken value a → IsTaken value b → a ≡ b
  same_config value a b p q = data_law a b p.built q.built (p.reads.1 ∙ sym q.reads.1)

  -- ---- a line without patterns is answered in one way

  -- no deployment of the line has a pattern
  abbrev IsPlain : List ℕ → Type 0
  IsPlain given = (value : Data) → IsDeploy given value → HasNoPatterns value

  two_taken : (s : RunState) (given : List ℕ) (value other : Data) (a b : ConfigParts) → IsDeploy given value → IsDeploy given other
      → IsTaken value a → IsTaken other b → put_in_force s a ≡ put_in_force s b
  two_taken s given value other a b h g p q =
      ap (put_in_force s) (same_config value a b p (subst (λ v. IsTaken v b) (IsDeploy-unique given other value g h) q))

  taken_and_refused : (given : List ℕ) (value other : Data) (config : ConfigParts) (place : List ℕ) (cause : Cause) → IsPlain given
      → IsDeploy given value → IsDeploy given other → IsTaken value config → ¬ (IsTurnedDown other place cause)
  taken_and_refused given value other config place cause plain h g taken refusal =
      taken-not_refused value config place cause (plain value h) taken
      (subst (λ v. IsTurnedDown v place cause) (IsDeploy-unique given other value g h) refusal)

  two_refused : (s : RunState) (given : List ℕ) (value other : Data) (place at : List ℕ) (cause why : Cause) → IsPlain given → IsDeploy given value
      → IsDeploy given other → IsTurnedDown value place cause → IsTurnedDown other at why → turned_down s place cause ≡ turned_down s at why
  two_refused s given value other place at cause why plain h g p q =
      let same = same_refusal value place at cause why (plain value h) p (subst (λ v. IsTurnedDown v at why) (IsDeploy-unique given other value g h) q) in
      ap₂ (turned_down s) same.0 same.1

  two_judged : (s : RunState) (given : List ℕ) (recorded other : Recorded) (a b : Listed) → IsAsk given recorded → IsAsk given other
      → IsMeaningOf s.config.lists a → IsMeaningOf s.config.lists b → judged a s recorded ≡ judged b s other
  two_judged s given recorded other a b h g p q =
      ap (λ listed. judged listed s recorded) (meaning_unique s.config.lists a b p q) ∙ ap (judged b s) (IsAsk-unique given recorded other h g)

  answered_unique : (s : RunState) (given : List ℕ) (a b : Answered) → IsPlain given → IsAnswered s given a → IsAnswered s given b → a ≡ b
  answered_unique s given a b plain (answered.blank h p) (answered.blank g q) = p ∙ sym q
  answered_unique s given a b plain (answered.blank h p) (answered.bad why g q) = absurd (blank-not_no_item given why h g)
  answered_unique s given a b plain (answered.blank h p) (answered.deployment value config g e q) = absurd (blank-not_deploy given value h g)
  answered_unique s given a b plain (answered.blank h p) (answered.no_deployment value place cause g e q) = absurd (blank-not_deploy given value h g)
  answered_unique s given a b plain (answered.blank h p) (answered.request recorded listed g e q) = absurd (blank-not_ask given recorded h g)
  answered_unique s given a b plain (answered.bad why h p) (answered.blank g q) = absurd (blank-not_no_item given why g h)
  answered_unique s given a b plain (answered.bad why h p) (answered.bad why' g q) = p ∙ ap (refused s) (IsNoItem-unique given why why' h g) ∙ sym q
  answered_unique s given a b plain (answered.bad why h p) (answered.deployment value config g e q) = absurd (deploy-not_no_item given value why g h)
  answered_unique s given a b plain (answered.bad why h p) (answered.no_deployment value place cause g e q) = absurd (deploy-not_no_item given value why g h)
  answered_unique s given a b plain (answered.bad why h p) (answered.request recorded listed g e q) = absurd (ask-not_no_item given recorded why g h)
  answered_unique s given a b plain (answered.deployment value config h e p) (answered.blank g q) = absurd (blank-not_deploy given value g h)
  answered_unique s given a b plain (answered.deployment value config h e p) (answered.bad why g q) = absurd (deploy-not_no_item given value why h g)
  answered_unique s given a b plain (answered.deployment value config h e p) (answered.deployment other config' g f q) =
      p ∙ two_taken s given value other config config' h g e f ∙ sym q
  answered_unique s given a b plain (answered.deployment value config h e p) (answered.no_deployment other place cause g f q) =
      absurd (taken_and_refused given value other config place cause plain h g e f)
  answered_unique s given a b plain (answered.deployment value config h e p) (answered.request recorded listed g f q) = absurd (deploy-not_ask given value recorded h g)
  answered_unique s given a b plain (answered.no_deployment value place cause h e p) (answered.blank g q) = absurd (blank-not_deploy given value g h)
  answered_unique s given a b plain (answered.no_deployment value place cause h e p) (answered.bad why g q) = absurd (deploy-not_no_item given value why h g)
  answered_unique s given a b plain (answered.no_deployment value place cause h e p) (answered.deployment other config g f q) =
      absurd (taken_and_refused given other value config place cause plain g h f e)
  answered_unique s given a b plain (answered.no_deployment value place cause h e p) (answered.no_deployment other at why g f q) =
      p ∙ two_refused s given value other place at cause why plain h g e f ∙ sym q
  answered_unique s given a b plain (answered.no_deployment value place cause h e p) (answered.request recorded listed g f q) = absurd (deploy-not_ask given value recorded h g)
  answered_unique s given a b plain (answered.request recorded listed h e p) (answered.blank g q) = absurd (blank-not_ask given recorded g h)
  answered_unique s given a b plain (answered.request recorded listed h e p) (answered.bad why g q) = absurd (ask-not_no_item given recorded why h g)
  answered_unique s given a b plain (answered.request recorded listed h e p) (answered.deployment value config g f q) = absurd (deploy-not_ask given value recorded g h)
  answered_unique s given a b plain (answered.request recorded listed h e p) (answered.no_deployment value place cause g f q) = absurd (deploy-not_ask given value recorded g h)
  answered_unique s given a b plain (answered.request recorded listed h e p) (answered.request other listed' g f q) =
      p ∙ two_judged s given recorded other listed listed' h g e f ∙ sym q

  runs_unique : (from : RunState) (lines : List (List ℕ)) (a b : List Answered) (x y : RunState) → IsWithoutPatterns lines
      → IsRun from lines a x → IsRun from lines b y → (a ≡ b) × (x ≡ y)
  runs_unique from [] [] [] x y plain p q = (refl, sym p ∙ q)
  runs_unique from [] [] (that ∷ b) x y plain p q = absurd q
  runs_unique from [] (this ∷ a) b x y plain p q = absurd p
  runs_unique from (given ∷ lines) [] b x y plain p q = absurd p
  runs_unique from (given ∷ lines) (this ∷ a) [] x y plain p q = absurd q
  runs_unique from (given ∷ lines) (this ∷ a) (that ∷ b) x y plain p q =
      let same : this ≡ that = answered_unique from given this that plain.0 p.0 q.0 in
      let rest = runs_unique this.after lines a b x y plain.1 p.1 (subst (λ t. IsRun t.after lines b y) (sym same) q.1) in
      (ap (λ t. t ∷ a) same ∙ ap (λ run. that ∷ run) rest.0, rest.1)

  pub runs_are_unique : RunsAreUnique
  runs_are_unique input a b x y plain p q = runs_unique opening (lines_of input) a b x y plain p q

  pub outputs_are_unique : OutputsAreUnique
  outputs_are_unique input a b plain p q =
      p.3 ∙ ap texts_of ((runs_are_unique input p.0 q.0 p.1 q.1 plain p.2 q.2).0) ∙ sym q.3
