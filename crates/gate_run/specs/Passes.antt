-- What clauses see of a gate, of its passes and of its desk.
use Rattle.std.specs.Prelude.{◌≡◌, ℕ, List, [], ◌∷◌, ◌++◌, All}
use Rattle.rate_plain.specs.declared.entry.Entry.{Entry}
use Rattle.rate_shared.specs.Callers.{history_of, own_history, shape_of, IsMade, IsSameCaller}
use Rattle.rate_shared.specs.Callers as callers
use Rattle.rate_shared.specs.declared.rule.Shape.{Shape}
use Rattle.rate_shared.specs.declared.seen.Seen.{Seen}
use Rattle.version_store.specs.Books.{Page, Learnt, Opens}
use Rattle.version_store.specs.declared.notice.Notice.{Notice}
use Rattle.version_store.specs.declared.notice.Notice.TheVariants.{Put}
use Rattle.gate_run.specs.declared.desk.Desk.{Desk}
use Rattle.gate_run.specs.declared.gate.Gate.{Gate}
use Rattle.gate_run.specs.declared.passes.Pass.{Pass}
use Rattle.gate_run.specs.declared.passes.Passes.{Passes}

-- a pass's number among the callers
abbrev pub caller_of : Pass → ℕ
caller_of pass = pass.seen.caller

-- what it has seen of the history of all steps
abbrev pub seen_by : Pass → List Entry
seen_by pass = history_of pass.seen

-- its own entries in that
abbrev pub own_seen_by : Pass → List Entry
own_seen_by pass = own_history pass.seen

-- the published list as it was at its last pick
abbrev pub known_to : Pass → List Notice
known_to pass = pass.reader.known

-- the longest published list that it picked from or was told of
abbrev pub due_to : Pass → List Notice
due_to pass = pass.reader.due

-- the published list of a desk, and which store it is of
abbrev pub page_of : Desk → Page
page_of desk = desk.deployer

-- how many lanes, live keys in each, and passes a gate has
abbrev pub shape_in : Gate → Shape
shape_in gate = shape_of gate.counters

-- the pass belongs to the gate
abbrev pub IsPassOf : Gate → Pass → Type 0
IsPassOf gate pass = callers.IsOf gate.counters pass.seen

-- the same caller of the same gate, which reads the same store
pub record IsSamePass (before after : Pass) : Type 0 where
  pub caller : IsSameCaller before.seen after.seen
  pub book : after.reader.book ≡ before.reader.book

-- what passes have seen, and what they read the published list with
abbrev pub seens_in : Passes → List Seen
seens_in passes = passes.seens.items

abbrev pub readers_in : Passes → List Learnt
readers_in passes = passes.readers.items

-- the same passes
pub record AreAlike (before after : Passes) : Type 0 where
  pub seens : seens_in after ≡ seens_in before
  pub readers : readers_in after ≡ readers_in before

-- there is no pass, before and after
pub record IsNone (before after : Passes) : Type 0 where
  pub none : seens_in before ≡ []
  pub same : AreAlike before after

-- the first passes with one more behind them are the second
pub record IsWith (before after : Passes) (pass : Pass) : Type 0 where
  pub seens : seens_in after ≡ seens_in before ++ pass.seen ∷ []
  pub readers : readers_in after ≡ readers_in before ++ pass.reader ∷ []

-- a new gate: nobody has seen a step, and all know the empty configuration as version 0
pub record IsOpened (lanes cap count : ℕ) (gate : Gate) (passes : Passes) (desk : Desk) : Type 0 where
  pub counting : IsMade lanes cap count gate.counters (seens_in passes)
  pub of : All (callers.IsOf gate.counters) (seens_in passes)
  pub knowing : All (Opens (page_of desk)) (readers_in passes)
  pub opening : (page_of desk).notices ≡ Put (record { lists = []; rulesets = [] }) ∷ []
