-- The published list: the configurations that were put in force, the opening one first, and the stops.
use Rattle.std.specs.Prelude.{◌≡◌, ℕ, suc, ◌+◌, Bool, true, false, List, [], ◌∷◌, Option, Some, None}
use Rattle.std.specs.Arc.{arc_value}
use Rattle.ruleset_model.specs.ConfigParts.{ConfigParts}
use Rattle.ruleset_model.specs.declared.picked.Picked.{Picked}
use Rattle.version_store.specs.declared.notice.Notice.{Notice}
use Rattle.version_store.specs.declared.notice.Notice.TheVariants.{Put, Stop}

-- how many configurations were put, with the opening one
abbrev pub puts_of : List Notice → ℕ
puts_of [] = 0
puts_of (Put config ∷ notices) = suc (puts_of notices)
puts_of (Stop ∷ notices) = puts_of notices

-- whether the run is to stop
abbrev pub has_stop : List Notice → Bool
has_stop [] = false
has_stop (Put config ∷ notices) = has_stop notices
has_stop (Stop ∷ notices) = true

-- the configuration that was put last, or else this
abbrev pub last_put : Option ConfigParts → List Notice → Option ConfigParts
last_put found [] = found
last_put found (Put config ∷ notices) = last_put (Some config) notices
last_put found (Stop ∷ notices) = last_put found notices

-- the list's number, which the opening configuration begins at 0, its stop and its configuration
pub record IsVersion (notices : List Notice) (number : ℕ) (stopped : Bool) (config : ConfigParts) : Type 0 where
  pub numbered : puts_of notices ≡ number + 1
  pub stop : has_stop notices ≡ stopped
  pub last : last_put None notices ≡ Some config

-- what was picked is the list's version
abbrev pub IsPicked : List Notice → Picked → Type 0
IsPicked notices picked = IsVersion notices picked.number picked.stopped (arc_value picked.config)
