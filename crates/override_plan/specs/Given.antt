-- Which action an override may give.
use Rattle.std.specs.Prelude.{◌≢◌, Option}
use Rattle.std.specs.Option.{ForSome}
use Rattle.override_plan.specs.declared.plain.Plain.{Plain}
use Rattle.override_plan.specs.declared.plain.Plain.TheVariants as plain

-- if an action is given, it is one that an override may give
abbrev pub IsGiven : Option Plain → Type 0
IsGiven action = ForSome action (λ given. given ≢ plain.Other)
