-- The walk through phases, rulesets and rules.
use Rattle.std.specs.Prelude.{ℕ, suc, if◌then◌else◌, List, [], ◌∷◌, Option, None, Some, slice_get}
use Rattle.override_plan.specs.declared.overrides.Overrides.{Overrides}
use Rattle.ruleset_model.specs.ConfigParts.{ConfigParts}
use Rattle.ruleset_model.specs.Entries.{entry_of}
use Rattle.ruleset_model.specs.declared.phase.Phase.{Phase}
use Rattle.ruleset_model.specs.declared.ruleset.Rule.{Rule}
use Rattle.ruleset_model.specs.declared.ruleset.Ruleset.{Ruleset}
use Rattle.judge_core.specs.Carried.{Carried, End, Passed, Closed, Deed, Goes, Leaves, Closes, Executes}
use Rattle.judge_core.specs.Changing.{phase_end}
use Rattle.judge_core.specs.Reaching.{own, under, reached}
use Rattle.judge_core.specs.Skipping.{skips_phase, skips_ruleset}
use Rattle.judge_core.specs.Talk.{Talk, Ends, ◌>>=◌}
use Rattle.judge_core.specs.Values.{Listed}

-- after a rule comes the next one, unless the ruleset or the judging ended
abbrev pub then_next : (Carried → Talk Deed) → Deed → Talk Deed
then_next next (Goes c) = next c
then_next next (Leaves c) = Ends (Leaves c)
then_next next (Closes verdict name c) = Ends (Closes verdict name c)
then_next next (Executes place overrides c) = next c

-- ---- an executed ruleset
-- its rules from this one on
unfoldable pub executed : Listed → Overrides → ℕ → Ruleset → ℕ → List Rule → Carried → Talk Deed
executed listed overrides holder set number [] c = Ends (Goes c)
executed listed overrides holder set number (rule ∷ rules) c =
    reached listed holder number set rule (under overrides rule) c
    >>= then_next (executed listed overrides holder set (suc number) rules)

-- back to the executing ruleset, which goes on unless the judging ended
abbrev pub back : Deed → Talk Deed
back (Goes c) = Ends (Goes c)
back (Leaves c) = Ends (Goes c)
back (Closes verdict name c) = Ends (Closes verdict name c)
back (Executes place overrides c) = Ends (Goes c)

-- a judging of the ruleset at the place would begin; it is passed over where the ruleset is skipped
abbrev pub begun : Listed → Overrides → ℕ → Option Ruleset → Carried → Talk Deed
begun listed overrides holder None c = Ends (Goes c)
begun listed overrides holder (Some set) c =
    if skips_ruleset c.skips set then Ends (Goes c) else executed listed overrides holder set 0 set.rules c >>= back

abbrev pub executing : Listed → ConfigParts → Deed → Talk Deed
executing listed config (Goes c) = Ends (Goes c)
executing listed config (Leaves c) = Ends (Leaves c)
executing listed config (Closes verdict name c) = Ends (Closes verdict name c)
executing listed config (Executes place overrides c) =
    begun listed overrides place (slice_get config.rulesets place) c

-- ---- an entry point
-- its rules from this one on
unfoldable pub entered : Listed → ConfigParts → ℕ → Ruleset → ℕ → List Rule → Carried → Talk Deed
entered listed config holder set number [] c = Ends (Goes c)
entered listed config holder set number (rule ∷ rules) c =
    reached listed holder number set rule (own rule) c
    >>= executing listed config
    >>= then_next (entered listed config holder set (suc number) rules)

-- ---- the phases
-- a phase ends, and unless the judging ended the next ones are judged
abbrev pub phase_ended : (Carried → Talk End) → Deed → Talk End
phase_ended next (Goes c) = next (phase_end c)
phase_ended next (Leaves c) = next (phase_end c)
phase_ended next (Closes verdict name c) = Ends (Closed verdict name c)
phase_ended next (Executes place overrides c) = next (phase_end c)

-- the ruleset at the place is judged, unless it is skipped
abbrev pub enter_at : Listed → ConfigParts → (Carried → Talk End) → ℕ → Option Ruleset → Carried → Talk End
enter_at listed config next holder None c = next c
enter_at listed config next holder (Some set) c =
    if skips_ruleset c.skips set then next c else entered listed config holder set 0 set.rules c >>= phase_ended next

-- a phase without an entry point is passed over
abbrev pub enter : Listed → ConfigParts → (Carried → Talk End) → Option ℕ → Carried → Talk End
enter listed config next None c = next c
enter listed config next (Some holder) c = enter_at listed config next holder (slice_get config.rulesets holder) c

-- the phases from this one on; one that is skipped is passed over
unfoldable pub phases : Listed → ConfigParts → List Phase → Carried → Talk End
phases listed config [] c = Ends (Passed c)
phases listed config (phase ∷ rest) c =
    if skips_phase c.skips phase
    then phases listed config rest c
    else enter listed config (phases listed config rest) (entry_of config.rulesets phase) c
