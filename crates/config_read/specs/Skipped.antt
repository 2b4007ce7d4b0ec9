-- The parameters of `skip`.
use Rattle.std.specs.Prelude.{ℕ, Bool, is_none, is_some, List, [], map, length, codes, Option, option_map, option_and_then}
use Rattle.std.specs.Option.{unwrap_or}
use Rattle.serde_json.specs.Data.{Data}
use Rattle.serde_json.specs.Find.{get, as_str, as_array, as_object}
use Rattle.ruleset_model.specs.declared.phase.Phase.{Phase}
use Rattle.ruleset_model.specs.declared.phase.Phase.TheVariants as phase
use Rattle.ruleset_model.specs.declared.skips.Skips.{Skips}
use Rattle.config_read.specs.declared.fault.Cause.TheVariants as cause
use Rattle.config_read.specs.Places.{child, nth}
use Rattle.config_read.specs.Refusals.{Table, ◌▸◌, refuse, each}
use Rattle.config_read.specs.Members.{list_of, text_of, texts, elements, entries, typed, typed_texts, each_text}
use Rattle.config_read.specs.Forms.{current}
use Rattle.config_read.specs.Names.{phase_of}

abbrev pub phase_table : List ℕ → List Phase → Data → Table
phase_table phases earlier d =
    refuse (nth phases (length earlier)) cause.Shape (is_none (as_str d))
    ▸ refuse (nth phases (length earlier)) cause.UnknownPhase (is_none (phase_of (text_of d)))

-- the phase of a text, by default that of custom firewall rules
abbrev pub phase_at : Data → Phase
phase_at d = unwrap_or (phase_of (text_of d)) phase.FirewallCustom

abbrev pub phases_table : List ℕ → List Data → Table
phases_table phases = each (phase_table phases) phase_at []

-- the elements of a value that is an array, by default none
abbrev pub items_at : Data → List Data
items_at d = unwrap_or (option_map list_of (as_array d)) []

-- the id of a ruleset, and an array of the ids of rules
abbrev pub skipped_table : List ℕ → List ℕ × Data → Table
skipped_table rules entry =
    refuse (child rules entry.0) cause.Shape (is_none (as_array entry.1))
    ▸ each_text (child rules entry.0) (items_at entry.1)

abbrev pub skipped_at : List ℕ × Data → List ℕ × List (List ℕ)
skipped_at entry = (entry.0, map text_of (items_at entry.1))

abbrev pub each_skipped_table : List ℕ → List (List ℕ × Data) → Table
each_skipped_table rules = each (λ earlier. skipped_table rules) skipped_at []

abbrev pub typed_phases : List ℕ → Data → Table
typed_phases place d =
    typed as_array place (codes "phases") d ▸ phases_table (child place (codes "phases")) (elements (codes "phases") d)

abbrev pub typed_skipped : List ℕ → Data → Table
typed_skipped place d =
    typed as_object place (codes "rules") d ▸ each_skipped_table (child place (codes "rules")) (entries (codes "rules") d)

unfoldable pub skip_table : List ℕ → Data → Table
skip_table place d =
    typed current place (codes "ruleset") d
    ▸ typed_phases place d
    ▸ typed_texts place (codes "rulesets") d
    ▸ typed_skipped place d

unfoldable pub skips_at : Data → Skips
skips_at d = record {
  current = is_some (get (codes "ruleset") d);
  phases = map phase_at (elements (codes "phases") d);
  rulesets = texts (codes "rulesets") d;
  rules = map skipped_at (entries (codes "rules") d);
}
