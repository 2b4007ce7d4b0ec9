-- What skips hold for, and all skips as one.
use Rattle.std.specs.Prelude.{ℕ, Bool, false, if◌then◌else◌, List, [], ◌∷◌, ◌++◌, ◌&&◌, bytes_eq, filter}
use Rattle.std.specs.List.{list_any}
use Rattle.ruleset_model.specs.declared.phase.Phase.{Phase}
use Rattle.ruleset_model.specs.declared.ruleset.Rule.{Rule}
use Rattle.ruleset_model.specs.declared.ruleset.Ruleset.{Ruleset}
use Rattle.ruleset_model.specs.declared.skips.Skips.{Skips}
use Rattle.ruleset_model.specs.Phases.{same_phase}
use Rattle.judge_core.specs.Changing.{is_before}

-- whether these skips hold for a phase
abbrev pub skips_in_phase : Phase → Skips → Bool
skips_in_phase phase one = list_any (same_phase phase) one.phases

-- whether they hold for a ruleset
abbrev pub skips_set : Ruleset → Skips → Bool
skips_set set one = list_any (bytes_eq set.id) one.rulesets

-- whether these are the ruleset's id and ids of rules, this rule's among them
abbrev pub names_rule : Ruleset → Rule → List ℕ × List (List ℕ) → Bool
names_rule set rule entry = bytes_eq set.id entry.0 && list_any (bytes_eq rule.id) entry.1

-- whether they hold for a rule of a ruleset
abbrev pub skips_one : Ruleset → Rule → Skips → Bool
skips_one set rule one = list_any (names_rule set rule) one.rules

-- whether a phase that would begin is skipped
abbrev pub skips_phase : List Skips → Phase → Bool
skips_phase skips phase = list_any (skips_in_phase phase) skips

-- whether a judging of a ruleset that would begin is skipped
abbrev pub skips_ruleset : List Skips → Ruleset → Bool
skips_ruleset skips set = list_any (skips_set set) skips

-- whether a rule that is reached is skipped
abbrev pub skips_rule : List Skips → Ruleset → Rule → Bool
skips_rule skips set rule = list_any (skips_one set rule) skips

-- ---- all skips as one
-- the id of a ruleset with ids of its rules
abbrev pub Entry : Type 0
Entry = List ℕ × List (List ℕ)

-- the entries of rulesets whose ids stand before this one in byte order, and those behind it
abbrev pub before_id : List ℕ → List Entry → List Entry
before_id id entries = filter (λ (one : Entry). is_before one.0 id) entries

abbrev pub behind_id : List ℕ → List Entry → List Entry
behind_id id entries = filter (λ (one : Entry). is_before id one.0) entries

-- these ids of rules, and behind them those of an entry where it is the ruleset's
abbrev pub onto : List ℕ → Entry → List (List ℕ) → List (List ℕ)
onto id one ids = if bytes_eq one.0 id then ids ++ one.1 else ids

abbrev pub ids_under : List ℕ → List Entry → List (List ℕ) → List (List ℕ)
ids_under id [] ids = ids
ids_under id (one ∷ rest) ids = ids_under id rest (onto id one ids)

-- the entries, each ruleset once and in byte order of their ids, with one more
abbrev pub put_entry : Entry → List Entry → List Entry
put_entry new entries =
    before_id new.0 entries ++ (new.0, ids_under new.0 entries [] ++ new.1) ∷ behind_id new.0 entries

abbrev pub put_entries : List Entry → List Entry → List Entry
put_entries [] entries = entries
put_entries (new ∷ more) entries = put_entries more (put_entry new entries)

-- nothing is skipped
abbrev pub no_skips : Skips
no_skips = record { current = false; phases = []; rulesets = []; rules = [] }

-- what these skips hold for from here on, and behind it what one more does
abbrev pub with_skips : Skips → Skips → Skips
with_skips one all = record {
  current = all.current;
  phases = all.phases ++ one.phases;
  rulesets = all.rulesets ++ one.rulesets;
  rules = put_entries one.rules all.rules;
}

abbrev pub with_all : List Skips → Skips → Skips
with_all [] all = all
with_all (one ∷ skips) all = with_all skips (with_skips one all)

-- one that skips what each of these skips from here on
abbrev pub merged : List Skips → Skips
merged skips = with_all skips no_skips
