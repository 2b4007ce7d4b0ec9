-- Skips are read again as they are printed.
use Rattle.std.proofs.Common.{◌≡◌, ℕ, Bool, true, false, List, [], ◌∷◌, map, None, refl, sym, ap, ◌∙◌, subst, codes}
use Rattle.std.specs.List.Sorted.{IsStrictlySortedBy}
use Rattle.std.specs.Cmp.Lexicographic.{slice_cmp}
use Rattle.std.specs.Ordering.{nat_cmp}
use Rattle.serde_json.specs.Data.{Data, no_members}
use Rattle.ruleset_model.specs.declared.skips.Skips.{Skips}
use Rattle.ruleset_model.specs.Acts.{AreSkipsValid, AreInOrder}
use Rattle.config_read.specs.Refusals.{each}
use Rattle.config_read.specs.Places.{child}
use Rattle.config_read.specs.Members.{text_of, entries_of}
use Rattle.config_read.specs.Skipped.{phases_table, items_at, skipped_table, skipped_at, each_skipped_table, skip_table, skips_at}
use Rattle.config_read.specs.Printed.{printed_skipped, printed_skips, put_all}
use Rattle.config_read.proofs.PrintedEach.{each_passes, after_none, texts_back, texts_pass}
use Rattle.config_read.proofs.PrintedOrder.{entries_in_order}
use Rattle.config_read.proofs.PrintedValues.{phases_pass, phases_back}

abbrev Skipped : Type 0
Skipped = List ℕ × List (List ℕ)

ids_kept : (rules : List Skipped) → map (λ (entry : List ℕ × Data). entry.0) (map printed_skipped rules) ≡ map (λ (entry : Skipped). entry.0) rules
ids_kept [] = refl
ids_kept (entry ∷ rules) = ap (λ (ids : List (List ℕ)). entry.0 ∷ ids) (ids_kept rules)

-- the entries of the object are those of the rules
skipped_entries : (rules : List Skipped) → AreInOrder (map (λ (entry : Skipped). entry.0) rules)
    → entries_of (put_all no_members (map printed_skipped rules)) ≡ map printed_skipped rules
skipped_entries rules in_order =
    entries_in_order (map printed_skipped rules)
    (subst (λ (ids : List (List ℕ)). IsStrictlySortedBy (slice_cmp nat_cmp) ids) (sym (ids_kept rules)) in_order)

skipped_back : (entry : Skipped) → skipped_at (printed_skipped entry) ≡ entry
skipped_back entry = λ i. (entry.0, texts_back entry.1 i)

all_skipped_back : (rules : List Skipped) → map skipped_at (map printed_skipped rules) ≡ rules
all_skipped_back [] = refl
all_skipped_back (entry ∷ rules) = λ i. skipped_back entry i ∷ all_skipped_back rules i

all_skipped_pass : (place : List ℕ) (rules : List Skipped) → each_skipped_table place (map printed_skipped rules) None
all_skipped_pass place rules =
    each_passes (λ (earlier : List Skipped). skipped_table place) skipped_at printed_skipped (λ entry. entry) (λ earlier entry. Unit {0})
    (λ earlier entry kept. (refl, texts_pass (child place entry.0) entry.1))
    (λ earlier entry kept. skipped_back entry) [] rules (after_none [] rules)

skipped_pass : (place : List ℕ) (rules : List Skipped) → AreInOrder (map (λ (entry : Skipped). entry.0) rules)
    → each_skipped_table place (entries_of (put_all no_members (map printed_skipped rules))) None
skipped_pass place rules in_order =
    subst (λ (entries : List (List ℕ × Data)). each_skipped_table place entries None) (sym (skipped_entries rules in_order)) (all_skipped_pass place rules)

skip_passes_as : (place : List ℕ) (current : Bool) (skips : Skips) → skips.current ≡ current → AreSkipsValid skips → skip_table place (printed_skips skips) None
unfolding skip_table printed_skips
skip_passes_as place true skips e valid =
    rw e (refl, ((refl, phases_pass _ skips.phases), ((refl, texts_pass _ skips.rulesets), (refl, skipped_pass _ skips.rules valid.in_order))))
skip_passes_as place false skips e valid =
    rw e (refl, ((refl, phases_pass _ skips.phases), ((refl, texts_pass _ skips.rulesets), (refl, skipped_pass _ skips.rules valid.in_order))))

pub skip_passes : (place : List ℕ) (skips : Skips) → AreSkipsValid skips → skip_table place (printed_skips skips) None
skip_passes place skips valid = skip_passes_as place skips.current skips refl valid

skips_as : (current : Bool) (skips : Skips) → AreSkipsValid skips
    → skips_at (printed_skips (record { current = current; phases = skips.phases; rulesets = skips.rulesets; rules = skips.rules }))
    ≡ record { current = current; phases = skips.phases; rulesets = skips.rulesets; rules = skips.rules }
unfolding skips_at printed_skips
skips_as true skips valid = λ i. record {
  current = true;
  phases = phases_back skips.phases i;
  rulesets = texts_back skips.rulesets i;
  rules = (ap (map skipped_at) (skipped_entries skips.rules valid.in_order) ∙ all_skipped_back skips.rules) i;
}
skips_as false skips valid = λ i. record {
  current = false;
  phases = phases_back skips.phases i;
  rulesets = texts_back skips.rulesets i;
  rules = (ap (map skipped_at) (skipped_entries skips.rules valid.in_order) ∙ all_skipped_back skips.rules) i;
}

pub skips_back : (skips : Skips) → AreSkipsValid skips → skips_at (printed_skips skips) ≡ skips
skips_back skips valid = skips_as skips.current skips valid
