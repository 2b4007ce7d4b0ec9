-- The elements of an array as a list, and the members of an object in order.
use Rattle.std.proofs.Common.{◌≡◌, ℕ, List, [], ◌∷◌, map, String, string_bytes, string_cmp, nat_cmp, Less, Option, None, Some, option_map, option_and_then, unwrap_or, refl, sym, ap, ◌∙◌, subst}
use Rattle.std.specs.declared.alloc.Global.{Global}
use Rattle.std.specs.Cmp.Lexicographic.{slice_cmp}
use Rattle.std.specs.List.{AllByRecursion}
use Rattle.std.specs.List.Sorted.{IsStrictlySortedBy}
use Rattle.std.specs.Map.{keys_of}
use Rattle.serde_json.specs.Data.{Data, Members}
use Rattle.serde_json.specs.Find.{get, as_object}
use Rattle.serde_json.specs.View.{view, items_view, members_view}
use Rattle.serde_json.specs.declared.value.Value.{Value}
use Rattle.ruleset_model.specs.Acts.{AreInOrder}
use Rattle.config_read.specs.Filters.{skipped_names}
use Rattle.config_read.specs.Members.{list_of, entries_of, entries, names_in}
use Rattle.config_read.specs.Skipped.{skipped_at}

pub list_of-items_view : (values : List Value) → list_of (items_view values) ≡ map view values
list_of-items_view [] = refl
list_of-items_view (value ∷ values) = ap (λ rest. view value ∷ rest) (list_of-items_view values)

-- ---- the names of an object's members are in byte order

above : (e : String Global × Value) (es : List (String Global × Value)) → AllByRecursion (λ (name : String Global). string_cmp e.0 name ≡ Less) (keys_of es)
    → AllByRecursion (λ (name : List ℕ). slice_cmp nat_cmp (string_bytes e.0) name ≡ Less) (names_in (entries_of (members_view es)))
above e [] before = tt
above e (x ∷ es) before = (before.0, above e es before.1)

pub names_ordered : (es : List (String Global × Value)) → IsStrictlySortedBy string_cmp (keys_of es) → AreInOrder (names_in (entries_of (members_view es)))
unfolding IsStrictlySortedBy
names_ordered [] sorted = tt
names_ordered (e ∷ es) sorted = (above e es sorted.0, names_ordered es sorted.1)

none_ordered : AreInOrder []
unfolding IsStrictlySortedBy
none_ordered = tt

found_ordered : (found : Option Data) → found ≡ None → AreInOrder (names_in (unwrap_or (option_map entries_of (option_and_then as_object found)) []))
found_ordered None e = none_ordered
found_ordered (Some d) e = absurd cc

pub absent_ordered : (name : List ℕ) (d : Data) → get name d ≡ None → AreInOrder (names_in (entries name d))
absent_ordered name d e = found_ordered (get name d) e

pub held_ordered : (name : List ℕ) (d held : Data) (ms : Members) → get name d ≡ Some held → as_object held ≡ Some ms → AreInOrder (names_in (entries_of ms))
    → AreInOrder (names_in (entries name d))
held_ordered name d held ms found object ordered =
    subst (λ (one : Option Data). AreInOrder (names_in (unwrap_or (option_map entries_of (option_and_then as_object one)) []))) (sym found)
    (subst (λ (one : Option Members). AreInOrder (names_in (unwrap_or (option_map entries_of one) []))) (sym object) ordered)

skipped_named : (given : List (List ℕ × Data)) → skipped_names (map skipped_at given) ≡ names_in given
skipped_named [] = refl
skipped_named (entry ∷ given) = ap (λ (rest : List (List ℕ)). entry.0 ∷ rest) (skipped_named given)

-- the rulesets of which rules are skipped stand in the order of the members
pub rules_ordered : (rules : List (List ℕ × List (List ℕ))) (given : List (List ℕ × Data)) → rules ≡ map skipped_at given → AreInOrder (names_in given)
    → AreInOrder (skipped_names rules)
rules_ordered rules given same ordered =
    subst (λ (names : List (List ℕ)). AreInOrder names) (sym (ap skipped_names same ∙ skipped_named given)) ordered
