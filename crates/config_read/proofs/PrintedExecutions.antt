-- Executions are read again as they are printed.
use Rattle.std.proofs.Common.{◌≡◌, ◌&&◌, ◌||◌, ◌+◌, ◌<◌, ℕ, zero, suc, Bool, true, false, not, cond, List, [], ◌∷◌, ◌++◌, map, length, take, slice_get, nat_lt, bytes_eq, is_none, Option, None, Some, option_map, option_and_then, refl, sym, ap, ◌∙◌, subst, codes, true≢false, append-nil, append_assoc, arith, ◌==◌}
use Rattle.std.specs.List.{find, list_any, position, position_or_len}
use Rattle.std.specs.Cmp.{first_so, second_so}
use Rattle.std.specs.Option.{option_map_or, unwrap_or}
use Rattle.std.proofs.lemmas.Bool.{lt-ltb, eqb-true}
use Rattle.std.proofs.lemmas.List.{length-map}
use Rattle.std.proofs.lemmas.Option.{slice_get_within, slice_get-map}
use Rattle.std.proofs.lemmas.Slice.Eq.{bytes_eq-Decides}
use Rattle.serde_json.specs.Data.{Data}
use Rattle.override_plan.specs.declared.overrides.Overrides.{Overrides}
use Rattle.ruleset_model.specs.declared.phase.Phase.{Phase}
use Rattle.ruleset_model.specs.declared.phase.Phase.TheVariants as phase
use Rattle.ruleset_model.specs.declared.ruleset.Ruleset.{Ruleset}
use Rattle.ruleset_model.specs.declared.ruleset.RulesetKind.{RulesetKind}
use Rattle.ruleset_model.specs.declared.ruleset.RulesetKind.TheVariants as kind
use Rattle.ruleset_model.specs.Acts.{IsExecution, is_executable}
use Rattle.ruleset_model.specs.Entries.{is_zone, has_ruleset}
use Rattle.ruleset_model.specs.Phases.{number_of, all_phases, same_phase}
use Rattle.ruleset_model.specs.Valid.{EachAfter}
use Rattle.config_read.specs.Names.{kind_name, phase_name}
use Rattle.config_read.specs.Executions.{has_id, meant_by, is_executable as is_meant, execute_table, executed_at}
use Rattle.config_read.specs.Printed.{id_at, printed_set, printed_execution, printed_overrides}
use Rattle.config_read.proofs.PrintedOverrides.{overrides_pass}

-- an element with what is kept of it behind those before it
each_at : {X : Type 0} (Keeps : List X → X → Type 0) (earlier xs : List X) (place : ℕ) (x : X) → EachAfter Keeps earlier xs
    → slice_get xs place ≡ Some x → Keeps (earlier ++ take place xs) x
each_at Keeps earlier [] place x kept found = absurd cc
each_at {X = X} Keeps earlier (y ∷ xs) zero x kept found =
    subst (λ (before : List X). Keeps before x) (sym (append-nil earlier)) (subst (λ (z : X). Keeps earlier z) (some_same found) kept.0)
  where
    some_same : Some y ≡ Some x → y ≡ x
    some_same same = cc
each_at {X = X} Keeps earlier (y ∷ xs) (suc place) x kept found =
    subst (λ (before : List X). Keeps before x) (append_assoc earlier (y ∷ []) (take place xs)) (each_at Keeps (earlier ++ y ∷ []) xs place x kept.1 found)

either_false : (a b : Bool) → (a || b) ≡ false → (a ≡ false) × (b ≡ false)
either_false true b e = absurd (true≢false e)
either_false false b e = (refl, e)

has_own_id : (all : List Ruleset) (id : List ℕ) (set : Ruleset) → has_id id (printed_set all set) ≡ bytes_eq id set.id
unfolding printed_set
has_own_id all id set = refl

same_id : (id : List ℕ) → bytes_eq id id ≡ true
same_id id = (bytes_eq-Decides id id).1 refl

-- ---- the first ruleset with an id

count_here : (all xs : List Ruleset) (place : ℕ) (set : Ruleset) → slice_get xs place ≡ Some set
    → list_any (λ (other : Ruleset). bytes_eq set.id other.id) (take place xs) ≡ false
    → position_or_len (has_id set.id) (map (printed_set all) xs) ≡ place
count_here all [] place set found none = absurd cc
count_here all (x ∷ xs) zero set found none =
    let same : x ≡ set = cc in
    let told : has_id set.id (printed_set all x) ≡ true = has_own_id all set.id x ∙ ap (λ (other : Ruleset). bytes_eq set.id other.id) same ∙ same_id set.id in
    rw told refl
count_here all (x ∷ xs) (suc place) set found none =
    let parts = either_false (bytes_eq set.id x.id) (list_any (λ (other : Ruleset). bytes_eq set.id other.id) (take place xs)) none in
    let told : has_id set.id (printed_set all x) ≡ false = has_own_id all set.id x ∙ parts.0 in
    let more : position_or_len (has_id set.id) (map (printed_set all) xs) ≡ place = count_here all xs place set found parts.1 in
    rw told (omega (arith, more))

-- no earlier ruleset has the id of one
abbrev pub AreIdsNew : List Ruleset → Type 0
AreIdsNew sets = EachAfter (λ (earlier : List Ruleset) (set : Ruleset). has_ruleset earlier set.id ≡ false) [] sets

id_found : (sets : List Ruleset) (place : ℕ) (set : Ruleset) → slice_get sets place ≡ Some set → id_at sets place ≡ set.id
id_found sets place set found = ap (λ (o : Option Ruleset). option_map_or (λ (one : Ruleset). one.id) o []) found

id_position : (sets : List Ruleset) (place : ℕ) (set : Ruleset) → AreIdsNew sets → slice_get sets place ≡ Some set
    → position (has_id (id_at sets place)) (map (printed_set sets) sets) ≡ Some place
id_position sets place set new found =
    let counted = count_here sets sets place set found (each_at (λ (earlier : List Ruleset) (one : Ruleset). has_ruleset earlier one.id ≡ false) [] sets place set new found) in
    let within : place < length (map (printed_set sets) sets) = subst (λ (n : ℕ). place < n) (sym (length-map sets (printed_set sets))) (slice_get_within sets place set found) in
    let told : nat_lt place (length (map (printed_set sets) sets)) ≡ true = lt-ltb place (length (map (printed_set sets) sets)) within in
    rw (id_found sets place set found, counted, told) refl

place_found : (sets : List Ruleset) (place : ℕ) (set : Ruleset) → AreIdsNew sets → slice_get sets place ≡ Some set
    → unwrap_or (position (has_id (id_at sets place)) (map (printed_set sets) sets)) 0 ≡ place
place_found sets place set new found = ap (λ (o : Option ℕ). unwrap_or o 0) (id_position sets place set new found)

meant_found : (sets : List Ruleset) (place : ℕ) (set : Ruleset) → AreIdsNew sets → slice_get sets place ≡ Some set
    → meant_by (map (printed_set sets) sets) (id_at sets place) ≡ Some (printed_set sets set)
meant_found sets place set new found =
    ap (λ (o : Option ℕ). option_and_then (slice_get (map (printed_set sets) sets)) o) (id_position sets place set new found)
    ∙ slice_get-map (printed_set sets) sets place
    ∙ ap (λ (o : Option Ruleset). option_map (printed_set sets) o) found

-- ---- what is executed

kind_as : (k : RulesetKind) → bytes_eq (kind_name k) (kind_name kind.Zone) ≡ is_zone k
kind_as kind.Managed = refl
kind_as kind.Custom = refl
kind_as kind.Zone = refl

-- phases with the same number are the same
number_phase : (p : Phase) (n : ℕ) → number_of p ≡ n → find (λ (known : Phase). number_of known == n) all_phases ≡ Some p
number_phase phase.DynamicRedirect n e = rw (sym e) refl
number_phase phase.Transform n e = rw (sym e) refl
number_phase phase.FirewallCustom n e = rw (sym e) refl
number_phase phase.RateLimit n e = rw (sym e) refl
number_phase phase.FirewallManaged n e = rw (sym e) refl
number_phase phase.LateTransform n e = rw (sym e) refl
number_phase phase.ResponseTransform n e = rw (sym e) refl

told_phase : (p q : Phase) → same_phase p q ≡ true → p ≡ q
told_phase p q same =
    let number : number_of p ≡ number_of q = eqb-true (number_of p) (number_of q) same in
    let both : Some p ≡ Some q = sym (number_phase p (number_of q) number) ∙ number_phase q (number_of q) refl in
    cc

same_phase_name : (p q : Phase) → same_phase p q ≡ true → bytes_eq (phase_name p) (phase_name q) ≡ true
same_phase_name p q same = ap (λ (one : Phase). bytes_eq (phase_name one) (phase_name q)) (told_phase p q same) ∙ same_id (phase_name q)

executable : (phase : Phase) (sets : List Ruleset) (set : Ruleset) → is_executable phase set ≡ true → is_meant phase (printed_set sets set) ≡ true
unfolding printed_set
executable phase sets set is =
    rw (kind_as set.kind, first_so (not (is_zone set.kind)) (same_phase set.phase phase) is)
    (same_phase_name set.phase phase (second_so (not (is_zone set.kind)) (same_phase set.phase phase) is))

pub execution_passes : (sets : List Ruleset) (phase : Phase) (place : List ℕ) (at : ℕ) (overrides : Overrides) → AreIdsNew sets
    → IsExecution sets phase at overrides → execute_table (map (printed_set sets) sets) phase place (printed_execution sets at overrides) None
unfolding execute_table printed_overrides
execution_passes sets phase place at overrides new valid =
    let found = meant_found sets at valid.meant.0 new valid.meant.1 in (
      (
        (refl, refl),
        (
          ap (λ (o : Option Data). is_none o) found,
          ap (λ (o : Option Data). not (option_map_or (is_meant phase) o false)) found ∙ ap not (executable phase sets valid.meant.0 valid.meant.2),
        ),
      ),
      (refl, overrides_pass _ overrides),
    )

pub execution_back : (sets : List Ruleset) (phase : Phase) (at : ℕ) (overrides : Overrides) → AreIdsNew sets → IsExecution sets phase at overrides
    → executed_at (map (printed_set sets) sets) (printed_execution sets at overrides) ≡ at
execution_back sets phase at overrides new valid = place_found sets at valid.meant.0 new valid.meant.1
