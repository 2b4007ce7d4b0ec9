-- The counts of a summary: one more name, and one more request.
use Rattle.std.proofs.Common.{◌≡◌, ℕ, zero, suc, ◌+◌, ◌<◌, ◌≤◌, Bool, cond, List, [], ◌∷◌, ◌++◌, take, drop, length, slice_set, slice_index_or, Option, None, Some, refl, sym, ap, subst, ◌∙◌, arith, le_of_suc-le-suc}
use Rattle.std.proofs.lemmas.List.Sums.{sum_by-cons, sum_by_push}
use Rattle.std.specs.Cmp.Lexicographic.{slice_cmp}
use Rattle.std.specs.List.{insert, sum_by}
use Rattle.std.specs.Ordering.{nat_cmp}
use Rattle.std.specs.declared.cmp.Ordering.{Ordering}
use Rattle.std.specs.declared.cmp.Ordering.TheVariants as order
use Rattle.edge_base.specs.declared.rule_name.RuleName.{RuleName}
use Rattle.ruleset_model.specs.declared.verdict.VerdictKind.{VerdictKind}
use Rattle.trace_form.specs.Line.{rule_text}
use Rattle.trace_form.specs.declared.output.LineParts.{LineParts}
use Rattle.edge_main.specs.Summary.{judged_so, one_more, one_more_by, with_ending, endings_after, ended_in_all}
use Rattle.edge_main.specs.declared.summary.NameCount.{NameCount}

-- ---- one more name, where all names in front of a place come before it

-- the name stands at the place
pub at_name : (name : List ℕ) (counts : List NameCount) (place : ℕ) (x y : NameCount) → place < length counts
    → x ≡ slice_index_or counts place x → y ≡ slice_index_or counts place y → slice_cmp nat_cmp y.name name ≡ order.Equal
    → slice_set counts place (record x { count = x.count + 1 }) ≡ take place counts ++ one_more name (drop place counts)
at_name name [] place x y within is_x is_y equal = absurd (omega (arith, within))
at_name name (first ∷ counts) zero x y within is_x is_y equal =
    let same : slice_cmp nat_cmp first.name name ≡ order.Equal = subst (λ (one : NameCount). slice_cmp nat_cmp one.name name ≡ order.Equal) is_y equal in
    ap (λ (one : NameCount). record one { count = one.count + 1 } ∷ counts) is_x
    ∙ sym (ap (λ (o : Ordering). one_more_by o name first counts (one_more name counts)) same)
at_name name (first ∷ counts) (suc place) x y within is_x is_y equal =
    ap (λ (rest : List NameCount). first ∷ rest) (at_name name counts place x y (le_of_suc-le-suc within) is_x is_y equal)

-- the name at the place comes behind it
pub before_name : (name : List ℕ) (counts : List NameCount) (place : ℕ) (y : NameCount) → place < length counts
    → y ≡ slice_index_or counts place y → slice_cmp nat_cmp y.name name ≡ order.Greater
    → insert counts place (record { name = name; count = 1 }) ≡ take place counts ++ one_more name (drop place counts)
before_name name [] place y within is_y greater = absurd (omega (arith, within))
before_name name (first ∷ counts) zero y within is_y greater =
    let behind : slice_cmp nat_cmp first.name name ≡ order.Greater =
    subst (λ (one : NameCount). slice_cmp nat_cmp one.name name ≡ order.Greater) is_y greater in
    sym (ap (λ (o : Ordering). one_more_by o name first counts (one_more name counts)) behind)
before_name name (first ∷ counts) (suc place) y within is_y greater =
    ap (λ (rest : List NameCount). first ∷ rest) (before_name name counts place y (le_of_suc-le-suc within) is_y greater)

-- all names come before it
pub behind_all : (name : List ℕ) (counts : List NameCount) (place : ℕ) → length counts ≤ place
    → counts ++ record { name = name; count = 1 } ∷ [] ≡ take place counts ++ one_more name (drop place counts)
behind_all name [] zero within = refl
behind_all name [] (suc place) within = refl
behind_all name (first ∷ counts) zero within = absurd (omega (arith, within))
behind_all name (first ∷ counts) (suc place) within =
    ap (λ (rest : List NameCount). first ∷ rest) (behind_all name counts place (le_of_suc-le-suc within))

-- ---- how many judgings were ended in all

more_by : (o : Ordering) (name : List ℕ) (first : NameCount) (others rest : List NameCount) → ended_in_all rest ≡ ended_in_all others + 1
    → ended_in_all (one_more_by o name first others rest) ≡ ended_in_all (first ∷ others) + 1
more_by order.Less name first others rest more =
    let count = λ (one : NameCount). one.count in
    omega (arith, more, sum_by-cons count first rest, sum_by-cons count first others)
more_by order.Equal name first others rest more =
    let count = λ (one : NameCount). one.count in
    omega (arith, sum_by-cons count (record first { count = first.count + 1 }) others, sum_by-cons count first others)
more_by order.Greater name first others rest more =
    let count = λ (one : NameCount). one.count in
    omega (arith, sum_by-cons count (record { name = name; count = 1 }) (first ∷ others))

pub more_in_all : (name : List ℕ) (counts : List NameCount) → ended_in_all (one_more name counts) ≡ ended_in_all counts + 1
more_in_all name [] = refl
more_in_all name (first ∷ counts) = more_by (slice_cmp nat_cmp first.name name) name first counts (one_more name counts) (more_in_all name counts)

pub ending_in_all : (rule : Option RuleName) (counts : List NameCount) → ended_in_all (with_ending rule counts) ≤ ended_in_all counts + 1
ending_in_all None counts = omega arith
ending_in_all (Some rule) counts = omega (arith, more_in_all (rule_text rule) counts)

-- ---- one more request

pub endings_more : (counts : List NameCount) (requests : List LineParts) (parts : LineParts)
    → endings_after counts (requests ++ parts ∷ []) ≡ with_ending parts.verdict.rule (endings_after counts requests)
endings_more counts [] parts = refl
endings_more counts (first ∷ requests) parts = endings_more (with_ending first.verdict.rule counts) requests parts

pub judged_more : (is_so : VerdictKind → Bool) (requests : List LineParts) (parts : LineParts)
    → judged_so is_so (requests ++ parts ∷ []) ≡ judged_so is_so requests + cond (is_so parts.verdict.kind) 1 0
judged_more is_so requests parts = sum_by_push (λ (one : LineParts). cond (is_so one.verdict.kind) 1 0) requests parts
