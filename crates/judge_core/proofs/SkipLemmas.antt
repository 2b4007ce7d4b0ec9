-- What skips hold for, where they are kept by the places of their rules.
use Rattle.std.proofs.Common.{◌≡◌, Bool, false, ◌||◌, List, [], ◌∷◌, ◌++◌, Option, None, Some, refl, sym, ap, ◌∙◌}
use Rattle.std.specs.List.{list_any, filter_map}
use Rattle.ruleset_model.specs.ConfigParts.{ConfigParts}
use Rattle.ruleset_model.specs.declared.skips.Skips.{Skips}
use Rattle.judge_core.specs.declared.carried.State.{State}
use Rattle.judge_core.specs.Places.{rule_at, skips_in, skips_of, skips_at, earlier_skips, is_one, any_added}

given_next : {X Y : Type 0} (test : Y → Bool) (given : X → Option Y) (x : X) (xs : List X) (found : Option Y) → given x ≡ found
    → list_any (λ one. is_one test (given one)) xs ≡ list_any test (filter_map given xs)
    → list_any (λ one. is_one test (given one)) (x ∷ xs) ≡ list_any test (filter_map given (x ∷ xs))
given_next test given x xs None e rest = rw e rest
given_next test given x xs (Some y) e rest = rw (e, rest) refl

-- a test of what a function gives of each
any_given : {X Y : Type 0} (test : Y → Bool) (given : X → Option Y) (xs : List X)
    → list_any (λ one. is_one test (given one)) xs ≡ list_any test (filter_map given xs)
any_given test given [] = refl
any_given test given (x ∷ xs) = given_next test given x xs (given x) refl (any_given test given xs)

any_earlier : (test : Skips → Bool) (earlier : Option Skips) (more : List Skips)
    → (is_one test earlier || list_any test more) ≡ list_any test (earlier_skips earlier ++ more)
any_earlier test None more = refl
any_earlier test (Some one) more = refl

-- some skips hold, those of before or those that were added
pub any_skips : (test : Skips → Bool) (config : ConfigParts) (state : State)
    → (is_one test state.earlier || list_any (λ place. is_one test (skips_in (rule_at config place))) state.skipping)
    ≡ list_any test (skips_of config state)
any_skips test config state =
    ap (λ added. is_one test state.earlier || added) (any_given test (λ place. skips_in (rule_at config place)) state.skipping)
    ∙ any_earlier test state.earlier (skips_at config state.skipping)

-- where those of before don't hold, those that were added decide
pub added_skips : (test : Skips → Bool) (config : ConfigParts) (state : State) → is_one test state.earlier ≡ false
    → any_added test config state.skipping ≡ list_any test (skips_of config state)
added_skips test config state none =
    ap (λ earlier. earlier || any_added test config state.skipping) (sym none) ∙ any_skips test config state
