-- What stands at places, and what is carried once a rule is added.
use Rattle.std.proofs.Common.{◌≡◌, List, [], ◌∷◌, ◌++◌, Option, None, Some, refl, sym, ap, ◌∙◌, append_assoc}
use Rattle.std.specs.List.{filter_map}
use Rattle.ruleset_model.specs.ConfigParts.{ConfigParts}
use Rattle.ruleset_model.specs.declared.ruleset.Rule.{Rule}
use Rattle.ruleset_model.specs.declared.skips.Skips.{Skips}
use Rattle.judge_core.specs.declared.carried.RulePlace.{RulePlace}
use Rattle.judge_core.specs.Places.{rule_at, skips_in, skips_by, skips_at}

given_last : {X Y : Type 0} (given : X → Option Y) (xs : List X) (x : X) (y : Y) → given x ≡ Some y
    → filter_map given (xs ++ x ∷ []) ≡ filter_map given xs ++ y ∷ []
given_last given [] x y e = rw e refl
given_last given (one ∷ xs) x y e = by_first given one xs x y (given one) refl (given_last given xs x y e)
  where
    by_first : {X Y : Type 0} (given : X → Option Y) (one : X) (xs : List X) (x : X) (y : Y) (found : Option Y) → given one ≡ found
        → filter_map given (xs ++ x ∷ []) ≡ filter_map given xs ++ y ∷ []
        → filter_map given (one ∷ xs ++ x ∷ []) ≡ filter_map given (one ∷ xs) ++ y ∷ []
    by_first given one xs x y None e rest = rw e rest
    by_first given one xs x y (Some z) e rest = rw e (ap (λ more. z ∷ more) rest)

-- the skips so far, once a rule has skipped
pub one_more_skips : (config : ConfigParts) (earlier : List Skips) (places : List RulePlace) (place : RulePlace) (rule : Rule) (skips : Skips)
    → rule_at config place ≡ Some rule → skips_by rule.act ≡ Some skips
    → (earlier ++ skips_at config places) ++ skips ∷ [] ≡ earlier ++ skips_at config (places ++ place ∷ [])
one_more_skips config earlier places place rule skips there skipping =
    let given : skips_in (rule_at config place) ≡ Some skips = ap skips_in there ∙ skipping in
    append_assoc earlier (skips_at config places) (skips ∷ [])
    ∙ ap (λ more. earlier ++ more) (sym (given_last (λ at. skips_in (rule_at config at)) places place skips given))
