-- The first of several speakers, group after group.
use Rattle.std.proofs.Common.{◌≡◌, List, [], ◌∷◌, ◌++◌, Option, Some, None, refl, sym, ap, ◌∙◌}
use Rattle.std.specs.Option.{option_or}
use Rattle.override_plan.specs.Speakers.{first_given}
use Rattle.override_plan.specs.declared.overrides.Override.{Override}

or_assoc : {A : Type 0} (a b c : Option A) → option_or (option_or a b) c ≡ option_or a (option_or b c)
or_assoc None b c = refl
or_assoc (Some x) b c = refl

or_none : {A : Type 0} (a : Option A) → option_or a None ≡ a
or_none None = refl
or_none (Some x) = refl

given-append : {A : Type 0} (part : Override → Option A) (xs ys : List Override) → first_given part (xs ++ ys) ≡ option_or (first_given part xs) (first_given part ys)
given-append part [] ys = refl
given-append part (x ∷ xs) ys = ap (option_or (part x)) (given-append part xs ys) ∙ sym (or_assoc (part x) (first_given part xs) (first_given part ys))

-- what entries of the rule and of its tags give, before what is said of the whole
pub given_in_turn : {A : Type 0} (part : Override → Option A) (of_rule of_tags : List Override) (whole : Override) → first_given part (of_rule ++ of_tags ++ whole ∷ []) ≡ option_or (first_given part of_rule) (option_or (first_given part of_tags) (part whole))
given_in_turn part of_rule of_tags whole =
    given-append part (of_rule ++ of_tags) (whole ∷ [])
    ∙ ap (λ said. option_or said (first_given part (whole ∷ []))) (given-append part of_rule of_tags)
    ∙ or_assoc (first_given part of_rule) (first_given part of_tags) (first_given part (whole ∷ []))
    ∙ ap (λ said. option_or (first_given part of_rule) (option_or (first_given part of_tags) said)) (or_none (part whole))
