-- All skips as one, where they are kept by the places of their rules.
use Rattle.std.proofs.Common.{◌≡◌, List, [], ◌∷◌, ◌++◌, Option, None, Some, refl, ◌∙◌}
use Rattle.ruleset_model.specs.ConfigParts.{ConfigParts}
use Rattle.ruleset_model.specs.declared.skips.Skips.{Skips}
use Rattle.judge_core.specs.declared.carried.RulePlace.{RulePlace}
use Rattle.judge_core.specs.declared.carried.State.{State}
use Rattle.judge_core.specs.Merging.{with_one, onto_skipping}
use Rattle.judge_core.specs.Places.{rule_at, skips_in, skips_at, skips_of, earlier_skips}
use Rattle.judge_core.specs.Skipping.{with_all, no_skips, merged}

next_merged : (config : ConfigParts) (place : RulePlace) (places : List RulePlace) (all : Skips) (found : Option Skips)
    → skips_in (rule_at config place) ≡ found
    → onto_skipping config places (with_one found all) ≡ with_all (skips_at config places) (with_one found all)
    → onto_skipping config (place ∷ places) all ≡ with_all (skips_at config (place ∷ places)) all
next_merged config place places all None is rest = rw is rest
next_merged config place places all (Some one) is rest = rw is rest

skipping_merged : (config : ConfigParts) (places : List RulePlace) (all : Skips)
    → onto_skipping config places all ≡ with_all (skips_at config places) all
skipping_merged config [] all = refl
skipping_merged config (place ∷ places) all =
    next_merged config place places all (skips_in (rule_at config place)) refl
    (skipping_merged config places (with_one (skips_in (rule_at config place)) all))

earlier_merged : (earlier : Option Skips) (more : List Skips) (all : Skips)
    → with_all more (with_one earlier all) ≡ with_all (earlier_skips earlier ++ more) all
earlier_merged None more all = refl
earlier_merged (Some one) more all = refl

pub all_merged : (config : ConfigParts) (state : State)
    → onto_skipping config state.skipping (with_one state.earlier no_skips) ≡ merged (skips_of config state)
all_merged config state =
    skipping_merged config state.skipping (with_one state.earlier no_skips)
    ∙ earlier_merged state.earlier (skips_at config state.skipping) no_skips
