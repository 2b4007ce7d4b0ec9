-- Who decides whether a rule of an executed ruleset is enabled, and what it does: the first of its speakers that says so.
use Rattle.std.specs.Prelude.{ℕ, Bool, List, [], ◌∷◌, ◌++◌, map, filter, Option, None, bytes_eq, reverse}
use Rattle.std.specs.List.{list_any}
use Rattle.std.specs.Option.{option_or, unwrap_or}
use Rattle.override_plan.specs.declared.plain.Plain.{Plain}
use Rattle.override_plan.specs.declared.plain.Plain.TheVariants as plain
use Rattle.override_plan.specs.declared.overrides.Override.{Override}
use Rattle.override_plan.specs.declared.overrides.Overrides.{Overrides}
use Rattle.override_plan.specs.declared.plain.Effective.{Effective}

-- what the entries say whose name passes the test, the last of them first
abbrev pub said_of : (List ℕ → Bool) → List (List ℕ × Override) → List Override
said_of is_meant entries = map (λ entry. entry.1) (filter (λ entry. is_meant entry.0) (reverse entries))

-- whether the rule has the tag
abbrev pub has_tag : List (List ℕ) → List ℕ → Bool
has_tag tags tag = list_any (bytes_eq tag) tags

-- the speakers of a rule: the entries with its id, those with one of its tags, and the word on the whole
abbrev pub speakers_of : Overrides → List ℕ → List (List ℕ) → List Override
speakers_of overrides rule tags =
    said_of (bytes_eq rule) overrides.rules ++ said_of (has_tag tags) overrides.tags ++ overrides.whole ∷ []

-- the part of the first speaker that gives it
abbrev pub first_given : {A : Type 0} → (Override → Option A) → List Override → Option A
first_given part [] = None
first_given part (speaker ∷ speakers) = option_or (part speaker) (first_given part speakers)

-- whether the entries of these names switch a rule on, or else what was said before
abbrev pub enabled_by : (List ℕ → Bool) → List (List ℕ × Override) → Override → Option Bool
enabled_by is_meant entries before = option_or (first_given (λ s. s.enabled) (said_of is_meant entries)) before.enabled

-- the action that they give it, or else what was said before
abbrev pub action_by : (List ℕ → Bool) → List (List ℕ × Override) → Override → Option Plain
action_by is_meant entries before = option_or (first_given (λ s. s.action) (said_of is_meant entries)) before.action

-- what a rule does where this was said: no word reaches an action that isn't plain
abbrev pub action_after : Option Plain → Plain → Plain
action_after said plain.Other = plain.Other
action_after said own = unwrap_or said own

-- both parts, each by the first speaker that gives it, or else as the rule itself has it
abbrev pub effective_of : Overrides → List ℕ → List (List ℕ) → Bool → Plain → Effective
effective_of overrides rule tags enabled action =
    let speakers = speakers_of overrides rule tags in
    record {
      enabled = unwrap_or (first_given (λ speaker. speaker.enabled) speakers) enabled;
      action = action_after (first_given (λ speaker. speaker.action) speakers) action;
    }
