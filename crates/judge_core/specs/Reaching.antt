-- What comes of a rule that is reached.
use Rattle.std.specs.Prelude.{ℕ, Bool, true, false, not, ◌&&◌, ◌||◌, if◌then◌else◌, [], ◌∷◌, ◌++◌, Option, None, Some}
use Rattle.override_plan.specs.declared.overrides.Overrides.{Overrides}
use Rattle.override_plan.specs.declared.plain.Effective.{Effective}
use Rattle.override_plan.specs.declared.plain.Plain.{Plain}
use Rattle.override_plan.specs.Speakers.{effective_of}
use Rattle.rate_plain.specs.KeyParts.{KeyParts}
use Rattle.rate_plain.specs.declared.entry.Answer.{Answer}
use Rattle.rate_plain.specs.declared.entry.Answer.TheVariants as answer
use Rattle.ruleset_model.specs.declared.limit.Limit.{Limit}
use Rattle.ruleset_model.specs.declared.ruleset.Rule.{Rule}
use Rattle.ruleset_model.specs.declared.ruleset.Ruleset.{Ruleset}
use Rattle.judge_core.specs.Acting.{acted, name_of, plain_of}
use Rattle.judge_core.specs.Carried.{Carried, Deed, Goes}
use Rattle.judge_core.specs.Limits.{key_on, is_by_reply, adds_on}
use Rattle.judge_core.specs.Skipping.{skips_rule}
use Rattle.judge_core.specs.Talk.{Talk, Ends, Asks}
use Rattle.judge_core.specs.Values.{Listed, is_true_on}

-- a rule as it stands, and as overrides leave it
abbrev pub own : Rule → Effective
own rule = record { enabled = rule.enabled; action = plain_of rule.act }

abbrev pub under : Overrides → Rule → Effective
under overrides rule = effective_of overrides rule.id rule.tags rule.enabled (plain_of rule.act)

-- the action takes effect where the condition is true
abbrev pub acted_where : Listed → Ruleset → Rule → Plain → Bool → Carried → Deed
acted_where listed set rule action holds c = if holds then acted listed set rule action c else Goes c

abbrev pub is_over : Answer → Bool
is_over answer.Pass = false
is_over (answer.Over until) = true
is_over answer.Full = false

-- the action takes effect where the answer is over and the condition is true
unfoldable pub answered : Listed → Ruleset → Rule → Plain → Bool → Carried → Answer → Deed
answered listed set rule action holds c answer =
    acted_where listed set rule action (is_over answer && holds) c

-- a rule that counts by the reply is kept with its key
abbrev pub keeping : ℕ → ℕ → Limit → KeyParts → Carried → Carried
keeping holder number limit key c =
    if is_by_reply limit.counting
    then record c { kept = c.kept ++ record { holder = holder; rule = number; key = key } ∷ [] }
    else c

-- a step is asked where the condition is true or the request is counted
abbrev pub asking : Listed → Ruleset → Rule → Plain → KeyParts → Bool → Bool → Carried → Talk Deed
asking listed set rule action key holds adds c =
    if holds || adds
    then
    Asks (record { key = key; asked = c.request.at; adds = adds })
    (λ answer. Ends (answered listed set rule action holds c answer))
    else Ends (Goes c)

-- a rule with a limit: its key is made and, where it counts by the reply, kept
abbrev pub limited : Listed → ℕ → ℕ → Ruleset → Rule → Plain → Limit → Bool → Carried → Talk Deed
limited listed holder number set rule action limit holds c =
    let key : KeyParts = key_on listed (name_of set rule) limit c in
    asking listed set rule action key holds (adds_on listed limit.counting holds c) (keeping holder number limit key c)

-- a rule without a limit acts where its condition is true
abbrev pub by_limit : Listed → ℕ → ℕ → Ruleset → Rule → Plain → Option Limit → Bool → Carried → Talk Deed
by_limit listed holder number set rule action None holds c =
    Ends (acted_where listed set rule action holds c)
by_limit listed holder number set rule action (Some limit) holds c =
    limited listed holder number set rule action limit holds c

-- a rule that is disabled or skipped is passed over
unfoldable pub reached : Listed → ℕ → ℕ → Ruleset → Rule → Effective → Carried → Talk Deed
reached listed holder number set rule effective c =
    if effective.enabled && not (skips_rule c.skips set rule)
    then by_limit listed holder number set rule effective.action rule.limit (is_true_on listed rule.filter c) c
    else Ends (Goes c)
